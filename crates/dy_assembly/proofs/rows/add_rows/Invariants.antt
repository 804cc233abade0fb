use Rattle.std.proofs.Common.{◌≡◌}
use Rattle.dy_assembly.specs.Libraries.{grown}
use Rattle.dy_assembly.proofs.rows.add_rows.Given as goal

abbrev pub invariant-loop-row : goal.invariant-loop-row
invariant-loop-row l = l.library ≡ grown l.fn.library l.yielded

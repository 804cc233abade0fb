use Rattle.std.proofs.Common.{◌≡◌, map}
use Rattle.dy_lowered.specs.Units.{bare_method}
use Rattle.dy_bare_rows.proofs.rows.bare_methods.Given as goal

abbrev pub invariant-loop-method : goal.invariant-loop-method
invariant-loop-method l = l.bare ≡ map bare_method l.yielded

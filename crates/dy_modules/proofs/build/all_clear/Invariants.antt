use Rattle.std.proofs.Common.{◌≡◌, drop}
use Rattle.dy_modules.specs.Builds.{all_clear}
use Rattle.dy_modules.proofs.build.all_clear.Given as goal

abbrev pub invariant-loop-tables : goal.invariant-loop-tables
invariant-loop-tables l = all_clear (drop l.tables-index l.done) ≡ all_clear l.fn.done

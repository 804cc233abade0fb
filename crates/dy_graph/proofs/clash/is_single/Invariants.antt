use Rattle.std.proofs.Common.{◌≡◌, drop}
use Rattle.dy_modules.specs.Builds.{is_clear}
use Rattle.dy_graph.proofs.clash.is_single.Given as goal

abbrev pub invariant-loop-place : goal.invariant-loop-place
invariant-loop-place l = is_clear (drop l.place l.table) ≡ is_clear l.fn.table

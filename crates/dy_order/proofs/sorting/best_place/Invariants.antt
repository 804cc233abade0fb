use Rattle.dy_order.specs.Precedence.{Precedes}
use Rattle.dy_order.specs.Places.{IsBest}
use Rattle.dy_order.proofs.sorting.best_place.Given as goal

abbrev pub invariant-loop-place : goal.invariant-loop-place
invariant-loop-place l = IsBest (Precedes l.program l.args) l.methods l.place l.best

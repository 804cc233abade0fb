use Rattle.std.proofs.Common.{take}
use Rattle.dy_load_order.proofs.Placing.{ArePlaces}
use Rattle.dy_load_order.proofs.places.places_in.Given as goal

abbrev pub invariant-loop-place : goal.invariant-loop-place
invariant-loop-place l = ArePlaces l.count (take l.place l.order) l.places.items

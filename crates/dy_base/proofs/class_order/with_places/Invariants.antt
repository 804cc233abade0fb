use Rattle.std.proofs.Common.{◌≡◌, ◌++◌, drop}
use Rattle.dy_base.specs.Orders.{placed}
use Rattle.dy_base.proofs.class_order.with_places.Given as goal

abbrev pub invariant-loop-place : goal.invariant-loop-place
invariant-loop-place l = l.pairs.items ++ placed l.place (drop l.place l.classes) ≡ placed 0 l.classes

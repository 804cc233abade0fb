use Rattle.std.proofs.Common.{◌≡◌, map, take}
use Rattle.dy_lowered.specs.Linking.{linked_class}
use Rattle.dy_seen_rows.specs.Places.{placed}
use Rattle.dy_seen_rows.proofs.classes.link_order.Given as goal

abbrev pub invariant-loop-class : goal.invariant-loop-class
invariant-loop-class l = l.linked.items ≡ map (linked_class (placed l.places)) (take l.class-index l.class-items)

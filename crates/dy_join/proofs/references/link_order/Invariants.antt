use Rattle.std.proofs.Common.{◌≡◌, map, take}
use Rattle.dy_lowered.specs.Linking.{linked_class}
use Rattle.dy_join.specs.Numbering.{placed}
use Rattle.dy_join.proofs.references.link_order.Given as goal

abbrev pub invariant-loop-class : goal.invariant-loop-class
invariant-loop-class l = l.linked.items
    ≡ map (linked_class (placed l.places)) (take l.class-index l.class-items)

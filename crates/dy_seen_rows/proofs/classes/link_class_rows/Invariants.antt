use Rattle.std.proofs.Common.{◌≡◌, map, take}
use Rattle.dy_seen_rows.specs.Places.{placed}
use Rattle.dy_seen_rows.specs.Rows.{linked_class_row}
use Rattle.dy_seen_rows.proofs.classes.link_class_rows.Given as goal

abbrev pub invariant-loop-class : goal.invariant-loop-class
invariant-loop-class l = l.linked ≡ map (linked_class_row (placed l.places)) (take l.class-index l.classes)

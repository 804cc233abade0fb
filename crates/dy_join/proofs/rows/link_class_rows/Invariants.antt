use Rattle.std.proofs.Common.{◌≡◌, map}
use Rattle.dy_lowered.specs.Units.{bare_class}
use Rattle.dy_linked_rows.specs.Rows.{linked_class_row}
use Rattle.dy_join.specs.Numbering.{placed}
use Rattle.dy_join.proofs.rows.link_class_rows.Given as goal

abbrev pub invariant-loop-class : goal.invariant-loop-class
invariant-loop-class l = l.linked ≡ map (linked_class_row (placed l.places)) (map bare_class l.yielded)

use Rattle.std.proofs.Common.{◌≡◌, map}
use Rattle.dy_lowered.specs.Units.{bare_method}
use Rattle.dy_linked_rows.specs.Rows.{linked_method_row}
use Rattle.dy_join.specs.Numbering.{placed}
use Rattle.dy_join.proofs.rows.link_method_rows.Given as goal

abbrev pub invariant-loop-method : goal.invariant-loop-method
invariant-loop-method l = l.linked ≡ map (linked_method_row (placed l.places)) (map bare_method l.yielded)

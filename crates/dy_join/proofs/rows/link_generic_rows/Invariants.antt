use Rattle.std.proofs.Common.{◌≡◌, map}
use Rattle.dy_linked_rows.specs.Rows.{linked_generic_row}
use Rattle.dy_join.specs.Numbering.{placed}
use Rattle.dy_join.proofs.rows.link_generic_rows.Given as goal

abbrev pub invariant-loop-generic : goal.invariant-loop-generic
invariant-loop-generic l = l.linked ≡ map (linked_generic_row (placed l.places)) l.yielded

use Rattle.std.proofs.Common.{◌≡◌, map}
use Rattle.dy_lowered.specs.Units.{bare_slot}
use Rattle.dy_linked_rows.specs.Rows.{linked_slot}
use Rattle.dy_join.specs.Numbering.{placed}
use Rattle.dy_join.proofs.rows.link_slots.Given as goal

abbrev pub invariant-loop-slot : goal.invariant-loop-slot
invariant-loop-slot l = l.linked ≡ map (linked_slot (placed l.places)) (map bare_slot l.yielded)

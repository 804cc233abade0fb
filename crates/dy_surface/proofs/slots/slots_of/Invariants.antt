use Rattle.std.proofs.Common.{◌≡◌, map, take}
use Rattle.dy_rules.specs.SeenForms.{seen_slot as slot_tree}
use Rattle.dy_term.specs.Rows.{seen_slot}
use Rattle.dy_surface.specs.Forms.{slot_of}
use Rattle.dy_surface.proofs.slots.slots_of.Given as goal

abbrev pub invariant-loop-slot : goal.invariant-loop-slot
invariant-loop-slot l = map seen_slot l.found.items ≡ map slot_of (map slot_tree (take l.slot-index l.slot-items))

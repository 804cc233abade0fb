use Rattle.std.proofs.Common.{◌≡◌, flat_map, map, take}
use Rattle.dy_rules.specs.SeenForms.{seen_slot}
use Rattle.dy_construct_parts.specs.Table.{first_absent}
use Rattle.dy_constructs.specs.Forms.{in_slot}
use Rattle.dy_constructs.proofs.forms.in_slots.Given as goal

abbrev pub invariant-loop-slot : goal.invariant-loop-slot
invariant-loop-slot l = l.found ≡ first_absent (flat_map in_slot (map seen_slot (take l.slot-index l.slot-items)))

use Rattle.std.proofs.Common.{◌≡◌, ◌++◌, map, take}
use Rattle.dy_tree.specs.Fragments.{seen_fragments}
use Rattle.dy_rules.specs.FormWriting.{written_slots}
use Rattle.dy_rules.specs.SeenForms.{seen_slot}
use Rattle.dy_writer.proofs.write.slots.push_slots.Given as goal

abbrev pub invariant-loop-slot : goal.invariant-loop-slot
invariant-loop-slot l = seen_fragments l.out.items ≡ seen_fragments l.fn.out.items ++ written_slots (map seen_slot (take l.slot-index l.slot-items))

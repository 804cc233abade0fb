use Rattle.std.proofs.Common.{◌<◌, ◌∷◌, [], length, arith}
use Rattle.dy_tree.specs.Fragments.{seen_fragments}
use Rattle.dy_rules.specs.Marks.{semicolon_mark}
use Rattle.dy_rules.specs.FormWriting.{written_slot, written_slots}
use Rattle.dy_rules.specs.SeenForms.{seen_slot}
use Rattle.dy_write_parts.proofs.Separated.{two_parts, flat_step}
use Rattle.dy_write_parts.proofs.Lists.{slot_part, slots_flat}
use Rattle.dy_writer.proofs.write.slots.push_slots.Goals as goal

pub loop-slot-preserved : goal.loop-slot-preserved
loop-slot-preserved c =
    let lt : c.loop-slot.slot-index < length c.deref-slot-items.result.now = omega arith in
    flat_step slot_part written_slots slots_flat seen_slot (seen_fragments c.args.out.now.items) (seen_fragments c.loop-slot.out.items) (seen_fragments c.push_mark.new.out.items) c.deref-slot-items.result.now
    c.loop-slot.slot-index c.slot-item.result lt c.slot-item.is c.loop-slot.invariant
    (two_parts (seen_fragments c.loop-slot.out.items) _ _ (written_slot (seen_slot c.slot-item.result)) (semicolon_mark ∷ []) c.in_ok-push_slot.ensures c.in_ok-push_mark.ensures)

use Rattle.std.proofs.Common.{◌<◌, length, arith}
use Rattle.dy_rules.specs.SeenForms.{seen_slot}
use Rattle.dy_constructs.specs.Forms.{in_slot}
use Rattle.dy_construct_parts.proofs.Firsts.{seen_step}
use Rattle.dy_constructs.proofs.forms.in_slots.Goals as goal

pub loop-slot-preserved : goal.loop-slot-preserved
loop-slot-preserved c =
    let items = c.deref-slot-items.result.now in
    let lt : c.loop-slot.slot-index < length items = omega arith in
    seen_step in_slot seen_slot items c.loop-slot.slot-index c.slot-item.result lt c.slot-item.is _ _ _ c.loop-slot.invariant c.in_slot.ensures c.or-found.ensures

use Rattle.std.proofs.Common.{◌≡◌, ◌<◌, length, map, [], ◌∷◌, ◌++◌, Option, Some, None, option_map, sym, ap, subst, ◌∙◌, arith}
use Rattle.dy_tree.specs.declared.form.Slot.{Slot}
use Rattle.dy_tree.specs.Fragments.{seen_fragments}
use Rattle.dy_rules.specs.FormReading.{slot_items, slots_pieces}
use Rattle.dy_rules.specs.Fragments.{items_of}
use Rattle.dy_rules.specs.Cutting.{Pieces}
use Rattle.dy_read_forms.specs.ReadForms.{read_slot, read_slots, capped_slot, SlotDepth}
use Rattle.dy_read_parts.proofs.PieceRows.{nothing_before}
use Rattle.dy_read_forms.proofs.SlotParts.{slot_read, slot_fails, slots_grow, slots_deeper}
use Rattle.dy_read_forms.proofs.slots.slots_items.Goals as goal

pub loop-piece-init : goal.loop-piece-init
loop-piece-init c = record {
  read = ap (λ (pieces : Pieces). option_map (map capped_slot) (slots_pieces pieces)) (sym c.in_ok-pieces.ensures.pieces) ∙ rw (c.new-slots.ensures.items, c.deref-piece-items.ensures.value) (nothing_before capped_slot _);
  depth = rw c.new-slots.ensures.items (omega arith);
}

pub loop-piece-preserved : goal.loop-piece-preserved
loop-piece-preserved c =
    let pieces = c.deref-piece-items.result.now in
    let i = c.loop-piece.piece-index in
    let lt : i < length pieces = omega arith in
    let first = items_of (seen_fragments c.loop-piece.first.now) in
    let before = read_slots c.loop-piece.slots.items in
    let some : Some (read_slot c.in-Some.slot) ≡ option_map capped_slot (slot_items first) = ap (option_map read_slot) (sym c.in-Some.is) ∙ c.in_ok-slot.ensures.found in
    let pushed : read_slots c.push.new.self.items ≡ before ++ read_slot c.in-Some.slot ∷ [] = ap read_slots c.in_ok-push-in-Some.ensures.items ∙ slots_grow c.loop-piece.slots.items c.in-Some.slot in
    let more : SlotDepth c.loop-piece.depth c.slot_items.new.depth (Some c.in-Some.slot) = subst (λ (found : Option Slot). SlotDepth c.loop-piece.depth c.slot_items.new.depth found) c.in-Some.is c.in_ok-slot.ensures.depth in
    record {
      read = c.loop-piece.invariant.read ∙ slot_read pieces i c.piece-item.result lt c.piece-item.is first before (read_slots c.push.new.self.items) (read_slot c.in-Some.slot) some pushed;
      depth = slots_deeper c.args.depth.now c.loop-piece.depth c.slot_items.new.depth before (read_slots c.push.new.self.items) (read_slot c.in-Some.slot) pushed c.loop-piece.invariant.depth more;
    }

pub returns-in-None-clause-found : goal.returns-in-None-clause-found
returns-in-None-clause-found c =
    let pieces = c.deref-piece-items.result.now in
    let i = c.loop-piece.piece-index in
    let lt : i < length pieces = omega arith in
    let first = items_of (seen_fragments c.loop-piece.first.now) in
    let none : None ≡ option_map capped_slot (slot_items first) = ap (option_map read_slot) (sym c.in-None.is) ∙ c.in_ok-slot.ensures.found in
    slot_fails pieces i c.piece-item.result lt c.piece-item.is first (read_slots c.loop-piece.slots.items) none ∙ sym c.loop-piece.invariant.read

use Rattle.std.proofs.Common.{◌≡◌, true, Some, option_map, sym, ap, ◌∙◌}
use Rattle.dy_tree.specs.Fragments.{seen_fragments}
use Rattle.dy_rules.specs.Forms.{is_consistent}
use Rattle.dy_rules.specs.SeenForms.{seen_slot}
use Rattle.dy_read_forms.specs.ReadForms.{written_slot, read_slot, capped_slot}
use Rattle.dy_read_forms.proofs.SlotParts.{consistent_read}
use Rattle.dy_read_forms.proofs.slots.slot_items.Goals as goal

pub returns-then-is_consistent-clause-found : goal.returns-then-is_consistent-clause-found
returns-then-is_consistent-clause-found c =
    let read : Some (read_slot c.in-Some.slot) ≡ option_map capped_slot (written_slot (seen_fragments c.args.fragments.now)) = ap (option_map read_slot) (sym c.in-Some.is) ∙ c.in_ok-slot.ensures.found in
    let consistent : is_consistent (seen_slot c.in-Some.slot) ≡ true = sym c.is_consistent.ensures ∙ c.if-is_consistent.true in
    consistent_read c.in-Some.slot (written_slot (seen_fragments c.args.fragments.now)) read consistent

use Rattle.std.proofs.Common.{◌≡◌, max, drop, map, option_map}
use Rattle.dy_tree.specs.Fragments.{seen_fragments}
use Rattle.dy_rules.specs.FormReading.{slots_from, slots_items}
use Rattle.dy_rules.specs.FormDepth.{slots_depth}
use Rattle.dy_rules.specs.Fragments.{items_of}
use Rattle.dy_read_parts.specs.Cut.{seen_piece}
use Rattle.dy_read_parts.specs.Pieces.{read_before}
use Rattle.dy_read_forms.specs.ReadForms.{read_slots, capped_slot}
use Rattle.dy_read_forms.proofs.slots.slots_items.Given as goal

abbrev pub invariant-loop-piece : goal.invariant-loop-piece
invariant-loop-piece l = record {
  read : option_map (map capped_slot) (slots_items (items_of (seen_fragments l.fragments))) ≡ read_before (read_slots l.slots.items) (option_map (map capped_slot) (slots_from (items_of (seen_fragments l.first)) (map seen_piece (drop l.piece-index l.piece-items))));
  depth : l.depth ≡ max l.fn.depth (slots_depth (read_slots l.slots.items));
}

use Rattle.std.proofs.Common.{◌≡◌, max, drop, map, option_map}
use Rattle.dy_rules.specs.Cutting.{each_other}
use Rattle.dy_rules.specs.FormReading.{option_items}
use Rattle.dy_rules.specs.FormDepth.{options_depth}
use Rattle.dy_read_parts.specs.Cut.{seen_piece}
use Rattle.dy_read_parts.specs.Pieces.{read_before}
use Rattle.dy_read_forms.specs.ReadForms.{read_options, capped_option}
use Rattle.dy_read_forms.proofs.slots.options_in.Given as goal

abbrev pub invariant-loop-piece : goal.invariant-loop-piece
invariant-loop-piece l = record {
  read : option_map (map capped_option) (each_other option_items (map seen_piece l.pieces)) ≡ read_before (read_options l.options.items) (option_map (map capped_option) (each_other option_items (map seen_piece (drop l.piece-index l.pieces))));
  depth : l.depth ≡ max l.fn.depth (options_depth (read_options l.options.items));
}

use Rattle.std.proofs.Common.{◌≡◌, ◌+◌, ◌*◌, max}
use Rattle.dy_tree.specs.Fragments.{seen_fragments}
use Rattle.dy_rules.specs.Arguments.{is_comma_fragment}
use Rattle.dy_rules.specs.Types.{types_of}
use Rattle.dy_rules.specs.Depth.{types_depth}
use Rattle.dy_rules.specs.TypeReading.{type_items, types_items}
use Rattle.dy_rules.specs.Fragments.{items_of}
use Rattle.dy_read_parts.specs.Nesting.{nesting}
use Rattle.dy_read_parts.specs.Pieces.{read_before, each_part, seen_slice, IsWithin, left}
use Rattle.dy_read_types.specs.TypeCaps.{read_types}
use Rattle.dy_read_types.specs.TypeFronts.{capped_types}
use Rattle.std.proofs.Common.{option_map}
use Rattle.dy_read_types.proofs.types.+types.Given as goal

abbrev pub decreases-type_front : goal.decreases-type_front
decreases-type_front l = 4 * nesting (seen_fragments l.fragments.now)

abbrev pub decreases-type_items : goal.decreases-type_items
decreases-type_items l = 4 * nesting (seen_fragments l.fragments.now) + 1

abbrev pub decreases-types_items : goal.decreases-types_items
decreases-types_items l = 4 * nesting (seen_fragments l.fragments.now) + 2

abbrev pub decreases-form_type : goal.decreases-form_type
decreases-form_type l = 4 * nesting (seen_fragments l.inner.now) + 3

abbrev pub invariant-types_items-loop-behind : goal.invariant-types_items-loop-behind
invariant-types_items-loop-behind l = record {
  read : option_map capped_types (types_items (items_of (seen_fragments l.fn.fragments))) ≡ read_before (read_types l.types.items) (option_map capped_types (each_part is_comma_fragment type_items (option_map seen_slice l.behind)));
  depth : l.depth ≡ max l.fn.depth (types_depth (types_of (read_types l.types.items)));
  nested : IsWithin (nesting (seen_fragments l.fn.fragments)) l.behind;
}

abbrev pub decreases-types_items-loop-behind : goal.decreases-types_items-loop-behind
decreases-types_items-loop-behind l = left l.behind

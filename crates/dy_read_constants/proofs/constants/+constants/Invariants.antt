use Rattle.std.proofs.Common.{◌≡◌, ◌+◌, ◌*◌, max, option_map}
use Rattle.dy_tree.specs.Fragments.{pack, seen_fragments}
use Rattle.dy_rules.specs.ConstantReading.{list_in}
use Rattle.dy_read_parts.specs.Nesting.{nesting}
use Rattle.dy_read_constants.specs.ConstantCaps.{read_constants}
use Rattle.dy_read_constants.specs.ConstantFronts.{capped_inside, capped_items, items_depth}
use Rattle.dy_read_constants.specs.ConstantLists.{IsNextWithin, items_left, list_from, seen_next}
use Rattle.dy_read_constants.proofs.constants.+constants.Given as goal

abbrev pub decreases-constant_front : goal.decreases-constant_front
decreases-constant_front l = 4 * nesting (seen_fragments l.fragments.now)

abbrev pub decreases-list_inside : goal.decreases-list_inside
decreases-list_inside l = 4 * nesting (seen_fragments l.fragments.now) + 1

abbrev pub decreases-vector_inside : goal.decreases-vector_inside
decreases-vector_inside l = 4 * nesting (seen_fragments l.fragments.now) + 2

abbrev pub decreases-group_constant : goal.decreases-group_constant
decreases-group_constant l = 4 * nesting (seen_fragments l.inner.now) + 3

abbrev pub invariant-list_inside-loop-next : goal.invariant-list_inside-loop-next
invariant-list_inside-loop-next l = record {
  read : option_map capped_inside (list_in (pack (seen_fragments l.fn.fragments))) ≡ option_map capped_inside (list_from (read_constants l.items.items) (seen_next l.next));
  capped : capped_items (read_constants l.items.items) ≡ read_constants l.items.items;
  depth : l.depth ≡ max l.fn.depth (items_depth (read_constants l.items.items));
  nested : IsNextWithin (nesting (seen_fragments l.fn.fragments)) l.next;
}

abbrev pub decreases-list_inside-loop-next : goal.decreases-list_inside-loop-next
decreases-list_inside-loop-next l = items_left l.next

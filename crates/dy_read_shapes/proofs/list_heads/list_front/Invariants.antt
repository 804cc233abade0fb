use Rattle.std.proofs.Common.{◌≡◌, max, option_map}
use Rattle.dy_tree.specs.Fragments.{seen_fragments}
use Rattle.dy_rules.specs.Depth.{required_depth}
use Rattle.dy_rules.specs.Fragments.{items_of}
use Rattle.dy_rules.specs.Signatures.{listed_items}
use Rattle.dy_read_shapes.specs.ListHeads.{capped_listed, read_each_required, heads_before}
use Rattle.dy_read_shapes.specs.ListParts.{listed_left}
use Rattle.dy_read_parts.specs.Nesting.{nesting}
use Rattle.dy_read_parts.specs.Pieces.{IsWithin, left}
use Rattle.dy_read_shapes.proofs.list_heads.list_front.Given as goal

abbrev pub invariant-loop-behind : goal.invariant-loop-behind
invariant-loop-behind l =
    record {
      read : option_map capped_listed (listed_items (items_of (seen_fragments l.fragments))) ≡ heads_before l.heads (option_map capped_listed (listed_left l.behind));
      depth : l.depth ≡ max l.fn.depth (required_depth (read_each_required l.heads.required.items));
      nested : IsWithin (nesting (seen_fragments l.fragments)) l.behind;
    }

abbrev pub decreases-loop-behind : goal.decreases-loop-behind
decreases-loop-behind l = left l.behind

use Rattle.std.proofs.Common.{◌≡◌, ◌++◌, ◌≤◌, length, map}
use Rattle.dy_tree.specs.Fragments.{seen_fragments}
use Rattle.dy_rules.specs.Cutting.{cut}
use Rattle.dy_rules.specs.Fragments.{items_of}
use Rattle.std.specs.List.{All}
use Rattle.dy_read_parts.specs.Nesting.{nesting}
use Rattle.dy_read_parts.specs.Cut.{seen_piece, IsPieceWithin}
use Rattle.dy_read_parts.specs.Pieces.{others_in}
use Rattle.dy_read_parts.specs.Separators.{separates}
use Rattle.dy_read_parts.proofs.pieces.cut.Given as goal

abbrev pub invariant-loop-mark : goal.invariant-loop-mark
invariant-loop-mark l =
    record {
      pieces : cut (separates l.separator) l.bound (items_of (seen_fragments l.fragments)) ≡ record { first = items_of (seen_fragments l.first); others = map seen_piece l.others.items ++ others_in (separates l.separator) (seen_fragments l.rest) };
      within : All (IsPieceWithin (nesting (seen_fragments l.fragments))) l.others.items;
      rest : nesting (seen_fragments l.rest) ≤ nesting (seen_fragments l.fragments);
    }

abbrev pub decreases-loop-mark : goal.decreases-loop-mark
decreases-loop-mark l = length l.rest

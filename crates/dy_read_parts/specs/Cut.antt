-- Pieces as the definitions see them.
use Rattle.std.specs.Prelude.{◌≤◌, ℕ, map}
use Rattle.std.specs.List.{All}
use Rattle.dy_tree.specs.Fragments.{seen_fragment, seen_fragments}
use Rattle.dy_rules.specs.Cutting.{Piece, Pieces}
use Rattle.dy_rules.specs.Fragments.{items_of}
use Rattle.dy_read_parts.specs.Nesting.{nesting}
use Rattle.dy_read_parts.specs.declared.pieces.Piece.{Piece as FoundPiece}
use Rattle.dy_read_parts.specs.declared.pieces.Pieces.{Pieces as Found}

abbrev pub seen_piece : FoundPiece → Piece
seen_piece piece = record {
  separator = seen_fragment piece.separator.now;
  items = items_of (seen_fragments piece.fragments.now);
}

abbrev pub seen_pieces : Found → Pieces
seen_pieces found = record {
  first = items_of (seen_fragments found.first.now);
  others = map seen_piece found.others.items;
}

abbrev pub IsPieceWithin : ℕ → FoundPiece → Type 0
IsPieceWithin n piece = nesting (seen_fragments piece.fragments.now) ≤ n

-- no piece is nested deeper
abbrev pub AreWithin : ℕ → Found → Type 0
AreWithin n found = (nesting (seen_fragments found.first.now) ≤ n)
    × All (IsPieceWithin n) found.others.items

-- How deep groups stand in the deepest of several pieces.
use Rattle.std.specs.Prelude.{ℕ, max, List, [], ◌∷◌}
use Rattle.dy_tree.specs.Fragments.{seen_fragments}
use Rattle.dy_read_parts.specs.Nesting.{nesting}
use Rattle.dy_read_parts.specs.declared.pieces.Piece.{Piece}

abbrev pub pieces_nesting : List Piece → ℕ
pieces_nesting [] = 0
pieces_nesting (piece ∷ rest) =
    max (nesting (seen_fragments piece.fragments.now)) (pieces_nesting rest)

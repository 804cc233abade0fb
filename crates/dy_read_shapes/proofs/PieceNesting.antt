-- How deep the pieces are nested that are left.
use Rattle.std.proofs.Common.{◌≡◌, ◌≤◌, ℕ, max, List, [], ◌∷◌, ◌++◌, sym, ap, ◌∙◌, arith}
use Rattle.std.specs.List.{All, AllByRecursion}
use Rattle.std.proofs.lemmas.List.Elements.{recursion_from_All}
use Rattle.dy_tree.specs.Fragments.{seen_fragments}
use Rattle.dy_read_parts.specs.Cut.{IsPieceWithin}
use Rattle.dy_read_parts.specs.Nesting.{nesting}
use Rattle.dy_read_shapes.specs.PieceNesting.{pieces_nesting}
use Rattle.dy_read_parts.specs.declared.pieces.Piece.{Piece}

within_each : (n : ℕ) (pieces : List Piece) → AllByRecursion (IsPieceWithin n) pieces → pieces_nesting pieces ≤ n
within_each n [] h = omega arith
within_each n (piece ∷ rest) h =
    let here : nesting (seen_fragments piece.fragments.now) ≤ n = h.0 in
    let more = within_each n rest h.1 in
    omega arith

-- where no piece is nested deeper
pub pieces_within : (n : ℕ) (pieces : List Piece) → All (IsPieceWithin n) pieces → pieces_nesting pieces ≤ n
pieces_within n pieces h = within_each n pieces (recursion_from_All (IsPieceWithin n) pieces h)

-- the first piece, and those behind it
pub first_nesting : (pieces behind : List Piece) (piece : Piece) → pieces ≡ piece ∷ behind → max (nesting (seen_fragments piece.fragments.now)) (pieces_nesting behind) ≡ pieces_nesting pieces
first_nesting pieces behind piece e = ap pieces_nesting (sym e)

nesting_end : (before : List Piece) (piece : Piece) → pieces_nesting (before ++ piece ∷ []) ≡ max (pieces_nesting before) (nesting (seen_fragments piece.fragments.now))
nesting_end [] piece = omega arith
nesting_end (first ∷ before) piece = let more = nesting_end before piece in omega arith

-- the last piece, and those in front of it
pub last_nesting : (pieces before : List Piece) (piece : Piece) → pieces ≡ before ++ piece ∷ [] → max (pieces_nesting before) (nesting (seen_fragments piece.fragments.now)) ≡ pieces_nesting pieces
last_nesting pieces before piece e = sym (ap pieces_nesting e ∙ nesting_end before piece)

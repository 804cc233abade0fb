-- The first of several pieces, as the definitions see it.
use Rattle.std.specs.Prelude.{◌≤◌, ◌<◌, ⊤, ℕ, length, Bool, List, [], ◌∷◌, Option, Some, None}
use Rattle.dy_tree.specs.Fragments.{SeenFragment, seen_fragment, seen_fragments}
use Rattle.dy_rules.specs.Cutting.{Pieces}
use Rattle.dy_rules.specs.Fragments.{items_of}
use Rattle.dy_read_types.specs.declared.division.Division.{Division}
use Rattle.dy_read_parts.specs.Nesting.{nesting}
use Rattle.dy_read_parts.specs.Pieces.{pieces_behind}

-- Fragments that aren't divided are one piece.
abbrev pub divided_pieces : (SeenFragment → Bool) → List SeenFragment → Option Division → Pieces
divided_pieces separates fragments None = pieces_behind separates (items_of fragments) []
divided_pieces separates fragments (Some division) =
    pieces_behind separates (items_of (seen_fragments division.piece.now))
    (seen_fragment division.separator.now ∷ seen_fragments division.behind.now)

abbrev pub IsShorter : ℕ → Option Division → Type 0
IsShorter n None = ⊤
IsShorter n (Some division) = length division.behind.now < n

-- what stands in front of the separator and behind it is nested at most so deep
abbrev pub IsPieceWithin : ℕ → Option Division → Type 0
IsPieceWithin n None = ⊤
IsPieceWithin n (Some division) = nesting (seen_fragments division.piece.now) ≤ n

abbrev pub IsRestWithin : ℕ → Option Division → Type 0
IsRestWithin n None = ⊤
IsRestWithin n (Some division) = nesting (seen_fragments division.behind.now) ≤ n

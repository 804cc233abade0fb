-- The first piece with which others have too many tokens, as pieces are held.
use Rattle.std.proofs.Common.{◌≡◌, ℕ, ◌<◌, List, length, map, get_or, slice_get, Option, Some, None, refl, sym, ap, subst, ◌∙◌}
use Rattle.std.specs.Option.{option_map}
use Rattle.std.proofs.lemmas.List.{length-map}
use Rattle.std.proofs.lemmas.Option.{slice_get-map, slice_get_read}
use Rattle.dy_base.specs.declared.fault.Fault.{Fault}
use Rattle.dy_base.specs.declared.fault.Place.{Place}
use Rattle.dy_tree.specs.Fragments.{SeenFragment}
use Rattle.dy_token_limit.specs.Limit.{IsFirstOver, most_tokens, too_many_tokens}
use Rattle.dy_verdict.specs.declared.pieces.Piece.{Piece as Held}
use Rattle.dy_verdict.specs.Pieces.{Piece, seen_piece, place_of}
use Rattle.dy_verdict.specs.Limits.{fragments_in, HaveTooMany}

-- what is told of the fragments that are lent is so of the pieces
pub over_pieces : {X : Type 0} (seen : X → List SeenFragment) (held given : List X) (pieces : List Held) (over : Option ℕ) → given ≡ held → map seen held ≡ fragments_in (map seen_piece pieces)
    → IsFirstOver most_tokens (map seen given) over → IsFirstOver most_tokens (fragments_in (map seen_piece pieces)) over
over_pieces {X} seen held given pieces over lent same is =
    subst (λ (forms : List (List SeenFragment)). IsFirstOver most_tokens forms over) same (subst (λ (xs : List X). IsFirstOver most_tokens (map seen xs) over) lent is)

pub piece_there : (pieces : List Held) (number : ℕ) → IsFirstOver most_tokens (fragments_in (map seen_piece pieces)) (Some number) → number < length pieces
piece_there pieces number over =
    subst (λ (count : ℕ). number < count) (length-map (map seen_piece pieces) (λ (piece : Piece). piece.fragments) ∙ length-map pieces seen_piece) over.there

pub too_many : (pieces : List Held) (number : ℕ) (held : Held) (place : Place) (fault : Fault) → IsFirstOver most_tokens (fragments_in (map seen_piece pieces)) (Some number) → held ≡ get_or pieces number held
    → place ≡ place_of (seen_piece held) → fault ≡ too_many_tokens place → HaveTooMany (map seen_piece pieces) fault
too_many pieces number held place fault over at here is = (
  number,
  seen_piece held,
  over,
  slice_get-map seen_piece pieces number ∙ ap (option_map seen_piece) (slice_get_read pieces (length pieces) number held refl (piece_there pieces number over) at),
  is ∙ ap too_many_tokens here,
)

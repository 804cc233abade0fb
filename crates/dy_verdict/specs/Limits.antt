-- The limit on the tokens of a library's forms (own).
use Rattle.std.specs.Prelude.{◌≡◌, ℕ, List, map, slice_get, Some, None, Result, Ok, Err}
use Rattle.dy_base.specs.declared.fault.Fault.{Fault}
use Rattle.dy_base.specs.declared.fault.Refusal.{Refusal}
use Rattle.dy_base.specs.declared.fault.Refusal.TheVariants as refusals
use Rattle.dy_tree.specs.Fragments.{SeenFragment}
use Rattle.dy_token_limit.specs.Limit.{IsFirstOver, most_tokens, too_many_tokens}
use Rattle.dy_verdict.specs.Pieces.{Piece, place_of}

abbrev pub fragments_in : List Piece → List (List SeenFragment)
fragments_in pieces = map (λ (piece : Piece). piece.fragments) pieces

-- they have not too many tokens in all
abbrev pub AreWithin : List Piece → Type 0
AreWithin pieces = IsFirstOver most_tokens (fragments_in pieces) None

-- the fault of the first with which they have
abbrev pub HaveTooMany : List Piece → Fault → Type 0
HaveTooMany pieces fault = (number : ℕ) × (piece : Piece)
    × IsFirstOver most_tokens (fragments_in pieces) (Some number)
    × (slice_get pieces number ≡ Some piece) × (fault ≡ too_many_tokens (place_of piece))

-- what a call told of them; want of memory says nothing
abbrev pub AnswersLimit : List Piece → Result (Unit {0}) Refusal → Type 0
AnswersLimit pieces (Ok done) = AreWithin pieces
AnswersLimit pieces (Err (refusals.Fault fault)) = HaveTooMany pieces fault
AnswersLimit pieces (Err refusals.Memory) = Unit {0}

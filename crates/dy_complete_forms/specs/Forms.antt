-- Which forms of tokens are complete (own).
use Rattle.std.specs.Prelude.{◌≡◌, ℕ, zero, suc, ◌<◌, ◌≤◌, Bool, true, false, List, length, take}
use Rattle.std.specs.Prelude.{slice_get, Option, Some, None, Result, Ok, Err}
use Rattle.dy_base.specs.declared.fault.Fault.{Fault}
use Rattle.dy_base.specs.declared.fault.Refusal.{Refusal}
use Rattle.dy_base.specs.declared.fault.Refusal.TheVariants as refusals
use Rattle.dy_tree.specs.declared.token.Token.{Token}
use Rattle.dy_tree.specs.declared.words.Words.{Words}
use Rattle.dy_tree.specs.declared.fragment.Fragment.{Fragment}
use Rattle.dy_tree.specs.Fragments.{SeenFragment, seen_fragments}
use Rattle.dy_fragment.specs.Words.{is_semicolon}
use Rattle.dy_fragment.specs.Groups.{Grouped, depth}
use Rattle.dy_complete_forms.specs.declared.complete.Front.{Front}
use Rattle.dy_complete_forms.specs.declared.complete.Front.TheVariants.{Forms, Faulty}

abbrev pub is_end : Option Token → Bool
is_end None = false
is_end (Some t) = is_semicolon t

-- A form ends with its semicolon. In front of all tokens none is begun.
abbrev pub ends_at : List Token → ℕ → Bool
ends_at tokens zero = true
ends_at tokens (suc before) = is_end (slice_get tokens before)

-- The first tokens, up to a number, are complete forms, and these are their trees. Up to a
-- semicolon that stands in a group tokens have no trees, since the group is open.
pub record AreForms (words : Words) (tokens : List Token) (count : ℕ) (trees : List SeenFragment)
    : Type 0 where
  pub ended : ends_at tokens count ≡ true
  pub grouped : Grouped words (take count tokens) trees
  pub low : depth trees ≤ 200

-- These are the trees of the complete forms of tokens: as many first tokens as can be are forms.
pub record AreComplete (words : Words) (tokens : List Token) (trees : List SeenFragment)
    : Type 0 where
  pub count : ℕ
  pub forms : AreForms words tokens count trees
  pub most : (other : ℕ) (others : List SeenFragment) → AreForms words tokens other others
      → other ≤ count

-- a fault stands at one of the tokens behind the first ones
abbrev pub StandsBehind : List Token → ℕ → Fault → Type 0
StandsBehind tokens count fault = (at : ℕ) × (t : Token) × (count ≤ at)
    × (slice_get tokens at ≡ Some t) × (fault.place ≡ Some t.place)

-- what a call gave of complete forms; want of memory says nothing
abbrev pub AnswersComplete : Words → List Token → Result (List Fragment) Refusal → Type 0
AnswersComplete words tokens (Ok fragments) = AreComplete words tokens (seen_fragments fragments)
AnswersComplete words tokens (Err (refusals.Fault fault)) = ⊥
AnswersComplete words tokens (Err refusals.Memory) = Unit {0}

-- what a call gave of tokens: the trees of all of them, or fewer tokens, up to which all complete
-- forms stand
abbrev pub IsFront : Words → List Token → Front → Type 0
IsFront words tokens (Forms fragments) = Grouped words tokens (seen_fragments fragments)
    × (depth (seen_fragments fragments) ≤ 200)
IsFront words tokens (Faulty end) = (end < length tokens) × (ends_at tokens end ≡ true)
    × ((other : ℕ) (others : List SeenFragment) → AreForms words tokens other others
    → other ≤ end)

abbrev pub AnswersFront : Words → List Token → Result Front Refusal → Type 0
AnswersFront words tokens (Ok front) = IsFront words tokens front
AnswersFront words tokens (Err (refusals.Fault fault)) = ⊥
AnswersFront words tokens (Err refusals.Memory) = Unit {0}

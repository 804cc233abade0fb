-- The first fault of tokens that have no trees, or whose trees are too deep.
use Rattle.std.specs.Prelude.{◌≡◌, ℕ, suc, ◌+◌, ◌≤◌, max, List, [], ◌∷◌, length, slice_get, Some}
use Rattle.std.specs.Prelude.{None}
use Rattle.dy_base.specs.declared.kind.Kind.TheVariants.{Unbalanced, TooDeep}
use Rattle.dy_base.specs.declared.fault.Place.{Place}
use Rattle.dy_base.specs.declared.fault.Fault.{Fault}
use Rattle.dy_tree.specs.declared.token.Token.{Token}
use Rattle.dy_tree.specs.declared.words.Words.{Words}
use Rattle.dy_tree.specs.Fragments.{SeenFragment}
use Rattle.dy_fragment.specs.declared.front.Context.{Context}
use Rattle.dy_fragment.specs.declared.front.Closer.{Closer}
use Rattle.dy_fragment.specs.declared.front.Front.TheVariants as fronts
use Rattle.dy_fragment.specs.declared.closing.Closing.{Closing}
use Rattle.dy_fragment.specs.declared.closing.Closed.TheVariants as closings
use Rattle.dy_fragment.specs.Fronts.{front_at}
use Rattle.dy_fragment.specs.Closings.{close}
use Rattle.dy_fragment.specs.Steps.{start, fault_at, earlier}
use Rattle.dy_fragment.specs.Groups.{Groups, Grouped, depth}

-- an opener that is not closed yet
pub record Pending : Type 0 where
  pub opener : Token
  pub closing : Closing

-- Up to a place all closers fit, and these openers are pending, the innermost first. The number is
-- how many groups stood in one another at most.
pub data Reached (words : Words) (tokens : List Token) : ℕ → Context → List Pending → ℕ
    → Type 0 where
  outside : (at : ℕ) (c : Context) (fs : List SeenFragment) (m : ℕ)
      → Groups words tokens 0 start at c fs → m ≡ depth fs → Reached words tokens at c [] m
  inside : (at to : ℕ) (c d e : Context) (t : Token) (k : Closing) (os : List Pending)
      (fs : List SeenFragment) (m n : ℕ)
      → Reached words tokens at c os m → slice_get tokens at ≡ Some t
      → front_at words tokens t at c ≡ fronts.Opens k d
      → Groups words tokens (at + 1) d to e fs → n ≡ max m (suc (length os) + depth fs)
      → Reached words tokens to e (record { opener = t; closing = k } ∷ os) n

-- the place of the first thing that is not balanced, and how many groups stood in one another
-- before it
pub data Unfit (words : Words) (tokens : List Token) : ℕ → Place → Type 0 where
  -- a closer outside of all groups
  no_opener : (at m : ℕ) (c : Context) (t : Token) (j : Closer) (p : Place)
      → Reached words tokens at c [] m → slice_get tokens at ≡ Some t
      → front_at words tokens t at c ≡ fronts.Closes j → p ≡ t.place → Unfit words tokens m p
  -- a closer that does not fit the innermost opener, or a foreign word after an `end`
  wrong_closer : (at m : ℕ) (c : Context) (t : Token) (j : Closer) (o : Pending) (os : List Pending)
      (p : Place)
      → Reached words tokens at c (o ∷ os) m → slice_get tokens at ≡ Some t
      → front_at words tokens t at c ≡ fronts.Closes j
      → close words tokens o.closing j t (at + 1) c ≡ closings.Wrong p → Unfit words tokens m p
  -- a `define` without a definition word
  no_definition_word : (at m : ℕ) (c : Context) (t : Token) (os : List Pending) (p : Place)
      → Reached words tokens at c os m → slice_get tokens at ≡ Some t
      → front_at words tokens t at c ≡ fronts.Wrong → p ≡ t.place → Unfit words tokens m p
  -- the end of the tokens inside a group
  left_open : (at m : ℕ) (c : Context) (o : Pending) (os : List Pending) (p : Place)
      → Reached words tokens at c (o ∷ os) m → slice_get tokens at ≡ None → p ≡ o.opener.place
      → Unfit words tokens m p

-- the place of the first opener that is deeper than the limit
abbrev pub DeepAt : ℕ → Words → List Token → Place → Type 0
DeepAt limit words tokens p =
    (at : ℕ) × (m : ℕ) × (c : Context) × (d : Context) × (t : Token) × (k : Closing)
    × (os : List Pending)
    × Reached words tokens at c os m × (m ≤ limit) × (length os ≡ limit)
    × (slice_get tokens at ≡ Some t) × (front_at words tokens t at c ≡ fronts.Opens k d)
    × (p ≡ t.place)

-- the earliest fault of tokens
pub data Refused (limit : ℕ) (words : Words) (tokens : List Token) : Fault → Type 0 where
  unbalanced : (m : ℕ) (p : Place) (f : Fault) → Unfit words tokens m p → m ≤ limit
      → f ≡ fault_at Unbalanced p → Refused limit words tokens f
  too_deep : (p : Place) (fs : List SeenFragment) (f : Fault) → DeepAt limit words tokens p
      → Grouped words tokens fs → f ≡ fault_at TooDeep p → Refused limit words tokens f
  both : (m : ℕ) (p q : Place) (f : Fault) → Unfit words tokens m p → DeepAt limit words tokens q
      → f ≡ earlier (Some q) p → Refused limit words tokens f

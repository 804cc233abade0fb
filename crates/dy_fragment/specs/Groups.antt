-- Groups, as a relation between tokens and trees: the leaves of the trees in order are the tokens,
-- and each bracket and each word is closed as the rule says.
use Rattle.std.specs.Prelude.{◌≡◌, ℕ, suc, ◌+◌, max, List, [], ◌∷◌, slice_get, Some, None}
use Rattle.dy_tree.specs.declared.token.Token.{Token}
use Rattle.dy_tree.specs.declared.words.Words.{Words}
use Rattle.dy_tree.specs.Fragments.{SeenFragment, SeenFragments, one, group, no_fragment}
use Rattle.dy_tree.specs.Fragments.{fragment_and, pack}
use Rattle.dy_fragment.specs.declared.front.Context.{Context}
use Rattle.dy_fragment.specs.declared.front.Closer.{Closer}
use Rattle.dy_fragment.specs.declared.front.Front.TheVariants.{Leaf, Opens, Closes}
use Rattle.dy_fragment.specs.declared.closing.Closing.{Closing}
use Rattle.dy_fragment.specs.declared.closing.Closed.TheVariants.{At}
use Rattle.dy_fragment.specs.Fronts.{front_at}
use Rattle.dy_fragment.specs.Closings.{close}
use Rattle.dy_fragment.specs.Steps.{start}

-- From one place in the tokens up to another, in a context and up to another, these trees stand.
pub data Groups (words : Words) (tokens : List Token) : ℕ → Context → ℕ → Context
    → List SeenFragment → Type 0 where
  nothing : (at : ℕ) (c : Context) → Groups words tokens at c at c []
  -- a token that stands for itself, and the trees after it
  leaf : (at to : ℕ) (c d e : Context) (t : Token) (fs : List SeenFragment)
      → slice_get tokens at ≡ Some t → front_at words tokens t at c ≡ Leaf d
      → Groups words tokens (at + 1) d to e fs → Groups words tokens at c to e (one t ∷ fs)
  -- an opener, the trees inside, a closer that closes it with what may follow an `end`, and the
  -- trees after it
  closed : (at end after to : ℕ) (c d e g h : Context) (opener closer : Token) (k : Closing)
      (j : Closer) (inner fs : List SeenFragment)
      → slice_get tokens at ≡ Some opener → front_at words tokens opener at c ≡ Opens k d
      → Groups words tokens (at + 1) d end e inner
      → slice_get tokens end ≡ Some closer → front_at words tokens closer end e ≡ Closes j
      → close words tokens k j closer (end + 1) e ≡ At after g
      → Groups words tokens after g to h fs
      → Groups words tokens at c to h (group opener (pack inner) closer ∷ fs)

-- the trees of all the tokens
abbrev pub Grouped : Words → List Token → List SeenFragment → Type 0
Grouped words tokens fs = (to : ℕ) × (c : Context) × Groups words tokens 0 start to c fs
    × (slice_get tokens to ≡ None)

-- how many groups stand in one another at most
abbrev mutual
  pub depth_of : SeenFragment → ℕ
  depth_of (one t) = 0
  depth_of (group opener inner closer) = suc (depth_in inner)

  pub depth_in : SeenFragments → ℕ
  depth_in no_fragment = 0
  depth_in (fragment_and first rest) = max (depth_of first) (depth_in rest)

abbrev pub depth : List SeenFragment → ℕ
depth fs = depth_in (pack fs)

-- Fragments as a list and inside of a group, with what was read of them, and the reader over parts of them.
use Rattle.std.proofs.Common.{◌≡◌, ℕ, ◌+◌, ◌∙◌, cond, nat_lt, Bool, true, false, List, [], ◌∷◌, ◌++◌, map, Option, Some, None, option_map, option_and_then, refl, sym, ap}
use Rattle.std.specs.List.{fold, list_any, list_all}
use Rattle.dy_tree.specs.Fragments.{SeenFragment, SeenFragments, no_fragment, fragment_and, row, pack}
use Rattle.dy_tree.specs.declared.splitters.Splitting.{Splitting}
use Rattle.dy_rules.specs.Tests.{at_most_one, only_if, if_passes}
use Rattle.dy_rules.specs.Cutting.{Item, fragments_in}
use Rattle.dy_rules.specs.Reading.{State, Passing, after_item, after_argument, after_all, after_passing}
use Rattle.dy_rules.specs.Fragments.{item_of, items_in, items_of}

pub row_pack : (fragments : List SeenFragment) → row (pack fragments) ≡ fragments
row_pack [] = refl
row_pack (first ∷ rest) = ap (λ (others : List SeenFragment). first ∷ others) (row_pack rest)

pub pack_row : (inner : SeenFragments) → pack (row inner) ≡ inner
pack_row no_fragment = refl
pack_row (fragment_and first rest) = ap (λ (others : SeenFragments). fragment_and first others) (pack_row rest)

pub items_row : (inner : SeenFragments) → items_in inner ≡ items_of (row inner)
items_row no_fragment = refl
items_row (fragment_and first rest) = ap (λ (others : List Item). item_of first ∷ others) (items_row rest)

pub fragments_row : (inner : SeenFragments) → fragments_in (items_in inner) ≡ row inner
fragments_row no_fragment = refl
fragments_row (fragment_and first rest) = ap (λ (others : List SeenFragment). first ∷ others) (fragments_row rest)

pub fragments_back : (fragments : List SeenFragment) → fragments_in (items_of fragments) ≡ fragments
fragments_back [] = refl
fragments_back (first ∷ rest) = ap (λ (others : List SeenFragment). first ∷ others) (fragments_back rest)

pub fragments_join : (before after : List Item) → fragments_in (before ++ after) ≡ fragments_in before ++ fragments_in after
fragments_join [] after = refl
fragments_join (item ∷ before) after = ap (λ (others : List SeenFragment). item.fragment ∷ others) (fragments_join before after)

-- the state after these fragments
abbrev pub reads : Splitting → State → List SeenFragment → Option State
reads words state fragments = after_all words state (items_of fragments)

abbrev pub passes : Passing → List SeenFragment → Option Passing
passes reader fragments = after_passing reader (items_of fragments)

pub goes_on : {A B : Type 0} (found : Option A) (first second : A → Option B) (x : B) (y : Option B) → ((a : A) → first a ≡ Some x → second a ≡ y) → option_and_then first found ≡ Some x → option_and_then second found ≡ y
goes_on None first second x y same e = absurd cc
goes_on (Some a) first second x y same e = same a e

pub some_one : {A : Type 0} (x y : A) → Some x ≡ Some y → x ≡ y
some_one x y e = cc

pub reads_on : (words : Splitting) (before after : List SeenFragment) (state next : State) → reads words state before ≡ Some next → reads words state (before ++ after) ≡ reads words next after
reads_on words [] after state next e = ap (λ (s : State). reads words s after) (some_one state next e)
reads_on words (first ∷ before) after state next e =
    goes_on (after_item words state (item_of first)) (λ (s : State). reads words s before) (λ (s : State). reads words s (before ++ after)) next (reads words next after)
    (λ s. reads_on words before after s next) e

pub passes_on : (before after : List SeenFragment) (reader next : Passing) → passes reader before ≡ Some next → passes reader (before ++ after) ≡ passes next after
passes_on [] after reader next e = ap (λ (r : Passing). passes r after) (some_one reader next e)
passes_on (first ∷ before) after reader next e =
    goes_on (after_argument reader first (item_of first)) (λ (r : Passing). passes r before) (λ (r : Passing). passes r (before ++ after)) next (passes next after)
    (λ r. passes_on before after r next) e

-- what an option is, where what is made of it is something
pub map_some : {A B : Type 0} (f : A → B) (found : Option A) (b : B) → option_map f found ≡ Some b → (a : A) × (found ≡ Some a) × (b ≡ f a)
map_some f None b e = absurd cc
map_some f (Some a) b e = (a, refl, sym (some_one (f a) b e))

pub then_some : {A B : Type 0} (f : A → Option B) (found : Option A) (b : B) → option_and_then f found ≡ Some b → (a : A) × (found ≡ Some a) × (f a ≡ Some b)
then_some f None b e = absurd cc
then_some f (Some a) b e = (a, refl, e)

only_if_sound : {A : Type 0} (test : A → Bool) (a b : A) (is : Bool) → test a ≡ is → only_if is a ≡ Some b → (a ≡ b) × (test b ≡ true)
only_if_sound test a b true is e = let same = some_one a b e in (same, rw (← same) is)
only_if_sound test a b false is e = absurd cc

-- what passes a test, where something does
pub passes_sound : {A : Type 0} (test : A → Bool) (found : Option A) (b : A) → option_and_then (if_passes test) found ≡ Some b → (found ≡ Some b) × (test b ≡ true)
passes_sound test None b e = absurd cc
passes_sound test (Some a) b e = let (same, is) = only_if_sound test a b (test a) refl e in (ap Some same, is)

-- tests of lists that are seen as others

module _ {A B : Type 0} (test : B → Bool) (see : A → B) (other : A → Bool) (same : (a : A) → test (see a) ≡ other a) where
  counts_as : (n : ℕ) (list : List A) → fold (λ a b. a + cond (test b) 1 0) n (map see list) ≡ fold (λ a b. a + cond (other b) 1 0) n list
  counts_as n [] = refl
  counts_as n (first ∷ rest) =
      counts_as (n + cond (test (see first)) 1 0) rest ∙ ap (λ one. fold (λ a b. a + cond (other b) 1 0) (n + cond one 1 0) rest) (same first)

  pub at_most_one_as : (list : List A) → at_most_one test (map see list) ≡ at_most_one other list
  at_most_one_as list = ap (λ n. nat_lt n 2) (counts_as 0 list)

  pub any_as : (list : List A) → list_any test (map see list) ≡ list_any other list
  any_as [] = refl
  any_as (first ∷ rest) = rw (same first, any_as rest) refl

  pub all_as : (list : List A) → list_all test (map see list) ≡ list_all other list
  all_as [] = refl
  all_as (first ∷ rest) = rw (same first, all_as rest) refl

module _ {A B : Type 0} (test : B → Bool) (see : A → B) (list : List A) where
  pub at_most_one_seen : at_most_one test (map see list) ≡ at_most_one (λ (a : A). test (see a)) list
  at_most_one_seen = at_most_one_as test see (λ (a : A). test (see a)) (λ a. refl) list

  pub any_seen : list_any test (map see list) ≡ list_any (λ (a : A). test (see a)) list
  any_seen = any_as test see (λ (a : A). test (see a)) (λ a. refl) list

  pub all_seen : list_all test (map see list) ≡ list_all (λ (a : A). test (see a)) list
  all_seen = all_as test see (λ (a : A). test (see a)) (λ a. refl) list

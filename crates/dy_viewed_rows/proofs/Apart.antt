-- In a program whose names have those of each view, each once, libraries of a view stand apart.
use Rattle.std.proofs.Common.{◌≡◌, ◌⊎◌, inl, inr, ℕ, zero, suc, ◌+◌, ◌<◌, ◌≤◌, Bool, true, false, true≢false, ◌||◌, cond, List, [], ◌∷◌, length, map, get_or, Option, Some, All, Contains, refl, sym, ap, ◌∙◌, arith}
use Rattle.std.specs.Prelude.{unwrap_or}
use Rattle.std.specs.List.{IsDistinct, position_from, list_any}
use Rattle.std.specs.Str.{bytes_eq}
use Rattle.std.proofs.lemmas.Bool.{cases_lt}
use Rattle.std.proofs.lemmas.List.Folds.{list_any_at}
use Rattle.std.proofs.lemmas.Slice.Eq.{bytes_eq-Decides}
use Rattle.std.proofs.lemmas.Iterator.Adapters.{position_from-zero}
use Rattle.std.proofs.lemmas.Map.Keys.{apart_from_distinct}
use Rattle.dy_modules.specs.Clauses.{Name}
use Rattle.dy_code.specs.Validity.{Every}
use Rattle.dy_values.specs.Stores.{name_at, place_in}
use Rattle.dy_lowered.specs.Linking.{view_of, place_of}
use Rattle.dy_linked_rows.specs.Mentioned.{mentioned}
use Rattle.dy_linked_rows.specs.Laws.{KeepsApart}
use Rattle.dy_linked_rows.specs.Programs.{unit_of, units, places_of}
use Rattle.dy_linked_rows.proofs.Every.{every_map}
use Rattle.dy_linked_rows.proofs.Joined.{programs_are_joined}
use Rattle.dy_views.proofs.Finding.{found}
use Rattle.dy_viewed_rows.specs.Programs.{IsSeen, ProgramsAreApart, SeenProgramsAreJoined}

pub name_is : (names : List Name) (place : ℕ) → name_at names place ≡ get_or names place []
name_is [] place = refl
name_is (name ∷ names) zero = refl
name_is (name ∷ names) (suc place) = name_is names place

-- what passes a test has a place
pub some_place : {X : Type 0} (test : X → Bool) (from : ℕ) (xs : List X) → list_any test xs ≡ true → (k : ℕ) × (position_from test from xs ≡ Some k)
some_place test from [] i = absurd cc
some_place test from (x ∷ xs) i = go (test x) i (some_place test (from + 1) xs)
  where
    go : (b : Bool) → (b || list_any test xs) ≡ true → (list_any test xs ≡ true → (k : ℕ) × (position_from test (from + 1) xs ≡ Some k)) → (k : ℕ) × (cond b (Some from) (position_from test (from + 1) xs) ≡ Some k)
    go true any rest = (from, refl)
    go false any rest = rest any

-- At the place of a name of a program the name stands.
stands : (program : List Name) (name : Name) → Contains program name → get_or program (place_in program name) [] ≡ name
stands program name (i, within, same) =
    let test : Name → Bool = bytes_eq name in
    let (k, at) = some_place test 0 program (list_any_at test program i name within ((bytes_eq-Decides name (get_or program i name)).1 (sym same))) in
    let (inside, is) = found test [] k program at in
    let place : place_in program name ≡ k = ap (λ (o : Option ℕ). unwrap_or o (length program)) (position_from-zero test program ∙ at) in
    ap (λ (n : ℕ). get_or program n []) place ∙ sym ((bytes_eq-Decides name (get_or program k [])).0 is)

-- a name has one place where none stands twice
module _ (names : List Name) (once : IsDistinct bytes_eq names) where
  not_twice : (left right : ℕ) → left < right → right < length names → get_or names left [] ≡ get_or names right [] → ⊥
  not_twice left right less within same =
      let new = apart_from_distinct bytes_eq names left right [] once less within in
      let old = (bytes_eq-Decides (get_or names left []) (get_or names right [])).1 same in
      true≢false (sym old ∙ new)

  pub one_place : (left right : ℕ) → left < length names → right < length names → get_or names left [] ≡ get_or names right [] → left ≡ right
  one_place left right low high name = go (cases_lt left right) (cases_lt right left)
    where
      go : (left < right) ⊎ (right ≤ left) → (right < left) ⊎ (left ≤ right) → left ≡ right
      go (inl less) other = absurd (not_twice left right less high name)
      go (inr one) (inl less) = absurd (not_twice right left less low (sym name))
      go (inr one) (inr other) = omega (arith, one, other)

module _ (view program : List Name) (once : IsDistinct bytes_eq view) (there : All (Contains program) view) where
  -- where libraries of a view come together they have one name
  same_name : (left right : ℕ) → left < length view → right < length view → place_of view program left ≡ place_of view program right → get_or view left [] ≡ get_or view right []
  same_name left right low high same =
      let one = stands program (get_or view left []) (there left [] low) in
      let two = stands program (get_or view right []) (there right [] high) in
      let at_left = ap (place_in program) (name_is view left) in
      let at_right = ap (place_in program) (name_is view right) in
      sym one ∙ ap (λ (n : ℕ). get_or program n []) (sym at_left ∙ same ∙ at_right) ∙ two

  -- so they are one
  stand_apart : (left right : ℕ) → left < length view → right < length view → place_of view program left ≡ place_of view program right → left ≡ right
  stand_apart left right low high same = one_place view once left right low high (same_name left right low high same)

  keeps_apart : (libraries : List ℕ) → Every (λ library. library < length view) libraries → KeepsApart (place_of view program) libraries
  keeps_apart libraries within =
      every_map (λ (left : ℕ). left < length view) (λ (left : ℕ). Every (λ (right : ℕ). place_of view program left ≡ place_of view program right → left ≡ right) libraries)
      (λ left low. every_map (λ (right : ℕ). right < length view) (λ (right : ℕ). place_of view program left ≡ place_of view program right → left ≡ right) (λ right high. stand_apart left right low high) libraries within) libraries within

pub programs_are_apart : ProgramsAreApart
programs_are_apart libraries seen =
    every_map (IsSeen (map (λ unit. unit.name) (units libraries))) (λ viewed. KeepsApart (places_of libraries viewed) (mentioned viewed.library.row))
    (λ viewed is. keeps_apart (view_of (unit_of viewed)) (map (λ unit. unit.name) (units libraries)) is.once is.there (mentioned viewed.library.row) is.mentions) libraries seen

pub seen_programs_are_joined : SeenProgramsAreJoined
seen_programs_are_joined libraries seen = programs_are_joined libraries (programs_are_apart libraries seen)

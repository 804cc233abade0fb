-- Libraries are picked by their numbers.
use Rattle.std.proofs.Common.{◌≡◌, ◌≢◌, ℕ, zero, suc, ◌+◌, ◌<◌, true, false, true≢false, eqb, List, [], ◌∷◌, ◌++◌, map, zip, length, get_or, take, set, slice_get, Option, Some, None, All, Contains, EachIndex, refl, sym, ap, ◌∙◌, subst, arith}
use Rattle.std.specs.List.{IsDistinct}
use Rattle.std.proofs.lemmas.Bool.{false_from_ne_true, eq-eqb}
use Rattle.std.proofs.lemmas.List.{get_or-take, get_or_default, length-take, map-append, take_more}
use Rattle.std.proofs.lemmas.List.Elements.{All-head, All-tail}
use Rattle.std.proofs.lemmas.Map.Keys.{apart_from_distinct}
use Rattle.dy_base.specs.declared.exports.Exports.{Exports}
use Rattle.dy_term.specs.declared.rows.LibraryRow.{LibraryRow}
use Rattle.dy_code.specs.declared.unit.Library.{Library}
use Rattle.dy_load_order.specs.LoadOrder.{is_in}
use Rattle.dy_load_order.proofs.Members.{in_contains, in_more, in_end}
use Rattle.dy_views.specs.Views.{Name, no_exports}
use Rattle.dy_libraries.specs.declared.libraries.Libraries.{Libraries}
use Rattle.dy_libraries.specs.Commands.{AreLibraries}
use Rattle.dy_libraries.specs.Parts.{joined_library, held}
use Rattle.dy_libraries.specs.Programs.{no_row, others_of, library_at}

-- ---- all by their numbers

joined_at : (rows : List LibraryRow) (exports : List Exports) (others : List (List (Name × List ℕ))) (n : ℕ) → n < length rows → n < length exports → n < length others
    → slice_get (map joined_library (zip (zip rows exports) others)) n ≡ Some (joined_library ((get_or rows n no_row, get_or exports n no_exports), get_or others n []))
joined_at [] exports others n a b c = absurd (omega arith)
joined_at (row ∷ rows) [] others n a b c = absurd (omega arith)
joined_at (row ∷ rows) (one ∷ exports) [] n a b c = absurd (omega arith)
joined_at (row ∷ rows) (one ∷ exports) (uses ∷ others) zero a b c = refl
joined_at (row ∷ rows) (one ∷ exports) (uses ∷ others) (suc n) a b c = joined_at rows exports others n (omega arith) (omega arith) (omega arith)

pub all_at : (libraries : Libraries) (others : List (List (Name × List ℕ))) (all : List (Option Library)) → AreLibraries libraries → length others ≡ length libraries.compiled.exports
    → EachIndex others (λ number. get_or others number [] ≡ others_of libraries.compiled number) → all ≡ map joined_library (zip (zip libraries.rows libraries.compiled.exports) others)
    → (number : ℕ) → number < length libraries.compiled.exports → slice_get all number ≡ Some (Some (library_at libraries number))
all_at libraries others all are long each is number within =
    let same = are.rows in
    ap (λ (list : List (Option Library)). slice_get list number) is
    ∙ joined_at libraries.rows libraries.compiled.exports others number (omega arith) within (omega arith)
    ∙ ap (λ (uses : List (Name × List ℕ)). Some (joined_library ((get_or libraries.rows number no_row, get_or libraries.compiled.exports number no_exports), uses))) (each number (omega arith))

-- ---- one by one

-- those that are not among these numbers are as at first
abbrev pub AreLeft : (first now : List (Option Library)) → List ℕ → Type 0
AreLeft first now numbers = (number : ℕ) → is_in numbers number ≡ false → slice_get now number ≡ slice_get first number

-- a number is not among those in front of it
pub not_before : (numbers : List ℕ) (i : ℕ) → IsDistinct eqb numbers → i < length numbers → is_in (take i numbers) (get_or numbers i 0) ≡ false
not_before numbers i distinct within = false_from_ne_true (is_in (take i numbers) (get_or numbers i 0)) (λ h. twice (in_contains (take i numbers) (get_or numbers i 0) h))
  where
    twice : Contains (take i numbers) (get_or numbers i 0) → ⊥
    twice (k, before, same) =
        let long = length-take i numbers in
        let less : k < i = omega (arith, before, long) in
        let here : get_or numbers k 0 ≡ get_or numbers i 0 =
        get_or_default numbers k 0 (get_or numbers i 0) (omega arith) ∙ sym (get_or-take i numbers k (get_or numbers i 0) less) ∙ same in
        true≢false (sym (eq-eqb (get_or numbers k 0) (get_or numbers i 0) here) ∙ apart_from_distinct eqb numbers k i 0 distinct less within)

set_other : (all : List (Option Library)) (i k : ℕ) (one : Option Library) → k ≢ i → slice_get (set all i one) k ≡ slice_get all k
set_other [] i k one apart = refl
set_other (x ∷ all) zero zero one apart = absurd (apart refl)
set_other (x ∷ all) zero (suc k) one apart = refl
set_other (x ∷ all) (suc i) zero one apart = refl
set_other (x ∷ all) (suc i) (suc k) one apart = set_other all i k one (λ e. apart (ap suc e))

module _ (first now : List (Option Library)) (numbers : List ℕ) (i : ℕ) (within : i < length numbers) where
  -- the next one is there
  pub next_there : (library : Library) → IsDistinct eqb numbers → AreLeft first now (take i numbers) → slice_get first (get_or numbers i 0) ≡ Some (Some library) → slice_get now (get_or numbers i 0) ≡ Some (Some library)
  next_there library distinct left there = left (get_or numbers i 0) (not_before numbers i distinct within) ∙ there

  -- and when it is taken, the others are left
  pub left_more : AreLeft first now (take i numbers) → AreLeft first (set now (get_or numbers i 0) None) (take (i + 1) numbers)
  left_more left other new =
      let number = get_or numbers i 0 in
      let out : is_in (take i numbers ++ number ∷ []) other ≡ false = subst (λ (xs : List ℕ). is_in xs other ≡ false) (take_more numbers i 0 within) new in
      set_other now number other None (λ same. true≢false (sym (subst (λ (n : ℕ). is_in (take i numbers ++ number ∷ []) n ≡ true) (sym same) (in_end (take i numbers) number)) ∙ out))
      ∙ left other (false_from_ne_true (is_in (take i numbers) other) (λ h. true≢false (sym (in_more (take i numbers) (number ∷ []) other h) ∙ out)))

  pub picked_more : (libraries : List Library) (library : Library) → map held libraries ≡ map (slice_get first) (take i numbers) → slice_get first (get_or numbers i 0) ≡ Some (Some library)
      → map held (libraries ++ library ∷ []) ≡ map (slice_get first) (take (i + 1) numbers)
  picked_more libraries library picked there =
      let number = get_or numbers i 0 in
      map-append held libraries (library ∷ [])
      ∙ ap (λ (xs : List (Option (Option Library))). xs ++ Some (Some library) ∷ []) picked
      ∙ ap (λ (o : Option (Option Library)). map (slice_get first) (take i numbers) ++ o ∷ []) (sym there)
      ∙ sym (map-append (slice_get first) (take i numbers) (number ∷ []))
      ∙ ap (map (slice_get first)) (sym (take_more numbers i 0 within))

-- ---- all that are picked

head_same : (one other : Library) → ◌≡◌ {A = Option (Option Library)} (Some (Some one)) (Some (Some other)) → one ≡ other
head_same one other e = cc

module _ (libraries : Libraries) (all : List (Option Library)) (each : (number : ℕ) → number < length libraries.compiled.exports → slice_get all number ≡ Some (Some (library_at libraries number))) where
  pub are_there : (numbers : List ℕ) → All (λ number. number < length libraries.compiled.exports) numbers → All (λ number. (library : Library) × (slice_get all number ≡ Some (Some library))) numbers
  are_there numbers there k d within = (library_at libraries (get_or numbers k d), each (get_or numbers k d) (there k d within))

  pub picked_are : (numbers : List ℕ) (picked : List Library) → All (λ number. number < length libraries.compiled.exports) numbers → map held picked ≡ map (slice_get all) numbers → picked ≡ map (library_at libraries) numbers
  picked_are [] [] there e = refl
  picked_are [] (library ∷ picked) there e = absurd cc
  picked_are (number ∷ numbers) [] there e = absurd cc
  picked_are (number ∷ numbers) (library ∷ picked) there e =
      let first : ◌≡◌ {A = Option (Option Library)} (Some (Some library)) (slice_get all number) = cc in
      let rest : map held picked ≡ map (slice_get all) numbers = cc in
      let one : library ≡ library_at libraries number = head_same library (library_at libraries number) (first ∙ each number (All-head (λ (n : ℕ). n < length libraries.compiled.exports) number numbers there)) in
      ap (λ (l : Library). l ∷ picked) one
      ∙ ap (λ (ls : List Library). library_at libraries number ∷ ls) (picked_are numbers picked (All-tail (λ (n : ℕ). n < length libraries.compiled.exports) number numbers there) rest)

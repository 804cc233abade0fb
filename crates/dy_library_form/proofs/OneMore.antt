-- Tables that are gone over row by row, and the first name of a list by its bytes.
use Rattle.std.proofs.Common.{◌≡◌, ℕ, zero, suc, ◌+◌, List, [], ◌∷◌, length, map, drop, Option, Some, None, slice_get, refl, sym, ap, ◌∙◌, arith}
use Rattle.std.specs.FinMap.{entries}
use Rattle.dy_base.specs.Tables.{NamedList, names, table_of}
use Rattle.dy_modules.specs.declared.clause.UseClause.{UseClause}
use Rattle.dy_modules.specs.Clauses.{Name}
use Rattle.dy_modules.proofs.Rows.{one_more}
use Rattle.dy_module_numbers.specs.Options.{with_names}
use Rattle.dy_library_form.specs.Told.{with_row_name, with_new_name, brought_after}
use Rattle.dy_library_form.specs.Library.{shown_row, shown_again, first_name, least_name, row_name, name_at}

names_suc : {A : Type 0} (set : List Name) (rows : NamedList A) (i : ℕ) → with_names (with_row_name set (slice_get rows i)) (names (drop (suc i) rows)) ≡ with_names set (names (drop i rows))
names_suc set [] zero = refl
names_suc set [] (suc i) = refl
names_suc set (row ∷ rows) zero = refl
names_suc set (row ∷ rows) (suc i) = names_suc set rows i

-- the name of one row more
pub names_more : {A : Type 0} (set : List Name) (rows : NamedList A) (i : ℕ) → with_names (with_row_name set (slice_get rows i)) (names (drop (i + 1) rows)) ≡ with_names set (names (drop i rows))
names_more set rows i = ap (λ j. with_names (with_row_name set (slice_get rows i)) (names (drop j rows))) (sym (one_more i)) ∙ names_suc set rows i

brought_suc : (u : UseClause) (set names : List Name) (i : ℕ) → brought_after u (with_new_name u (slice_get names i) set) (drop (suc i) names) ≡ brought_after u set (drop i names)
brought_suc u set [] zero = refl
brought_suc u set [] (suc i) = refl
brought_suc u set (name ∷ names) zero = refl
brought_suc u set (name ∷ names) (suc i) = brought_suc u set names i

-- what a clause brings of one name more
pub brought_more : (u : UseClause) (set names : List Name) (i : ℕ) → brought_after u (with_new_name u (slice_get names i) set) (drop (i + 1) names) ≡ brought_after u set (drop i names)
brought_more u set names i = ap (λ j. brought_after u (with_new_name u (slice_get names i) set) (drop j names)) (sym (one_more i)) ∙ brought_suc u set names i

shown_suc : (u : UseClause) (shown rows : NamedList ℕ) (i : ℕ) → shown_again u (shown_row u shown (slice_get rows i)) (drop (suc i) rows) ≡ shown_again u shown (drop i rows)
shown_suc u shown [] zero = refl
shown_suc u shown [] (suc i) = refl
shown_suc u shown (row ∷ rows) zero = refl
shown_suc u shown (row ∷ rows) (suc i) = shown_suc u shown rows i

-- one module more that is exported again
pub shown_more : (u : UseClause) (shown rows : NamedList ℕ) (i : ℕ) → shown_again u (shown_row u shown (slice_get rows i)) (drop (i + 1) rows) ≡ shown_again u shown (drop i rows)
shown_more u shown rows i = ap (λ j. shown_again u (shown_row u shown (slice_get rows i)) (drop j rows)) (sym (one_more i)) ∙ shown_suc u shown rows i

abbrev Row : Type 0
Row = Name × Unit {0}

abbrev head : List (Option Row) → Option Row
head [] = None
head (row ∷ rows) = row

first_row : (list rows : NamedList (Unit {0})) (places : List ℕ) → map (slice_get list) places ≡ map (λ row. Some row) rows → name_at list (slice_get places 0) ≡ first_name rows
first_row list [] [] are = refl
first_row list (row ∷ rows) [] are = absurd (omega (arith, ap length are))
first_row list [] (place ∷ places) are = absurd (omega (arith, ap length are))
first_row list (row ∷ rows) (place ∷ places) are = ap row_name (ap head are)

-- the name at the first of all places, in the order of bytes
pub least_is : (list : NamedList (Unit {0})) (places : List ℕ) → map (slice_get list) places ≡ map (λ row. Some row) (entries (table_of list)) → name_at list (slice_get places 0) ≡ least_name list
least_is list places are = first_row list (entries (table_of list)) places are

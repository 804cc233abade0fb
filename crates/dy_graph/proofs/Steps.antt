-- Lists that are gone over one by one.
use Rattle.std.proofs.Common.{◌≡◌, ℕ, zero, suc, ◌+◌, ◌<◌, ◌%◌, Bool, false, not, is_some, List, [], ◌∷◌, ◌++◌, length, get_or, map, drop, Option, Some, None, slice_get, append_assoc, refl, sym, ap, ◌∙◌}
use Rattle.std.specs.Option.{option_map}
use Rattle.dy_base.specs.Tables.{NamedList}
use Rattle.dy_base.specs.declared.fault.Place.{Place}
use Rattle.dy_modules.specs.declared.clause.UseClause.{UseClause}
use Rattle.dy_module_tables.specs.declared.promise.Promise.{Promise}
use Rattle.dy_modules.specs.declared.table.Cell.{Cell}
use Rattle.dy_modules.specs.Clauses.{Name}
use Rattle.dy_modules.specs.Cells.{after_source, after_uses}
use Rattle.dy_modules.specs.Builds.{is_clear_row}
use Rattle.dy_modules.proofs.Rows.{one_more, dropped}
use Rattle.dy_modules.proofs.Turns.{drop_first}
use Rattle.dy_library_form.specs.declared.found.Found.{Found}
use Rattle.dy_library_form.specs.Told.{name_or, name_of_two, first_of_two, unknown_header, unknown_headers}
use Rattle.dy_graph.specs.Judged.{with_lower, all_lower, with_new_row, new_rows, promise_of, promise_of_row, promises_of_rows}
use Rattle.dy_graph.proofs.TwoNames.{clear_row}

abbrev Units : Type 0
Units = NamedList (Unit {0})

-- the one at a place, and those behind it
pub split_at : {X : Type 0} (xs : List X) (i : ℕ) (x : X) → slice_get xs i ≡ Some x → drop i xs ≡ x ∷ drop (i + 1) xs
split_at xs i x at = dropped xs i x at ∙ ap (λ j. x ∷ drop j xs) (one_more i)

some_map : {X Y : Type 0} (f : X → Y) (o : Option X) → is_some (option_map f o) ≡ is_some o
some_map f None = refl
some_map f (Some x) = refl

-- the test of a row by its name
pub clear_by : {X : Type 0} (value : X → Name) (found : Option X) (row : Option (Name × Cell)) (b : Bool) → option_map value found ≡ name_of_two row → b ≡ is_some found → is_clear_row row ≡ not b
clear_by value found row b e is = clear_row row ∙ ap (λ o. not (is_some o)) (sym e) ∙ ap not (some_map value found) ∙ ap not (sym is)

-- the first of two owners, one row more
module _ (rows : NamedList Cell) (places : List ℕ) (i : ℕ) (within : i < length places) where
  pub first_more : first_of_two (map (slice_get rows) (drop i places)) ≡ name_or (name_of_two (slice_get rows (get_or places i 0))) (first_of_two (map (slice_get rows) (drop (i + 1) places)))
  first_more = ap (λ l. first_of_two (map (slice_get rows) l)) (drop_first places i within)

-- modules that a library exports, one more
module _ (rows : NamedList ℕ) (places : List ℕ) (i : ℕ) (within : i < length places) where
  pub lower_more : (list : List (Name × ℕ)) → all_lower list (map (slice_get rows) (drop i places)) ≡ all_lower (with_lower list (slice_get rows (get_or places i 0))) (map (slice_get rows) (drop (i + 1) places))
  lower_more list = ap (λ l. all_lower list (map (slice_get rows) l)) (drop_first places i within)

-- promises, one more
module _ (m : ℕ) (place : Place) (rows : Units) (places : List ℕ) (i : ℕ) (within : i < length places) where
  pub promises_more : (old : List Promise) → (old ++ promise_of_row m place (slice_get rows (get_or places i 0))) ++ promises_of_rows m place (map (slice_get rows) (drop (i + 1) places)) ≡ old ++ promises_of_rows m place (map (slice_get rows) (drop i places))
  promises_more old =
      append_assoc old (promise_of_row m place (slice_get rows (get_or places i 0))) (promises_of_rows m place (map (slice_get rows) (drop (i + 1) places)))
      ∙ ap (λ l. old ++ promises_of_rows m place (map (slice_get rows) l)) (sym (drop_first places i within))

new_suc : (u : UseClause) (list : Units) (rows : NamedList Cell) (i : ℕ) → new_rows u (with_new_row u (slice_get rows i) list) (drop (suc i) rows) ≡ new_rows u list (drop i rows)
new_suc u list [] zero = refl
new_suc u list [] (suc i) = refl
new_suc u list (row ∷ rows) zero = refl
new_suc u list (row ∷ rows) (suc i) = new_suc u list rows i

-- what a clause brings of one row more
pub new_more : (u : UseClause) (list : Units) (rows : NamedList Cell) (i : ℕ) → new_rows u (with_new_row u (slice_get rows i) list) (drop (i + 1) rows) ≡ new_rows u list (drop i rows)
new_more u list rows i = ap (λ j. new_rows u (with_new_row u (slice_get rows i) list) (drop j rows)) (sym (one_more i)) ∙ new_suc u list rows i

-- one header module more
pub header_more : (own : List Name) (old : List Found) (file : ℕ) (headers : List Name) (i : ℕ) (name : Name) → slice_get headers i ≡ Some name
    → (old ++ unknown_header own file name) ++ unknown_headers own ((file + 1) % 4294967296) (drop (i + 1) headers) ≡ old ++ unknown_headers own file (drop i headers)
header_more own old file headers i name at =
    append_assoc old (unknown_header own file name) (unknown_headers own ((file + 1) % 4294967296) (drop (i + 1) headers))
    ∙ ap (λ l. old ++ unknown_headers own file l) (sym (split_at headers i name at))

-- one promised name more
pub names_promised : (m : ℕ) (place : Place) (old : List Promise) (names : List Name) (i : ℕ) (name : Name) → slice_get names i ≡ Some name
    → (old ++ promise_of m place name ∷ []) ++ map (promise_of m place) (drop (i + 1) names) ≡ old ++ map (promise_of m place) (drop i names)
names_promised m place old names i name at =
    append_assoc old (promise_of m place name ∷ []) (map (promise_of m place) (drop (i + 1) names))
    ∙ ap (λ l. old ++ map (promise_of m place) l) (sym (split_at names i name at))

-- a name after one use clause more
pub uses_more : (us : List UseClause) (ts : List (NamedList Cell)) (n : Name) (i : ℕ) (u : UseClause) (old : Option Cell) → slice_get us i ≡ Some u
    → after_uses false (drop (i + 1) us) ts n (after_source false u (slice_get ts u.source) n old) ≡ after_uses false (drop i us) ts n old
uses_more us ts n i u old at = ap (λ l. after_uses false l ts n old) (sym (split_at us i u at))

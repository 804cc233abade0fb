-- The names that a module exports again of all that a clause brings.
use Rattle.std.proofs.Common.{◌≡◌, ◌⊎◌, inl, inr, ℕ, Bool, true, false, true≢false, if◌then◌else◌, cond, is_eq, List, [], ◌∷◌, map, Option, Some, None, nat_cmp, refl, sym, ap, subst, ◌∙◌}
use Rattle.std.specs.Prelude.{T}
use Rattle.std.specs.Str.{bytes_eq}
use Rattle.std.specs.Cmp.Lexicographic.{slice_cmp, nat_list_cmp_total, texts_ties}
use Rattle.std.specs.FinMap.{entries, entries_sorted, is_sorted, find, get, get-from_entries}
use Rattle.dy_base.specs.Folding.{folded}
use Rattle.dy_base.specs.Tables.{NamedList, table_of}
use Rattle.dy_base.specs.declared.fault.Place.{Place}
use Rattle.dy_modules.specs.declared.table.Cell.{Cell}
use Rattle.dy_modules.specs.declared.clause.UseClause.{UseClause}
use Rattle.dy_modules.specs.declared.clause.ModuleForm.{ModuleForm}
use Rattle.dy_modules.specs.declared.rounds.ModuleTables.{ModuleTables}
use Rattle.dy_modules.specs.Clauses.{Name, IsIn, brought}
use Rattle.dy_modules.specs.Sees.{exports, Named}
use Rattle.dy_modules.specs.Order.{IsRight}
use Rattle.dy_modules.proofs.Rows.{same_names, itself, at_row}
use Rattle.dy_library_form.specs.Library.{with_unit}
use Rattle.dy_graph.specs.Judged.{as_units, AreBrought, AreAgain, promise_of, with_new, with_new_row, new_rows, promises_of_rows, promises_of_table}
use Rattle.dy_graph.proofs.Lacks.{row_name, name_row, named_in, in_named}
use Rattle.dy_graph.proofs.Rising.{entry_at, at_entry}

abbrev Units : Type 0
Units = NamedList (Unit {0})

abbrev unit_row : Name → Name × Unit {0}
unit_row n = (n, tt)

abbrev row_names : Units → List Name
row_names rows = map (λ (r : Name × Unit {0}). r.0) rows

-- a name that is put
in_put : (list : Units) (x n : Name) → IsIn (unit_row n) (with_unit list x) → IsIn (unit_row n) list ⊎ (n ≡ x)
in_put [] x n (inl e) = inr (ap (λ (r : Name × Unit {0}). r.0) e)
in_put [] x n (inr never) = absurd never
in_put (e ∷ list) x n is = by_name (bytes_eq x e.0) is (in_put list x n)
  where
    by_name : (b : Bool) → IsIn (unit_row n) (if b then (e.0, tt) ∷ list else e ∷ with_unit list x) → (IsIn (unit_row n) (with_unit list x) → IsIn (unit_row n) list ⊎ (n ≡ x))
        → IsIn (unit_row n) (e ∷ list) ⊎ (n ≡ x)
    by_name true is rest = inl is
    by_name false (inl same) rest = inl (inl same)
    by_name false (inr is) rest = elim (rest is) [ inl y ↦ inl (inr y) | inr same ↦ inr same ]

put_left : (list : Units) (x n : Name) → IsIn (unit_row n) list → IsIn (unit_row n) (with_unit list x)
put_left [] x n is = absurd is
put_left (e ∷ list) x n is = by_name (bytes_eq x e.0) is (put_left list x n)
  where
    by_name : (b : Bool) → IsIn (unit_row n) (e ∷ list) → (IsIn (unit_row n) list → IsIn (unit_row n) (with_unit list x)) → IsIn (unit_row n) (if b then (e.0, tt) ∷ list else e ∷ with_unit list x)
    by_name true is rest = is
    by_name false (inl same) rest = inl same
    by_name false (inr is) rest = inr (rest is)

put_right : (list : Units) (x : Name) → IsIn (unit_row x) (with_unit list x)
put_right [] x = inl refl
put_right (e ∷ list) x = by_name (bytes_eq x e.0) refl (put_right list x)
  where
    by_name : (b : Bool) → bytes_eq x e.0 ≡ b → IsIn (unit_row x) (with_unit list x) → IsIn (unit_row x) (if b then (e.0, tt) ∷ list else e ∷ with_unit list x)
    by_name true same rest = inl (ap unit_row (same_names x e.0 same))
    by_name false same rest = inr rest

-- what a clause makes of rows
module _ (u : UseClause) where
  in_row : (list : Units) (r : Name × Cell) (n : Name) → IsIn (unit_row n) (with_new_row u (Some r) list) → IsIn (unit_row n) list ⊎ (brought u r.0 ≡ Some n)
  in_row list r n is = by_new (brought u r.0) refl is
    where
      by_new : (o : Option Name) → brought u r.0 ≡ o → IsIn (unit_row n) (with_new o list) → IsIn (unit_row n) list ⊎ (brought u r.0 ≡ Some n)
      by_new None e is = inl is
      by_new (Some new) e is = elim (in_put list new n is) [ inl y ↦ inl y | inr same ↦ inr (e ∙ ap Some (sym same)) ]

  row_left : (list : Units) (r : Name × Cell) (n : Name) → IsIn (unit_row n) list → IsIn (unit_row n) (with_new_row u (Some r) list)
  row_left list r n is = by_new (brought u r.0)
    where
      by_new : (o : Option Name) → IsIn (unit_row n) (with_new o list)
      by_new None = is
      by_new (Some new) = put_left list new n is

  row_right : (list : Units) (r : Name × Cell) (n : Name) → brought u r.0 ≡ Some n → IsIn (unit_row n) (with_new_row u (Some r) list)
  row_right list r n e = subst (λ o. IsIn (unit_row n) (with_new o list)) (sym e) (put_right list n)

  in_rows : (list : Units) (rows : NamedList Cell) (n : Name) → IsIn (unit_row n) (new_rows u list rows) → IsIn (unit_row n) list ⊎ ((r : Name × Cell) × IsIn r rows × (brought u r.0 ≡ Some n))
  in_rows list [] n is = inl is
  in_rows list (r ∷ rows) n is = elim (in_rows (with_new_row u (Some r) list) rows n is) [
    | inl y ↦ elim (in_row list r n y) [ inl z ↦ inl z | inr e ↦ inr (r, inl refl, e) ]
    | inr y ↦ inr (y.0, inr y.1, y.2)
  ]

  rows_left : (list : Units) (rows : NamedList Cell) (n : Name) → IsIn (unit_row n) list → IsIn (unit_row n) (new_rows u list rows)
  rows_left list [] n is = is
  rows_left list (r ∷ rows) n is = rows_left (with_new_row u (Some r) list) rows n (row_left list r n is)

  rows_right : (list : Units) (rows : NamedList Cell) (r : Name × Cell) (n : Name) → IsIn r rows → brought u r.0 ≡ Some n → IsIn (unit_row n) (new_rows u list rows)
  rows_right list [] r n is e = absurd is
  rows_right list (q ∷ rows) r n (inl same) e = rows_left (with_new_row u (Some q) list) rows n (row_right list q n (ap (λ (x : Name × Cell). brought u x.0) (sym same) ∙ e))
  rows_right list (q ∷ rows) r n (inr is) e = rows_right (with_new_row u (Some q) list) rows r n is e

-- a name that is put is found
put_found : (es : Units) (n : Name) → IsIn (unit_row n) es → find (slice_cmp nat_cmp) n es ≡ Some tt
put_found [] n is = absurd is
put_found (e ∷ es) n is = by_case (is_eq (slice_cmp nat_cmp n e.0)) refl is (put_found es n)
  where
    by_case : (b : Bool) → is_eq (slice_cmp nat_cmp n e.0) ≡ b → IsIn (unit_row n) (e ∷ es) → (IsIn (unit_row n) es → find (slice_cmp nat_cmp) n es ≡ Some tt) → cond b (Some e.1) (find (slice_cmp nat_cmp) n es) ≡ Some tt
    by_case true same is rest = refl
    by_case false other (inl same) rest =
        let here : n ≡ e.0 = ap (λ (r : Name × Unit {0}). r.0) same in
        absurd (true≢false (sym (itself n) ∙ ap (bytes_eq n) here ∙ texts_ties n e.0 ∙ other))
    by_case false other (inr is) rest = rest is

got : (es : Units) (n : Name) → IsIn (unit_row n) es → get (table_of es) n ≡ Some tt
got es n is = get-from_entries nat_list_cmp_total es n ∙ put_found es n is

-- names as rows
units_of : (rows : Units) → as_units (row_names rows) ≡ rows
units_of [] = refl
units_of (r ∷ rows) = ap (λ l. r ∷ l) (units_of rows)

in_row_names : (rows : Units) (n : Name) → IsIn n (row_names rows) → IsIn (unit_row n) rows
in_row_names [] n is = absurd is
in_row_names (r ∷ rows) n (inl e) = inl (ap unit_row e)
in_row_names (r ∷ rows) n (inr is) = inr (in_row_names rows n is)

row_names_in : (rows : Units) (n : Name) → IsIn (unit_row n) rows → IsIn n (row_names rows)
row_names_in [] n is = absurd is
row_names_in (r ∷ rows) n (inl e) = inl (ap (λ (x : Name × Unit {0}). x.0) e)
row_names_in (r ∷ rows) n (inr is) = inr (row_names_in rows n is)

promises_are : (m : ℕ) (place : Place) (rows : Units) → promises_of_rows m place (map Some rows) ≡ map (promise_of m place) (map folded (row_names rows))
promises_are m place [] = refl
promises_are m place (r ∷ rows) = ap (λ l. promise_of m place (folded r.0) ∷ l) (promises_are m place rows)

module _ (ms : List ModuleForm) (u : UseClause) (t : ModuleTables) (right : IsRight ms u.source t) where
  abbrev put : Units
  put = new_rows u [] t.exports

  abbrev sorted_names : List Name
  sorted_names = row_names (entries (table_of put))

  brought_to : (n : Name) → IsIn n sorted_names → (a : Name) × Named ms exports u.source a × (brought u a ≡ Some n)
  brought_to n is =
      let at = entry_at (table_of put) (unit_row n) (in_row_names (entries (table_of put)) n is) in
      elim (in_rows u [] t.exports n (at_row put n tt at)) [
        | inl never ↦ absurd never
        | inr w ↦ (w.0.0, named_in ms u.source t right w.0.0 (name_row t.exports w.0.0 w.0.1 w.1), w.2)
      ]

  brought_from : (a n : Name) → Named ms exports u.source a → brought u a ≡ Some n → IsIn n sorted_names
  brought_from a n named e =
      let row = row_name t.exports a (in_named ms u.source t right a named) in
      let is = rows_right u [] t.exports (a, row.0) n row.1 e in
      row_names_in (entries (table_of put)) n (at_entry (table_of put) n tt (got put n is))

  are_brought : AreBrought ms u sorted_names
  are_brought = record {
    sorted = subst (λ rows. T (is_sorted (slice_cmp nat_cmp) rows)) (sym (units_of (entries (table_of put)))) (entries_sorted (table_of put));
    to = brought_to;
    from = brought_from;
  }

  -- all that a clause brings is promised
  pub all_again : (m : ℕ) (place : Place) → (list : List Name) × AreAgain ms u None list × (promises_of_table m place u t.exports ≡ map (promise_of m place) list)
  all_again m place = (map folded sorted_names, (sorted_names, are_brought, refl), promises_are m place (entries (table_of put)))

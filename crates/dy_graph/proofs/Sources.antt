-- Clauses use modules that are there.
use Rattle.std.proofs.Common.{◌≡◌, inl, inr, ℕ, zero, suc, ◌+◌, ◌<◌, ◌≤◌, Bool, true, false, if◌then◌else◌, is_some, List, [], ◌∷◌, length, position, Option, Some, None, slice_get, length-append, refl, sym, ap, subst, ◌∙◌, arith}
use Rattle.std.proofs.lemmas.List.Quantifiers.{position-Some}
use Rattle.std.specs.Str.{bytes_eq}
use Rattle.std.specs.FinMap as finite
use Rattle.indexmap.specs.IndexMap.{insert_entry}
use Rattle.dy_base.specs.Tables.{NamedList, table_of}
use Rattle.dy_base.specs.declared.exports.Exports.{Exports}
use Rattle.dy_base.specs.declared.fault.Place.{Place}
use Rattle.dy_module_forms.specs.declared.written.UseOption.{UseOption}
use Rattle.dy_module_forms.specs.declared.written.Clause.{Clause}
use Rattle.dy_module_forms.specs.declared.written.Clause.TheVariants as clauses
use Rattle.dy_module_forms.specs.declared.written.Placed.{Placed}
use Rattle.dy_module_forms.specs.declared.written.Form.{Form}
use Rattle.dy_modules.specs.declared.clause.UseClause.{UseClause}
use Rattle.dy_modules.specs.declared.clause.ModuleForm.{ModuleForm}
use Rattle.dy_modules.specs.declared.rounds.ModuleTables.{ModuleTables}
use Rattle.dy_modules.specs.Clauses.{Name, IsIn, brought}
use Rattle.dy_modules.specs.Order.{is_made}
use Rattle.dy_modules.proofs.Rows.{some_is, none_is, at_row}
use Rattle.dy_module_numbers.specs.Options.{use_clause}
use Rattle.dy_module_numbers.specs.Numbers.{with_brought, brought_modules, with_module, with_modules, Row, or_else, number_of, numbered_after, library_numbers, exported_rows}
use Rattle.dy_module_numbers.specs.Modules.{module_form, source_or, source_of, with_use, uses}
use Rattle.dy_library_form.specs.declared.library.Reading.{Reading}
use Rattle.dy_library_form.specs.Library.{place_of, after_modules, after_library, after_clause, after_clauses, told_clash, with_clash, least_name, clashing_list, with_imports}
use Rattle.dy_graph.specs.Faults.{AreMade, IsReadySource, IsReadyClause}
use Rattle.dy_graph.proofs.AllMade.{source_made}

-- a clause of a form is one of its module's use clauses
pub used_in : (own : List Name) (imported : NamedList ℕ) (nothing : ℕ) (list : List Placed) (clause : Placed) (name : Name) (options : List UseOption) → IsIn clause list → clause.clause ≡ clauses.Use name options
    → IsIn (use_clause (source_of own imported nothing name) options) (uses own imported nothing list)
used_in own imported nothing [] clause name options is e = absurd is
used_in own imported nothing (first ∷ rest) clause name options (inl same) e =
    subst (λ c. IsIn (use_clause (source_of own imported nothing name) options) (with_use own imported nothing c (uses own imported nothing rest)))
    (sym (ap (λ (p : Placed). p.clause) (sym same) ∙ e)) (inl refl)
used_in own imported nothing (first ∷ rest) clause name options (inr is) e =
    by_first first.clause (used_in own imported nothing rest clause name options is e)
  where
    by_first : (c : Clause) → IsIn (use_clause (source_of own imported nothing name) options) (uses own imported nothing rest)
        → IsIn (use_clause (source_of own imported nothing name) options) (with_use own imported nothing c (uses own imported nothing rest))
    by_first (clauses.Use other list) h = inr h
    by_first (clauses.Export list) h = h
    by_first (clauses.Create list) h = h

-- each use clause of a module uses what its name means
pub use_from : (own : List Name) (imported : NamedList ℕ) (nothing : ℕ) (list : List Placed) (u : UseClause) → IsIn u (uses own imported nothing list) → (name : Name) × (u.source ≡ source_of own imported nothing name)
use_from own imported nothing [] u is = absurd is
use_from own imported nothing (first ∷ rest) u is = by_first first.clause is (use_from own imported nothing rest u)
  where
    by_first : (c : Clause) → IsIn u (with_use own imported nothing c (uses own imported nothing rest)) → (IsIn u (uses own imported nothing rest) → (name : Name) × (u.source ≡ source_of own imported nothing name))
        → (name : Name) × (u.source ≡ source_of own imported nothing name)
    by_first (clauses.Use name options) (inl e) below = (name, ap (λ (x : UseClause). x.source) e)
    by_first (clauses.Use name options) (inr h) below = below h
    by_first (clauses.Export list) h below = below h
    by_first (clauses.Create list) h below = below h

-- where a module leads to no ring, its sources have their tables
module _ (ms : List ModuleForm) (done : List (Option ModuleTables)) (made : AreMade ms done) (own : List Name) (imported : NamedList ℕ) (nothing m : ℕ) (form : Form)
    (at : slice_get ms m ≡ Some (module_form own imported nothing m form)) where
  ready_source : (place : Place) (name : Name) (options : List UseOption) → IsIn (record { place = place; clause = clauses.Use name options }) form.clauses
      → (o : Option ℕ) → number_of own imported name ≡ o → IsReadySource ms done m o
  ready_source place name options is None e = tt
  ready_source place name options is (Some source) e = λ grounds.
      subst (λ s. is_made (slice_get done s) ≡ true) (ap (source_or nothing) e)
      (source_made ms done made m (module_form own imported nothing m form) (use_clause (source_of own imported nothing name) options) grounds at
      (used_in own imported nothing form.clauses (record { place = place; clause = clauses.Use name options }) name options is refl))

  ready_of : (place : Place) (c : Clause) → IsIn (record { place = place; clause = c }) form.clauses → IsReadyClause own imported ms done m c
  ready_of place (clauses.Use name options) is = ready_source place name options is (number_of own imported name) refl
  ready_of place (clauses.Export list) is = tt
  ready_of place (clauses.Create list) is = tt

  pub ready_clause : (clause : Placed) → IsIn clause form.clauses → IsReadyClause own imported ms done m clause.clause
  ready_clause clause is = ready_of clause.place clause.clause is

-- numbers below a bound
abbrev pub Below : ℕ → NamedList ℕ → Type 0
Below bound list = (r : Name × ℕ) → IsIn r list → r.1 < bound

insert_below : (bound : ℕ) (list : NamedList ℕ) (name : Name) (v : ℕ) → Below bound list → v < bound → Below bound (insert_entry bytes_eq list name v)
insert_below bound [] name v all less r (inl e) = subst (λ (x : Name × ℕ). x.1 < bound) (sym e) less
insert_below bound [] name v all less r (inr never) = absurd never
insert_below bound (e ∷ list) name v all less r is = by_name (bytes_eq name e.0) is (insert_below bound list name v (λ q h. all q (inr h)) less)
  where
    rest : Below bound (insert_entry bytes_eq list name v) → IsIn r (e ∷ insert_entry bytes_eq list name v) → r.1 < bound
    rest below (inl same) = all r (inl same)
    rest below (inr is) = below r is

    here : IsIn r ((e.0, v) ∷ list) → r.1 < bound
    here (inl same) = subst (λ (x : Name × ℕ). x.1 < bound) (sym same) less
    here (inr is) = all r (inr is)

    by_name : (b : Bool) → IsIn r (if b then (e.0, v) ∷ list else e ∷ insert_entry bytes_eq list name v) → Below bound (insert_entry bytes_eq list name v) → r.1 < bound
    by_name true is below = here is
    by_name false is below = rest below is

module _ (bound : ℕ) where
  brought_below : (u : UseClause) (rows : NamedList ℕ) → Below bound rows → Below bound (brought_modules u rows)
  brought_below u [] all r is = absurd is
  brought_below u (row ∷ rows) all r is = by_name (brought u row.0) is (brought_below u rows (λ q h. all q (inr h)))
    where
      by_name : (o : Option Name) → IsIn r (with_brought o row.1 (brought_modules u rows)) → Below bound (brought_modules u rows) → r.1 < bound
      by_name None is below = below r is
      by_name (Some name) (inl e) below = subst (λ (x : Name × ℕ). x.1 < bound) (sym e) (all row (inl refl))
      by_name (Some name) (inr is) below = below r is

  join_below : (list : NamedList ℕ) (name : Name) (v : ℕ) → Below bound list → v < bound → Below bound (with_module list name v)
  join_below list name v all less = by_test (is_some (finite.get (table_of list) name))
    where
      by_test : (b : Bool) → Below bound (if b then list else insert_entry bytes_eq list name v)
      by_test true = all
      by_test false = insert_below bound list name v all less

  modules_below : (list pairs : NamedList ℕ) → Below bound list → Below bound pairs → Below bound (with_modules list pairs)
  modules_below list [] all more = all
  modules_below list (pair ∷ pairs) all more = modules_below (with_module list pair.0 pair.1) pairs (join_below list pair.0 pair.1 all (more pair (inl refl))) (λ r is. more r (inr is))

  abbrev AllBelow : List (NamedList ℕ) → Type 0
  AllBelow lists = (i : ℕ) (list : NamedList ℕ) → slice_get lists i ≡ Some list → Below bound list

  clash_keeps : (r : Reading) (place : Place) (o : Option Name) → (with_clash r place o).imported ≡ r.imported
  clash_keeps r place None = refl
  clash_keeps r place (Some name) = refl

  told_keeps : (forms : List ModuleForm) (place : Place) (pairs : NamedList ℕ) (r : Reading) → (told_clash forms place pairs r).imported ≡ r.imported
  told_keeps forms place pairs r = by_flag r.is_clashing
    where
      by_flag : (b : Bool) → (if b then r else with_clash r place (least_name (clashing_list forms r.imported pairs))).imported ≡ r.imported
      by_flag true = refl
      by_flag false = clash_keeps r place (least_name (clashing_list forms r.imported pairs))

  module _ (used : List Exports) (lists : List (NamedList ℕ)) (forms : List ModuleForm) (all : AllBelow lists) where
    by_list : (place : Place) (library : ℕ) (options : List UseOption) (r : Reading) → Below bound r.imported → (o : Option (NamedList ℕ)) → slice_get lists library ≡ o
        → Below bound (after_modules forms place library options o r).imported
    by_list place library options r below None e = below
    by_list place library options r below (Some modules) e =
        let pairs = brought_modules (use_clause library options) modules in
        subst (Below bound) (sym (told_keeps forms place pairs (with_imports pairs r)))
        (modules_below r.imported pairs below (brought_below (use_clause library options) modules (all library modules e)))

    by_library : (place : Place) (name : Name) (options : List UseOption) (r : Reading) → Below bound r.imported → (o : Option ℕ) → Below bound (after_library forms lists place name options o r).imported
    by_library place name options r below None = below
    by_library place name options r below (Some library) = by_list place library options r below (slice_get lists library) refl

    by_clause : (place : Place) (c : Clause) (r : Reading) → Below bound r.imported → Below bound (after_clause used lists forms place c r).imported
    by_clause place (clauses.Use name options) r below = by_library place name options r below (place_of used name)
    by_clause place (clauses.Export list) r below = below
    by_clause place (clauses.Create list) r below = below

    -- what the library imports
    pub imports_below : (list : List Placed) (r : Reading) → Below bound r.imported → Below bound (after_clauses used lists forms list r).imported
    imports_below [] r below = below
    imports_below (clause ∷ rest) r below = imports_below rest (after_clause used lists forms clause.place clause.clause r) (by_clause clause.place clause.clause r below)

  numbered_below : (list : NamedList ℕ) (from : ℕ) (rows : List Row) → Below bound list → from + length rows ≤ bound → Below bound (numbered_after list from rows)
  numbered_below list from [] all h = all
  numbered_below list from (row ∷ rows) all h = numbered_below (insert_entry bytes_eq list row.0 from) (from + 1) rows (insert_below bound list row.0 from all (omega (arith, h))) (omega (arith, h))

  pub libraries_below : (from : ℕ) (used : List Exports) → from + length (exported_rows used) ≤ bound → AllBelow (library_numbers from used)
  libraries_below from [] h i list at = absurd (none_is list at)
  libraries_below from (library ∷ used) h zero list at =
      subst (Below bound) (some_is (numbered_after [] from library.modules) list at) (numbered_below [] from library.modules (λ r is. absurd is) (omega (arith, h, length-append library.modules (exported_rows used))))
  libraries_below from (library ∷ used) h (suc i) list at =
      libraries_below (from + length library.modules) used (omega (arith, h, length-append library.modules (exported_rows used))) i list at

-- the module that a name means
pub source_below : (bound : ℕ) (own : List Name) (imported : NamedList ℕ) (nothing : ℕ) → length own ≤ bound → Below bound imported → nothing < bound → (name : Name) → source_of own imported nothing name < bound
source_below bound own imported nothing few below less name = by_own (position (bytes_eq name) own) refl
  where
    by_imported : (o : Option ℕ) → finite.get (table_of imported) name ≡ o → source_or nothing o < bound
    by_imported None e = less
    by_imported (Some number) e = below (name, number) (at_row imported name number e)

    by_own : (o : Option ℕ) → position (bytes_eq name) own ≡ o → source_or nothing (or_else o (finite.get (table_of imported) name)) < bound
    by_own None e = by_imported (finite.get (table_of imported) name) refl
    by_own (Some number) e = omega (arith, few, (position-Some (bytes_eq name) own number [] e).0)

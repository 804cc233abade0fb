-- What the modules of a library are made of is what its forms tell.
use Rattle.std.proofs.Common.{◌≡◌, ℕ, List, map, Result, Ok, Err, Some, None, sym, ap, subst, ◌∙◌, inl, inr}
use Rattle.dy_base.specs.declared.exports.Exports.{Exports}
use Rattle.dy_base.specs.declared.fault.Fault.{Fault}
use Rattle.dy_base.specs.declared.fault.Place.{Place}
use Rattle.dy_base.specs.declared.fault.Refusal.{Refusal}
use Rattle.dy_base.specs.declared.fault.Refusal.TheVariants as refusals
use Rattle.dy_module_forms.specs.declared.written.Placed.{Placed}
use Rattle.dy_module_forms.specs.declared.written.Form.{Form}
use Rattle.dy_modules.specs.Clauses.{Name}
use Rattle.dy_module_numbers.specs.declared.sorting.Sorted.{Sorted}
use Rattle.dy_module_numbers.specs.Sorting.{libraries}
use Rattle.dy_module_tables.specs.Graphs.{Graph}
use Rattle.dy_graph.specs.Judged as graphs
use Rattle.dy_graph.specs.Judged.{given, Gives, Refuses}
use Rattle.dy_doubled.specs.declared.doubled.TakenNames.{TakenNames}
use Rattle.dy_doubled.specs.Doubled as doubles
use Rattle.dy_doubled.specs.Doubled.{first_form, redefined_in}
use Rattle.dy_views.specs.declared.compiled.Compiled.{Compiled}
use Rattle.dy_views.specs.Views.{used_numbers, order_of, exports_in}
use Rattle.dy_library_modules.specs.Modules.{clauses_in, uses_of, order_by, used_by, taken_by, AnswersSorted, AnswersRead, RefusesRead, GivesRead}

module _ (library : Name) (headers : List Name) (compiled : Compiled)
    (sorted : Sorted) (own : List Form) (clauses : List Placed) (uses order : List ℕ) (used : List Exports)
    (own_are : own ≡ sorted.libraries)
    (clauses_are : clauses ≡ clauses_in (first_form own))
    (uses_are : uses ≡ used_numbers compiled.exports clauses)
    (order_is : order ≡ order_of compiled uses)
    (used_are : used ≡ map (exports_in compiled order) uses) where
  -- what the library sees
  seen : (forms : List Form) → sorted.libraries ≡ libraries forms → (uses ≡ uses_of compiled forms) × (order ≡ order_by compiled forms) × (used ≡ used_by compiled forms)
  seen forms is =
      let u =
      uses_are
      ∙ ap (λ (cs : List Placed). used_numbers compiled.exports cs) (clauses_are ∙ ap (λ (ls : List Form). clauses_in (first_form ls)) (own_are ∙ is)) in
      let o = order_is ∙ ap (λ (us : List ℕ). order_of compiled us) u in
      (u, o, used_are ∙ ap (λ (os : List ℕ). map (exports_in compiled os) uses) o ∙ ap (λ (us : List ℕ). map (exports_in compiled (order_by compiled forms)) us) u)

  pub table_then : (read : Result (List Form) Place) (refusal : Refusal) → AnswersSorted read (Ok sorted) → graphs.IsAnswer library headers read used (Err refusal)
      → AnswersRead library headers compiled read (Err refusal)
  table_then (Ok forms) (refusals.Fault fault) are e = inl (subst (λ (us : List Exports). Refuses (given library headers forms us) (libraries forms) fault) (seen forms are.0).2 e)
  table_then (Ok forms) refusals.Memory are e = tt
  table_then (Err place) refusal are e = absurd are

  module _ (others : List Exports) (others_are : others ≡ compiled.exports) where
    pub taken_then : (read : Result (List Form) Place) (refusal : Refusal) → AnswersSorted read (Ok sorted) → doubles.IsAnswer library read used others (Err refusal)
        → AnswersRead library headers compiled read (Err refusal)
    taken_then (Ok forms) (refusals.Fault fault) are e = absurd e
    taken_then (Ok forms) refusals.Memory are e = tt
    taken_then (Err place) refusal are e = absurd are

    module _ (table : Graph) (taken : TakenNames) where
      gives : (forms : List Form) → sorted.libraries ≡ libraries forms → Gives (given library headers forms used) (libraries forms) table
          → Gives (given library headers forms (used_by compiled forms)) (libraries forms) table
      gives forms is made = subst (λ (us : List Exports). Gives (given library headers forms us) (libraries forms) table) (seen forms is).2 made

      takes : (forms : List Form) → sorted.libraries ≡ libraries forms → taken ≡ redefined_in library forms used others → taken ≡ taken_by library compiled forms
      takes forms is so =
          so
          ∙ ap (λ (us : List Exports). redefined_in library forms us others) (seen forms is).2
          ∙ ap (λ (os : List Exports). redefined_in library forms (used_by compiled forms) os) others_are

      pub library_told : (read : Result (List Form) Place) (fault : Fault) → AnswersSorted read (Ok sorted) → graphs.IsAnswer library headers read used (Ok table)
          → doubles.IsAnswer library read used others (Ok taken) → taken.library ≡ Some fault
          → RefusesRead library headers compiled read fault
      library_told (Ok forms) fault are made so told =
          inr (table, gives forms are.0 made, sym (ap (λ (t : TakenNames). t.library) (takes forms are.0 so)) ∙ told)
      library_told (Err place) fault are made so told = absurd are

      pub modules_found : (read : Result (List Form) Place) → AnswersSorted read (Ok sorted) → graphs.IsAnswer library headers read used (Ok table)
          → doubles.IsAnswer library read used others (Ok taken) → taken.library ≡ None
          → GivesRead library headers compiled read (record { table = table; names = sorted.names; doubled = taken.modules; order = order; uses = uses })
      modules_found (Ok forms) are made so none = record {
        table = gives forms are.0 made;
        untaken = sym (ap (λ (t : TakenNames). t.library) (takes forms are.0 so)) ∙ none;
        names = are.1;
        doubled = ap (λ (t : TakenNames). t.modules) (takes forms are.0 so);
        order = (seen forms are.0).1;
        uses = (seen forms are.0).0;
      }
      modules_found (Err place) are made so none = absurd are

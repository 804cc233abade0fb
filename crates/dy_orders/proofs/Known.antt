-- What a library without a fault uses was compiled before it.
use Rattle.std.proofs.Common.{◌≡◌, ℕ, ◌<◌, Bool, true, false, List, [], ◌∷◌, ◌++◌, map, length, get_or, Option, Some, None, refl, sym, subst, ◌∙◌, inl, inr, arith}
use Rattle.std.specs.Prelude.{if◌then◌else◌, slice_get}
use Rattle.std.specs.List.{AllByRecursion}
use Rattle.std.specs.Str.{bytes_eq}
use Rattle.std.proofs.lemmas.List.{get_or-map, length-map}
use Rattle.std.proofs.lemmas.List.Elements.{All-get_or}
use Rattle.std.proofs.lemmas.Iterator.Adapters.{position_from-zero}
use Rattle.dy_base.specs.Tables.{NamedList}
use Rattle.dy_base.specs.declared.kind.Kind.TheVariants.{UnknownLibrary, NameClash}
use Rattle.dy_base.specs.declared.exports.Exports.{Exports}
use Rattle.dy_base.specs.declared.fault.Place.{Place}
use Rattle.dy_module_forms.specs.declared.written.UseOption.{UseOption}
use Rattle.dy_module_forms.specs.declared.written.Clause.{Clause}
use Rattle.dy_module_forms.specs.declared.written.Clause.TheVariants as clauses
use Rattle.dy_module_forms.specs.declared.written.Placed.{Placed}
use Rattle.dy_module_forms.specs.declared.written.Form.{Form}
use Rattle.dy_modules.specs.declared.clause.ModuleForm.{ModuleForm}
use Rattle.dy_modules.specs.declared.clause.UseClause.{UseClause}
use Rattle.dy_modules.specs.Clauses.{Name, IsIn}
use Rattle.dy_module_tables.specs.Graphs.{Graph}
use Rattle.dy_module_numbers.specs.Options.{use_clause}
use Rattle.dy_module_numbers.specs.Numbers.{brought_modules}
use Rattle.dy_module_numbers.specs.Sorting.{libraries}
use Rattle.dy_library_form.specs.declared.found.Found.{Found}
use Rattle.dy_library_form.specs.declared.library.Reading.{Reading}
use Rattle.dy_library_form.specs.Told.{found, not_exported}
use Rattle.dy_library_form.specs.Library.{is_library, place_of, names_of, least_name, clashing_list, with_clash, with_imports, told_clash, after_rows, after_modules, after_library, after_clause, after_clauses, nothing_read}
use Rattle.dy_graph.specs.Judged.{Given, given, Gives, numbers, begun, in_library}
use Rattle.dy_doubled.specs.Doubled.{first_form}
use Rattle.dy_views.specs.declared.compiled.Compiled.{Compiled}
use Rattle.dy_views.specs.Views.{number_of, used_names, used_by_clause, exports_in, no_exports, AreThere}
use Rattle.dy_views.proofs.Finding.{found as found_at}
use Rattle.dy_library_modules.specs.Modules.{clauses_in, clauses_of, uses_of, order_by, used_by}
use Rattle.dy_orders.proofs.Names.{some_number}

in_left : {X : Type 0} (x : X) (xs ys : List X) → IsIn x xs → IsIn x (xs ++ ys)
in_left x [] ys is = absurd is
in_left x (y ∷ xs) ys (inl e) = inl e
in_left x (y ∷ xs) ys (inr is) = inr (in_left x xs ys is)

in_last : {X : Type 0} (x : X) (xs : List X) → IsIn x (xs ++ x ∷ [])
in_last x [] = inl refl
in_last x (y ∷ xs) = inr (in_last x xs)

-- ---- what was told stays told

clash_keeps : (f : Found) (r : Reading) (place : Place) (name : Option Name) → IsIn f r.found → IsIn f (with_clash r place name).found
clash_keeps f r place None is = is
clash_keeps f r place (Some name) is = in_left f r.found (found NameClash place name ∷ []) is

by_clashing : (f : Found) (b : Bool) (r : Reading) (place : Place) (name : Option Name) → IsIn f r.found → IsIn f (if b then r else with_clash r place name).found
by_clashing f true r place name is = is
by_clashing f false r place name is = clash_keeps f r place name is

rows_keep : (f : Found) (forms : List ModuleForm) (place : Place) (u : UseClause) (options : List UseOption) (modules : NamedList ℕ) (r : Reading) → IsIn f r.found → IsIn f (after_rows forms place u options modules r).found
rows_keep f forms place u options modules r is =
    let pairs = brought_modules u modules in
    let imports = with_imports pairs r in
    in_left f (told_clash forms place pairs imports).found (not_exported place u (names_of modules) options)
    (by_clashing f imports.is_clashing imports place (least_name (clashing_list forms imports.imported pairs)) is)

modules_keep : (f : Found) (forms : List ModuleForm) (place : Place) (library : ℕ) (options : List UseOption) (modules : Option (NamedList ℕ)) (r : Reading) → IsIn f r.found → IsIn f (after_modules forms place library options modules r).found
modules_keep f forms place library options None r is = is
modules_keep f forms place library options (Some modules) r is = rows_keep f forms place (use_clause library options) options modules r is

library_keeps : (f : Found) (forms : List ModuleForm) (libraries : List (NamedList ℕ)) (place : Place) (name : Name) (options : List UseOption) (at : Option ℕ) (r : Reading) → IsIn f r.found
    → IsIn f (after_library forms libraries place name options at r).found
library_keeps f forms libraries place name options None r is = in_left f r.found (found UnknownLibrary place name ∷ []) is
library_keeps f forms libraries place name options (Some library) r is = modules_keep f forms place library options (slice_get libraries library) r is

clause_keeps : (f : Found) (used : List Exports) (libraries : List (NamedList ℕ)) (forms : List ModuleForm) (place : Place) (clause : Clause) (r : Reading) → IsIn f r.found
    → IsIn f (after_clause used libraries forms place clause r).found
clause_keeps f used libraries forms place (clauses.Use name options) r is = library_keeps f forms libraries place name options (place_of used name) r is
clause_keeps f used libraries forms place (clauses.Export names) r is = is
clause_keeps f used libraries forms place (clauses.Create names) r is = is

clauses_keep : (f : Found) (used : List Exports) (libraries : List (NamedList ℕ)) (forms : List ModuleForm) (list : List Placed) (r : Reading) → IsIn f r.found → IsIn f (after_clauses used libraries forms list r).found
clauses_keep f used libraries forms [] r is = is
clauses_keep f used libraries forms (clause ∷ rest) r is =
    clauses_keep f used libraries forms rest (after_clause used libraries forms clause.place clause.clause r) (clause_keeps f used libraries forms clause.place clause.clause r is)

-- ---- a library that is not known is told

abbrev IsPlaced : List Exports → Name → Type 0
IsPlaced used name = (place : ℕ) × (place_of used name ≡ Some place)

module _ (used : List Exports) (libraries : List (NamedList ℕ)) (forms : List ModuleForm) where
  all_placed : (list : List Placed) (r : Reading) → ((f : Found) → IsIn f (after_clauses used libraries forms list r).found → ⊥) → AllByRecursion (IsPlaced used) (used_names list)
  all_placed [] r none = tt
  all_placed (clause ∷ rest) r none = go (λ before lacks. all_placed rest before lacks) clause.clause none
    where
      by : ((before : Reading) → ((f : Found) → IsIn f (after_clauses used libraries forms rest before).found → ⊥) → AllByRecursion (IsPlaced used) (used_names rest))
          → (place : Place) (name : Name) (options : List UseOption) (o : Option ℕ) → place_of used name ≡ o
          → ((f : Found) → IsIn f (after_clauses used libraries forms rest (after_library forms libraries place name options o r)).found → ⊥)
          → IsPlaced used name × AllByRecursion (IsPlaced used) (used_names rest)
      by more place name options None e lacks =
          absurd (lacks (found UnknownLibrary place name) (clauses_keep (found UnknownLibrary place name) used libraries forms rest (after_library forms libraries place name options None r) (in_last (found UnknownLibrary place name) r.found)))
      by more place name options (Some k) e lacks = ((k, e), more (after_library forms libraries place name options (Some k) r) lacks)

      go : ((before : Reading) → ((f : Found) → IsIn f (after_clauses used libraries forms rest before).found → ⊥) → AllByRecursion (IsPlaced used) (used_names rest))
          → (of : Clause) → ((f : Found) → IsIn f (after_clauses used libraries forms rest (after_clause used libraries forms clause.place of r)).found → ⊥)
          → AllByRecursion (IsPlaced used) (used_by_clause of ++ used_names rest)
      go more (clauses.Use name options) lacks = by more clause.place name options (place_of used name) refl lacks
      go more (clauses.Export names) lacks = more r lacks
      go more (clauses.Create names) lacks = more r lacks

by_forms : (g : Given) (table : Graph) (forms : List Form) → Gives g forms table → AllByRecursion (IsPlaced g.used) (used_names (clauses_in (first_form forms)))
by_forms g table [] gives = absurd gives
by_forms g table (form ∷ forms) gives = all_placed g.used (numbers g) (begun g) form.clauses nothing_read (λ f is. gives.0 f (in_library f is))

-- ---- so it was compiled

module _ (compiled : Compiled) (order used : List ℕ) (there : AreThere compiled used) where
  placed_there : (name : Name) → IsPlaced (map (exports_in compiled order) used) name → (u : ℕ) × (number_of compiled.exports name ≡ Some u)
  placed_there name (place, e) =
      let all = map (exports_in compiled order) used in
      let (within, is) = found_at (is_library name) no_exports place all (sym (position_from-zero (is_library name) all) ∙ e) in
      let long = length-map used (exports_in compiled order) in
      let inside : place < length used = omega (arith, long, within) in
      let one = get_or-map (exports_in compiled order) used place 0 no_exports inside in
      some_number compiled.exports name (get_or used place 0) (All-get_or (λ number. number < length compiled.exports) used place 0 inside there)
      (subst (λ (exports : Exports). bytes_eq exports.library name ≡ true) one is)

  all_there : (names : List Name) → AllByRecursion (IsPlaced (map (exports_in compiled order) used)) names → AllByRecursion (λ name. (u : ℕ) × (number_of compiled.exports name ≡ Some u)) names
  all_there [] all = tt
  all_there (name ∷ names) all = (placed_there name all.0, all_there names all.1)

pub known : (library : Name) (headers : List Name) (compiled : Compiled) (forms : List Form) (table : Graph) → AreThere compiled (uses_of compiled forms)
    → Gives (given library headers forms (used_by compiled forms)) (libraries forms) table
    → AllByRecursion (λ name. (u : ℕ) × (number_of compiled.exports name ≡ Some u)) (used_names (clauses_of forms))
known library headers compiled forms table there gives =
    all_there compiled (order_by compiled forms) (uses_of compiled forms) there (used_names (clauses_of forms))
    (by_forms (given library headers forms (used_by compiled forms)) table (libraries forms) gives)

-- What a library that exports all its rows exports is there where it stands.
use Rattle.std.proofs.Common.{◌≡◌, ℕ, ◌+◌, ◌<◌, List, [], ◌∷◌, length, map, codes, Some, refl, sym, subst, arith}
use Rattle.std.specs.Str.{bytes_eq}
use Rattle.std.specs.FinMap.{entries}
use Rattle.std.proofs.lemmas.List.{length-map}
use Rattle.indexmap.specs.IndexMap.{insert_entry}
use Rattle.dy_base.specs.Tables.{NamedList, table_of}
use Rattle.dy_base.specs.declared.ids.BindingId.{BindingId}
use Rattle.dy_base.specs.declared.ids.What.{What}
use Rattle.dy_base.specs.declared.ids.What.TheVariants as whats
use Rattle.dy_term.specs.declared.rows.ClassRow.{ClassRow}
use Rattle.dy_term.specs.declared.rows.GenericRow.{GenericRow}
use Rattle.dy_term.specs.declared.rows.VariableRow.{VariableRow}
use Rattle.dy_term.specs.declared.rows.LibraryRow.{LibraryRow}
use Rattle.dy_prims.specs.Rows.{dylan_row, io_row}
use Rattle.dy_built_in_exports.specs.Names.{row_id, with_rows, names_of, folded_rows}
use Rattle.dy_called_generics.specs.Views.{IsGenericAt}
use Rattle.dy_called_generics.proofs.Views.{row_at}
use Rattle.dy_module_generics.specs.Behind.{IsThere, ExportsAreThere, BuiltInAreThere}
use Rattle.dy_module_generics.specs.Called.{dylan_exports, io_exports}
use Rattle.dy_module_generics.proofs.Lists.{Rows, inserted, sorted, rows_mapped}

-- A generic function that such a library exports is a row of it.
abbrev IsRowOf : ℕ → LibraryRow → BindingId → Type 0
IsRowOf number library id = id.what ≡ whats.Generic → (id.at.library ≡ number) × (id.at.row < length library.generics)

module _ (number : ℕ) (library : LibraryRow) where
  listed : (what : What) (row : ℕ) (names : List (List ℕ)) (list : NamedList BindingId) → ((next : ℕ) → next < row + length names → IsRowOf number library (row_id number what next))
      → Rows (IsRowOf number library) list → Rows (IsRowOf number library) (with_rows number what row names list)
  listed what row [] list each all = all
  listed what row (name ∷ names) list each all =
      listed what (row + 1) names (insert_entry bytes_eq list name (row_id number what row)) (λ next low. each next (omega (arith, low)))
      (inserted (IsRowOf number library) list name (row_id number what row) (each row (omega arith)) all)

  all_named : Rows (IsRowOf number library) (names_of number library)
  all_named =
      let class_names = map (λ (r : ClassRow). r.name) library.classes in
      let generic_names = map (λ (r : GenericRow). r.name) library.generics in
      let function_names = map (λ (r : VariableRow). r.name) library.variables in
      let many = length-map library.generics (λ (r : GenericRow). r.name) in
      let with_classes = with_rows number whats.Class 0 class_names [] in
      let with_generics = with_rows number whats.Generic 0 generic_names with_classes in
      listed whats.Function 0 function_names with_generics (λ next low is. absurd cc)
      (listed whats.Generic 0 generic_names with_classes (λ next low is. (refl, omega (arith, low, many)))
      (listed whats.Class 0 class_names [] (λ next low is. absurd cc) tt))

  all_folded : (list : NamedList BindingId) → Rows (IsRowOf number library) list → Rows (IsRowOf number library) (folded_rows (map Some list))
  all_folded [] all = tt
  all_folded (row ∷ list) all = (all.0, all_folded list all.1)

  exported : Rows (IsRowOf number library) (folded_rows (map Some (entries (table_of (names_of number library)))))
  exported = all_folded (entries (table_of (names_of number library))) (sorted (IsRowOf number library) (names_of number library) all_named)

pub built_in_are_there : BuiltInAreThere
built_in_are_there libraries number name exports row other at many =
    let names = folded_rows (map Some (entries (table_of (names_of number row)))) in
    (((rows_mapped (IsRowOf number row) (IsThere libraries) there names (exported number row), tt), tt), tt)
  where
    there : (id : BindingId) → IsRowOf number row id → IsThere libraries id
    there id h is =
        let low = (h is).1 in
        subst (λ (place : ℕ). IsGenericAt libraries place id.at.row) (sym (h is).0) (row_at libraries number id.at.row other at (omega (arith, low, many)))

-- So it is with `dylan` and `io`, in front of all others.
pub dylan_is_there : (more : List LibraryRow) → ExportsAreThere (dylan_row ∷ more) (dylan_exports ∷ [])
dylan_is_there more = built_in_are_there (dylan_row ∷ more) 0 (codes "dylan") (codes "dylan") dylan_row dylan_row refl refl

pub io_is_there : (more : List LibraryRow) → ExportsAreThere (dylan_row ∷ io_row ∷ more) (io_exports ∷ [])
io_is_there more = built_in_are_there (dylan_row ∷ io_row ∷ more) 1 (codes "io") (codes "format-out") io_row io_row refl refl

pub both_are_there : (more : List LibraryRow) → ExportsAreThere (dylan_row ∷ io_row ∷ more) (dylan_exports ∷ io_exports ∷ [])
both_are_there more = ((dylan_is_there (io_row ∷ more)).0, io_is_there more)

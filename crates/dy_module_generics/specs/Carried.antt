-- What a library exports, by the numbers of its own view, in the view of a library that uses it:
-- each library of the one view stands at a place in the other.
use Rattle.std.specs.Prelude.{◌≡◌, ℕ, List, length, map, slice_get, Some}
use Rattle.dy_base.specs.Tables.{NamedList}
use Rattle.dy_base.specs.declared.exports.Exports.{Exports}
use Rattle.dy_base.specs.declared.ids.BindingId.{BindingId}
use Rattle.dy_term.specs.declared.rows.LibraryRow.{LibraryRow}
use Rattle.dy_modules.specs.Clauses.{Name}
use Rattle.dy_lowered.specs.Linking.{linked_name}
use Rattle.dy_module_generics.specs.Behind.{ExportsAreThere}

module _ (places : ℕ → ℕ) where
  -- each library of a view stands at its place in another, with as many generic functions
  abbrev pub StandAt : (view libraries : List LibraryRow) → Type 0
  StandAt view libraries = (number : ℕ) (library : LibraryRow)
      → slice_get view number ≡ Some library → (other : LibraryRow)
      × (slice_get libraries (places number) ≡ Some other)
      × (length other.generics ≡ length library.generics)

  abbrev pub carried_names : NamedList BindingId → NamedList BindingId
  carried_names names = map (λ name. (name.0, linked_name places name.1)) names

  abbrev pub carried_modules : List (Name × NamedList BindingId)
      → List (Name × NamedList BindingId)
  carried_modules modules = map (λ m. (m.0, carried_names m.1)) modules

  abbrev pub carried : Exports → Exports
  carried exports = record {
    library = exports.library;
    modules = carried_modules exports.modules;
    seen = carried_modules exports.seen;
  }

-- What is there in the one view is there in the other.
abbrev pub ExportsAreCarried : Type 0
ExportsAreCarried = (places : ℕ → ℕ) (view libraries : List LibraryRow) (used : List Exports)
    → StandAt places view libraries → ExportsAreThere view used
    → ExportsAreThere libraries (map (carried places) used)

-- What holds of views and of places between them.
use Rattle.std.specs.Prelude.{◌≡◌, ◌<◌, ℕ, nat_eq, List, [], length, All, Contains, EachIndex}
use Rattle.std.specs.Prelude.{slice_index_or}
use Rattle.std.specs.List.{IsDistinct}
use Rattle.dy_base.specs.declared.exports.Exports.{Exports}
use Rattle.dy_module_forms.specs.declared.written.Placed.{Placed}
use Rattle.dy_load_order.specs.LoadOrder.{place_in}
use Rattle.dy_views.specs.declared.compiled.Compiled.{Compiled}
use Rattle.dy_views.specs.Views.{used_numbers, places_by, new_place, linked_exports, no_exports}
use Rattle.dy_views.specs.Views.{exports_in, order_of, AreCompiled, AreThere}

-- no library is used twice
abbrev pub UsedAreOnce : Type 0
UsedAreOnce = (compiled : List Exports) (clauses : List Placed)
    → IsDistinct nat_eq (used_numbers compiled clauses)

-- the view of a library that was compiled
abbrev pub view_at : Compiled → ℕ → List ℕ
view_at compiled library = slice_index_or compiled.orders library []

-- The place in a view of the library that has this one in another view.
abbrev pub place_between : (view other : List ℕ) → ℕ → ℕ
place_between view other place = new_place (places_by (place_in view) other) place

-- all that a used library sees its user sees too
abbrev pub ViewsAreParts : Type 0
ViewsAreParts = (compiled : Compiled) (used : List ℕ) (library : ℕ) → AreCompiled compiled
    → AreThere compiled used → Contains used library
    → All (Contains (order_of compiled used)) (view_at compiled library)

-- The place in a view of the library that has this one in another view is one of the view, and the
-- same library has it.
abbrev pub IsKept : (view other : List ℕ) → ℕ → Type 0
IsKept view other place = (place_between view other place < length view)
    × (slice_index_or view (place_between view other place) 0 ≡ slice_index_or other place 0)

-- no place of a library that is used is lost
abbrev pub PlacesAreKept : Type 0
PlacesAreKept = (compiled : Compiled) (used : List ℕ) (library : ℕ) → AreCompiled compiled
    → AreThere compiled used → Contains used library
    → EachIndex (view_at compiled library) (λ place.
    IsKept (order_of compiled used) (view_at compiled library) place)

-- no two become one
abbrev pub PlacesStayApart : Type 0
PlacesStayApart = (compiled : Compiled) (used : List ℕ) (library : ℕ) → AreCompiled compiled
    → AreThere compiled used → Contains used library → (one two : ℕ)
    → one < length (view_at compiled library) → two < length (view_at compiled library)
    → place_between (order_of compiled used) (view_at compiled library) one
    ≡ place_between (order_of compiled used) (view_at compiled library) two → one ≡ two

-- dylan stays first
abbrev pub DylanStaysFirst : Type 0
DylanStaysFirst = (compiled : Compiled) (used : List ℕ) (library : ℕ) → AreCompiled compiled
    → AreThere compiled used → Contains used library
    → place_between (order_of compiled used) (view_at compiled library) 0 ≡ 0

-- what is exported, where owners of names have the numbers of their libraries, in place of these
-- libraries' places in a view
abbrev pub by_numbers : List ℕ → Exports → Exports
by_numbers view exports = linked_exports (new_place view) exports

-- By these numbers a library exports to its user what it exports.
abbrev pub ExportsStay : Type 0
ExportsStay = (compiled : Compiled) (used : List ℕ) (library : ℕ) → AreCompiled compiled
    → AreThere compiled used → Contains used library
    → by_numbers (order_of compiled used) (exports_in compiled (order_of compiled used) library)
    ≡ by_numbers (view_at compiled library)
    (slice_index_or compiled.exports library no_exports)

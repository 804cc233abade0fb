-- The places of libraries: of each in a program by its name, and of those of one view.
use Rattle.std.specs.Prelude.{◌≡◌, ℕ, List, position, slice_get, unwrap_or}
use Rattle.std.specs.FinMap.{get}
use Rattle.std.specs.Str.{bytes_eq}
use Rattle.dy_base.specs.Tables.{NameMap}
use Rattle.dy_values.specs.Stores.{name_at}
use Rattle.dy_term.specs.declared.rows.LibraryRow.{LibraryRow}
use Rattle.dy_code.specs.declared.unit.Unit.{Unit as CodeUnit}
use Rattle.dy_code.specs.declared.unit.UnitCode.{UnitCode}
use Rattle.dy_lowered.specs.Linking.{view_of, linked_code}
use Rattle.dy_lowered.specs.Units.{bare_row}
use Rattle.dy_linked_rows.specs.Rows.{linked_library}
use Rattle.dy_join.specs.declared.places.Names.{Names}
use Rattle.dy_join.specs.declared.places.Places.{Places}

-- A table has the first place of each of these names, and of no other one.
abbrev pub HoldsPlaces : NameMap ℕ → List (List ℕ) → Type 0
HoldsPlaces table names = (name : List ℕ) → get table name ≡ position (bytes_eq name) names

-- the place in a program of a name, which is behind the last where it is of no unit
abbrev pub place_by : Names → List ℕ → ℕ
place_by names name = unwrap_or (get names.places name) names.count

-- the place in a program of the library at this place of a view
abbrev pub placed : Places → ℕ → ℕ
placed places library = unwrap_or (slice_get places.of_view library) places.elsewhere

-- where the libraries of a unit's view are in a program where names have these places
abbrev pub places_by : (place : List ℕ → ℕ) → CodeUnit → ℕ → ℕ
places_by place unit library = place (name_at (view_of unit) library)

-- the code and the rows of a unit there
abbrev pub joined : (place : List ℕ → ℕ) → CodeUnit → UnitCode
joined place unit = linked_code (places_by place unit) unit.code

abbrev pub joined_row : (place : List ℕ → ℕ) → CodeUnit → LibraryRow
joined_row place unit = linked_library (places_by place unit) (bare_row unit.row)

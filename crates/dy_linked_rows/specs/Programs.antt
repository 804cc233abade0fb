-- The program of libraries, each of which was read and lowered in a view of its own.
use Rattle.std.specs.Prelude.{◌≡◌, ℕ, List, map}
use Rattle.dy_term.specs.declared.rows.LibraryRow.{LibraryRow}
use Rattle.dy_term.specs.declared.rows.Program.{Program}
use Rattle.dy_code.specs.declared.unit.Library.{Library}
use Rattle.dy_code.specs.declared.unit.Unit.{Unit as CodeUnit}
use Rattle.dy_code.specs.Validity.{Every}
use Rattle.dy_lowered.specs.Linking.{view_of, place_of, linked}
use Rattle.dy_lowered.specs.Units.{lowered_unit}
use Rattle.dy_lowering_law.specs.Machines.{linked_program}
use Rattle.dy_linked_rows.specs.Rows.{linked_library}
use Rattle.dy_linked_rows.specs.Mentioned.{mentioned}
use Rattle.dy_linked_rows.specs.Laws.{KeepsApart}

-- a library with the rows of its view
pub record Viewed : Type 0 where
  pub view : Program
  pub library : Library

abbrev pub unit_of : Viewed → CodeUnit
unit_of viewed = lowered_unit viewed.view viewed.library

-- Libraries in load order, by their names.
module _ (libraries : List Viewed) where
  abbrev pub units : List CodeUnit
  units = map unit_of libraries

  -- where the libraries of its view stand in the program
  abbrev pub places_of : Viewed → ℕ → ℕ
  places_of viewed = place_of (view_of (unit_of viewed)) (map (λ unit. unit.name) units)

  abbrev pub row_in_program : Viewed → LibraryRow
  row_in_program viewed = linked_library (places_of viewed) viewed.library.row

  abbrev pub program_of : Program
  program_of = record { libraries = map row_in_program libraries }

  -- No two libraries that the code of one mentions come together.
  abbrev pub AreApart : Type 0
  AreApart = Every (λ viewed. KeepsApart (places_of viewed) (mentioned viewed.library.row)) libraries

-- The code of the program is that of the units, joined.
abbrev pub ProgramsAreJoined : Type 0
ProgramsAreJoined = (libraries : List Viewed) → AreApart libraries
    → linked_program (program_of libraries) ≡ linked (program_of libraries) (units libraries)

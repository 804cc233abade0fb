-- The program of units that are joined. It has their rows, which hold no terms.
use Rattle.std.specs.Prelude.{List, map}
use Rattle.dy_term.specs.declared.rows.LibraryRow.{LibraryRow}
use Rattle.dy_term.specs.declared.rows.Program.{Program}
use Rattle.dy_code.specs.declared.unit.Unit.{Unit as CodeUnit}
use Rattle.dy_lowered.specs.Linking.{view_of, place_of}
use Rattle.dy_lowered.specs.Units.{bare_row}
use Rattle.dy_linked_rows.specs.Rows.{linked_library}

-- Units in load order, by their names.
module _ (units : List CodeUnit) where
  -- the rows of a unit, where the libraries of its view are at their places among these units
  abbrev pub row_in_program : CodeUnit → LibraryRow
  row_in_program unit =
      linked_library (place_of (view_of unit) (map (λ other. other.name) units)) (bare_row unit.row)

  abbrev pub joined_program : Program
  joined_program = record { libraries = map row_in_program units }

-- The names and orders of classes, in rows without terms.
use Rattle.std.proofs.Common.{◌≡◌, ℕ, Option, Some, None, slice_get, refl, ap, ◌∙◌}
use Rattle.std.specs.Option.{option_map}
use Rattle.std.proofs.lemmas.Option.{slice_get-map}
use Rattle.dy_base.specs.declared.ids.ClassId.{ClassId}
use Rattle.dy_term.specs.declared.rows.ClassRow.{ClassRow}
use Rattle.dy_term.specs.declared.rows.LibraryRow.{LibraryRow}
use Rattle.dy_term.specs.declared.rows.Program.{Program}
use Rattle.dy_types.specs.Classes.{order_in, row_in, order_of}
use Rattle.dy_values.specs.Classes.{name_in, class_name}
use Rattle.dy_lowered.specs.Units.{bare_class, bare_row}
use Rattle.dy_bare_machines.specs.Machines.{bare_program}

row_in_library : (row : ℕ) (library : Option LibraryRow) → row_in row (option_map bare_row library) ≡ option_map bare_class (row_in row library)
row_in_library row None = refl
row_in_library row (Some library) = slice_get-map bare_class library.classes row

name_in_row : (row : Option ClassRow) → name_in (option_map bare_class row) ≡ name_in row
name_in_row None = refl
name_in_row (Some row) = refl

order_in_row : (row : Option ClassRow) → order_in (option_map bare_class row) ≡ order_in row
order_in_row None = refl
order_in_row (Some row) = refl

module _ (program : Program) where
  row_bare : (class : ClassId) → row_in class.0.row (slice_get (bare_program program).libraries class.0.library) ≡ option_map bare_class (row_in class.0.row (slice_get program.libraries class.0.library))
  row_bare class =
      ap (row_in class.0.row) (slice_get-map bare_row program.libraries class.0.library) ∙ row_in_library class.0.row (slice_get program.libraries class.0.library)

  pub class_name_same : (class : ClassId) → class_name (bare_program program) class ≡ class_name program class
  class_name_same class = ap name_in (row_bare class) ∙ name_in_row (row_in class.0.row (slice_get program.libraries class.0.library))

  pub order_same : (class : ClassId) → order_of (bare_program program) class ≡ order_of program class
  order_same class = ap order_in (row_bare class) ∙ order_in_row (row_in class.0.row (slice_get program.libraries class.0.library))

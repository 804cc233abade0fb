-- What the code of a library does.
use Rattle.std.specs.Prelude.{◌≡◌, ℕ, slice_get}
use Rattle.std.specs.declared.option.Option.TheVariants.{Some}
use Rattle.dy_term.specs.declared.rows.LibraryRow.{LibraryRow}
use Rattle.dy_term.specs.declared.rows.Program.{Program}
use Rattle.dy_code.specs.declared.unit.UnitCode.{UnitCode}
use Rattle.dy_lowering_law.specs.Machines.{linked_program}
use Rattle.dy_lowering_law.specs.Behaving.{Behaves}
use Rattle.dy_lowering_whole.specs.valid.Scoped.{IsScoped}
use Rattle.dy_lowering_whole.specs.Lowered.{IsLowered}

-- In each program that the library stands in, as far as programs are lowered yet, this is its code;
-- and with every fuel the machine on the program's code does what the program means.
abbrev pub DoesAsMeant : LibraryRow → UnitCode → Type 0
DoesAsMeant row code = (program : Program) (place fuel : ℕ)
    → slice_get program.libraries place ≡ Some row → IsScoped program → IsLowered program
    → (slice_get (linked_program program).code place ≡ Some code) × Behaves program fuel

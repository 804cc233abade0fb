-- Meeting, told by what lies below both.
use Rattle.std.specs.Prelude.{◌≡◌, ◌⊎◌, slice_get, IsSome}
use Rattle.dy_term.specs.declared.types.Member.{Member}
use Rattle.dy_term.specs.declared.types.Member.TheVariants.{Class, Single}
use Rattle.dy_term.specs.declared.rows.Program.{Program}
use Rattle.dy_types.specs.Classes.{row_in}
use Rattle.dy_types.specs.Members.{IsBelow}

-- a class of the program, or a single value
abbrev pub IsThere : Program → Member → Type 0
IsThere program (Class class) =
    IsSome (row_in class.0.row (slice_get program.libraries class.0.library))
IsThere program (Single value) = Unit {0}
IsThere program member = ⊥

-- some class of the program or some single value, or one of the two, lies below both
abbrev pub HaveCommon : Program → Member → Member → Type 0
HaveCommon program member other =
    (common : Member) × (((common ≡ member) ⊎ (common ≡ other)) ⊎ IsThere program common)
    × IsBelow program common member × IsBelow program common other

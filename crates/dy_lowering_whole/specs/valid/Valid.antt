-- The law of programs: those whose terms are in scope may run, as those that are lowered yet.
use Rattle.std.specs.Prelude.{◌≡◌, ℕ, ◌+◌, slice_get, IsSome, true}
use Rattle.std.specs.declared.option.Option.TheVariants.{Some}
use Rattle.dy_term.specs.declared.rows.LibraryRow.{LibraryRow}
use Rattle.dy_term.specs.declared.rows.Program.{Program}
use Rattle.dy_code.specs.declared.unit.Linked.{Linked}
use Rattle.dy_code.specs.Fetching.{Instruction, Search}
use Rattle.dy_code.specs.Programs.{generic_row}
use Rattle.dy_code.specs.Validity.{Every, IsValid}
use Rattle.dy_lowered.specs.Bodies.{FlatBody, bodies_of}
use Rattle.dy_lowered.specs.Flat.{Flat, Plain}
use Rattle.dy_lowering_law.specs.Following.{Holds}
use Rattle.dy_lowering_law.specs.Machines.{linked_program}
use Rattle.dy_lowering_law.specs.Ready.{IsReady}
use Rattle.dy_lowering_whole.specs.valid.Scoped.{is_library_scoped, IsScoped}
use Rattle.dy_lowering_whole.specs.valid.Writing.{FlatFits, bodies_before}

-- a generic function that is searched is there
abbrev pub IsFound : Linked → Instruction → Type 0
IsFound linked (Search generic count) = IsSome (generic_row linked generic)
IsFound linked instruction = Unit {0}

abbrev pub FlatFound : Linked → Flat → Type 0
FlatFound linked (Plain instruction) = IsFound linked instruction
FlatFound linked flat = Unit {0}

-- each generic function that the code of a program calls is a row of the program
abbrev pub GenericsAreThere : Program → Type 0
GenericsAreThere program = (place : ℕ) (library : LibraryRow)
    → slice_get program.libraries place ≡ Some library
    → Every (λ body. Every (FlatFound (linked_program program)) body.code) (bodies_of library)

abbrev pub ReadyProgramsMayRun : Type 0
ReadyProgramsMayRun = (program : Program) → IsReady program → GenericsAreThere program
    → IsValid (linked_program program)

abbrev pub ScopedProgramsMayRun : Type 0
ScopedProgramsMayRun = (program : Program) → IsScoped program → GenericsAreThere program
    → IsValid (linked_program program)

-- what the instructions of each body name is there
abbrev pub ScopedBodiesFit : Type 0
ScopedBodiesFit = (library : LibraryRow) → is_library_scoped library ≡ true
    → Every (λ body. Every (FlatFits (bodies_of library) body.locals body.captures) body.code)
    (bodies_of library)

-- So what is fetched from each body of a program in scope is what was placed there.
abbrev pub ScopedBodiesHold : Type 0
ScopedBodiesHold = (program : Program) → IsScoped program
    → (place : ℕ) (library : LibraryRow) → slice_get program.libraries place ≡ Some library
    → (body : ℕ) (flat : FlatBody) → slice_get (bodies_of library) body ≡ Some flat
    → Holds (linked_program program) (bodies_before program place)
    (bodies_before program place + body) 0 flat.code

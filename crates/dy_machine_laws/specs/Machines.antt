-- What is built in, as the machine of a program has it.
use Rattle.std.specs.Prelude.{ℕ}
use Rattle.dy_term.specs.declared.rows.Program.{Program}
use Rattle.dy_code.specs.Validity.{IsValid}
use Rattle.dy_steps.specs.Standing.{IsOrderly, IsThrifty, EndsInTime}
use Rattle.dy_lowering_law.specs.Machines.{linked_program, machine_of}

-- It fits the program.
abbrev pub MachinesAreOrderly : Type 0
MachinesAreOrderly = (program : Program) → IsOrderly (machine_of program)

-- It adds no units.
abbrev pub MachinesAreThrifty : Type 0
MachinesAreThrifty = (program : Program) → IsThrifty (machine_of program)

-- So each run of a program whose code may run ends, within one step more than a stretch for each
-- form and for each unit.
abbrev pub ValidProgramsEnd : Type 0
ValidProgramsEnd = (program : Program) (fuel : ℕ) → IsValid (linked_program program)
    → EndsInTime (machine_of program) fuel

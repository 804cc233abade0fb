-- In the program of an own library the generic functions that code calls are there; and what
-- follows: its code may run, and each run of it ends in time.
use Rattle.std.specs.Prelude.{ℕ, List}
use Rattle.dy_code.specs.Validity.{IsValid}
use Rattle.dy_steps.specs.Standing.{EndsInTime}
use Rattle.dy_lowering_law.specs.Machines.{linked_program, machine_of}
use Rattle.dy_lowering_whole.specs.valid.Scoped.{IsScoped}
use Rattle.dy_lowering_whole.specs.valid.Valid.{GenericsAreThere}
use Rattle.dy_library_rows.specs.Libraries.{Form}
use Rattle.dy_assembly.specs.Libraries.{own_library, program_with}

-- Each generic function that the code of a library calls is a row, whatever its forms are.
abbrev pub OwnGenericsAreThere : Type 0
OwnGenericsAreThere = (name : List ℕ) (forms : List Form)
    → GenericsAreThere (program_with (own_library name forms))

-- So the code of its program may run, where its terms are in scope.
abbrev pub OwnProgramsMayRun : Type 0
OwnProgramsMayRun = (name : List ℕ) (forms : List Form)
    → IsScoped (program_with (own_library name forms))
    → IsValid (linked_program (program_with (own_library name forms)))

-- So each run ends, within one step more than a stretch for each form and for each unit.
abbrev pub OwnProgramsEnd : Type 0
OwnProgramsEnd = (name : List ℕ) (forms : List Form) (fuel : ℕ)
    → IsScoped (program_with (own_library name forms))
    → EndsInTime (machine_of (program_with (own_library name forms))) fuel

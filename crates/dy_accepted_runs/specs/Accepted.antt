-- What holds of the programs of libraries that are accepted, each behind those in front of it.
use Rattle.std.specs.Prelude.{◌≡◌, ℕ, ◌<◌, List, length}
use Rattle.dy_term.specs.declared.rows.Program.{Program}
use Rattle.dy_code.specs.Validity.{IsValid}
use Rattle.dy_steps.specs.Standing.{NeverStuck, EndsInTime}
use Rattle.dy_lowering_law.specs.Behaving.{Behaves}
use Rattle.dy_lowering_law.specs.Machines.{linked_program, machine_of}
use Rattle.dy_lowering_whole.specs.valid.Scoped.{IsScoped}
use Rattle.dy_lowering_whole.specs.Lowered.{IsLowered}
use Rattle.dy_library_rows.specs.Libraries.{Form}
use Rattle.dy_assembly.specs.declared.library.Heading.{Heading}
use Rattle.dy_module_tables.specs.Graphs.{Graph}
use Rattle.dy_library_names.specs.Named.{Reading, library_from}
use Rattle.dy_views.specs.declared.compiled.Compiled.{Compiled}
use Rattle.dy_verdict.specs.declared.library.ReadLibrary.{ReadLibrary}
use Rattle.dy_verdict.specs.Verdicts.{accepted, IsVerdict}
use Rattle.dy_libraries.specs.declared.libraries.Libraries.{Libraries}
use Rattle.dy_libraries.specs.Programs.{name_at, libraries_of}
use Rattle.dy_sources.specs.Libraries.{AreAccepted}
use Rattle.dy_running.specs.Runs.{program_of, AreApart}

-- A library that files were judged to be is that of forms whose names mean what is read of them in
-- a table of modules.
abbrev pub AcceptedAreNamed : Type 0
AcceptedAreNamed = (compiled : Compiled) (library : List ℕ) (texts : List (List ℕ))
    (read : ReadLibrary) → IsVerdict compiled library texts (accepted read)
    → (heading : Heading) × (table : Graph) × (forms : List Form)
    × (reading : Reading table heading.number forms)
    × (read.row ≡ library_from heading reading.out forms)

-- No two libraries that are accepted one behind the other have one name.
abbrev pub AcceptedNamesAreApart : Type 0
AcceptedNamesAreApart = (libraries : Libraries) → AreAccepted libraries → (one other : ℕ)
    → one < length libraries.rows → other < length libraries.rows
    → name_at libraries.compiled one ≡ name_at libraries.compiled other → one ≡ other

-- the program of this main library
abbrev pub program_at : Libraries → ℕ → Program
program_at libraries main = program_of (libraries_of libraries main)

-- what holds of each main library among accepted ones
abbrev pub OfAccepted : (Libraries → ℕ → Type 0) → Type 0
OfAccepted Holds = (libraries : Libraries) (main : ℕ) → AreAccepted libraries
    → main < length libraries.rows → Holds libraries main

-- In its program no two libraries that the code of one mentions come together.
abbrev pub AcceptedAreApart : Type 0
AcceptedAreApart = OfAccepted (λ libraries main. AreApart (libraries_of libraries main))

-- The program is in scope and lowered.
abbrev pub AcceptedAreLowered : Type 0
AcceptedAreLowered = OfAccepted (λ libraries main.
    IsScoped (program_at libraries main) × IsLowered (program_at libraries main))

-- With every fuel its code behaves as the program.
abbrev pub AcceptedBehave : Type 0
AcceptedBehave = OfAccepted (λ libraries main. (fuel : ℕ)
    → Behaves (program_at libraries main) fuel)

-- The code of the program may run.
abbrev pub AcceptedMayRun : Type 0
AcceptedMayRun = OfAccepted (λ libraries main.
    IsValid (linked_program (program_at libraries main)))

-- So no run of it is ever stuck.
abbrev pub AcceptedRun : Type 0
AcceptedRun = OfAccepted (λ libraries main. NeverStuck (machine_of (program_at libraries main)))

-- Each run of it ends, within one step more than a stretch for each form and for each unit.
abbrev pub AcceptedEnd : Type 0
AcceptedEnd = OfAccepted (λ libraries main. (fuel : ℕ)
    → EndsInTime (machine_of (program_at libraries main)) fuel)

-- The programs of libraries that are accepted may run, and end.
use Rattle.std.proofs.Common.{◌≡◌, ℕ, ◌<◌, List, length, refl, sym, subst}
use Rattle.dy_steps.proofs.Never.{valid_code_runs}
use Rattle.dy_code.specs.Validity.{IsValid}
use Rattle.dy_lowering_law.specs.Machines.{linked_program, machine_of}
use Rattle.dy_lowering_whole.proofs.Programs.{lowered_programs_behave}
use Rattle.dy_lowering_whole.proofs.valid.Securing.{scoped_programs_may_run}
use Rattle.dy_machine_laws.proofs.Built.{machine_orderly, valid_programs_end}
use Rattle.dy_verdict.specs.declared.library.ReadLibrary.{ReadLibrary}
use Rattle.dy_libraries.specs.declared.libraries.Libraries.{Libraries}
use Rattle.dy_libraries.specs.Commands.{AreLibraries}
use Rattle.dy_sources.specs.Libraries.{with_read, AreAccepted, none_read, one_more}
use Rattle.dy_sources.proofs.Accepted.{accepted_are_libraries}
use Rattle.dy_accepted_runs.specs.Accepted.{AcceptedAreNamed, AcceptedNamesAreApart, AcceptedAreApart, AcceptedAreLowered, AcceptedBehave, AcceptedMayRun, AcceptedRun, AcceptedEnd, program_at}
use Rattle.dy_accepted_runs.proofs.Judged.{read_so}
use Rattle.dy_accepted_runs.proofs.Known.{AreKnown, one_more_known}
use Rattle.dy_accepted_runs.proofs.BuiltIn.{built_in_known}
use Rattle.dy_accepted_runs.proofs.Programs.{names_apart, apart, scoped, lowered, generics_there}

pub accepted_named : AcceptedAreNamed
accepted_named compiled library texts read judged =
    let so = read_so compiled library texts read judged in
    (so.heading, so.table, so.forms, so.reading, so.row)

accepted_known : (libraries : Libraries) → AreAccepted libraries → AreKnown libraries
accepted_known libraries none_read = built_in_known
accepted_known libraries (one_more before read are is) =
    one_more_known before read (accepted_are_libraries before are) (accepted_known before are) (read_so before.compiled is.library is.texts read is.judged)

pub accepted_names_apart : AcceptedNamesAreApart
accepted_names_apart libraries are = names_apart libraries (accepted_are_libraries libraries are) (accepted_known libraries are)

pub accepted_apart : AcceptedAreApart
accepted_apart libraries main are low = apart libraries (accepted_are_libraries libraries are) (accepted_known libraries are) main low

pub accepted_lowered : AcceptedAreLowered
accepted_lowered libraries main are low = (
  scoped libraries (accepted_are_libraries libraries are) (accepted_known libraries are) main low,
  lowered libraries (accepted_are_libraries libraries are) (accepted_known libraries are) main low,
)

pub accepted_behave : AcceptedBehave
accepted_behave libraries main are low fuel =
    let h = accepted_lowered libraries main are low in
    lowered_programs_behave (program_at libraries main) fuel h.0 h.1

pub accepted_may_run : AcceptedMayRun
accepted_may_run libraries main are low =
    scoped_programs_may_run (program_at libraries main) (accepted_lowered libraries main are low).0
    (generics_there libraries (accepted_are_libraries libraries are) (accepted_known libraries are) main low)

pub accepted_run : AcceptedRun
accepted_run libraries main are low =
    let program = program_at libraries main in
    valid_code_runs (machine_of program) (accepted_may_run libraries main are low) (machine_orderly program)

pub accepted_end : AcceptedEnd
accepted_end libraries main are low fuel = valid_programs_end (program_at libraries main) fuel (accepted_may_run libraries main are low)

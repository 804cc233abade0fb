-- What a command comes to whose LID files come to libraries.
use Rattle.std.proofs.Common.{◌≡◌, ◌<◌, ℕ, List, [], length, Option, Some, None, Result, Ok, Err, inl, inr, refl, sym, subst}
use Rattle.dy_io.specs.Files.{FileMap}
use Rattle.dy_meaning.specs.Programs.{program_meaning}
use Rattle.dy_lowering_whole.specs.valid.Scoped.{IsScoped}
use Rattle.dy_lowering_whole.specs.Lowered.{IsLowered}
use Rattle.dy_code.specs.declared.unit.Library.{Library}
use Rattle.dy_libraries.specs.declared.libraries.Libraries.{Libraries}
use Rattle.dy_libraries.specs.Commands.{built_in}
use Rattle.dy_running.specs.Runs.{program_of, AreApart}
use Rattle.dy_sources.specs.Libraries.{AreRead, AreAccepted}
use Rattle.dy_accepted_runs.proofs.Accepted.{accepted_apart, accepted_lowered}
use Rattle.dy_build.specs.Words.{Word, build, check}
use Rattle.dy_build.specs.Outcome.{Report, checked_report}
use Rattle.dy_build.specs.Command.{AreChecked, IsProgram, IsAcceptedProgram, Outputs, outputs, Sent, RunsAs, Completes, IsEnded, RunsAccepted}
use Rattle.dy_build.proofs.Fronts.{appends_nothing}
use Rattle.dy_build.proofs.Closings.{done_of, unfailed}

-- ---- programs that are run

-- the program of libraries that are accepted may run
pub program_apart : (main : Option Word) (program : List Library) → IsAcceptedProgram main program → AreApart program
program_apart main program (libraries, are, number, there, is, same) =
    subst AreApart (sym same) (accepted_apart libraries number are there)

pub program_lowered : (main : Option Word) (program : List Library) → IsAcceptedProgram main program → IsScoped (program_of program) × IsLowered (program_of program)
program_lowered main program (libraries, are, number, there, is, same) =
    subst (λ (p : List Library). IsScoped (program_of p) × IsLowered (program_of p)) (sym same) (accepted_lowered libraries number are there)

pub run_completes : (held : FileMap) (fuel : ℕ) (main : Option Word) (lids : List Word) (program : List Library) (result : ℕ) (ends : Outputs)
    → IsProgram (AreRead held built_in lids) main program → RunsAs (program_meaning (program_of program) fuel) result ends → Completes (build fuel main lids) held result ends
run_completes held fuel main lids program result ends (libraries, is, of_main) (report, reports, finishes) =
    inr (inr (Ok libraries, is, (report, inl (program, of_main, reports), finishes)))

pub run_accepted : (fuel : ℕ) (main : Option Word) (lids : List Word) (program : List Library) (result : ℕ) (ends : Outputs)
    → IsAcceptedProgram main program → RunsAs (program_meaning (program_of program) fuel) result ends → IsEnded result → RunsAccepted (build fuel main lids) result ends
run_accepted fuel main lids program result ends (libraries, are, number, there, is, same) (report, reports, finishes) ended =
    let fails = unfailed result ended in
    (libraries, are, report, inl (program, (number, is, same), reports), done_of report result ends finishes fails.0 fails.1)

-- ---- libraries that are checked

nothing_sent : (a b : Option (List ℕ)) → Sent checked_report (outputs a a b b)
nothing_sent a b = record { out = appends_nothing a; err = appends_nothing b }

pub check_completes : (held : FileMap) (lids : List Word) (a b : Option (List ℕ)) → AreChecked (AreRead held built_in lids) (Ok tt) → Completes (check lids) held 0 (outputs a a b b)
check_completes held lids a b (libraries, is) =
    inr (inr (Ok libraries, is, (checked_report, refl, inl (refl, nothing_sent a b))))

pub check_accepted : (lids : List Word) (a b : Option (List ℕ)) → RunsAccepted (check lids) 0 (outputs a a b b)
check_accepted lids a b = (refl, nothing_sent a b)

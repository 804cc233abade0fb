-- What a command comes to (own).
use Rattle.std.specs.Prelude.{◌≡◌, ◌⊎◌, ℕ, ◌-◌, List, [], ◌++◌, length, Option, Some, None}
use Rattle.std.specs.Prelude.{Result, Ok, Err}
use Rattle.std.specs.List.{concat}
use Rattle.dy_base.specs.Folding.{folded}
use Rattle.dy_io.specs.Files.{FileMap}
use Rattle.dy_outcome.specs.declared.state.State.{State}
use Rattle.dy_outcome.specs.States.{Outcome, Gave, Exits, Ended, Spent}
use Rattle.dy_meaning.specs.Programs.{program_meaning}
use Rattle.dy_code.specs.declared.unit.Library.{Library}
use Rattle.dy_views.specs.Views.{number_of}
use Rattle.dy_libraries.specs.declared.libraries.Libraries.{Libraries}
use Rattle.dy_libraries.specs.Commands.{built_in}
use Rattle.dy_libraries.specs.Programs.{libraries_of}
use Rattle.dy_running.specs.Runs.{program_of}
use Rattle.dy_sources.specs.declared.refused.Refused.{Refused}
use Rattle.dy_sources.specs.Refusals.{refusal_line, unknown_main}
use Rattle.dy_sources.specs.Libraries.{AreRead}
use Rattle.dy_build.specs.Words.{Word, Command, build, check, lids_of, command_of, usage_text}
use Rattle.dy_build.specs.Lines.{end_line, out_of_fuel_line}

-- the exit status, and what is sent to the output and to the error output
pub record Report : Type 0 where
  pub status : ℕ
  pub out : List ℕ
  pub err : List ℕ

-- what a run printed, its lines, and a last line
abbrev pub run_report : ℕ → State → List ℕ → Report
run_report status state last =
    record { status = status; out = concat state.pieces; err = concat state.lines ++ last }

-- what a program comes to that does this; no exit leads out of a program
abbrev pub Reports : Outcome → Report → Type 0
Reports (Gave values state) report = report ≡ run_report 0 state []
Reports (Exits number values state) report = ⊥
Reports (Ended line state) report = report ≡ run_report 1 state (end_line line)
Reports (Spent state) report = report ≡ run_report 7 state out_of_fuel_line

abbrev pub refused_report : Refused → Report
refused_report why = record { status = 2; out = []; err = refusal_line why }

abbrev pub usage_report : Report
usage_report = record { status = 3; out = []; err = usage_text }

-- nothing is wrong, and nothing is sent
abbrev pub checked_report : Report
checked_report = record { status = 0; out = []; err = [] }

-- ---- the main library

-- The number of the main library: that of the library of this name, which may be one that is built
-- in, or the last where there is no name.
abbrev pub main_of : Libraries → Option Word → Option ℕ
main_of libraries None = Some (length libraries.rows - 1)
main_of libraries (Some name) = number_of libraries.compiled.exports (folded name)

-- these are the libraries of the program of the main library
abbrev pub AreOfMain : Libraries → Option Word → List Library → Type 0
AreOfMain libraries main program =
    (number : ℕ) × (main_of libraries main ≡ Some number)
    × (program ≡ libraries_of libraries number)

-- no library has the name, which is told so
abbrev pub IsUnknown : Libraries → Option Word → Refused → Type 0
IsUnknown libraries main why =
    (name : Word) × (main ≡ Some name) × (main_of libraries main ≡ None)
    × (why ≡ unknown_main name)

-- ---- commands

-- The program of the main library is run with so many units of fuel, or there is no such library.
abbrev pub Runs : ℕ → Option Word → Libraries → Report → Type 0
Runs fuel main libraries report =
    ((program : List Library) × AreOfMain libraries main program
    × Reports (program_meaning (program_of program) fuel) report)
    ⊎ ((why : Refused) × IsUnknown libraries main why × (report ≡ refused_report why))

-- what a command comes to over the libraries of its LID files
abbrev pub Does : Command → Libraries → Report → Type 0
Does (build fuel main lids) libraries report = Runs fuel main libraries report
Does (check lids) libraries report = report ≡ checked_report

-- what a command comes to by what its LID files come to: their libraries, or why one is refused
abbrev pub Answers : Command → Result Libraries Refused → Report → Type 0
Answers command (Ok libraries) report = Does command libraries report
Answers command (Err why) report = report ≡ refused_report why

-- What a command comes to, whose LID files are read one behind the other, behind the libraries that
-- are built in; and what no command comes to.
abbrev pub ComesTo : Option Command → FileMap → Report → Type 0
ComesTo None files report = report ≡ usage_report
ComesTo (Some command) files report =
    (read : Result Libraries Refused) × AreRead files built_in (lids_of command) read
    × Answers command read report

-- what words come to, by what the files hold; no command of today writes files
abbrev pub IsOutcome : List Word → FileMap → Report → Type 0
IsOutcome words files report = ComesTo (command_of words) files report

-- What a command says at its end (own).
use Rattle.std.specs.Prelude.{◌≡◌, ◌<◌, ℕ, ◌⊎◌, List, [], length, Option, Some, None}
use Rattle.std.specs.Prelude.{Result, Ok, Err}
use Rattle.std.specs.Io.KnownBytes.{Appends}
use Rattle.dy_base.specs.declared.kind.Kind.TheVariants.{NoFile}
use Rattle.dy_io.specs.Causes.{Rose}
use Rattle.dy_io.specs.Files.{FileMap}
use Rattle.dy_io.specs.Sinks.{AppendsFront}
use Rattle.dy_values.specs.declared.answer.RunEnd.{RunEnd}
use Rattle.dy_values.specs.declared.answer.RunEnd.TheVariants as ends
use Rattle.dy_outcome.specs.States.{Outcome}
use Rattle.dy_code.specs.declared.unit.Library.{Library}
use Rattle.dy_libraries.specs.declared.libraries.Libraries.{Libraries}
use Rattle.dy_libraries.specs.Commands.{built_in}
use Rattle.dy_libraries.specs.Programs.{libraries_of}
use Rattle.dy_sources.specs.declared.refused.Refused.{Refused}
use Rattle.dy_sources.specs.declared.source.Halt.{Halt}
use Rattle.dy_sources.specs.declared.source.Halt.TheVariants as halts
use Rattle.dy_sources.specs.Refusals.{refusal_line}
use Rattle.dy_sources.specs.Libraries.{AreRead, AreAccepted}
use Rattle.dy_sources.specs.Judged.{NamesFileOf}
use Rattle.dy_build.specs.Lines.{file_fault_line, end_line, out_of_fuel_line}
use Rattle.dy_build.specs.Words.{Word, Command, build, check, lids_of}
use Rattle.dy_build.specs.Outcome.{Report, Reports, checked_report, main_of, AreOfMain, IsUnknown}
use Rattle.dy_build.specs.Outcome.{Runs, Answers, IsOutcome}

-- ---- reasons to stop

-- What the LID files come to that were checked: why one is refused, or nothing; unless a file
-- failed or memory ran out.
abbrev pub AreChecked : (Result Libraries Refused → Type 0) → Result (Unit {0}) Halt → Type 0
AreChecked are_read (Ok nothing) = (libraries : Libraries) × are_read (Ok libraries)
AreChecked are_read (Err (halts.Refused why)) = are_read (Err why)
AreChecked are_read (Err (halts.FileFault name)) = Unit {0}
AreChecked are_read (Err halts.Memory) = Unit {0}

-- The main library, or why there is none, unless memory ran out.
abbrev pub IsMain : Libraries → Option Word → Result ℕ Halt → Type 0
IsMain libraries main (Ok number) = main_of libraries main ≡ Some number
IsMain libraries main (Err (halts.Refused why)) = IsUnknown libraries main why
IsMain libraries main (Err (halts.FileFault name)) = ⊥
IsMain libraries main (Err halts.Memory) = Unit {0}

-- These are the libraries of the program that LID files come to.
abbrev pub IsProgram : (Result Libraries Refused → Type 0) → Option Word → List Library → Type 0
IsProgram are_read main program =
    (libraries : Libraries) × are_read (Ok libraries) × AreOfMain libraries main program

-- Why LID files come to no program, unless a file failed or memory ran out: one is refused, or no
-- library has the name of the main one.
abbrev pub LacksProgram : (Result Libraries Refused → Type 0) → Option Word → Halt → Type 0
LacksProgram are_read main (halts.Refused why) =
    are_read (Err why)
    ⊎ ((libraries : Libraries) × are_read (Ok libraries) × IsUnknown libraries main why)
LacksProgram are_read main (halts.FileFault name) = Unit {0}
LacksProgram are_read main halts.Memory = Unit {0}

-- These are the libraries of the program of one among libraries that some texts came to.
abbrev pub IsAcceptedProgram : Option Word → List Library → Type 0
IsAcceptedProgram main program =
    (libraries : Libraries) × AreAccepted libraries × (number : ℕ)
    × (number < length libraries.rows) × (main_of libraries main ≡ Some number)
    × (program ≡ libraries_of libraries number)

-- ---- what is sent

-- The line was sent and the status is the given one; or the sink or memory failed, and a front of
-- it was sent.
abbrev pub PutsLine : ℕ → List ℕ → ℕ → Option (List ℕ) → Option (List ℕ) → Type 0
PutsLine status line result old new =
    ((result ≡ status) × Appends old new line)
    ⊎ (((result ≡ 5) ⊎ (result ≡ 6)) × AppendsFront old new line)

-- What closing a run that ended so does to the error output: its last line is sent, if it has one.
abbrev pub Closes : RunEnd → ℕ → Option (List ℕ) → Option (List ℕ) → Type 0
Closes ends.Finished result old new = (result ≡ 0) × (new ≡ old)
Closes (ends.Signalled line) result old new = PutsLine 1 (end_line line) result old new
Closes ends.OutOfFuel result old new = PutsLine 7 out_of_fuel_line result old new
Closes ends.WriteFault result old new = (result ≡ 5) × (new ≡ old)
Closes ends.NoMemory result old new = (result ≡ 6) × (new ≡ old)

-- What is said of a reason to stop: the line of the refusal, or that of the file, or a front of it;
-- or memory was short and nothing is said.
abbrev pub TellsHalt : Halt → ℕ → Option (List ℕ) → Option (List ℕ) → Type 0
TellsHalt (halts.Refused why) result old new = PutsLine 2 (refusal_line why) result old new
TellsHalt (halts.FileFault name) result old new =
    ((result ≡ 4) × AppendsFront old new (file_fault_line name)) ⊎ ((result ≡ 6) × (new ≡ old))
TellsHalt halts.Memory result old new = (result ≡ 6) × (new ≡ old)

-- what the output and the error output held before and hold now
pub record Outputs : Type 0 where
  pub out_before : Option (List ℕ)
  pub out_now : Option (List ℕ)
  pub err_before : Option (List ℕ)
  pub err_now : Option (List ℕ)

abbrev pub outputs : Option (List ℕ) → Option (List ℕ) → Option (List ℕ) → Option (List ℕ) → Outputs
outputs out_before out_now err_before err_now =
    record {
      out_before = out_before;
      out_now = out_now;
      err_before = err_before;
      err_now = err_now;
    }

-- nothing was sent
abbrev pub Nothing : Outputs → Type 0
Nothing outputs = (outputs.out_now ≡ outputs.out_before) × (outputs.err_now ≡ outputs.err_before)

-- all of a report was sent
pub record Sent (report : Report) (outputs : Outputs) : Type 0 where
  pub out : Appends outputs.out_before outputs.out_now report.out
  pub err : Appends outputs.err_before outputs.err_now report.err

-- some of a report was sent, from its front on
pub record SentFront (report : Report) (outputs : Outputs) : Type 0 where
  pub out : AppendsFront outputs.out_before outputs.out_now report.out
  pub err : AppendsFront outputs.err_before outputs.err_now report.err

-- The report was sent and the status is its own; or a sink or memory failed, and a front of it was
-- sent.
abbrev pub Finishes : Report → ℕ → Outputs → Type 0
Finishes report result outputs =
    ((result ≡ report.status) × Sent report outputs)
    ⊎ (((result ≡ 5) ⊎ (result ≡ 6)) × SentFront report outputs)

-- so of what a program comes to that does this, and of what a command comes to
abbrev pub RunsAs : Outcome → ℕ → Outputs → Type 0
RunsAs outcome result outputs =
    (report : Report) × Reports outcome report × Finishes report result outputs

abbrev pub AnswersAs : Command → Result Libraries Refused → ℕ → Outputs → Type 0
AnswersAs command read result outputs =
    (report : Report) × Answers command read report × Finishes report result outputs

-- A file failed, memory was short and nothing was sent, or it is so of what the command comes to
-- over these files.
abbrev pub Completes : Command → FileMap → ℕ → Outputs → Type 0
Completes command files result outputs =
    (result ≡ 4)
    ⊎ (((result ≡ 6) × Nothing outputs)
    ⊎ ((read : Result Libraries Refused) × AreRead files built_in (lids_of command) read
    × AnswersAs command read result outputs))

-- A refusal was told by its line, and nothing went to the output. An absent file is told only where
-- the misses rose.
abbrev pub Refuses : ℕ → ℕ → Outputs → Type 0
Refuses misses_before misses_now outputs =
    (why : Refused) × Appends outputs.err_before outputs.err_now (refusal_line why)
    × (outputs.out_now ≡ outputs.out_before)
    × (why.kind ≡ NoFile → Rose misses_before misses_now)

-- The line of a file that failed was sent, or a front of it, and nothing went to the output. The
-- file is one that is read for one of these LID files.
abbrev pub TellsFault : Option FileMap → List Word → Outputs → Type 0
TellsFault contents lids outputs =
    (name : List ℕ) × NamesFileOf contents lids name
    × AppendsFront outputs.err_before outputs.err_now (file_fault_line name)
    × (outputs.out_now ≡ outputs.out_before)

-- the same of the LID files of the words
abbrev pub TellsFaultOf : Option Command → Option FileMap → Outputs → Type 0
TellsFaultOf None contents outputs = ⊥
TellsFaultOf (Some command) contents outputs = TellsFault contents (lids_of command) outputs

-- the status is the report's, and all of the report was sent
abbrev pub Done : Report → ℕ → Outputs → Type 0
Done report result outputs = (result ≡ report.status) × Sent report outputs

-- what the words come to over these files was sent, with its status
abbrev pub Outcomes : List Word → FileMap → ℕ → Outputs → Type 0
Outcomes words files result outputs = (report : Report) × IsOutcome words files report
    × Done report result outputs

-- a front of what the words come to over these files was sent, or nothing
abbrev pub CutsShort : List Word → FileMap → Outputs → Type 0
CutsShort words files outputs = Nothing outputs
    ⊎ ((report : Report) × IsOutcome words files report × SentFront report outputs)

-- the statuses of a command that was done: nothing is wrong or its run ended by itself, by a
-- condition, or for want of a unit
abbrev pub IsEnded : ℕ → Type 0
IsEnded status = (status ≡ 0) ⊎ ((status ≡ 1) ⊎ (status ≡ 7))

-- Some texts came to libraries, and all was sent that the program of the main one comes to. Where
-- libraries are checked alone, nothing was sent.
abbrev pub RunsAccepted : Command → ℕ → Outputs → Type 0
RunsAccepted (build fuel main lids) result outputs = (libraries : Libraries)
    × AreAccepted libraries × (report : Report) × Runs fuel main libraries report
    × Done report result outputs
RunsAccepted (check lids) result outputs = Done checked_report result outputs

-- the same of the command of the words
abbrev pub RunsAcceptedOf : Option Command → ℕ → Outputs → Type 0
RunsAcceptedOf None result outputs = ⊥
RunsAcceptedOf (Some command) result outputs = RunsAccepted command result outputs

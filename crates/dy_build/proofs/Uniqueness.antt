-- A command has one outcome.
use Rattle.std.proofs.Common.{◌≡◌, ℕ, List, Option, Some, None, Result, Ok, Err, inl, inr, sym, ap, subst, ◌∙◌}
use Rattle.dy_io.specs.Files.{FileMap}
use Rattle.dy_outcome.specs.States.{Outcome, Gave, Exits, Ended, Spent}
use Rattle.dy_meaning.specs.Programs.{program_meaning}
use Rattle.dy_code.specs.declared.unit.Library.{Library}
use Rattle.dy_libraries.specs.declared.libraries.Libraries.{Libraries}
use Rattle.dy_libraries.specs.Commands.{built_in}
use Rattle.dy_libraries.specs.Programs.{libraries_of}
use Rattle.dy_running.specs.Runs.{program_of}
use Rattle.dy_sources.specs.declared.refused.Refused.{Refused}
use Rattle.dy_sources.specs.Refusals.{unknown_main}
use Rattle.dy_sources.specs.Laws.{AnswersAreOne}
use Rattle.dy_build.specs.Words.{Word, Command, build, check, lids_of, command_of}
use Rattle.dy_build.specs.Outcome.{Report, Reports, refused_report, main_of, AreOfMain, IsUnknown, Runs, Does, Answers, ComesTo, IsOutcome}

reports_one : (outcome : Outcome) (a b : Report) → Reports outcome a → Reports outcome b → a ≡ b
reports_one (Gave values state) a b e f = e ∙ sym f
reports_one (Exits number values state) a b e f = absurd e
reports_one (Ended line state) a b e f = e ∙ sym f
reports_one (Spent state) a b e f = e ∙ sym f

-- ---- the main library

program_one : (libraries : Libraries) (main : Option Word) (a b : List Library) → AreOfMain libraries main a → AreOfMain libraries main b → a ≡ b
program_one libraries main a b (number, is, same) (other, also, equal) =
    let both : Some number ≡ Some other = sym is ∙ also in
    let one : number ≡ other = cc in
    same ∙ ap (libraries_of libraries) one ∙ sym equal

unknown_one : (libraries : Libraries) (main : Option Word) (a b : Refused) → IsUnknown libraries main a → IsUnknown libraries main b → a ≡ b
unknown_one libraries main a b (name, is, none, same) (other, also, lacks, equal) =
    let both : Some name ≡ Some other = sym is ∙ also in
    let one : name ≡ other = cc in
    same ∙ ap unknown_main one ∙ sym equal

-- a library that is unknown has lacks program
apart : {P : Type 0} (libraries : Libraries) (main : Option Word) (program : List Library) (why : Refused) → AreOfMain libraries main program → IsUnknown libraries main why → P
apart libraries main program why (number, is, same) (name, also, none, told) =
    let both : Some number ≡ None = sym is ∙ none in
    absurd cc

runs_one : (fuel : ℕ) (main : Option Word) (libraries : Libraries) (a b : Report) → Runs fuel main libraries a → Runs fuel main libraries b → a ≡ b
runs_one fuel main libraries a b (inl (program, is, reports)) (inl (other, also, others)) =
    reports_one (program_meaning (program_of program) fuel) a b reports
    (subst (λ (p : List Library). Reports (program_meaning (program_of p) fuel) b) (sym (program_one libraries main program other is also)) others)
runs_one fuel main libraries a b (inl (program, is, reports)) (inr (why, unknown, e)) = apart libraries main program why is unknown
runs_one fuel main libraries a b (inr (why, unknown, e)) (inl (program, is, reports)) = apart libraries main program why is unknown
runs_one fuel main libraries a b (inr (why, unknown, e)) (inr (reason, also, f)) =
    e ∙ ap refused_report (unknown_one libraries main why reason unknown also) ∙ sym f

-- ---- commands

does_one : (command : Command) (libraries : Libraries) (a b : Report) → Does command libraries a → Does command libraries b → a ≡ b
does_one (build fuel main lids) libraries a b e f = runs_one fuel main libraries a b e f
does_one (check lids) libraries a b e f = e ∙ sym f

answers_one : (command : Command) (read : Result Libraries Refused) (a b : Report) → Answers command read a → Answers command read b → a ≡ b
answers_one command (Ok libraries) a b e f = does_one command libraries a b e f
answers_one command (Err why) a b e f = e ∙ sym f

comes_one : AnswersAreOne → (command : Option Command) (files : FileMap) (a b : Report) → ComesTo command files a → ComesTo command files b → a ≡ b
comes_one one None files a b e f = e ∙ sym f
comes_one one (Some command) files a b (read, is, answers) (other, also, others) =
    answers_one command read a b answers
    (subst (λ (r : Result Libraries Refused). Answers command r b) (sym (one files built_in (lids_of command) read other is also)) others)

pub outcome_one : AnswersAreOne → (words : List Word) (files : FileMap) (a b : Report) → IsOutcome words files a → IsOutcome words files b → a ≡ b
outcome_one one words files a b e f = comes_one one (command_of words) files a b e f

-- What a command comes to that stops for a reason.
use Rattle.std.proofs.Common.{◌≡◌, ◌≢◌, ◌≤◌, ◌⊎◌, ℕ, List, [], Option, Some, None, Result, Ok, Err, inl, inr, refl, sym, ap, subst, ◌∙◌, arith}
use Rattle.std.specs.Prelude.{OnOk, OnErr}
use Rattle.std.specs.Io.KnownBytes.{Appends}
use Rattle.dy_io.specs.Causes.{Rose}
use Rattle.dy_io.specs.Files.{FileMap}
use Rattle.dy_io.specs.Sinks.{AppendsFront}
use Rattle.dy_base.specs.declared.kind.Kind.TheVariants.{NoFile, UnknownLibrary}
use Rattle.dy_libraries.specs.declared.libraries.Libraries.{Libraries}
use Rattle.dy_libraries.specs.Commands.{built_in}
use Rattle.dy_sources.specs.declared.refused.Refused.{Refused}
use Rattle.dy_sources.specs.declared.source.Halt.{Halt}
use Rattle.dy_sources.specs.declared.source.Halt.TheVariants as halts
use Rattle.dy_sources.specs.Refusals.{refusal_line}
use Rattle.dy_sources.specs.Libraries.{AreRead}
use Rattle.dy_sources.specs.Judged.{AllJudged, Misses, Fails, TellsName, NamesFileOf}
use Rattle.dy_build.specs.Words.{Word, Command, build, check, lids_of, usage_text}
use Rattle.dy_build.specs.Outcome.{Report, refused_report, usage_report, Answers, ComesTo}
use Rattle.dy_build.specs.Command.{PutsLine, TellsHalt, AreChecked, IsMain, LacksProgram, Outputs, outputs, Nothing, SentFront, Finishes, Completes, Refuses, TellsFault, TellsFaultOf, Done, IsEnded, RunsAccepted, RunsAcceptedOf}
use Rattle.dy_build.proofs.Fronts.{appends_front, appends_nothing, nothing_front}
use Rattle.dy_build.proofs.Closings.{fronts_of, done_of, between, line_unended}

-- whether a put was done or not, a front was sent
pub put_any_front : {A E : Type 0} (result : Result A E) (old new : Option (List ℕ)) (bytes : List ℕ) → OnOk result (Appends old new bytes) → OnErr result (AppendsFront old new bytes) → AppendsFront old new bytes
put_any_front (Ok x) old new bytes sent front = appends_front old new bytes sent
put_any_front (Err e) old new bytes sent front = front

-- nothing is printed but a line
line_finishes : (status : ℕ) (line : List ℕ) (result : ℕ) (a b c : Option (List ℕ)) → PutsLine status line result b c → Finishes (record { status = status; out = []; err = line }) result (outputs a a b c)
line_finishes status line result a b c (inl (is, sent)) = inl (is, record { out = appends_nothing a; err = sent })
line_finishes status line result a b c (inr (cause, front)) = inr (cause, record { out = nothing_front a []; err = front })

-- ---- reasons

-- a command over these files stops for this reason
abbrev pub Stops : Command → FileMap → Halt → Type 0
Stops command held (halts.Refused why) =
    (read : Result Libraries Refused) × AreRead held built_in (lids_of command) read × Answers command read (refused_report why)
Stops command held (halts.FileFault name) = Unit {0}
Stops command held halts.Memory = Unit {0}

pub check_stops : (held : FileMap) (lids : List Word) (halt : Halt) → AreChecked (AreRead held built_in lids) (Err halt) → Stops (check lids) held halt
check_stops held lids (halts.Refused why) is = (Err why, is, refl)
check_stops held lids (halts.FileFault name) is = tt
check_stops held lids halts.Memory is = tt

pub build_stops : (held : FileMap) (fuel : ℕ) (main : Option Word) (lids : List Word) (halt : Halt) → LacksProgram (AreRead held built_in lids) main halt → Stops (build fuel main lids) held halt
build_stops held fuel main lids (halts.Refused why) (inl is) = (Err why, is, refl)
build_stops held fuel main lids (halts.Refused why) (inr (libraries, is, unknown)) = (Ok libraries, is, inr (why, unknown, refl))
build_stops held fuel main lids (halts.FileFault name) is = tt
build_stops held fuel main lids halts.Memory is = tt

-- where libraries were not read, or have no main one, there is no program
pub unread_lacks : (are_read : Result Libraries Refused → Type 0) (main : Option Word) (halt : Halt) → AllJudged are_read (Err halt) → LacksProgram are_read main halt
unread_lacks are_read main (halts.Refused why) is = inl is
unread_lacks are_read main (halts.FileFault name) is = tt
unread_lacks are_read main halts.Memory is = tt

pub main_lacks : (are_read : Result Libraries Refused → Type 0) (libraries : Libraries) (main : Option Word) (halt : Halt) → are_read (Ok libraries) → IsMain libraries main (Err halt) → LacksProgram are_read main halt
main_lacks are_read libraries main (halts.Refused why) is unknown = inr (libraries, is, unknown)
main_lacks are_read libraries main (halts.FileFault name) is unknown = tt
main_lacks are_read libraries main halts.Memory is unknown = tt

-- of no main library it is told that a file is absent, or that one failed
pub main_misses : (libraries : Libraries) (main : Option Word) (before now : ℕ) (halt : Halt) → IsMain libraries main (Err halt) → Misses before now halt
main_misses libraries main before now (halts.Refused why) (name, given, none, is) = λ absent.
    let both : UnknownLibrary ≡ NoFile = sym (ap (λ (r : Refused). r.kind) is) ∙ absent in
    absurd cc
main_misses libraries main before now (halts.FileFault name) unknown = tt
main_misses libraries main before now halts.Memory unknown = tt

pub main_fails : (libraries : Libraries) (main : Option Word) (before now : ℕ) (halt : Halt) → IsMain libraries main (Err halt) → Fails before now halt
main_fails libraries main before now (halts.Refused why) unknown = tt
main_fails libraries main before now (halts.FileFault name) unknown = absurd unknown
main_fails libraries main before now halts.Memory unknown = tt

pub main_names : (libraries : Libraries) (main : Option Word) (is_name : List ℕ → Type 0) (halt : Halt) → IsMain libraries main (Err halt) → TellsName is_name halt
main_names libraries main is_name (halts.Refused why) unknown = tt
main_names libraries main is_name (halts.FileFault name) unknown = absurd unknown
main_names libraries main is_name halts.Memory unknown = tt

-- ---- what is told of a reason

pub halt_completes : (command : Command) (held : FileMap) (halt : Halt) (result : ℕ) (a b c : Option (List ℕ)) → Stops command held halt → TellsHalt halt result b c
    → Completes command held result (outputs a a b c)
halt_completes command held (halts.Refused why) result a b c (read, is, answers) puts =
    inr (inr (read, is, (refused_report why, answers, line_finishes 2 (refusal_line why) result a b c puts)))
halt_completes command held (halts.FileFault name) result a b c stops (inl (four, front)) = inl four
halt_completes command held (halts.FileFault name) result a b c stops (inr (six, same)) = inr (inl (six, (refl, same)))
halt_completes command held halts.Memory result a b c stops (six, same) = inr (inl (six, (refl, same)))

pub halt_refuses : (before now : ℕ) (halt : Halt) (result : ℕ) (a b c : Option (List ℕ)) → Misses before now halt → TellsHalt halt result b c → result ≡ 2 → Refuses before now (outputs a a b c)
halt_refuses before now (halts.Refused why) result a b c misses (inl (is, sent)) two = (why, sent, refl, misses)
halt_refuses before now (halts.Refused why) result a b c misses (inr (inl is, front)) two = absurd (omega arith)
halt_refuses before now (halts.Refused why) result a b c misses (inr (inr is, front)) two = absurd (omega arith)
halt_refuses before now (halts.FileFault name) result a b c misses (inl (is, front)) two = absurd (omega arith)
halt_refuses before now (halts.FileFault name) result a b c misses (inr (is, same)) two = absurd (omega arith)
halt_refuses before now halts.Memory result a b c misses (is, same) two = absurd (omega arith)

pub halt_unended : {P : Type 0} (halt : Halt) (result : ℕ) (b c : Option (List ℕ)) → TellsHalt halt result b c → IsEnded result → P
halt_unended (halts.Refused why) result b c puts ended = line_unended 2 (refusal_line why) result b c (omega arith) (omega arith) puts ended
halt_unended (halts.FileFault name) result b c (inl (is, front)) ended = between result (omega arith) (omega arith) ended
halt_unended (halts.FileFault name) result b c (inr (is, same)) ended = between result (omega arith) (omega arith) ended
halt_unended halts.Memory result b c (is, same) ended = between result (omega arith) (omega arith) ended

-- the statuses of a reason
halt_status : (halt : Halt) (result : ℕ) (b c : Option (List ℕ)) → TellsHalt halt result b c → (result ≡ 2) ⊎ ((result ≡ 4) ⊎ ((result ≡ 5) ⊎ (result ≡ 6)))
halt_status (halts.Refused why) result b c (inl (is, sent)) = inl is
halt_status (halts.Refused why) result b c (inr (which, front)) = inr (inr which)
halt_status (halts.FileFault name) result b c (inl (is, front)) = inr (inl is)
halt_status (halts.FileFault name) result b c (inr (is, same)) = inr (inr (inr is))
halt_status halts.Memory result b c (is, same) = inr (inr (inr is))

pub halt_understood : (halt : Halt) (result : ℕ) (b c : Option (List ℕ)) → TellsHalt halt result b c → result ≢ 3
halt_understood halt result b c tells = λ three. go three (halt_status halt result b c tells)
  where
    go : result ≡ 3 → (result ≡ 2) ⊎ ((result ≡ 4) ⊎ ((result ≡ 5) ⊎ (result ≡ 6))) → ⊥
    go three (inl e) = omega arith
    go three (inr (inl e)) = omega arith
    go three (inr (inr (inl e))) = omega arith
    go three (inr (inr (inr e))) = omega arith

pub halt_most : (halt : Halt) (result : ℕ) (b c : Option (List ℕ)) → TellsHalt halt result b c → result ≤ 7
halt_most halt result b c tells = go (halt_status halt result b c tells)
  where
    go : (result ≡ 2) ⊎ ((result ≡ 4) ⊎ ((result ≡ 5) ⊎ (result ≡ 6))) → result ≤ 7
    go (inl e) = omega arith
    go (inr (inl e)) = omega arith
    go (inr (inr (inl e))) = omega arith
    go (inr (inr (inr e))) = omega arith

pub halt_failed : (before now : ℕ) (halt : Halt) (result : ℕ) (b c : Option (List ℕ)) → Fails before now halt → TellsHalt halt result b c → result ≡ 4 → Rose before now
halt_failed before now (halts.Refused why) result b c fails (inl (is, sent)) four = absurd (omega arith)
halt_failed before now (halts.Refused why) result b c fails (inr (inl is, front)) four = absurd (omega arith)
halt_failed before now (halts.Refused why) result b c fails (inr (inr is, front)) four = absurd (omega arith)
halt_failed before now (halts.FileFault name) result b c fails tells four = fails
halt_failed before now halts.Memory result b c fails (is, same) four = absurd (omega arith)

pub halt_line : (contents : Option FileMap) (lids : List Word) (halt : Halt) (result : ℕ) (a b c : Option (List ℕ)) → TellsName (NamesFileOf contents lids) halt → TellsHalt halt result b c → result ≡ 4
    → TellsFault contents lids (outputs a a b c)
halt_line contents lids (halts.Refused why) result a b c names (inl (is, sent)) four = absurd (omega arith)
halt_line contents lids (halts.Refused why) result a b c names (inr (inl is, front)) four = absurd (omega arith)
halt_line contents lids (halts.Refused why) result a b c names (inr (inr is, front)) four = absurd (omega arith)
halt_line contents lids (halts.FileFault name) result a b c names (inl (is, front)) four = (name, names, front, refl)
halt_line contents lids (halts.FileFault name) result a b c names (inr (is, same)) four = absurd (omega arith)
halt_line contents lids halts.Memory result a b c names (is, same) four = absurd (omega arith)

-- ---- what a command comes to is what its words come to

pub complete_done : (held : FileMap) (words : Option Command) (command : Command) (result : ℕ) (ends : Outputs) → Some command ≡ words → Completes command held result ends
    → result ≢ 4 → result ≢ 5 → result ≢ 6 → (report : Report) × ComesTo words held report × Done report result ends
complete_done held words command result ends e (inl h) four five six = absurd (four h)
complete_done held words command result ends e (inr (inl (h, nothing))) four five six = absurd (six h)
complete_done held words command result ends e (inr (inr (read, is, (report, answers, finishes)))) four five six =
    (report, subst (λ (w : Option Command). ComesTo w held report) e (read, is, answers), done_of report result ends finishes five six)

pub complete_front : (held : FileMap) (words : Option Command) (command : Command) (result : ℕ) (ends : Outputs) → Some command ≡ words → Completes command held result ends
    → ((result ≡ 5) ⊎ (result ≡ 6)) → Nothing ends ⊎ ((report : Report) × ComesTo words held report × SentFront report ends)
complete_front held words command result ends e (inl four) (inl five) = absurd (omega arith)
complete_front held words command result ends e (inl four) (inr six) = absurd (omega arith)
complete_front held words command result ends e (inr (inl (six, nothing))) which = inl nothing
complete_front held words command result ends e (inr (inr (read, is, (report, answers, finishes)))) which =
    inr (report, subst (λ (w : Option Command). ComesTo w held report) e (read, is, answers), fronts_of report result ends finishes which)

usage_finishes : (line : List ℕ) (result : ℕ) (a b c : Option (List ℕ)) → line ≡ usage_text → PutsLine 3 line result b c → Finishes usage_report result (outputs a a b c)
usage_finishes line result a b c is puts = line_finishes 3 usage_text result a b c (subst (λ (l : List ℕ). PutsLine 3 l result b c) is puts)

pub usage_done : (held : FileMap) (words : Option Command) (line : List ℕ) (result : ℕ) (a b c : Option (List ℕ)) → None ≡ words → line ≡ usage_text → PutsLine 3 line result b c
    → result ≢ 5 → result ≢ 6 → (report : Report) × ComesTo words held report × Done report result (outputs a a b c)
usage_done held words line result a b c e is puts five six =
    (usage_report, subst (λ (w : Option Command). ComesTo w held usage_report) e refl, done_of usage_report result (outputs a a b c) (usage_finishes line result a b c is puts) five six)

pub usage_front : (held : FileMap) (words : Option Command) (line : List ℕ) (result : ℕ) (a b c : Option (List ℕ)) → None ≡ words → line ≡ usage_text → PutsLine 3 line result b c
    → ((result ≡ 5) ⊎ (result ≡ 6)) → Nothing (outputs a a b c) ⊎ ((report : Report) × ComesTo words held report × SentFront report (outputs a a b c))
usage_front held words line result a b c e is puts which =
    inr (usage_report, subst (λ (w : Option Command). ComesTo w held usage_report) e refl, fronts_of usage_report result (outputs a a b c) (usage_finishes line result a b c is puts) which)

-- the line of a file that failed is that of the words' LID files
pub told_of : (words : Option Command) (command : Command) (contents : Option FileMap) (ends : Outputs) → Some command ≡ words → TellsFault contents (lids_of command) ends → TellsFaultOf words contents ends
told_of words command contents ends e told = subst (λ (w : Option Command). TellsFaultOf w contents ends) e told

pub ran_of : (words : Option Command) (command : Command) (result : ℕ) (ends : Outputs) → Some command ≡ words → RunsAccepted command result ends → RunsAcceptedOf words result ends
ran_of words command result ends e ran = subst (λ (w : Option Command). RunsAcceptedOf w result ends) e ran

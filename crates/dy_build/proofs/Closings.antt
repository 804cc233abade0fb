-- How the end of a run becomes the end of a command.
use Rattle.std.proofs.Common.{◌≡◌, ◌≢◌, ◌<◌, ◌≤◌, ◌⊎◌, ℕ, List, [], ◌++◌, Option, inl, inr, refl, sym, ap, subst, append-nil, arith}
use Rattle.std.specs.List.{concat}
use Rattle.std.specs.Io.KnownBytes.{Appends}
use Rattle.dy_io.specs.Sinks.{AppendsFront}
use Rattle.dy_values.specs.declared.answer.RunEnd.{RunEnd}
use Rattle.dy_values.specs.declared.answer.RunEnd.TheVariants as ends
use Rattle.dy_outcome.specs.declared.state.State.{State}
use Rattle.dy_outcome.specs.States.{Outcome, Gave, Exits, Ended, Spent}
use Rattle.dy_machine.specs.Ends.{IsWhole}
use Rattle.dy_running.specs.Runs.{Tells, left_by}
use Rattle.dy_build.specs.Lines.{end_line, out_of_fuel_line}
use Rattle.dy_build.specs.Outcome.{Report, run_report, Reports}
use Rattle.dy_build.specs.Command.{PutsLine, Closes, Outputs, outputs, SentFront, Finishes, RunsAs, Done, IsEnded}
use Rattle.dy_build.proofs.Fronts.{appends_front, appends_twice, front_twice, front_more}

-- ---- a run and its last line

-- all was sent, and then the last line
line_sent : (status : ℕ) (state : State) (last : List ℕ) (result : ℕ) (a b c d e : Option (List ℕ)) → Appends a b (concat state.pieces) → Appends c d (concat state.lines)
    → PutsLine status last result d e → Finishes (run_report status state last) result (outputs a b c e)
line_sent status state last result a b c d e out err (inl (is, line)) =
    inl (is, record { out = out; err = appends_twice c d e (concat state.lines) last err line })
line_sent status state last result a b c d e out err (inr (cause, front)) =
    inr (cause, record { out = appends_front a b (concat state.pieces) out; err = front_twice c d e (concat state.lines) last err front })

-- all was sent, and there is no last line
all_sent : (state : State) (result : ℕ) (a b c d e : Option (List ℕ)) → Appends a b (concat state.pieces) → Appends c d (concat state.lines) → result ≡ 0 → e ≡ d
    → Finishes (run_report 0 state []) result (outputs a b c e)
all_sent state result a b c d e out err is same =
    inl (
      is,
      record {
        out = out;
        err = subst (λ (x : Option (List ℕ)). Appends c x (concat state.lines ++ [])) (sym same) (subst (Appends c d) (sym (append-nil (concat state.lines))) err);
      },
    )

-- a front was sent
cut : (status : ℕ) (state : State) (last : List ℕ) (result : ℕ) (a b c d e : Option (List ℕ)) → AppendsFront a b (concat state.pieces) → AppendsFront c d (concat state.lines) → (result ≡ 5) ⊎ (result ≡ 6)
    → e ≡ d → Finishes (run_report status state last) result (outputs a b c e)
cut status state last result a b c d e out err cause same =
    inr (
      cause,
      record {
        out = out;
        err = subst (λ (x : Option (List ℕ)). AppendsFront c x (concat state.lines ++ last)) (sym same) (front_more c d (concat state.lines) last err);
      },
    )

-- what a run sent, whole or cut short
record Sends (end : RunEnd) (state : State) (a b c d : Option (List ℕ)) : Type 0 where
  pub out : IsWhole end → Appends a b (concat state.pieces)
  pub err : IsWhole end → Appends c d (concat state.lines)
  pub out_front : AppendsFront a b (concat state.pieces)
  pub err_front : AppendsFront c d (concat state.lines)

gave_runs : (end : RunEnd) (values : _) (state : State) (result : ℕ) (a b c d e : Option (List ℕ)) → Tells end (Gave values state) → Sends end state a b c d → Closes end result d e
    → RunsAs (Gave values state) result (outputs a b c e)
gave_runs ends.Finished values state result a b c d e told sent (is, same) =
    (run_report 0 state [], refl, all_sent state result a b c d e (sent.out tt) (sent.err tt) is same)
gave_runs (ends.Signalled line) values state result a b c d e told sent closes = absurd told
gave_runs ends.OutOfFuel values state result a b c d e told sent closes = absurd told
gave_runs ends.WriteFault values state result a b c d e told sent (is, same) =
    (run_report 0 state [], refl, cut 0 state [] result a b c d e sent.out_front sent.err_front (inl is) same)
gave_runs ends.NoMemory values state result a b c d e told sent (is, same) =
    (run_report 0 state [], refl, cut 0 state [] result a b c d e sent.out_front sent.err_front (inr is) same)

ended_runs : (end : RunEnd) (line : List ℕ) (state : State) (result : ℕ) (a b c d e : Option (List ℕ)) → Tells end (Ended line state) → Sends end state a b c d → Closes end result d e
    → RunsAs (Ended line state) result (outputs a b c e)
ended_runs ends.Finished line state result a b c d e told sent closes = absurd told
ended_runs (ends.Signalled given) line state result a b c d e told sent closes =
    (run_report 1 state (end_line line), refl, line_sent 1 state (end_line line) result a b c d e (sent.out tt) (sent.err tt) (subst (λ (l : List ℕ). PutsLine 1 (end_line l) result d e) told closes))
ended_runs ends.OutOfFuel line state result a b c d e told sent closes = absurd told
ended_runs ends.WriteFault line state result a b c d e told sent (is, same) =
    (run_report 1 state (end_line line), refl, cut 1 state (end_line line) result a b c d e sent.out_front sent.err_front (inl is) same)
ended_runs ends.NoMemory line state result a b c d e told sent (is, same) =
    (run_report 1 state (end_line line), refl, cut 1 state (end_line line) result a b c d e sent.out_front sent.err_front (inr is) same)

spent_runs : (end : RunEnd) (state : State) (result : ℕ) (a b c d e : Option (List ℕ)) → Tells end (Spent state) → Sends end state a b c d → Closes end result d e → RunsAs (Spent state) result (outputs a b c e)
spent_runs ends.Finished state result a b c d e told sent closes = absurd told
spent_runs (ends.Signalled line) state result a b c d e told sent closes = absurd told
spent_runs ends.OutOfFuel state result a b c d e told sent closes =
    (run_report 7 state out_of_fuel_line, refl, line_sent 7 state out_of_fuel_line result a b c d e (sent.out tt) (sent.err tt) closes)
spent_runs ends.WriteFault state result a b c d e told sent (is, same) =
    (run_report 7 state out_of_fuel_line, refl, cut 7 state out_of_fuel_line result a b c d e sent.out_front sent.err_front (inl is) same)
spent_runs ends.NoMemory state result a b c d e told sent (is, same) =
    (run_report 7 state out_of_fuel_line, refl, cut 7 state out_of_fuel_line result a b c d e sent.out_front sent.err_front (inr is) same)

no_exit : {A : Type 0} (end : RunEnd) (number : ℕ) (values : _) (state : State) → Tells end (Exits number values state) → A
no_exit ends.Finished number values state told = absurd told
no_exit (ends.Signalled line) number values state told = absurd told
no_exit ends.OutOfFuel number values state told = absurd told
no_exit ends.WriteFault number values state told = absurd told
no_exit ends.NoMemory number values state told = absurd told

-- a run that is closed so is that of the program
pub closed_runs : (outcome : Outcome) (end : RunEnd) (result : ℕ) (a b c d e : Option (List ℕ)) → Tells end outcome → (IsWhole end → Appends a b (concat (left_by outcome).pieces))
    → (IsWhole end → Appends c d (concat (left_by outcome).lines)) → AppendsFront a b (concat (left_by outcome).pieces) → AppendsFront c d (concat (left_by outcome).lines) → Closes end result d e
    → RunsAs outcome result (outputs a b c e)
closed_runs (Gave values state) end result a b c d e told out err front line closes =
    gave_runs end values state result a b c d e told (record { out = out; err = err; out_front = front; err_front = line }) closes
closed_runs (Exits number values state) end result a b c d e told out err front line closes = no_exit end number values state told
closed_runs (Ended text state) end result a b c d e told out err front line closes =
    ended_runs end text state result a b c d e told (record { out = out; err = err; out_front = front; err_front = line }) closes
closed_runs (Spent state) end result a b c d e told out err front line closes =
    spent_runs end state result a b c d e told (record { out = out; err = err; out_front = front; err_front = line }) closes

-- ---- what was sent, whole or in front

-- where a sink or memory failed, a front of the report was sent
pub fronts_of : (report : Report) (result : ℕ) (ends : Outputs) → Finishes report result ends → ((result ≡ 5) ⊎ (result ≡ 6)) → SentFront report ends
fronts_of report result ends (inl (status, sent)) which =
    record { out = appends_front _ _ report.out sent.out; err = appends_front _ _ report.err sent.err }
fronts_of report result ends (inr (cause, fronts)) which = fronts

-- where no sink and no memory failed, all of the report was sent
pub done_of : (report : Report) (result : ℕ) (ends : Outputs) → Finishes report result ends → result ≢ 5 → result ≢ 6 → Done report result ends
done_of report result ends (inl done) five six = done
done_of report result ends (inr (inl e, fronts)) five six = absurd (five e)
done_of report result ends (inr (inr e, fronts)) five six = absurd (six e)

-- ---- the statuses of a run

-- no sink and no memory failed
pub unfailed : (result : ℕ) → IsEnded result → (result ≢ 5) × (result ≢ 6)
unfailed result (inl e) = (λ five. omega arith, λ six. omega arith)
unfailed result (inr (inl e)) = (λ five. omega arith, λ six. omega arith)
unfailed result (inr (inr e)) = (λ five. omega arith, λ six. omega arith)

-- no other status is one of a run that ended
pub between : {P : Type 0} (result : ℕ) → 1 < result → result < 7 → IsEnded result → P
between result above below (inl e) = absurd (omega arith)
between result above below (inr (inl e)) = absurd (omega arith)
between result above below (inr (inr e)) = absurd (omega arith)

pub line_unended : {P : Type 0} (status : ℕ) (line : List ℕ) (result : ℕ) (old new : Option (List ℕ)) → 1 < status → status < 7 → PutsLine status line result old new → IsEnded result → P
line_unended status line result old new above below (inl (is, sent)) ended = between result (omega arith) (omega arith) ended
line_unended status line result old new above below (inr (inl is, front)) ended = between result (omega arith) (omega arith) ended
line_unended status line result old new above below (inr (inr is, front)) ended = between result (omega arith) (omega arith) ended

report_status : (outcome : Outcome) (report : Report) → Reports outcome report → IsEnded report.status
report_status (Gave values state) report is = inl (ap (λ (r : Report). r.status) is)
report_status (Exits number values state) report is = absurd is
report_status (Ended line state) report is = inr (inl (ap (λ (r : Report). r.status) is))
report_status (Spent state) report is = inr (inr (ap (λ (r : Report). r.status) is))

apart_from : {P : Type 0} (status result given : ℕ) → 1 < status → status < 5 → result ≡ given → IsEnded given → result ≡ status → P
apart_from status result given above below is (inl e) also = absurd (omega arith)
apart_from status result given above below is (inr (inl e)) also = absurd (omega arith)
apart_from status result given above below is (inr (inr e)) also = absurd (omega arith)

-- no run has one of the statuses of a refusal, of the usage, and of a file that failed
pub no_run : {P : Type 0} (status : ℕ) (outcome : Outcome) (result : ℕ) (ends : Outputs) → 1 < status → status < 5 → RunsAs outcome result ends → result ≡ status → P
no_run status outcome result ends above below (report, reports, inl (is, sent)) also =
    apart_from status result report.status above below is (report_status outcome report reports) also
no_run status outcome result ends above below (report, reports, inr (inl is, fronts)) also = absurd (omega arith)
no_run status outcome result ends above below (report, reports, inr (inr is, fronts)) also = absurd (omega arith)

at_most : (result given : ℕ) → result ≡ given → IsEnded given → result ≤ 7
at_most result given is (inl e) = omega arith
at_most result given is (inr (inl e)) = omega arith
at_most result given is (inr (inr e)) = omega arith

pub most_run : (outcome : Outcome) (result : ℕ) (ends : Outputs) → RunsAs outcome result ends → result ≤ 7
most_run outcome result ends (report, reports, inl (is, sent)) = at_most result report.status is (report_status outcome report reports)
most_run outcome result ends (report, reports, inr (inl is, fronts)) = omega arith
most_run outcome result ends (report, reports, inr (inr is, fronts)) = omega arith

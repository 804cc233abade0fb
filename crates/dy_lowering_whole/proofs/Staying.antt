-- Nothing that is put together of parts leaves a block, where no part does.
use Rattle.std.proofs.Common.{ℕ, zero, suc, ◌+◌, ℤ, ◌+ℤ◌, Bool, true, false, List, [], ◌∷◌, Option, Some, None, length, drop}
use Rattle.dy_term.specs.declared.term.Limit.{Limit}
use Rattle.dy_values.specs.declared.value.Variant.{Variant}
use Rattle.dy_values.specs.declared.value.Variant.TheVariants.{Int, Bool as Truth}
use Rattle.dy_values.specs.declared.object.ObjectRow.TheVariants.{Vector}
use Rattle.dy_values.specs.Spending.{first, is_false}
use Rattle.dy_outcome.specs.declared.state.State.{State}
use Rattle.dy_outcome.specs.declared.state.Frame.{Frame}
use Rattle.dy_outcome.specs.declared.place.Place.{Place}
use Rattle.dy_outcome.specs.States.{Handler, Scope, Outcome, Gave, Exits, Ended, Spent, Does, and_then, gave, exhausted, unit_from, spend_unit, spend_if, made, back_to}
use Rattle.dy_outcome.specs.Places.{assign}
use Rattle.dy_outcome.specs.Parts.{arguments, assigning, collected, bound, letting, Closing, closing, declared, defined, local_methods, Part, Runs, Binds, Handles, with_number, in_turn, body}
use Rattle.dy_outcome.specs.Choices.{chosen, branching, both, either, matching, selecting, select}
use Rattle.dy_outcome.specs.Turns.{looping, loop, Clause, Takes, Counts, Going, Taking, Counting, number_in, number_of, limit_of, step_of, begun, bound_anew, are_over, is_end, tested, fits, advanced, for_turns, finished, for_loop}
use Rattle.dy_code.specs.Validity.{Every}
use Rattle.dy_lowering_whole.specs.Unexited.{IsNoExit, NeverExits}

pub then_stays : (o : Outcome) (go : List Variant → State → Outcome) → IsNoExit o → ((values : List Variant) (s : State) → IsNoExit (go values s)) → IsNoExit (and_then o go)
then_stays (Gave values s) go h next = next values s
then_stays (Exits number values s) go h next = absurd h
then_stays (Ended line s) go h next = tt
then_stays (Spent s) go h next = tt

pub unit_stays : (units : ℕ) (s : State) (go : State → Outcome) → ((t : State) → IsNoExit (go t)) → IsNoExit (unit_from units s go)
unit_stays zero s go next = tt
unit_stays (suc units) s go next = next (record s { fuel = record { left = units } })

spend_stays : (b : Bool) (units : ℕ) (s : State) (go : State → Outcome) → ((t : State) → IsNoExit (go t)) → IsNoExit (spend_if b units s go)
spend_stays true units s go next = next _
spend_stays false units s go next = tt

pub chosen_stays : (b : Bool) (one other : State → Outcome) (s : State) → IsNoExit (one s) → IsNoExit (other s) → IsNoExit (chosen b one other s)
chosen_stays true one other s left right = left
chosen_stays false one other s left right = right

pub back_stays : (frame : Frame) (o : Outcome) → IsNoExit o → IsNoExit (back_to frame o)
back_stays frame (Gave values s) h = tt
back_stays frame (Exits number values s) h = absurd h
back_stays frame (Ended line s) h = tt
back_stays frame (Spent s) h = tt

arguments_stay : (ds : List Does) → Every NeverExits ds → NeverExits (arguments ds)
arguments_stay [] all scope s = tt
arguments_stay (d ∷ ds) all scope s =
    then_stays (d scope s) _ (all.0 scope s) (λ vs t. then_stays (arguments ds scope t) _ (arguments_stay ds all.1 scope t) (λ ws u. tt))

pub with_stays : (ds : List Does) (go : List Variant → Does) → Every NeverExits ds → ((values : List Variant) → NeverExits (go values)) → (scope : Scope) (s : State)
    → IsNoExit (and_then (arguments ds scope s) (λ vs t. go vs scope t))
with_stays ds go all next scope s = then_stays (arguments ds scope s) _ (arguments_stay ds all scope s) (λ vs t. next vs scope t)

pub assigning_stays : (place : Place) (d : Does) → NeverExits d → NeverExits (assigning place d)
assigning_stays place d h scope s = then_stays (d scope s) _ (h scope s) (λ vs t. tt)

collected_stays : (values : List Variant) (s : State) → IsNoExit (collected values s)
collected_stays values s = spend_stays _ (length values + 1) s (made (Vector false values)) (λ t. tt)

pub bound_stays : (places : List Place) (rest : Option Place) (values : List Variant) (s : State) → IsNoExit (bound places rest values s)
bound_stays places None values s = tt
bound_stays places (Some rest) values s = then_stays (collected (drop (length places) values) s) _ (collected_stays (drop (length places) values) s) (λ vs t. tt)

pub letting_stays : (places : List Place) (rest : Option Place) (d : Does) → NeverExits d → NeverExits (letting places rest d)
letting_stays places rest d h scope s = then_stays (d scope s) _ (h scope s) (λ vs t. bound_stays places rest vs t)

pub closing_stays : (lambda : Closing) → NeverExits (closing lambda)
closing_stays lambda scope s = unit_stays s.fuel.left s _ (λ t. tt)

defined_stays : (methods : List (Place × Closing)) → NeverExits (defined methods)
defined_stays [] scope s = tt
defined_stays (method ∷ methods) scope s =
    then_stays (closing method.1 scope s) _ (closing_stays method.1 scope s) (λ vs t. defined_stays methods scope (assign method.0 (first vs) t))

pub methods_stay : (methods : List (Place × Closing)) → NeverExits (local_methods methods)
methods_stay methods scope s = defined_stays methods scope (declared methods s)

abbrev pub PartStays : Part → Type 0
PartStays (Runs d) = NeverExits d
PartStays (Binds d) = NeverExits d
PartStays (Handles condition d) = NeverExits d

in_turn_stays : (ps : List Part) (values : List Variant) → Every PartStays ps → NeverExits (in_turn ps values)
in_turn_stays [] values all scope s = tt
in_turn_stays (Runs d ∷ ps) values all scope s = then_stays (d scope s) _ (all.0 scope s) (λ vs t. in_turn_stays ps vs all.1 scope t)
in_turn_stays (Binds d ∷ ps) values all scope s = then_stays (d scope s) _ (all.0 scope s) (λ vs t. in_turn_stays ps (Truth false ∷ []) all.1 scope t)
in_turn_stays (Handles condition d ∷ ps) values all scope s =
    then_stays (d scope s) _ (all.0 scope s) (λ vs t. in_turn_stays ps (Truth false ∷ []) all.1 (Handler t.given condition (first vs) ∷ scope) (with_number t))

pub body_stays : (ps : List Part) → Every PartStays ps → NeverExits (body ps)
body_stays ps all = in_turn_stays ps (Truth false ∷ []) all

abbrev pub PairStays : Does × Does → Type 0
PairStays p = NeverExits p.0 × NeverExits p.1

pub branching_stays : (branches : List (Does × Does)) (d : Does) → Every PairStays branches → NeverExits d → NeverExits (branching branches d)
branching_stays [] d all h scope s = h scope s
branching_stays (b ∷ branches) d all h scope s =
    then_stays (b.0 scope s) _ (all.0.0 scope s) (λ vs t. chosen_stays (is_false (first vs)) (branching branches d scope) (b.1 scope) t (branching_stays branches d all.1 h scope t) (all.0.1 scope t))

pub both_stays : (d e : Does) → NeverExits d → NeverExits e → NeverExits (both d e)
both_stays d e one other scope s = then_stays (d scope s) _ (one scope s) (λ vs t. chosen_stays (is_false (first vs)) (gave (first vs)) (e scope) t tt (other scope t))

pub either_stays : (d e : Does) → NeverExits d → NeverExits e → NeverExits (either d e)
either_stays d e one other scope s = then_stays (d scope s) _ (one scope s) (λ vs t. chosen_stays (is_false (first vs)) (e scope) (gave (first vs)) t (other scope t) tt)

abbrev pub ArmStays : List Does × Does → Type 0
ArmStays arm = Every NeverExits arm.0 × NeverExits arm.1

abbrev pub HeldStays : Option Does → Type 0
HeldStays None = Unit {0}
HeldStays (Some d) = NeverExits d

matching_stays : (test : Variant → Does) (values : List Does) (found missed : Does) → ((value : Variant) → NeverExits (test value)) → Every NeverExits values → NeverExits found → NeverExits missed
    → NeverExits (matching test values found missed)
matching_stays test [] found missed tests all one other scope s = other scope s
matching_stays test (value ∷ values) found missed tests all one other scope s =
    then_stays (value scope s) _ (all.0 scope s) (λ vs t. then_stays (test (first vs) scope t) _ (tests (first vs) scope t) (λ ws u.
    chosen_stays (is_false (first ws)) (matching test values found missed scope) (found scope) u (matching_stays test values found missed tests all.1 one other scope u) (one scope u)))

selecting_stays : (test : Variant → Does) (arms : List (List Does × Does)) (missed : Does) → ((value : Variant) → NeverExits (test value)) → Every ArmStays arms → NeverExits missed
    → NeverExits (selecting test arms missed)
selecting_stays test [] missed tests all other = other
selecting_stays test (arm ∷ arms) missed tests all other = matching_stays test arm.0 arm.1 (selecting test arms missed) tests all.0.0 all.0.1 (selecting_stays test arms missed tests all.1 other)

pub select_stays : (call : Variant → Variant → Variant → Does) (same : Variant → Variant → Does) (value : Does) (test : Option Does) (arms : List (List Does × Does)) (missed : Does)
    → ((v w x : Variant) → NeverExits (call v w x)) → ((v w : Variant) → NeverExits (same v w)) → NeverExits value → HeldStays test → Every ArmStays arms → NeverExits missed
    → NeverExits (select call same value test arms missed)
select_stays call same value None arms missed calls sames one held all other scope s =
    then_stays (value scope s) _ (one scope s) (λ vs t. selecting_stays (same (first vs)) arms missed (sames (first vs)) all other scope t)
select_stays call same value (Some test) arms missed calls sames one held all other scope s =
    then_stays (value scope s) _ (one scope s) (λ vs t. then_stays (test scope t) _ (held scope t) (λ ws u.
    selecting_stays (call (first ws) (first vs)) arms missed (calls (first ws) (first vs)) all other scope u))

looping_stays : (n : ℕ) (test inner : Does) → NeverExits test → NeverExits inner → NeverExits (looping n test inner)
looping_stays zero test inner one other scope s = then_stays (test scope s) _ (one scope s) (λ vs t. chosen_stays (is_false (first vs)) (gave (Truth false)) exhausted t tt tt)
looping_stays (suc n) test inner one other scope s =
    then_stays (test scope s) _ (one scope s) (λ vs t. chosen_stays (is_false (first vs)) (gave (Truth false)) (λ u. spend_unit u (λ v. and_then (inner scope v) (λ ws w. looping n test inner scope w))) t tt
    (unit_stays t.fuel.left t _ (λ v. then_stays (inner scope v) _ (other scope v) (λ ws w. looping_stays n test inner one other scope w))))

pub loop_stays : (test inner : Does) → NeverExits test → NeverExits inner → NeverExits (loop test inner)
loop_stays test inner one other scope s = looping_stays s.fuel.left test inner one other scope s

-- `for`
abbrev pub BesideStays : {A : Type 0} → Option (A × Does) → Type 0
BesideStays None = Unit {0}
BesideStays (Some p) = NeverExits p.1

abbrev pub ClauseStays : Clause → Type 0
ClauseStays (Takes place start next) = NeverExits start × NeverExits next
ClauseStays (Counts place start limit step) = NeverExits start × BesideStays limit × HeldStays step

abbrev GoingStays : Going → Type 0
GoingStays (Taking place value next) = NeverExits next
GoingStays (Counting place number limit step) = Unit {0}

abbrev Stays_on : (List Going → State → Outcome) → Type 0
Stays_on go = (goings : List Going) → Every GoingStays goings → (s : State) → IsNoExit (go goings s)

module _ (wrong : Variant → Does) (wrongs : (value : Variant) → NeverExits (wrong value)) where
  in_stays : (value : Variant) (scope : Scope) (s : State) (go : ℤ → State → Outcome) → ((k : ℤ) (t : State) → IsNoExit (go k t)) → IsNoExit (number_in wrong value scope s go)
  in_stays (Int k) scope s go next = next k s
  in_stays value scope s go next = wrongs value scope s

  number_stays : (d : Does) → NeverExits d → (scope : Scope) (s : State) (go : ℤ → State → Outcome) → ((k : ℤ) (t : State) → IsNoExit (go k t)) → IsNoExit (number_of wrong d scope s go)
  number_stays d h scope s go next = then_stays (d scope s) _ (h scope s) (λ vs t. in_stays (first vs) scope t go next)

  limit_stays : (limit : Option (Limit × Does)) → BesideStays limit → (scope : Scope) (s : State) (go : Option (Limit × ℤ) → State → Outcome) → ((k : Option (Limit × ℤ)) (t : State) → IsNoExit (go k t))
      → IsNoExit (limit_of wrong limit scope s go)
  limit_stays None h scope s go next = next None s
  limit_stays (Some p) h scope s go next = number_stays p.1 h scope s (λ k t. go (Some (p.0, k)) t) (λ k t. next (Some (p.0, k)) t)

  step_stays : (step : Option Does) → HeldStays step → (scope : Scope) (s : State) (go : ℤ → State → Outcome) → ((k : ℤ) (t : State) → IsNoExit (go k t)) → IsNoExit (step_of wrong step scope s go)
  step_stays None h scope s go next = next _ s
  step_stays (Some d) h scope s go next = number_stays d h scope s go next

  begun_stays : (clauses : List Clause) → Every ClauseStays clauses → (scope : Scope) (s : State) (go : List Going → State → Outcome) → Stays_on go → IsNoExit (begun wrong clauses scope s go)
  begun_stays [] all scope s go next = next [] tt s
  begun_stays (Takes place start on ∷ clauses) all scope s go next =
      then_stays (start scope s) _ (all.0.0 scope s) (λ vs t. begun_stays clauses all.1 scope t (λ others u. go (Taking place (first vs) on ∷ others) u) (λ goings h u. next (Taking place (first vs) on ∷ goings) (all.0.1, h) u))
  begun_stays (Counts place start limit step ∷ clauses) all scope s go next =
      number_stays start all.0.0 scope s _ (λ number t. limit_stays limit all.0.1 scope t _ (λ bound u. step_stays step all.0.2 scope u _ (λ by v.
      begun_stays clauses all.1 scope v (λ others w. go (Counting place number bound by ∷ others) w) (λ goings h w. next (Counting place number bound by ∷ goings) (tt, h) w))))

tested_stays : (test : Option (Bool × Does)) → BesideStays test → (scope : Scope) (s : State) (ends goes : State → Outcome) → ((t : State) → IsNoExit (ends t)) → ((t : State) → IsNoExit (goes t))
    → IsNoExit (tested test scope s ends goes)
tested_stays None h scope s ends goes last next = next s
tested_stays (Some p) h scope s ends goes last next = then_stays (p.1 scope s) _ (h scope s) (λ vs t. chosen_stays (is_end p.0 (first vs)) ends goes t (last t) (next t))

advanced_stays : (goings : List Going) → Every GoingStays goings → (scope : Scope) (s : State) (ends : State → Outcome) (go : List Going → State → Outcome) → ((t : State) → IsNoExit (ends t)) → Stays_on go
    → IsNoExit (advanced goings scope s ends go)
advanced_stays [] all scope s ends go last next = next [] tt s
advanced_stays (Taking place value on ∷ goings) all scope s ends go last next =
    then_stays (on scope s) _ (all.0 scope s) (λ vs t. advanced_stays goings all.1 scope t ends (λ rest u. go (Taking place (first vs) on ∷ rest) u) last (λ rest h u. next (Taking place (first vs) on ∷ rest) (all.0, h) u))
advanced_stays (Counting place number limit step ∷ goings) all scope s ends go last next =
    chosen_stays (fits (number +ℤ step)) (λ t. advanced goings scope t ends (λ rest u. go (Counting place (number +ℤ step) limit step ∷ rest) u)) ends s
    (advanced_stays goings all.1 scope s ends (λ rest u. go (Counting place (number +ℤ step) limit step ∷ rest) u) last (λ rest h u. next (Counting place (number +ℤ step) limit step ∷ rest) (tt, h) u)) (last s)

turns_stay : (n : ℕ) (goings : List Going) → Every GoingStays goings → (test : Option (Bool × Does)) → BesideStays test → (inner last : Does) → NeverExits inner → NeverExits last → NeverExits (for_turns n goings test inner last)
turns_stay zero goings all test h inner last one other scope s =
    let t = bound_anew goings s in
    chosen_stays (are_over goings) (last scope) (λ u. tested test scope u (last scope) exhausted) t (other scope t) (tested_stays test h scope t (last scope) exhausted (other scope) (λ u. tt))
turns_stay (suc n) goings all test h inner last one other scope s =
    let t = bound_anew goings s in
    chosen_stays (are_over goings) (last scope) _ t (other scope t)
    (tested_stays test h scope t (last scope) _ (other scope) (λ u. unit_stays u.fuel.left u _ (λ v. then_stays (inner scope v) _ (one scope v) (λ vs w.
    advanced_stays goings all scope w (last scope) _ (other scope) (λ rest g x. turns_stay n rest g test h inner last one other scope x)))))

finished_stays : (last : Option Does) → HeldStays last → NeverExits (finished last)
finished_stays None h scope s = tt
finished_stays (Some d) h scope s = h scope s

pub for_stays : (wrong : Variant → Does) → ((value : Variant) → NeverExits (wrong value)) → (clauses : List Clause) → Every ClauseStays clauses → (test : Option (Bool × Does)) → BesideStays test → (inner : Does) → NeverExits inner
    → (last : Option Does) → HeldStays last → NeverExits (for_loop wrong clauses test inner last)
for_stays wrong wrongs clauses all test h inner one last other scope s =
    begun_stays wrong wrongs clauses all scope s _ (λ goings g t. turns_stay t.fuel.left goings g test h inner (finished last) one (finished_stays last other) scope t)

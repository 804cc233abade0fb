-- A program's code behaves as the program: form by form.
use Rattle.std.proofs.Common.{◌≡◌, ℕ, zero, suc, ◌+◌, ◌-◌, ◌≤◌, List, [], ◌∷◌, length, drop, None, refl, sym, ap, ◌∙◌, subst, arith, false}
use Rattle.std.specs.Prelude.{replicate}
use Rattle.std.proofs.lemmas.List.{length-replicate}
use Rattle.std.specs.declared.option.Option.{Option}
use Rattle.dy_base.specs.declared.ids.BindingId.{BindingId}
use Rattle.dy_term.specs.declared.term.Term.{Term}
use Rattle.dy_term.specs.declared.rows.TopTerm.{TopTerm}
use Rattle.dy_term.specs.declared.rows.TopTerm.TheVariants as tops
use Rattle.dy_term.specs.declared.rows.Program.{Program}
use Rattle.dy_values.specs.declared.value.Variant.{Variant}
use Rattle.dy_values.specs.declared.value.Variant.TheVariants.{Bool as Truth}
use Rattle.dy_values.specs.Spending.{first}
use Rattle.dy_outcome.specs.declared.state.State.{State}
use Rattle.dy_outcome.specs.declared.state.Frame.{Frame}
use Rattle.dy_outcome.specs.States.{Outcome, Gave, Exits, Ended, Spent, and_then, back_to}
use Rattle.dy_outcome.specs.Calls.{new_frame}
use Rattle.dy_outcome.specs.Nearness.{units_of}
use Rattle.dy_code.specs.Fetching.{Return}
use Rattle.dy_code.specs.Programs.{Located, Task, Runs, Defines, tasks}
use Rattle.dy_code.specs.Validity.{Every}
use Rattle.dy_meaning.specs.Globals.{with_global, with_globals}
use Rattle.dy_meaning.specs.Layouts.{layout_of_term}
use Rattle.dy_meaning.specs.Numbers.{numbers_in}
use Rattle.dy_meaning.specs.Programs.{meaning_within, running_alone, top_does, in_order, tops_of, started, program_meaning}
use Rattle.dy_steps.specs.Configurations.{Config, End, Finished, Signalled, OutOfFuel, Ending, Step, Goes, Stops, Machine}
use Rattle.dy_steps.specs.Calling.{new_activation, begun}
use Rattle.dy_steps.specs.Effects.{with_state, ended}
use Rattle.dy_steps.specs.Steps.{begin, next_task, defined, done, step, steps, nothing_done}
use Rattle.dy_lowered.specs.Flat.{Plain, one}
use Rattle.dy_lowered.specs.Terms.{code_of}
use Rattle.dy_lowering_law.specs.Behaving.{IsLeft, EndsAs, Behaves}
use Rattle.dy_lowering_law.specs.Following.{Spot, standing, after, Comes, IsKnown, IsWordGlobal, AreWords, IsRight, IsRightAfter}
use Rattle.dy_lowering_law.specs.Machines.{linked_program, machine_of}
use Rattle.dy_lowering_law.specs.Renumbering.{body_of, renumbered, renumbered_store}
use Rattle.dy_lowering_law.proofs.Arguments.{then_assoc}
use Rattle.dy_lowering_law.proofs.Cases.{first_word, less_words}
use Rattle.dy_lowering_law.proofs.Names.{words_set}
use Rattle.dy_steps.proofs.More.{steps_more}
use Rattle.dy_lowering_law.proofs.Leading.{holds_front, holds_back, stepped}
use Rattle.dy_lowering_whole.specs.Unexited.{IsNoExit}
use Rattle.dy_lowering_whole.proofs.Calling.{no_term_exits}
use Rattle.dy_lowering_whole.specs.valid.Scoped.{IsScoped}
use Rattle.dy_lowering_whole.specs.Lowered.{IsLowered}
use Rattle.dy_lowering_whole.proofs.Readied.{lowered_of_ready}
use Rattle.dy_lowering_whole.proofs.valid.Readying.{program_ok}
use Rattle.dy_lowering_law.specs.Ready.{IsReady}
use Rattle.dy_lowering_whole.proofs.Tasks.{Form, IsTask, AreTasks, all_tasks}

-- what a definition leaves as it was
globals_units : (names : List BindingId) (values : List Variant) (s : State) → (with_globals names values s).fuel.left ≡ s.fuel.left
globals_units [] values s = refl
globals_units (name ∷ names) values s = globals_units names (drop 1 values) (with_global name (first values) s)

-- objects are known, and variables have values of 64 bits
abbrev IsFit : Program → State → Type 0
IsFit program s = Every (IsKnown program) s.store.objects × Every IsWordGlobal s.store.globals

globals_known : (program : Program) (names : List BindingId) (values : List Variant) → AreWords values → (s : State) → IsFit program s → IsFit program (with_globals names values s)
globals_known program [] values words s known = known
globals_known program (name ∷ names) values words s known =
    globals_known program names (drop 1 values) (less_words values words) (with_global name (first values) s) (known.0, words_set name (first values) (first_word values words) s.store.globals known.1)

no_words : (count : ℕ) → AreWords (replicate count (Truth false))
no_words zero = tt
no_words (suc count) = (tt, no_words count)

globals_frame : (names : List BindingId) (values : List Variant) (s : State) (frame : Frame) → with_globals names values (record s { frame = frame }) ≡ record (with_globals names values s) { frame = frame }
globals_frame [] values s frame = refl
globals_frame (name ∷ names) values s frame = globals_frame names (drop 1 values) (with_global name (first values) s) frame

globals_same : (number : ℕ → ℕ) (names : List BindingId) (values : List Variant) (s : State) → with_globals names values (renumbered number s) ≡ renumbered number (with_globals names values s)
globals_same number [] values s = refl
globals_same number (name ∷ names) values s = globals_same number names (drop 1 values) (with_global name (first values) s)

module _ (program : Program) (fuel : ℕ) where
  abbrev m : Machine
  m = machine_of program

  abbrev number : ℕ → ℕ
  number = body_of program

  abbrev Known : State → Type 0
  Known s = IsFit program s

  -- a run from a step on ends as an outcome
  record Finishes (from : Step) (outcome : Outcome) : Type 0 where
    pub count : ℕ
    pub ending : Ending
    pub ends : steps m count from ≡ Stops ending
    pub same : EndsAs program outcome ending

  abbrev ending_of : End → State → ℕ → Ending
  ending_of end s k = record { end = end; units = s.fuel.left; store = renumbered_store number s.store; pieces = s.pieces; lines = s.lines; searches = k }

  left_so : (end : End) (s : State) (frame : Frame) (k : ℕ) → IsLeft program end (record s { frame = frame }) (ending_of end s k)
  left_so end s frame k = record { ends = refl; units = refl; store = refl; pieces = refl; lines = refl }

  behind_step : (c : Config) (next : Step) (o : Outcome) → step m c ≡ next → Finishes next o → Finishes (Goes c) o
  behind_step c next o e f = record { count = suc f.count; ending = f.ending; ends = ap (steps m f.count) e ∙ f.ends; same = f.same }

  -- where a body has come to its outcome, and its values go on
  outcome_finishes : (c : Config) (x : Spot) (place locals : ℕ) (frame : Frame) (o : Outcome) (go : List Variant → State → Outcome) → IsNoExit o → units_of o ≤ fuel → IsRightAfter program locals o
      → Comes m c (after number x place o)
      → ((vs : List Variant) (v : State) (k : ℕ) → v.fuel.left ≤ fuel → Known v → AreWords vs → Finishes (Goes (standing number x place vs v k)) (go vs (record v { frame = frame })))
      → Finishes (Goes c) (and_then (back_to frame o) go)
  outcome_finishes c x place locals frame (Gave vs v) go stays few right comes next =
      let f = next vs v comes.searches few (right.0.objects, right.0.words.globals) right.1 in
      record { count = comes.count + f.count; ending = f.ending; ends = steps_more m comes.count f.count (Goes c) ∙ ap (steps m f.count) comes.there ∙ f.ends; same = f.same }
  outcome_finishes c x place locals frame (Exits block vs v) go stays few right comes next = absurd stays
  outcome_finishes c x place locals frame (Ended line v) go stays few right comes next =
      record { count = comes.count; ending = ending_of (Signalled line) v comes.searches; ends = comes.there; same = left_so (Signalled line) v frame comes.searches }
  outcome_finishes c x place locals frame (Spent v) go stays few right comes next =
      record { count = comes.count; ending = ending_of OutOfFuel v comes.searches; ends = comes.there; same = left_so OutOfFuel v frame comes.searches }

  abbrev spot : ℕ → Task → List Task → Spot
  spot body task ts = record { running = new_activation body [] None; waiting = []; task = task; tasks = ts }

  abbrev begun_with : ℕ → Task → List Task → Config → ℕ → State → Step
  begun_with body task ts c l s =
      Goes (record c { running = new_activation body [] None; register = []; waiting = []; state = new_frame l [] s; task = task; tasks = ts })

  -- a form begins
  form_begins : (term : Term) (l body : ℕ) → Form program body term l → (task : Task) (ts : List Task) (c : Config) (u : State) → c.state ≡ renumbered number u
      → begin m body task ts c ≡ Goes (standing number (spot body task ts) 0 [] (new_frame (numbers_in term) [] u) c.searches)
  form_begins term l body form task ts c u e =
      ap (λ (at : Option Located). begun at body [] [] None [] (record c { task = task; tasks = ts })) form.here
      ∙ ap (λ (l : ℕ). begun_with body task ts c l c.state) form.locals
      ∙ ap (λ (s : State). begun_with body task ts c (numbers_in term) s) e

  -- it runs, and what was to be done with its values is done
  form_finishes : (term : Term) (l body : ℕ) → Form program body term l → (task : Task) (ts : List Task) (c : Config) (u : State) (frame : Frame) → c.state ≡ renumbered number u → Known u → u.fuel.left ≤ fuel
      → (go : List Variant → State → Outcome)
      → ((place : ℕ) (vs : List Variant) (v : State) (k : ℕ) → v.fuel.left ≤ fuel → Known v → AreWords vs → Finishes (done m task (standing number (spot body task ts) place vs v k)) (go vs (record v { frame = frame })))
      → Finishes (begin m body task ts c) (and_then (running_alone program fuel term l [] (record u { frame = frame })) go)
  form_finishes term l body form task ts c u frame e known few go next =
      let layout = layout_of_term term in
      let locals = numbers_in term in
      let code = code_of layout term form.closure in
      let follows = form.follows fuel in
      let x = spot body task ts in
      let s = new_frame locals [] u in
      let long : length s.frame.locals ≡ locals = length-replicate locals (Truth false) in
      let right : IsRight program (locals - 0) s = record { objects = known.0; frame = omega (arith, long); words = record { locals = no_words locals; captured = tt; globals = known.1 } } in
      let o = meaning_within program fuel layout term l [] s in
      let falls = follows.falls [] s in
      let at = 0 + length code in
      let comes = follows.runs x 0 [] s c.searches (holds_front (linked_program program) form.before body 0 code (one Return) form.code) tt right few in
      let f = outcome_finishes (standing number x 0 [] s c.searches) x at (locals - 0) frame o go (no_term_exits program fuel layout term l [] s) (omega (arith, falls, few)) (follows.keeps [] s right) comes
      (λ vs v k fewer knows words.
      behind_step (standing number x at vs v k) (done m task (standing number x (at + 1) vs v k)) (go vs (record v { frame = frame }))
      (stepped m number x at form.before vs v k (Plain Return) [] (holds_back (linked_program program) form.before body 0 code (one Return) form.code))
      (next (at + 1) vs v k fewer knows words)) in
      subst (λ (from : Step). Finishes from (and_then (back_to frame o) go)) (sym (form_begins term l body form task ts c u e)) f

  -- variables and constants take their values
  defined_is : (names : List BindingId) (values : List Variant) (c : Config) (go : Config → Step) → defined m names values c go ≡ go (with_state (with_globals names values c.state) c)
  defined_is [] values c go = refl
  defined_is (name ∷ names) values c go = defined_is names (drop 1 values) (with_state (with_global name (first values) c.state) c) go

  -- the forms behind this one
  abbrev Others : List (TopTerm × ℕ) → List Task → Frame → Type 0
  Others all ts frame = (d : Config) (v : State) → d.state ≡ renumbered number v → Known v → v.fuel.left ≤ fuel → Finishes (next_task m ts d) (in_order program fuel all [] (record v { frame = frame }))

  abbrev others_do : List (TopTerm × ℕ) → List Variant → State → Outcome
  others_do all vs s = in_order program fuel all [] s

  one_finishes : (top : TopTerm) (l : ℕ) (task : Task) (all : List (TopTerm × ℕ)) (ts : List Task) (frame : Frame) → IsTask program top l task → Others all ts frame
      → (c : Config) (u : State) → c.state ≡ renumbered number u → Known u → u.fuel.left ≤ fuel
      → Finishes (next_task m (task ∷ ts) c) (and_then (top_does program fuel top l [] (record u { frame = frame })) (others_do all))
  one_finishes (tops.Run term) l task all ts frame is others c u e known few =
      subst (λ (t : Task). Finishes (next_task m (t ∷ ts) c) (and_then (top_does program fuel (tops.Run term) l [] (record u { frame = frame })) (others_do all))) (sym is.same)
      (subst (λ (o : Outcome). Finishes (begin m is.body (Runs is.body) ts c) o) (sym (then_assoc (running_alone program fuel term l [] (record u { frame = frame })) (λ vs s. Gave [] s) (others_do all)))
      (form_finishes term l is.body is.form (Runs is.body) ts c u frame e known few (λ vs s. in_order program fuel all [] s)
      (λ place vs v k fewer knows words. others (standing number (spot is.body (Runs is.body) ts) place vs v k) v refl knows fewer)))
  one_finishes (tops.Init bindings term) l task all ts frame is others c u e known few =
      let defines = Defines bindings is.body in
      subst (λ (t : Task). Finishes (next_task m (t ∷ ts) c) (and_then (top_does program fuel (tops.Init bindings term) l [] (record u { frame = frame })) (others_do all))) (sym is.same)
      (subst (λ (o : Outcome). Finishes (begin m is.body defines ts c) o) (sym (then_assoc (running_alone program fuel term l [] (record u { frame = frame })) (λ vs s. Gave [] (with_globals bindings vs s)) (others_do all)))
      (form_finishes term l is.body is.form defines ts c u frame e known few (λ vs s. in_order program fuel all [] (with_globals bindings vs s))
      (λ place vs v k fewer knows words.
      let d = standing number (spot is.body defines ts) place vs v k in
      let w = with_globals bindings vs v in
      let units = globals_units bindings vs v in
      subst (λ (from : Step). Finishes from (in_order program fuel all [] (with_globals bindings vs (record v { frame = frame })))) (sym (defined_is bindings vs d (λ d. next_task m d.tasks d)))
      (subst (λ (s : State). Finishes (next_task m ts (with_state (with_globals bindings vs d.state) d)) (in_order program fuel all [] s)) (sym (globals_frame bindings vs v frame))
      (others (with_state (with_globals bindings vs d.state) d) w (globals_same number bindings vs v) (globals_known program bindings vs words v knows) (omega (arith, units, fewer)))))))

  all_finish : (all : List (TopTerm × ℕ)) (ts : List Task) (frame : Frame) → AreTasks program all ts → Others all ts frame
  all_finish [] [] frame h c u e known few = record {
    count = 0;
    ending = ending_of Finished u c.searches;
    ends = ap (λ (s : State). ended Finished s c.searches) e;
    same = left_so Finished u frame c.searches;
  }
  all_finish (top ∷ all) (task ∷ ts) frame h c u e known few = one_finishes top.0 top.1 task all ts frame h.0 (all_finish all ts frame h.1) c u e known few
  all_finish [] (task ∷ ts) frame h c u e known few = absurd h
  all_finish (top ∷ all) [] frame h c u e known few = absurd h

  behaves : AreTasks program (tops_of program) (tasks (linked_program program)) → Behaves program fuel
  unfolding program_meaning
  behaves are =
      let s = started fuel in
      let f = all_finish (tops_of program) (tasks (linked_program program)) s.frame are (nothing_done fuel) s refl (tt, tt) (omega arith) in
      record { ending = f.ending; runs = record { count = f.count; ends = f.ends }; same = f.same }

pub lowered_programs_behave : (program : Program) (fuel : ℕ) → IsScoped program → IsLowered program → Behaves program fuel
lowered_programs_behave program fuel scoped lowered = behaves program fuel (all_tasks program scoped lowered)

pub programs_behave : (program : Program) (fuel : ℕ) → IsReady program → Behaves program fuel
programs_behave program fuel ready = lowered_programs_behave program fuel (program_ok program ready) (lowered_of_ready program ready)

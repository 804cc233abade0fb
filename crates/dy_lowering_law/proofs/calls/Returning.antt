-- A body returns, or is left: to its caller.
use Rattle.std.proofs.Common.{◌≡◌, ℕ, Bool, true, false, List, [], ◌∷◌, Option, Some, None, refl, ap, ◌∙◌}
use Rattle.std.specs.Prelude.{nat_eq, if◌then◌else◌}
use Rattle.dy_term.specs.declared.rows.Program.{Program}
use Rattle.dy_values.specs.declared.value.Variant.{Variant}
use Rattle.dy_outcome.specs.declared.state.Frame.{Frame}
use Rattle.dy_outcome.specs.declared.state.State.{State}
use Rattle.dy_outcome.specs.States.{Outcome, Gave, Exits, Ended, Spent, and_then, back_to}
use Rattle.dy_steps.specs.Configurations.{Row, Leaves, Cleans, Handles, Catches, Activation, Following, Waiting, Config, Step, Stuck}
use Rattle.dy_steps.specs.Rows.{arrival, arrived, unwound}
use Rattle.dy_steps.specs.Calling.{new_activation}
use Rattle.dy_lowering_law.specs.Following.{Spot, standing, after, after_any, Comes}
use Rattle.dy_lowering_law.specs.Machines.{machine_of}
use Rattle.dy_lowering_law.specs.Renumbering.{body_of}
use Rattle.dy_lowering_law.proofs.Leading.{comes_on}

-- an exit goes on where its row leads, wherever the frame is
either : (b : Bool) (x y z : Option (List Variant × Activation)) → y ≡ z → (if b then x else y) ≡ (if b then x else z)
either true x y z e = refl
either false x y z e = e

arrival_there : (block : ℕ) (values : List Variant) (place : ℕ) (a : Activation) (rows : List Row) → arrival block values rows (record a { place = place }) ≡ arrival block values rows a
arrival_there block values place a [] = refl
arrival_there block values place a (Leaves n to ∷ rows) = either (nat_eq n block) _ _ _ (arrival_there block values place a rows)
arrival_there block values place a (Catches n condition to ∷ rows) = either (nat_eq n block) _ _ _ (arrival_there block values place a rows)
arrival_there block values place a (Cleans n to ∷ rows) = refl
arrival_there block values place a (Handles n condition function ∷ rows) = arrival_there block values place a rows

-- nor does it see the body that runs, nor its frame
abbrev elsewhere : Activation → List Variant → List Waiting → Frame → Config → Config
elsewhere a register waiting frame c = record c { running = a; register = register; waiting = waiting; state = record (c.state) { frame = frame } }

arrived_there : (found other : Option (List Variant × Activation)) (frame inner : Frame) (waiting others : List Waiting) (a : Activation) (register : List Variant) (c : Config) (s t : Step) → found ≡ other → s ≡ t
    → arrived found frame waiting (elsewhere a register others inner c) s ≡ arrived other frame waiting c t
arrived_there found other frame inner waiting others a register c s t e f = ap (λ o. arrived o frame waiting (elsewhere a register others inner c) s) e ∙ same other
  where
    same : (o : Option (List Variant × Activation)) → arrived o frame waiting (elsewhere a register others inner c) s ≡ arrived o frame waiting c t
    same None = f
    same (Some arrived) = refl

unwound_there : (block : ℕ) (values : List Variant) (from : Activation) (frame inner : Frame) (waiting others : List Waiting) (a : Activation) (register : List Variant) (c : Config)
    → unwound block values from frame waiting (elsewhere a register others inner c) ≡ unwound block values from frame waiting c
unwound_there block values from frame inner [] others a register c =
    arrived_there (arrival block values from.rows from) (arrival block values from.rows from) frame inner [] others a register c _ _ refl refl
unwound_there block values from frame inner (w ∷ waiting) others a register c =
    arrived_there (arrival block values from.rows from) (arrival block values from.rows from) frame inner (w ∷ waiting) others a register c _ _ refl (unwound_there block values w.activation w.frame inner waiting others a register c)

unwound_from : (block : ℕ) (values : List Variant) (place : ℕ) (from : Activation) (frame : Frame) (waiting : List Waiting) (c : Config)
    → unwound block values (record from { place = place }) frame waiting c ≡ unwound block values from frame waiting c
unwound_from block values place from frame [] c = ap (λ found. arrived found frame [] c Stuck) (arrival_there block values place from from.rows)
unwound_from block values place from frame (w ∷ waiting) c = ap (λ found. arrived found frame (w ∷ waiting) c (unwound block values w.activation w.frame waiting c)) (arrival_there block values place from from.rows)

-- where a body stands that was called from a place
abbrev pub inner : ℕ → List Variant → Option Following → Spot → ℕ → Frame → Spot
inner body arguments following x place frame = record {
  running = new_activation body arguments following;
  waiting = record { activation = record (x.running) { place = place }; frame = frame } ∷ x.waiting;
  task = x.task;
  tasks = x.tasks;
}

module _ (program : Program) (body : ℕ) (arguments : List Variant) (following : Option Following) (x : Spot) (place : ℕ) (frame : Frame) where
  abbrev called : Spot
  called = inner body arguments following x place frame

  left_with : (block : ℕ) (values : List Variant) (s : State) (k : ℕ)
      → unwound block values called.running s.frame called.waiting (standing (body_of program) called 0 [] s k)
      ≡ unwound block values x.running frame x.waiting (standing (body_of program) x 0 [] (record s { frame = frame }) k)
  left_with block values s k =
      unwound_from block values place x.running frame x.waiting (standing (body_of program) called 0 [] s k)
      ∙ unwound_there block values x.running frame s.frame x.waiting called.waiting called.running [] (standing (body_of program) x 0 [] (record s { frame = frame }) k)

  -- what is no value leads from the body as from its caller; values go on in the body
  pub out_comes : (c : Config) (q : ℕ) (o : Outcome) (go : List Variant → State → Outcome) → Comes (machine_of program) c (after (body_of program) called q o)
      → ((values : List Variant) (s : State) (j : ℕ) → o ≡ Gave values s → Comes (machine_of program) (standing (body_of program) called q values s j) (after (body_of program) x place (back_to frame (go values s))))
      → Comes (machine_of program) c (after (body_of program) x place (back_to frame (and_then o go)))
  out_comes c q (Gave values s) go comes next = comes_on (machine_of program) c (λ j. standing (body_of program) called q values s j) (after (body_of program) x place (back_to frame (go values s))) comes (λ j. next values s j refl)
  out_comes c q (Exits block values s) go comes next = record { count = comes.count; searches = comes.searches; there = comes.there ∙ left_with block values s comes.searches }
  out_comes c q (Ended line s) go comes next = record { count = comes.count; searches = comes.searches; there = comes.there }
  out_comes c q (Spent s) go comes next = record { count = comes.count; searches = comes.searches; there = comes.there }

  pub out_any : (c : Config) (q : ℕ) (o : Outcome) (register : List Variant) (go : List Variant → State → Outcome) → Comes (machine_of program) c (after_any (body_of program) called q o register)
      → ((values : List Variant) (s : State) (j : ℕ) → o ≡ Gave values s → Comes (machine_of program) (standing (body_of program) called q register s j) (after (body_of program) x place (back_to frame (go values s))))
      → Comes (machine_of program) c (after (body_of program) x place (back_to frame (and_then o go)))
  out_any c q (Gave values s) register go comes next = comes_on (machine_of program) c (λ j. standing (body_of program) called q register s j) (after (body_of program) x place (back_to frame (go values s))) comes (λ j. next values s j refl)
  out_any c q (Exits block values s) register go comes next = record { count = comes.count; searches = comes.searches; there = comes.there ∙ left_with block values s comes.searches }
  out_any c q (Ended line s) register go comes next = record { count = comes.count; searches = comes.searches; there = comes.there }
  out_any c q (Spent s) register go comes next = record { count = comes.count; searches = comes.searches; there = comes.there }

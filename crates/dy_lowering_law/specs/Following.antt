-- The machine follows the meaning: from every place it does on the code of a term what the term
-- does, whichever of its four ends that has.
use Rattle.std.specs.Prelude.{◌≡◌, ℕ, ◌+◌, ◌<◌, ◌≤◌, true, List, [], ◌∷◌, ◌++◌, length}
use Rattle.std.specs.declared.option.Option.{Option}
use Rattle.std.specs.declared.option.Option.TheVariants.{None, Some}
use Rattle.dy_base.specs.declared.ids.BindingId.{BindingId}
use Rattle.dy_term.specs.declared.rows.Program.{Program}
use Rattle.dy_values.specs.declared.value.Variant.{Variant}
use Rattle.dy_values.specs.declared.value.Variant.TheVariants.{Int}
use Rattle.dy_values.specs.declared.object.ObjectRow.{ObjectRow}
use Rattle.dy_values.specs.declared.object.ObjectRow.TheVariants.{Closure, Exit, NextMethod}
use Rattle.dy_values.specs.declared.object.ObjectRow.TheVariants.{NextHandler, Cell}
use Rattle.dy_outcome.specs.declared.state.State.{State}
use Rattle.dy_outcome.specs.States.{Scope, Outcome, Gave, Exits, Ended, Spent, Does}
use Rattle.dy_outcome.specs.Nearness.{NeverRises}
use Rattle.dy_outcome.specs.Turns.{fits}
use Rattle.dy_code.specs.Fetching.{Instruction, Closure as MakesClosure, fetch}
use Rattle.dy_code.specs.Programs.{Task}
use Rattle.dy_code.specs.Validity.{Every}
use Rattle.dy_code.specs.declared.unit.Linked.{Linked}
use Rattle.dy_meaning.specs.Lambdas.{lambdas_of}
use Rattle.dy_steps.specs.Configurations.{Activation, Waiting, Config, Signalled, OutOfFuel}
use Rattle.dy_steps.specs.Configurations.{Step, Goes, Machine}
use Rattle.dy_steps.specs.Effects.{ended}
use Rattle.dy_steps.specs.Rows.{unwound}
use Rattle.dy_steps.specs.Steps.{steps}
use Rattle.dy_lowered.specs.Flat.{Flat, Code, placed}
use Rattle.dy_lowering_law.specs.Force.{RowsFit, scope_in, scope_around}
use Rattle.dy_lowering_law.specs.Machines.{linked_program, machine_of}
use Rattle.dy_lowering_law.specs.Renumbering.{body_of, renumbered}

-- Where a term stands: in a body that was entered, with its operands and rows, those that wait, and
-- what is to be done. How far the body has come is told apart.
pub record Spot : Type 0 where
  pub running : Activation
  pub waiting : List Waiting
  pub task : Task
  pub tasks : List Task

abbrev pub scope_of : Spot → Scope
scope_of x = scope_in x.running.rows ++ scope_around x.waiting

-- the configuration that stands for a state at a place there, with these values in the register
abbrev pub standing : (ℕ → ℕ) → Spot → (place : ℕ) → List Variant → State → (searches : ℕ) → Config
standing number x place register state searches = record {
  running = record (x.running) { place = place };
  register = register;
  waiting = x.waiting;
  state = renumbered number state;
  searches = searches;
  task = x.task;
  tasks = x.tasks;
}

-- Where the machine is to come: with values, to the place behind the code; with an exit, to where
-- the rows of the spot lead it; with an end, to that end of the run.
abbrev pub after : (ℕ → ℕ) → Spot → (place : ℕ) → Outcome → (searches : ℕ) → Step
after number x place (Gave values state) searches =
    Goes (standing number x place values state searches)
after number x place (Exits block values state) searches =
    unwound block values x.running state.frame x.waiting (standing number x 0 [] state searches)
after number x place (Ended line state) searches =
    ended (Signalled line) (renumbered number state) searches
after number x place (Spent state) searches = ended OutOfFuel (renumbered number state) searches

-- In some steps the machine comes from a configuration to a step. How often methods were sorted is
-- left open.
pub record Comes (m : Machine) (from : Config) (to : ℕ → Step) : Type 0 where
  pub count : ℕ
  pub searches : ℕ
  pub there : steps m count (Goes from) ≡ to searches

-- an instruction of a library behind so many bodies of others
abbrev pub numbered : ℕ → Instruction → Instruction
numbered before (MakesClosure body count) = MakesClosure (before + body) count
numbered before instruction = instruction

-- code stands in a body from a place on
abbrev pub Holds : Linked → (before body place : ℕ) → Code → Type 0
Holds linked before body place [] = Unit {0}
Holds linked before body place (flat ∷ code) =
    (fetch linked body place
    ≡ Some (record { instruction = numbered before (placed place flat); next = place + 1 }))
    × Holds linked before body (place + 1) code

-- a value that has 64 bits if it is an integer
abbrev pub IsWord : Variant → Type 0
IsWord (Int number) = fits number ≡ true
IsWord value = Unit {0}

abbrev pub AreWords : List Variant → Type 0
AreWords values = Every IsWord values

abbrev pub IsWordOrNone : Option Variant → Type 0
IsWordOrNone None = Unit {0}
IsWordOrNone (Some value) = IsWord value

abbrev pub IsWordGlobal : BindingId × Option Variant → Type 0
IsWordGlobal entry = IsWordOrNone entry.1

-- Closures are of lambdas of the program, and what they captured and what cells hold has 64 bits.
-- Exit procedures, next-method and next-handler procedures are not made yet.
abbrev pub IsKnown : Program → ObjectRow → Type 0
IsKnown program (Closure lambda captured) =
    (lambda < length (lambdas_of program)) × AreWords captured
IsKnown program (Cell value) = IsWord value
IsKnown program (Exit block) = ⊥
IsKnown program (NextMethod generic methods ambiguous arguments) = ⊥
IsKnown program (NextHandler block value) = ⊥
IsKnown program row = Unit {0}

-- what variables have, and the locals of a body
pub record HasWords (state : State) : Type 0 where
  pub locals : AreWords state.frame.locals
  pub captured : AreWords state.frame.captured
  pub globals : Every IsWordGlobal state.store.globals

-- a state of a body with so many locals
pub record IsRight (program : Program) (locals : ℕ) (state : State) : Type 0 where
  pub objects : Every (IsKnown program) state.store.objects
  pub frame : length state.frame.locals ≡ locals
  pub words : HasWords state

abbrev pub IsRightAfter : Program → ℕ → Outcome → Type 0
IsRightAfter program locals (Gave values state) = IsRight program locals state × AreWords values
IsRightAfter program locals (Exits block values state) =
    IsRight program locals state × AreWords values
IsRightAfter program locals (Ended line state) = Unit {0}
IsRightAfter program locals (Spent state) = Unit {0}

-- In bodies with so many locals, of the library behind so many bodies of others, and where at most
-- n units are left, this code does what a term does, from every place.
pub record Follows (program : Program) (n before locals : ℕ) (code : Code) (does : Does)
    : Type 0 where
  -- the units do not rise, and states stay right
  pub falls : NeverRises does
  pub keeps : (scope : Scope) (state : State) → IsRight program locals state
      → IsRightAfter program locals (does scope state)
  pub runs : (x : Spot) (place : ℕ) (register : List Variant) (state : State) (searches : ℕ)
      → Holds (linked_program program) before x.running.body place code → RowsFit x.running
      → IsRight program locals state → state.fuel.left ≤ n
      → Comes (machine_of program) (standing (body_of program) x place register state searches)
      (after (body_of program) x (place + length code) (does (scope_of x) state))

-- the same where nothing asks for the values: the register has these then
abbrev pub after_any : (ℕ → ℕ) → Spot → (place : ℕ) → Outcome → List Variant → (searches : ℕ)
    → Step
after_any number x place (Gave values state) register searches =
    Goes (standing number x place register state searches)
after_any number x place outcome register searches = after number x place outcome searches

pub record Reaches (m : Machine) (from : Config) (to : List Variant → ℕ → Step) : Type 0 where
  pub register : List Variant
  pub comes : Comes m from (to register)

-- This code does what something does that binds locals and has no value.
pub record Prepares (program : Program) (n before locals : ℕ) (code : Code) (does : Does)
    : Type 0 where
  pub falls : NeverRises does
  pub keeps : (scope : Scope) (state : State) → IsRight program locals state
      → IsRightAfter program locals (does scope state)
  pub runs : (x : Spot) (place : ℕ) (register : List Variant) (state : State) (searches : ℕ)
      → Holds (linked_program program) before x.running.body place code → RowsFit x.running
      → IsRight program locals state → state.fuel.left ≤ n
      → Reaches (machine_of program) (standing (body_of program) x place register state searches)
      (after_any (body_of program) x (place + length code) (does (scope_of x) state))

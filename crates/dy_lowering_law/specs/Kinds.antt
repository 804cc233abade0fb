-- The theorem for kinds of terms: where the code of the parts does what these do, so does that of
-- the whole.
use Rattle.std.specs.Prelude.{◌≡◌, ◌≤◌, ◌<◌, ℕ, nat_eq, Bool, true, false, List, [], ◌∷◌, ◌++◌}
use Rattle.std.specs.Prelude.{length}
use Rattle.std.specs.declared.option.Option.TheVariants.{None}
use Rattle.dy_values.specs.declared.value.Variant.{Variant}
use Rattle.dy_outcome.specs.declared.state.State.{State}
use Rattle.dy_outcome.specs.Nearness.{NeverRises}
use Rattle.dy_term.specs.declared.rows.Program.{Program}
use Rattle.dy_values.specs.Spending.{first, is_false}
use Rattle.dy_outcome.specs.declared.place.Place.{Place}
use Rattle.dy_outcome.specs.Choices.{chosen, branching, both, either}
use Rattle.dy_outcome.specs.Parts as means
use Rattle.dy_outcome.specs.Parts.{assigning, letting}
use Rattle.dy_outcome.specs.declared.place.Place.TheVariants.{Own}
use Rattle.dy_outcome.specs.Places.{read}
use Rattle.dy_outcome.specs.States.{Scope, Gave, Does, and_then, gave}
use Rattle.dy_prims.specs.Operations.{Answered, Answers, Fails, NoUnit, applied}
use Rattle.dy_meaning.specs.Operations.{operated, output}
use Rattle.dy_code.specs.Fetching.{Instruction, Const, Values, Global, SetGlobal, Op}
use Rattle.dy_base.specs.declared.ids.Ref.{Ref}
use Rattle.dy_base.specs.declared.ids.BindingId.{BindingId}
use Rattle.dy_base.specs.declared.ids.ClassId.{ClassId}
use Rattle.dy_base.specs.declared.ids.GenericId.{GenericId}
use Rattle.dy_base.specs.declared.ids.What.TheVariants as what
use Rattle.dy_values.specs.declared.value.Variant.TheVariants.{Class, Generic}
use Rattle.dy_outcome.specs.Calls.{calls_within}
use Rattle.dy_meaning.specs.Globals.{read_global, assigning_global}
use Rattle.dy_meaning.specs.Programs.{world}
use Rattle.dy_lowered.specs.Terms.{class_named, generic_named}
use Rattle.dy_lowered.specs.Words.{is_word_literal}
use Rattle.dy_lowered.specs.Flat.{Code, one}
use Rattle.dy_meaning.specs.Meaning.{literal, with_arguments}
use Rattle.dy_steps.specs.Configurations.{Step, Machine}
use Rattle.dy_steps.specs.Exits.{with_operand}
use Rattle.dy_steps.specs.Steps.{act, steps}
use Rattle.dy_term.specs.declared.literal.Literal.{Literal}
use Rattle.dy_lowered.specs.Parts as parts
use Rattle.dy_lowering_law.specs.Following.{Spot, scope_of, standing, after, numbered, AreWords}
use Rattle.dy_lowering_law.specs.Following.{IsRight, IsRightAfter, Follows, Prepares}
use Rattle.dy_lowering_law.specs.Force.{RowsFit}
use Rattle.dy_lowering_law.specs.Machines.{machine_of}
use Rattle.dy_lowering_law.specs.Renumbering.{body_of}

-- the value of a local
abbrev pub ReadsFollow : Type 0
ReadsFollow = (program : Program) (n before locals : ℕ) (place : Place)
    → Follows program n before locals (parts.read place) (λ scope s. gave (read place s) s)

-- a test, what it guards, and what follows where it fails
abbrev pub ChoicesFollow : Type 0
ChoicesFollow = (program : Program) (n before locals : ℕ) (test guarded other : Code)
    (a b c : Does) → Follows program n before locals test a
    → Follows program n before locals guarded b → Follows program n before locals other c
    → Follows program n before locals (parts.choice test guarded other)
    (λ scope s. and_then (a scope s)
    (λ values t. chosen (is_false (first values)) (c scope) (b scope) t))

-- tests and what they guard, one by one
abbrev pub BranchesDo : Program → (n before locals : ℕ) → List (Code × Code) → List (Does × Does)
    → Type 0
BranchesDo program n before locals [] [] = Unit {0}
BranchesDo program n before locals (code ∷ codes) (does ∷ others) =
    Follows program n before locals code.0 does.0 × Follows program n before locals code.1 does.1
    × BranchesDo program n before locals codes others
BranchesDo program n before locals codes all = ⊥

-- a conditional
abbrev pub BranchesFollow : Type 0
BranchesFollow = (program : Program) (n before locals : ℕ) (codes : List (Code × Code))
    (all : List (Does × Does)) (code : Code) (does : Does)
    → BranchesDo program n before locals codes all → Follows program n before locals code does
    → Follows program n before locals (parts.branching codes code) (branching all does)

-- an assignment to a local
abbrev pub AssignmentsFollow : Type 0
AssignmentsFollow = (program : Program) (n before locals : ℕ) (place : Place) (code : Code)
    (does : Does) → Follows program n before locals code does
    → Follows program n before locals (parts.assigning place code) (assigning place does)

-- a literal
abbrev pub LiteralsFollow : Type 0
LiteralsFollow = (program : Program) (n before locals : ℕ) (value : Literal)
    → is_word_literal value ≡ true
    → Follows program n before locals (one (Const value)) (literal value)

-- `&`
abbrev pub BothFollow : Type 0
BothFollow = (program : Program) (n before locals : ℕ) (left right : Code) (a b : Does)
    → Follows program n before locals left a → Follows program n before locals right b
    → Follows program n before locals (parts.both left right) (both a b)

-- code and what it does, one by one
abbrev pub AllDo : Program → (n before locals : ℕ) → List Code → List Does → Type 0
AllDo program n before locals [] [] = Unit {0}
AllDo program n before locals (code ∷ codes) (does ∷ others) =
    Follows program n before locals code does × AllDo program n before locals codes others
AllDo program n before locals codes all = ⊥

-- values on the operands, the last one on top
abbrev pub push_all : List Variant → Spot → Spot
push_all [] x = x
push_all (value ∷ values) x =
    push_all values (record x { running = with_operand value x.running })

-- in some steps the machine comes from a step to another one
pub record GoesOn (m : Machine) (from : Step) (to : ℕ → Step) : Type 0 where
  pub count : ℕ
  pub searches : ℕ
  pub there : steps m count from ≡ to searches

-- An instruction that finds so many operands does what follows the arguments.
pub record Takes (program : Program) (n before locals count : ℕ) (call : Instruction)
    (go : List Variant → Does) : Type 0 where
  pub falls : (values : List Variant) → NeverRises (go values)
  pub keeps : (values : List Variant) → AreWords values → (scope : Scope) (state : State)
      → IsRight program locals state → IsRightAfter program locals (go values scope state)
  pub runs : (values : List Variant) (x : Spot) (place : ℕ) (register : List Variant)
      (state : State) (searches : ℕ) → length values ≡ count → AreWords values
      → RowsFit x.running → IsRight program locals state → state.fuel.left ≤ n
      → GoesOn (machine_of program)
      (act (machine_of program) (numbered before call)
      (standing (body_of program) (push_all values x) place register state searches))
      (after (body_of program) x place (go values (scope_of x) state))

-- arguments, and an instruction that takes them
abbrev pub ArgumentsFollow : Type 0
ArgumentsFollow = (program : Program) (n before locals : ℕ) (codes : List Code) (all : List Does)
    (call : Instruction) (go : List Variant → Does) → AllDo program n before locals codes all
    → Takes program n before locals (length codes) call go
    → Follows program n before locals (parts.with_arguments codes call) (with_arguments all go)

-- operands become the values
abbrev pub ValuesTaken : Type 0
ValuesTaken = (program : Program) (n before locals count : ℕ)
    → Takes program n before locals count (Values count) (λ values scope state. Gave values state)

-- `|`
abbrev pub EitherFollow : Type 0
EitherFollow = (program : Program) (n before locals : ℕ) (left right : Code) (a b : Does)
    → Follows program n before locals left a → Follows program n before locals right b
    → Follows program n before locals (parts.either left right) (either a b)

-- parts of a body, one by one; none of them is a handler
abbrev pub PartsDo : Program → (n before locals : ℕ) → List parts.Part → List means.Part → Type 0
PartsDo program n before locals [] [] = Unit {0}
PartsDo program n before locals (parts.Runs code ∷ codes) (means.Runs does ∷ all) =
    Follows program n before locals code does × PartsDo program n before locals codes all
PartsDo program n before locals (parts.Binds code ∷ codes) (means.Binds does ∷ all) =
    Prepares program n before locals code does × PartsDo program n before locals codes all
PartsDo program n before locals codes all = ⊥

-- a body
abbrev pub BodiesFollow : Type 0
BodiesFollow = (program : Program) (n before locals : ℕ) (codes : List parts.Part)
    (all : List means.Part) → PartsDo program n before locals codes all
    → Follows program n before locals (parts.body codes) (means.body all)

-- `let` of one local of the body
abbrev pub LetsFollow : Type 0
LetsFollow = (program : Program) (n before locals number : ℕ) (in_cell : Bool) (code : Code)
    (does : Does) → number < locals → Follows program n before locals code does
    → Prepares program n before locals (parts.letting (Own number in_cell ∷ []) None code)
    (letting (Own number in_cell ∷ []) None does)

-- names of libraries, and assignments to them
pub record NamesFollow (program : Program) (n before locals : ℕ) : Type 0 where
  pub classes : (class : ClassId)
      → Follows program n before locals (one (Global (class_named class)))
      (λ scope s. gave (Class class) s)
  pub generics : (generic : GenericId)
      → Follows program n before locals (one (Global (generic_named generic)))
      (λ scope s. gave (Generic generic) s)
  pub functions : (at : Ref) (bound : ℕ)
      → Follows program n before locals (one (Global (record { what = what.Function; at = at })))
      (read_global program (calls_within (world program) bound)
      (record { what = what.Function; at = at }))
  pub variables : (at : Ref) (bound : ℕ)
      → Follows program n before locals (one (Global (record { what = what.Variable; at = at })))
      (read_global program (calls_within (world program) bound)
      (record { what = what.Variable; at = at }))
  pub constants : (at : Ref) (bound : ℕ)
      → Follows program n before locals (one (Global (record { what = what.Constant; at = at })))
      (read_global program (calls_within (world program) bound)
      (record { what = what.Constant; at = at }))
  pub assignments : (named : BindingId) (code : Code) (does : Does)
      → Follows program n before locals code does
      → Follows program n before locals (code ++ one (SetGlobal named))
      (assigning_global named does)

abbrev pub AllNamesFollow : Type 0
AllNamesFollow = (program : Program) (n before locals : ℕ) → NamesFollow program n before locals

-- an answer leaves no more units than there were
abbrev pub IsLow : Answered → ℕ → Type 0
IsLow (Answers values units) left = units ≤ left
IsLow (Fails error units) left = units ≤ left
IsLow NoUnit left = Unit {0}

-- a built-in operation that prints nothing
abbrev pub OperationsTaken : Type 0
OperationsTaken = (program : Program) (n before locals number count : ℕ)
    → nat_eq number output ≡ false
    → ((values : List Variant) (units : ℕ) → IsLow (applied number values units) units)
    → Takes program n before locals count (Op number count) (operated program number)

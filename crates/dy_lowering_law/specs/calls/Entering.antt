-- Bodies that are entered: the machine on the body of a lambda does what a call of it does.
use Rattle.std.specs.Prelude.{◌≡◌, ℕ, ◌+◌, ◌-◌, ◌<◌, ◌≤◌, List, length}
use Rattle.std.specs.declared.option.Option.{Option}
use Rattle.std.specs.declared.option.Option.TheVariants.{None, Some}
use Rattle.dy_term.specs.declared.term.Lambda.{Lambda, out-Lambda}
use Rattle.dy_term.specs.declared.rows.Program.{Program}
use Rattle.dy_values.specs.declared.value.Variant.{Variant}
use Rattle.dy_outcome.specs.declared.state.State.{State}
use Rattle.dy_outcome.specs.States.{Scope}
use Rattle.dy_outcome.specs.Calls.{Fun, entered}
use Rattle.dy_code.specs.Fetching.{rest_locals}
use Rattle.dy_code.specs.Programs.{Located, located}
use Rattle.dy_meaning.specs.Lambdas.{of_defaults}
use Rattle.dy_meaning.specs.Layouts.{layout_of}
use Rattle.dy_meaning.specs.Programs.{lambda_of, fun_of, world, meaning_within}
use Rattle.dy_steps.specs.Configurations.{Following}
use Rattle.dy_steps.specs.Calling.{enter_body}
use Rattle.dy_lowered.specs.Bodies.{FlatBody, lambda_body}
use Rattle.dy_lowered.specs.Terms.{code_of}
use Rattle.dy_lowering_law.specs.Following.{Spot, scope_of, standing, after, Holds, AreWords}
use Rattle.dy_lowering_law.specs.Following.{IsRight, IsRightAfter, Follows}
use Rattle.dy_lowering_law.specs.Kinds.{GoesOn}
use Rattle.dy_lowering_law.specs.Machines.{linked_program, machine_of}
use Rattle.dy_lowering_law.specs.Renumbering.{body_of}

-- Where at most n units are left, a call of the body of this number comes from every place to where
-- a call of a body with parameters comes: back, with the values in the register and the frame as it
-- was; with an exit, to where the rows of the caller lead; with an end, to that end.
pub record Enters (program : Program) (n body : ℕ) (fun : Fun) : Type 0 where
  pub keeps : (captured values : List Variant) → AreWords captured → AreWords values
      → (scope : Scope) (locals : ℕ) (state : State) → IsRight program locals state
      → IsRightAfter program locals (entered (world program) n fun captured values scope state)
  pub runs : (captured values : List Variant) → AreWords captured → AreWords values
      → (following : Option Following) (x : Spot) (place : ℕ) (register : List Variant)
      (state : State) (searches locals : ℕ)
      → IsRight program locals state → state.fuel.left ≤ n
      → GoesOn (machine_of program)
      (enter_body (machine_of program) body captured values following
      (standing (body_of program) x place register state searches))
      (after (body_of program) x place
      (entered (world program) n fun captured values (scope_of x) state))

-- so it is for each lambda of a program, by its number
abbrev pub LambdasEnter : Program → ℕ → Type 0
LambdasEnter program n = (number : ℕ) (lambda : Lambda) → lambda_of program number ≡ Some lambda
    → Enters program n (body_of program number) (fun_of program lambda number)

-- The body of a number is this one, and its code stands there. So many bodies of other libraries
-- stand before its own.
pub record Stands (program : Program) (before body : ℕ) (flat : FlatBody) : Type 0 where
  pub at : Located
  pub here : located (linked_program program) body ≡ Some at
  pub locals : at.body.locals ≡ flat.locals
  pub code : Holds (linked_program program) before body 0 flat.code

-- A lambda without keywords, whose locals have room for its parameters.
pub record IsPlain (lambda : Lambda) : Type 0 where
  pub keys : (out-Lambda lambda).params.keys ≡ None
  pub room : length (out-Lambda lambda).params.required
      + rest_locals (out-Lambda lambda).params.rest
      ≤ (out-Lambda lambda).locals - (out-Lambda lambda).first

-- The code of the term of a lambda does what the term does. The lambda has this number, and the
-- body of the first closure inside of it that one.
abbrev pub TermFollows : Program → (n before closure number : ℕ) → Lambda → Type 0
TermFollows program n before closure number lambda =
    let row = out-Lambda lambda in
    let defaults = length (of_defaults row.keywords) in
    Follows program n before (row.locals - row.first)
    (code_of (layout_of lambda) row.body (closure + defaults))
    (meaning_within program n (layout_of lambda) row.body (number + 1 + defaults))

-- The entry of a body spends a unit. Where its term follows with the units that are left then, a
-- call of the body comes to where a call of the lambda does.
abbrev pub EntriesFollow : Type 0
EntriesFollow = (program : Program) (n before body closure number : ℕ) (lambda : Lambda)
    → IsPlain lambda → Stands program before body (lambda_body lambda closure)
    → ((m : ℕ) → m < n → TermFollows program m before closure number lambda)
    → Enters program n body (fun_of program lambda number)

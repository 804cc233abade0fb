-- The induction on units: where terms follow as long as calls do, calls do with every number of
-- units.
use Rattle.std.specs.Prelude.{◌≡◌, ℕ, true}
use Rattle.std.specs.declared.option.Option.TheVariants.{Some}
use Rattle.dy_base.specs.declared.ids.GenericId.{GenericId}
use Rattle.dy_term.specs.declared.term.Lambda.{Lambda}
use Rattle.dy_term.specs.declared.rows.GenericRow.{GenericRow}
use Rattle.dy_term.specs.declared.rows.Program.{Program}
use Rattle.dy_code.specs.Fetching.{Op}
use Rattle.dy_meaning.specs.Operations.{operated}
use Rattle.dy_meaning.specs.Programs.{lambda_of, generic_at}
use Rattle.dy_lowered.specs.Bodies.{lambda_body}
use Rattle.dy_lowering_law.specs.Following.{Holds}
use Rattle.dy_lowering_law.specs.Kinds.{Takes}
use Rattle.dy_lowering_law.specs.Machines.{linked_program}
use Rattle.dy_lowering_law.specs.Ready.{generic_ready}
use Rattle.dy_lowering_law.specs.Renumbering.{body_of}
use Rattle.dy_lowering_law.specs.calls.Belonging.{bodies_before, Belongs}
use Rattle.dy_lowering_law.specs.calls.Calls.{CallsStand}
use Rattle.dy_lowering_law.specs.calls.Entering.{IsPlain, Stands, TermFollows}

-- where the code of the body of a lambda is fetched as it was written, the body stands there
abbrev pub BodiesStand : Type 0
BodiesStand = (program : Program) (number : ℕ) (lambda : Lambda)
    (belongs : Belongs program number lambda)
    → Holds (linked_program program) (bodies_before program belongs.place)
    (body_of program number) 0 (lambda_body lambda belongs.closure).code
    → Stands program (bodies_before program belongs.place) (body_of program number)
    (lambda_body lambda belongs.closure)

-- where the body of a lambda stands, which has no keywords, and whose locals have room
pub record IsPlaced (program : Program) (number : ℕ) (lambda : Lambda) : Type 0 where
  pub before : ℕ
  pub closure : ℕ
  pub plain : IsPlain lambda
  pub stands : Stands program before (body_of program number) (lambda_body lambda closure)

-- What holds of a program whatever the units: no generic function has keywords, built-in operations
-- do what they do, and each lambda has its body in the program.
pub record IsLaid (program : Program) : Type 0 where
  pub generics : (generic : GenericId) (row : GenericRow) → generic_at program generic ≡ Some row
      → generic_ready row ≡ true
  pub operations : (n before locals number count : ℕ)
      → Takes program n before locals count (Op number count) (operated program number)
  pub lambdas : (number : ℕ) (lambda : Lambda) → lambda_of program number ≡ Some lambda
      → IsPlaced program number lambda

-- the terms of all lambdas follow where at most n units are left
abbrev pub LambdasFollow : (program : Program) → IsLaid program → ℕ → Type 0
LambdasFollow program laid n = (number : ℕ) (lambda : Lambda)
    (known : lambda_of program number ≡ Some lambda)
    → TermFollows program n (laid.lambdas number lambda known).before
    (laid.lambdas number lambda known).closure number lambda

abbrev pub CallsAlwaysStand : Type 0
CallsAlwaysStand = (program : Program) (laid : IsLaid program)
    → ((n : ℕ) → CallsStand program n → LambdasFollow program laid n)
    → (n : ℕ) → CallsStand program n

-- Where the body of each lambda stands, and those of the lambdas inside of it.
use Rattle.std.specs.Prelude.{◌≡◌, ℕ, ◌+◌, ◌<◌, length, take, slice_get}
use Rattle.std.specs.declared.option.Option.TheVariants.{Some}
use Rattle.dy_term.specs.declared.term.Lambda.{Lambda}
use Rattle.dy_term.specs.declared.rows.LibraryRow.{LibraryRow}
use Rattle.dy_term.specs.declared.rows.Program.{Program}
use Rattle.dy_code.specs.Programs.{bodies_in}
use Rattle.dy_meaning.specs.Lambdas.{lambdas_within}
use Rattle.dy_meaning.specs.Programs.{lambda_of}
use Rattle.dy_lowered.specs.Bodies.{bodies_of, lambda_body}
use Rattle.dy_lowering_law.specs.Machines.{linked_program}
use Rattle.dy_lowering_law.specs.Renumbering.{body_of}

-- how many bodies of a program stand before those of the library at a place
abbrev pub bodies_before : Program → ℕ → ℕ
bodies_before program place = bodies_in (take place (linked_program program).code)

-- The lambda of this number has its body in a library of the program. The bodies of the lambdas
-- inside of it follow each other there, in the order of their numbers.
pub record Belongs (program : Program) (number : ℕ) (lambda : Lambda) : Type 0 where
  pub place : ℕ
  pub library : LibraryRow
  pub body : ℕ
  pub closure : ℕ
  pub there : slice_get program.libraries place ≡ Some library
  pub stands : slice_get (bodies_of library) body ≡ Some (lambda_body lambda closure)
  pub numbered : body_of program number ≡ bodies_before program place + body
  pub inner : (more : ℕ) → more < length (lambdas_within lambda)
      → body_of program (number + 1 + more) ≡ bodies_before program place + closure + more

abbrev pub LambdasBelong : Type 0
LambdasBelong = (program : Program) (number : ℕ) (lambda : Lambda)
    → lambda_of program number ≡ Some lambda → Belongs program number lambda

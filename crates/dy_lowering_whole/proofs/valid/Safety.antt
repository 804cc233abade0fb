-- What validity asks of the bodies of a library.
use Rattle.std.proofs.Common.{◌≡◌, ℕ, ◌≤◌, Some, slice_get}
use Rattle.dy_term.specs.declared.term.Lambda.{Lambda, out-Lambda}
use Rattle.dy_term.specs.declared.rows.MethodCode.TheVariants.{Dylan}
use Rattle.dy_term.specs.declared.rows.MethodRow.{MethodRow}
use Rattle.dy_term.specs.declared.rows.VariableRow.{VariableRow}
use Rattle.dy_term.specs.declared.rows.LibraryRow.{LibraryRow}
use Rattle.dy_code.specs.Validity.{Every}
use Rattle.dy_lowered.specs.Bodies.{lambda_body, start_count, bodies_of}
use Rattle.dy_lowering_whole.specs.valid.Simple.{IsSimple}

-- a closure is of the body of a lambda, behind those that are begun with
pub record Closes (library : LibraryRow) (body count : ℕ) : Type 0 where
  pub lambda : Lambda
  pub number : ℕ
  pub at : slice_get (bodies_of library) body ≡ Some (lambda_body lambda number)
  pub behind : start_count library ≤ body

pub record IsSafe (library : LibraryRow) : Type 0 where
  pub fits : Every (λ flat. IsSimple (Closes library) (bodies_of library) flat.locals flat.captures flat.code) (bodies_of library)
  pub methods : (r : ℕ) (row : MethodRow) (lambda : Lambda) → slice_get library.methods r ≡ Some row → row.code ≡ Dylan lambda → (out-Lambda lambda).first ≡ 0
  pub functions : (r : ℕ) (row : VariableRow) (lambda : Lambda) → slice_get library.variables r ≡ Some row → row.function ≡ Some lambda → (out-Lambda lambda).first ≡ 0

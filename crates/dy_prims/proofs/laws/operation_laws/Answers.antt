use Rattle.std.proofs.Common.{◌≡◌, ℕ, refl}
use Rattle.std.specs.declared.option.Option.TheVariants.{Some}
use Rattle.dy_prims.specs.declared.operation.Operation.{Operation}
use Rattle.dy_prims.specs.declared.operation.Operation.TheVariants.{Add, Subtract, Multiply, Negative, LessIntegers, LessCharacters, Identical, Not, Values}
use Rattle.dy_prims.specs.Operations.{operation_at}
use Rattle.dy_prims.proofs.laws.operation_laws.Goals as goal

has_number : (operation : Operation) → (number : ℕ) × (operation_at number ≡ Some operation)
has_number Add = (0, refl)
has_number Subtract = (1, refl)
has_number Multiply = (2, refl)
has_number Negative = (3, refl)
has_number LessIntegers = (4, refl)
has_number LessCharacters = (5, refl)
has_number Identical = (28, refl)
has_number Not = (29, refl)
has_number Values = (61, refl)

pub returns : goal.returns
returns c = record { rows = refl; all = has_number }

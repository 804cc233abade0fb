-- Which body a call comes to: a function and a method have the body of their lambda.
use Rattle.std.specs.Prelude.{◌≡◌, ℕ, List, [], ◌∷◌}
use Rattle.std.specs.declared.option.Option.{Option}
use Rattle.std.specs.declared.option.Option.TheVariants.{Some}
use Rattle.dy_base.specs.declared.ids.BindingId.{BindingId}
use Rattle.dy_base.specs.declared.ids.MethodId.{MethodId}
use Rattle.dy_term.specs.declared.term.Lambda.{Lambda}
use Rattle.dy_term.specs.declared.rows.MethodCode.TheVariants.{Dylan}
use Rattle.dy_term.specs.declared.rows.MethodRow.{MethodRow}
use Rattle.dy_term.specs.declared.rows.VariableRow.{VariableRow}
use Rattle.dy_term.specs.declared.rows.Program.{Program}
use Rattle.dy_code.specs.Programs.{method_row, method_body, function_body}
use Rattle.dy_meaning.specs.Programs.{lambda_of, numbered_variable, methods_of}
use Rattle.dy_lowering_law.specs.Machines.{linked_program, all_methods_from}
use Rattle.dy_lowering_law.specs.Renumbering.{body_of}

-- the lambda has this number, and its body is this one
pub record HasBody (program : Program) (number : ℕ) (lambda : Lambda) (body : Option ℕ) : Type 0
  where
    pub numbered : lambda_of program number ≡ Some lambda
    pub found : body ≡ Some (body_of program number)

-- functions by their names
abbrev pub FunctionsHaveBodies : Type 0
FunctionsHaveBodies = (program : Program) (named : BindingId) (row : VariableRow) (number : ℕ)
    (lambda : Lambda) → numbered_variable program named.at ≡ Some (row, number)
    → row.function ≡ Some lambda
    → HasBody program number lambda (function_body (linked_program program) named)

-- a method by its place in the program, and by the number of its lambda
pub record IsMethod (program : Program) (method : MethodId × MethodRow)
    (numbered : MethodRow × ℕ) : Type 0 where
  pub row : method.1 ≡ numbered.0
  pub stands : method_row (linked_program program) method.0 ≡ Some numbered.0
  pub body : (lambda : Lambda) → numbered.0.code ≡ Dylan lambda
      → HasBody program numbered.1 lambda (method_body (linked_program program) method.0)

-- methods, one by one
abbrev pub AreMethods : Program → List (MethodId × MethodRow) → List (MethodRow × ℕ) → Type 0
AreMethods program [] [] = Unit {0}
AreMethods program (method ∷ methods) (numbered ∷ others) =
    IsMethod program method numbered × AreMethods program methods others
AreMethods program methods all = ⊥

-- the machine and the meaning see the same methods, in the same order
abbrev pub MethodsHaveBodies : Type 0
MethodsHaveBodies = (program : Program)
    → AreMethods program (all_methods_from 0 program.libraries) (methods_of program)

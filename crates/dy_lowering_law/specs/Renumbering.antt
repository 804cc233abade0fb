-- The numbers of closures. In the meaning a closure names its lambda by the place among all lambdas
-- of the program; in the machine it names the body. All else in a state is the same.
use Rattle.std.specs.Prelude.{ℕ, ◌+◌, List, [], ◌∷◌, ◌++◌, length, map, flat_map, slice_index_or}
use Rattle.std.specs.declared.option.Option.{Option}
use Rattle.std.specs.declared.option.Option.TheVariants.{None, Some}
use Rattle.dy_term.specs.declared.term.Lambda.{Lambda}
use Rattle.dy_term.specs.declared.rows.MethodCode.{MethodCode}
use Rattle.dy_term.specs.declared.rows.MethodCode.TheVariants.{Dylan}
use Rattle.dy_term.specs.declared.rows.LibraryRow.{LibraryRow}
use Rattle.dy_term.specs.declared.rows.Program.{Program}
use Rattle.dy_values.specs.declared.object.ObjectRow.{ObjectRow}
use Rattle.dy_values.specs.declared.object.ObjectRow.TheVariants.{Closure}
use Rattle.dy_values.specs.declared.store.Store.{Store}
use Rattle.dy_outcome.specs.declared.state.State.{State}
use Rattle.dy_code.specs.Programs.{dylan_methods}
use Rattle.dy_meaning.specs.Lambdas.{lambdas_within, of_classes, of_top}
use Rattle.dy_meaning.specs.Layouts.{from}
use Rattle.dy_lowered.specs.Bodies.{bodies_of, first_closure, inside_method, inside_variable}

abbrev pub lambda_of_code : MethodCode → Option Lambda
lambda_of_code (Dylan lambda) = Some lambda
lambda_of_code code = None

-- a lambda with the body of this number, and the closures inside of it, whose bodies follow each
-- other
abbrev pub numbers_if : Option Lambda → (ℕ → ℕ → List ℕ) → (start closure : ℕ) → List ℕ
numbers_if None others start closure = others start closure
numbers_if (Some lambda) others start closure =
    let count = length (lambdas_within lambda) in
    start ∷ (from closure count ++ others (start + 1) (closure + count))

abbrev pub numbers_of : {A : Type 0} → (A → Option Lambda) → List A → (start closure : ℕ) → List ℕ
numbers_of lambda [] start closure = []
numbers_of lambda (row ∷ rows) start closure =
    numbers_if (lambda row) (numbers_of lambda rows) start closure

-- the bodies of all lambdas of a library, in the order of the text, behind so many other bodies
abbrev pub library_numbers : ℕ → LibraryRow → List ℕ
library_numbers before library =
    let first = before + first_closure library in
    let methods = first + length (of_classes library) in
    let variables = methods + length (flat_map inside_method library.methods) in
    let forms = variables + length (flat_map inside_variable library.variables) in
    from first (length (of_classes library))
    ++ numbers_of (λ method. lambda_of_code method.code) library.methods before methods
    ++ numbers_of (λ variable. variable.function) library.variables
    (before + dylan_methods library.methods) variables
    ++ from forms (length (flat_map of_top library.tops))

abbrev pub numbers_from : ℕ → List LibraryRow → List ℕ
numbers_from before [] = []
numbers_from before (library ∷ libraries) =
    library_numbers before library
    ++ numbers_from (before + length (bodies_of library)) libraries

-- the body of a lambda of a program, by the numbers of both
abbrev pub body_of : Program → ℕ → ℕ
body_of program lambda = slice_index_or (numbers_from 0 program.libraries) lambda 0

module _ (number : ℕ → ℕ) where
  abbrev pub renumbered_row : ObjectRow → ObjectRow
  renumbered_row (Closure lambda captured) = Closure (number lambda) captured
  renumbered_row row = row

  abbrev pub renumbered_store : Store → Store
  renumbered_store store = record store { objects = map renumbered_row store.objects }

  -- a state of the meaning as the machine has it
  abbrev pub renumbered : State → State
  renumbered state = record state { store = renumbered_store state.store }

-- Each part of a library has no more nodes than the largest row that the library has the code of.
use Rattle.std.proofs.Common.{ℕ, ◌+◌, ◌≤◌, List, [], ◌∷◌, ◌++◌, Option, Some, None, sym, subst, arith}
use Rattle.std.specs.Prelude.{flat_map}
use Rattle.dy_term.specs.declared.term.Lambda.{Lambda}
use Rattle.dy_term.specs.declared.rows.Init.{Init}
use Rattle.dy_term.specs.declared.rows.SlotRow.{SlotRow}
use Rattle.dy_term.specs.declared.rows.MethodRow.{MethodRow}
use Rattle.dy_term.specs.declared.rows.MethodCode.{MethodCode}
use Rattle.dy_term.specs.declared.rows.MethodCode.TheVariants.{Dylan, Getter, Setter, Builtin}
use Rattle.dy_term.specs.declared.rows.VariableRow.{VariableRow}
use Rattle.dy_term.specs.declared.rows.TopTerm.{TopTerm}
use Rattle.dy_term.specs.declared.rows.Row.{Row}
use Rattle.dy_term.specs.declared.rows.Row.TheVariants as rows
use Rattle.dy_term.specs.declared.rows.LibraryRow.{LibraryRow}
use Rattle.dy_code.specs.Validity.{Every}
use Rattle.dy_lowered.specs.Bodies.{all_slots}
use Rattle.dy_lowering_whole.specs.sizes.Nodes.{nodes_of_lambda, nodes_of_code, nodes_of_function, nodes_of_init, nodes_of_top}
use Rattle.dy_unit_sizes.specs.Sizes.{PartsHaveAtMost}
use Rattle.dy_file_sizes.specs.Rows.{nodes_of_slots, nodes_of_row, nodes_of_rows, if_given, inits_of, code_lambda, method_lambdas, function_lambdas, row_inits, row_method, row_function, row_top, HasCodeOf}

pub every_join : {A : Type 0} (P : A → Type 0) (xs ys : List A) → Every P xs → Every P ys → Every P (xs ++ ys)
every_join P [] ys a b = b
every_join P (x ∷ xs) ys a b = (a.0, every_join P xs ys a.1 b)

-- what holds of all that is joined holds of both
split_front : {A : Type 0} (P : A → Type 0) (xs ys : List A) → Every P (xs ++ ys) → Every P xs
split_front P [] ys a = tt
split_front P (x ∷ xs) ys a = (a.0, split_front P xs ys a.1)

split_back : {A : Type 0} (P : A → Type 0) (xs ys : List A) → Every P (xs ++ ys) → Every P ys
split_back P [] ys a = a
split_back P (x ∷ xs) ys a = split_back P xs ys a.1

-- rows one after the other
every_flat : {A : Type 0} (P : A → Type 0) (Q : Row → Type 0) (of : Row → List A) → ((row : Row) → Q row → Every P (of row)) → (all : List Row) → Every Q all → Every P (flat_map of all)
every_flat P Q of each [] every = tt
every_flat P Q of each (row ∷ all) every = every_join P (of row) (flat_map of all) (each row every.0) (every_flat P Q of each all every.1)

module _ (most : ℕ) where
  abbrev RowIsSmall : Row → Type 0
  RowIsSmall row = nodes_of_row row ≤ most

  abbrev LambdaIsSmall : Lambda → Type 0
  LambdaIsSmall lambda = nodes_of_lambda lambda ≤ most

  abbrev InitIsSmall : Init → Type 0
  InitIsSmall init = nodes_of_init (Some init) ≤ most

  abbrev TopIsSmall : TopTerm → Type 0
  TopIsSmall top = nodes_of_top top ≤ most

  -- the code of a row
  code_small : (code : MethodCode) → nodes_of_code code ≤ most → Every LambdaIsSmall (code_lambda code)
  code_small (Dylan lambda) low = (low, tt)
  code_small (Getter class place) low = tt
  code_small (Setter class place) low = tt
  code_small (Builtin number) low = tt

  given_small : (function : Option Lambda) → nodes_of_function function ≤ most → Every LambdaIsSmall (if_given function)
  given_small None low = tt
  given_small (Some lambda) low = (low, tt)

  init_small : (init : Option Init) → nodes_of_init init ≤ most → Every InitIsSmall (if_given init)
  init_small None low = tt
  init_small (Some init) low = (low, tt)

  inits_small : (slots : List SlotRow) → nodes_of_slots slots ≤ most → Every InitIsSmall (inits_of slots)
  inits_small [] low = tt
  inits_small (slot ∷ slots) low = every_join InitIsSmall (if_given slot.init) (inits_of slots) (init_small slot.init (omega (arith, low))) (inits_small slots (omega (arith, low)))

  method_small : (row : Row) → RowIsSmall row → Every LambdaIsSmall (row_method row)
  method_small (rows.Method method) low = code_small method.code low
  method_small (rows.Class class) low = tt
  method_small (rows.Generic generic) low = tt
  method_small (rows.Domain domain) low = tt
  method_small (rows.Variable variable) low = tt
  method_small (rows.Top top) low = tt

  function_small : (row : Row) → RowIsSmall row → Every LambdaIsSmall (row_function row)
  function_small (rows.Variable variable) low = given_small variable.function low
  function_small (rows.Class class) low = tt
  function_small (rows.Generic generic) low = tt
  function_small (rows.Method method) low = tt
  function_small (rows.Domain domain) low = tt
  function_small (rows.Top top) low = tt

  class_small : (row : Row) → RowIsSmall row → Every InitIsSmall (row_inits row)
  class_small (rows.Class class) low = inits_small class.slots low
  class_small (rows.Generic generic) low = tt
  class_small (rows.Method method) low = tt
  class_small (rows.Domain domain) low = tt
  class_small (rows.Variable variable) low = tt
  class_small (rows.Top top) low = tt

  top_small : (row : Row) → RowIsSmall row → Every TopIsSmall (row_top row)
  top_small (rows.Top top) low = (low, tt)
  top_small (rows.Class class) low = tt
  top_small (rows.Generic generic) low = tt
  top_small (rows.Method method) low = tt
  top_small (rows.Domain domain) low = tt
  top_small (rows.Variable variable) low = tt

  -- and back, to the parts of a library
  code_back : (code : MethodCode) → Every LambdaIsSmall (code_lambda code) → nodes_of_code code ≤ most
  code_back (Dylan lambda) every = every.0
  code_back (Getter class place) every = omega arith
  code_back (Setter class place) every = omega arith
  code_back (Builtin number) every = omega arith

  given_back : (function : Option Lambda) → Every LambdaIsSmall (if_given function) → nodes_of_function function ≤ most
  given_back None every = omega arith
  given_back (Some lambda) every = every.0

  init_back : (init : Option Init) → Every InitIsSmall (if_given init) → nodes_of_init init ≤ most
  init_back None every = omega arith
  init_back (Some init) every = every.0

  methods_back : (methods : List MethodRow) → Every LambdaIsSmall (method_lambdas methods) → Every (λ (method : MethodRow). nodes_of_code method.code ≤ most) methods
  methods_back [] every = tt
  methods_back (method ∷ methods) every =
      (code_back method.code (split_front LambdaIsSmall (code_lambda method.code) (method_lambdas methods) every), methods_back methods (split_back LambdaIsSmall (code_lambda method.code) (method_lambdas methods) every))

  functions_back : (variables : List VariableRow) → Every LambdaIsSmall (function_lambdas variables) → Every (λ (variable : VariableRow). nodes_of_function variable.function ≤ most) variables
  functions_back [] every = tt
  functions_back (variable ∷ variables) every = (
    given_back variable.function (split_front LambdaIsSmall (if_given variable.function) (function_lambdas variables) every),
    functions_back variables (split_back LambdaIsSmall (if_given variable.function) (function_lambdas variables) every),
  )

  slots_back : (slots : List SlotRow) → Every InitIsSmall (inits_of slots) → Every (λ (slot : SlotRow). nodes_of_init slot.init ≤ most) slots
  slots_back [] every = tt
  slots_back (slot ∷ slots) every = (init_back slot.init (split_front InitIsSmall (if_given slot.init) (inits_of slots) every), slots_back slots (split_back InitIsSmall (if_given slot.init) (inits_of slots) every))

  pub has_small : (all : List Row) (library : LibraryRow) → HasCodeOf all library → Every RowIsSmall all → PartsHaveAtMost most library
  has_small all library has every = record {
    methods = methods_back library.methods (subst (Every LambdaIsSmall) (sym has.methods) (every_flat LambdaIsSmall RowIsSmall row_method method_small all every));
    functions = functions_back library.variables (subst (Every LambdaIsSmall) (sym has.functions) (every_flat LambdaIsSmall RowIsSmall row_function function_small all every));
    slots = slots_back (all_slots library) (subst (Every InitIsSmall) (sym has.slots) (every_flat InitIsSmall RowIsSmall row_inits class_small all every));
    tops = subst (Every TopIsSmall) (sym has.tops) (every_flat TopIsSmall RowIsSmall row_top top_small all every);
  }

  pub rows_each : (all : List Row) → nodes_of_rows all ≤ most → Every RowIsSmall all
  rows_each [] low = tt
  rows_each (row ∷ all) low = (omega (arith, low), rows_each all (omega (arith, low)))

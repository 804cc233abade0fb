-- How large rows are, by the nodes of their code, and the code of a library.
use Rattle.std.specs.Prelude.{◌≡◌, ℕ, ◌+◌, List, [], ◌∷◌, flat_map, Option, Some, None}
use Rattle.dy_term.specs.declared.term.Lambda.{Lambda}
use Rattle.dy_term.specs.declared.rows.Init.{Init}
use Rattle.dy_term.specs.declared.rows.SlotRow.{SlotRow}
use Rattle.dy_term.specs.declared.rows.MethodRow.{MethodRow}
use Rattle.dy_term.specs.declared.rows.MethodCode.{MethodCode}
use Rattle.dy_term.specs.declared.rows.MethodCode.TheVariants.{Dylan}
use Rattle.dy_term.specs.declared.rows.VariableRow.{VariableRow}
use Rattle.dy_term.specs.declared.rows.TopTerm.{TopTerm}
use Rattle.dy_term.specs.declared.rows.Row.{Row}
use Rattle.dy_term.specs.declared.rows.Row.TheVariants as rows
use Rattle.dy_term.specs.declared.rows.LibraryRow.{LibraryRow}
use Rattle.dy_lowered.specs.Bodies.{all_slots}
use Rattle.dy_lowering_whole.specs.sizes.Nodes.{nodes_of_code, nodes_of_function, nodes_of_init}
use Rattle.dy_lowering_whole.specs.sizes.Nodes.{nodes_of_top}

abbrev pub nodes_of_slots : List SlotRow → ℕ
nodes_of_slots [] = 0
nodes_of_slots (slot ∷ slots) = nodes_of_init slot.init + nodes_of_slots slots

abbrev pub nodes_of_row : Row → ℕ
nodes_of_row (rows.Class class) = nodes_of_slots class.slots
nodes_of_row (rows.Method method) = nodes_of_code method.code
nodes_of_row (rows.Variable variable) = nodes_of_function variable.function
nodes_of_row (rows.Top top) = nodes_of_top top
nodes_of_row _ = 0

abbrev pub nodes_of_rows : List Row → ℕ
nodes_of_rows [] = 0
nodes_of_rows (row ∷ rows) = nodes_of_row row + nodes_of_rows rows

-- what is given, in a list
abbrev pub if_given : {A : Type 0} → Option A → List A
if_given None = []
if_given (Some x) = x ∷ []

-- the init expressions of slots, and the lambdas of methods and of functions
abbrev pub inits_of : List SlotRow → List Init
inits_of slots = flat_map (λ slot. if_given slot.init) slots

abbrev pub code_lambda : MethodCode → List Lambda
code_lambda (Dylan lambda) = lambda ∷ []
code_lambda _ = []

abbrev pub method_lambdas : List MethodRow → List Lambda
method_lambdas methods = flat_map (λ method. code_lambda method.code) methods

abbrev pub function_lambdas : List VariableRow → List Lambda
function_lambdas variables = flat_map (λ variable. if_given variable.function) variables

-- the same of one row
abbrev pub row_inits : Row → List Init
row_inits (rows.Class class) = inits_of class.slots
row_inits _ = []

abbrev pub row_method : Row → List Lambda
row_method (rows.Method method) = code_lambda method.code
row_method _ = []

abbrev pub row_function : Row → List Lambda
row_function (rows.Variable variable) = if_given variable.function
row_function _ = []

abbrev pub row_top : Row → List TopTerm
row_top (rows.Top top) = top ∷ []
row_top _ = []

-- A library has the code of these rows, each kind in its order, and no other. Rows without code may
-- be added, as the methods are that read and write slots.
pub record HasCodeOf (rows : List Row) (library : LibraryRow) : Type 0 where
  pub slots : inits_of (all_slots library) ≡ flat_map row_inits rows
  pub methods : method_lambdas library.methods ≡ flat_map row_method rows
  pub functions : function_lambdas library.variables ≡ flat_map row_function rows
  pub tops : library.tops ≡ flat_map row_top rows

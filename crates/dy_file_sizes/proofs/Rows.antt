-- The rows of a form have no more nodes than its draft, and a library no more than the rows that it has the code of.
use Rattle.std.proofs.Common.{◌≡◌, ℕ, ◌+◌, ◌≤◌, Bool, true, false, List, [], ◌∷◌, ◌++◌, map, codes, Option, Some, None, refl, ap, arith}
use Rattle.std.specs.Prelude.{flat_map}
use Rattle.dy_base.specs.declared.ids.GenericId.{GenericId}
use Rattle.dy_tree.specs.declared.token.Token.{Token}
use Rattle.dy_term.specs.declared.term.Lambda.{Lambda}
use Rattle.dy_term.specs.declared.rows.Init.{Init}
use Rattle.dy_term.specs.declared.rows.SlotRow.{SlotRow}
use Rattle.dy_term.specs.declared.rows.MethodRow.{MethodRow}
use Rattle.dy_term.specs.declared.rows.MethodCode.{MethodCode}
use Rattle.dy_term.specs.declared.rows.MethodCode.TheVariants.{Dylan, Getter, Setter, Builtin}
use Rattle.dy_term.specs.declared.rows.VariableRow.{VariableRow}
use Rattle.dy_term.specs.declared.rows.TopTerm.{TopTerm}
use Rattle.dy_term.specs.declared.rows.TopTerm.TheVariants as tops
use Rattle.dy_term.specs.declared.rows.Row.{Row}
use Rattle.dy_term.specs.declared.rows.Row.TheVariants as rows
use Rattle.dy_term.specs.declared.rows.LibraryRow.{LibraryRow}
use Rattle.dy_term.specs.Types.{CoreType, object}
use Rattle.dy_term.specs.Rows.{CoreInit, each, calling, CoreSlot, function, type_constant, init, run, CoreDraft, class_row, generic_row, method_row, domain_row, variable_row, top_term}
use Rattle.dy_names.specs.declared.denotation.Denotation.TheVariants.{NextMethod, NoMethod}
use Rattle.dy_names.specs.Naming.{Locals}
use Rattle.dy_names.specs.Outside.{Outside}
use Rattle.dy_binding.specs.declared.progress.Progress.{Progress}
use Rattle.dy_binding.specs.Bound.{standing}
use Rattle.dy_binding.specs.Types.{read_type}
use Rattle.dy_resolution.specs.Terms.{core_term, core_lambda}
use Rattle.dy_rows.specs.Rows.{has, bound_to, generic_of, method_rows, classes_of, read_init, read_slot, read_slots, read_variables, read_draft}
use Rattle.dy_lowered.specs.Bodies.{all_slots}
use Rattle.dy_lowering_whole.specs.sizes.Nodes.{total, nodes_of_lambda, nodes_of_code, nodes_of_function, nodes_of_init, nodes_of_top, nodes_of_library}
use Rattle.dy_file_sizes.specs.Drafts.{init_size, slots_size, draft_size}
use Rattle.dy_file_sizes.specs.Rows.{nodes_of_slots, nodes_of_row, nodes_of_rows, if_given, inits_of, code_lambda, method_lambdas, function_lambdas, row_inits, row_method, row_function, row_top, HasCodeOf}
use Rattle.dy_file_sizes.proofs.Terms.{term_small, lambda_small}

pub join_rows : (xs ys : List Row) → nodes_of_rows (xs ++ ys) ≡ nodes_of_rows xs + nodes_of_rows ys
join_rows [] ys = omega arith
join_rows (x ∷ xs) ys = omega (arith, join_rows xs ys)

methods_nodes : (generic : GenericId) (lambda : Lambda) (sealed : Bool) → nodes_of_rows (method_rows generic lambda sealed) ≡ nodes_of_lambda lambda
methods_nodes generic lambda false = omega arith
methods_nodes generic lambda true = omega arith

module _ (out : Outside) where
  init_small : (filled : Option CoreInit) (locals : Locals) (p : Progress) → nodes_of_init (read_init out filled locals p).0 ≤ init_size filled
  init_small None locals p = omega arith
  init_small (Some (each term)) locals p = omega (arith, term_small out term locals (record p { next = 0 }))
  init_small (Some (calling term)) locals p = omega (arith, term_small out term locals (record p { next = 0 }))

  slots_small : (slots : List CoreSlot) (locals : Locals) (p : Progress) → nodes_of_slots (read_slots out slots locals p).0 ≤ slots_size slots
  slots_small [] locals p = omega arith
  slots_small (slot ∷ slots) locals p =
      let g = generic_of slot.getter (out.owner slot.getter) p in
      let t = read_type out slot.slot_type locals g.1 in
      omega (arith, init_small slot.init locals t.1, slots_small slots locals (read_slot out slot locals p).1)

  variables_none : (is_constant : Bool) (typed : List (Token × CoreType)) (locals : Locals) (p : Progress) → nodes_of_rows (read_variables out is_constant typed locals p).0.0 ≡ 0
  variables_none is_constant [] locals p = refl
  variables_none is_constant (t ∷ typed) locals p =
      let d = read_type out t.1 locals p in
      let b = bound_to t.0 (out.owner t.0) d.1 in
      omega (arith, variables_none is_constant typed locals b.1)

  pub draft_small : (draft : CoreDraft) (locals : Locals) (p : Progress) → nodes_of_rows (read_draft out draft locals p).0 ≤ draft_size draft
  draft_small (class_row class) locals p = omega (arith, slots_small class.slots locals (classes_of out class.supers p).1)
  draft_small (generic_row generic) locals p = omega arith
  draft_small (method_row method) locals p =
      let g = generic_of method.generic (out.owner method.generic) p in
      let ls = standing NextMethod method.next locals in
      omega (arith, methods_nodes g.0 (core_lambda out method.code NextMethod ls g.1).0 (has (codes "sealed") method.adjectives), lambda_small out method.code NextMethod ls g.1)
  draft_small (domain_row domain) locals p = omega arith
  draft_small (variable_row (function adjectives name code)) locals p = omega (arith, lambda_small out code NoMethod locals (read_type out object locals p).1)
  draft_small (variable_row (type_constant name declared meant)) locals p = omega arith
  draft_small (top_term (init is_constant typed term)) locals p =
      let v = read_variables out is_constant typed locals p in
      let t = core_term out term locals v.1 in
      omega (arith, join_rows v.0.0 (rows.Top (tops.Init v.0.1 t.0) ∷ []), variables_none is_constant typed locals p, term_small out term locals v.1)
  draft_small (top_term (run term)) locals p = omega (arith, term_small out term locals p)

-- the nodes of code, kind by kind
abbrev inits_nodes : List Init → ℕ
inits_nodes [] = 0
inits_nodes (first ∷ rest) = nodes_of_init (Some first) + inits_nodes rest

abbrev lambdas_nodes : List Lambda → ℕ
lambdas_nodes [] = 0
lambdas_nodes (lambda ∷ lambdas) = nodes_of_lambda lambda + lambdas_nodes lambdas

abbrev tops_nodes : List TopTerm → ℕ
tops_nodes [] = 0
tops_nodes (top ∷ tops) = nodes_of_top top + tops_nodes tops

join_inits : (xs ys : List Init) → inits_nodes (xs ++ ys) ≡ inits_nodes xs + inits_nodes ys
join_inits [] ys = omega arith
join_inits (x ∷ xs) ys = omega (arith, join_inits xs ys)

join_lambdas : (xs ys : List Lambda) → lambdas_nodes (xs ++ ys) ≡ lambdas_nodes xs + lambdas_nodes ys
join_lambdas [] ys = omega arith
join_lambdas (x ∷ xs) ys = omega (arith, join_lambdas xs ys)

join_tops : (xs ys : List TopTerm) → tops_nodes (xs ++ ys) ≡ tops_nodes xs + tops_nodes ys
join_tops [] ys = omega arith
join_tops (x ∷ xs) ys = omega (arith, join_tops xs ys)

init_given : (found : Option Init) → inits_nodes (if_given found) ≡ nodes_of_init found
init_given None = refl
init_given (Some found) = omega arith

code_given : (code : MethodCode) → lambdas_nodes (code_lambda code) ≡ nodes_of_code code
code_given (Dylan lambda) = omega arith
code_given (Getter class place) = refl
code_given (Setter class place) = refl
code_given (Builtin number) = refl

function_given : (found : Option Lambda) → lambdas_nodes (if_given found) ≡ nodes_of_function found
function_given None = refl
function_given (Some found) = omega arith

inits_are : (slots : List SlotRow) → inits_nodes (inits_of slots) ≡ nodes_of_slots slots
inits_are [] = refl
inits_are (slot ∷ slots) = omega (arith, join_inits (if_given slot.init) (inits_of slots), init_given slot.init, inits_are slots)

slots_total : (slots : List SlotRow) → total (map (λ (slot : SlotRow). nodes_of_init slot.init) slots) ≡ inits_nodes (inits_of slots)
slots_total [] = refl
slots_total (slot ∷ slots) = omega (arith, join_inits (if_given slot.init) (inits_of slots), init_given slot.init, slots_total slots)

methods_total : (methods : List MethodRow) → total (map (λ (method : MethodRow). nodes_of_code method.code) methods) ≡ lambdas_nodes (method_lambdas methods)
methods_total [] = refl
methods_total (method ∷ methods) = omega (arith, join_lambdas (code_lambda method.code) (method_lambdas methods), code_given method.code, methods_total methods)

functions_total : (variables : List VariableRow) → total (map (λ (variable : VariableRow). nodes_of_function variable.function) variables) ≡ lambdas_nodes (function_lambdas variables)
functions_total [] = refl
functions_total (variable ∷ variables) = omega (arith, join_lambdas (if_given variable.function) (function_lambdas variables), function_given variable.function, functions_total variables)

tops_total : (tops : List TopTerm) → total (map nodes_of_top tops) ≡ tops_nodes tops
tops_total [] = refl
tops_total (top ∷ tops) = omega (arith, tops_total tops)

-- the nodes of a row are those of its code, of one kind
row_total : (row : Row) → nodes_of_row row ≡ lambdas_nodes (row_method row) + (lambdas_nodes (row_function row) + (inits_nodes (row_inits row) + tops_nodes (row_top row)))
row_total (rows.Class class) = omega (arith, inits_are class.slots)
row_total (rows.Generic generic) = omega arith
row_total (rows.Method method) = omega (arith, code_given method.code)
row_total (rows.Domain domain) = omega arith
row_total (rows.Variable variable) = omega (arith, function_given variable.function)
row_total (rows.Top top) = omega arith

rows_total : (rows : List Row) → nodes_of_rows rows ≡ lambdas_nodes (flat_map row_method rows) + (lambdas_nodes (flat_map row_function rows) + (inits_nodes (flat_map row_inits rows) + tops_nodes (flat_map row_top rows)))
rows_total [] = omega arith
rows_total (row ∷ others) =
    omega (
      arith,
      row_total row,
      rows_total others,
      join_lambdas (row_method row) (flat_map row_method others),
      join_lambdas (row_function row) (flat_map row_function others),
      join_inits (row_inits row) (flat_map row_inits others),
      join_tops (row_top row) (flat_map row_top others),
    )

pub library_nodes : (rows : List Row) (library : LibraryRow) → HasCodeOf rows library → nodes_of_library library ≡ nodes_of_rows rows
library_nodes rows library has =
    omega (
      arith,
      rows_total rows,
      methods_total library.methods,
      functions_total library.variables,
      slots_total (all_slots library),
      tops_total library.tops,
      ap lambdas_nodes has.methods,
      ap lambdas_nodes has.functions,
      ap inits_nodes has.slots,
      ap tops_nodes has.tops,
    )

-- Libraries as a whole.
use Rattle.std.proofs.Common.{◌≡◌, ℕ, ◌+◌, ◌*◌, ◌-◌, ◌^◌, ◌<◌, ◌≤◌, List, [], ◌∷◌, ◌++◌, length, map, Option, Some, None, refl, ap, arith, length-append}
use Rattle.std.specs.Prelude.{flat_map}
use Rattle.dy_term.specs.declared.term.Term.{Term}
use Rattle.dy_term.specs.declared.term.Lambda.{Lambda}
use Rattle.dy_term.specs.declared.rows.Init.{Init}
use Rattle.dy_term.specs.declared.rows.Init.TheVariants.{Each, Calling}
use Rattle.dy_term.specs.declared.rows.SlotRow.{SlotRow}
use Rattle.dy_term.specs.declared.rows.MethodCode.{MethodCode}
use Rattle.dy_term.specs.declared.rows.MethodCode.TheVariants.{Dylan}
use Rattle.dy_term.specs.declared.rows.MethodRow.{MethodRow}
use Rattle.dy_term.specs.declared.rows.VariableRow.{VariableRow}
use Rattle.dy_term.specs.declared.rows.TopTerm.{TopTerm}
use Rattle.dy_term.specs.declared.rows.TopTerm.TheVariants as tops
use Rattle.dy_term.specs.declared.rows.LibraryRow.{LibraryRow}
use Rattle.dy_code.specs.Fetching as instr
use Rattle.dy_code.specs.Validity.{Every}
use Rattle.dy_meaning.specs.Lambdas.{lambdas_in, lambdas_within, of_init, of_classes, of_top}
use Rattle.dy_meaning.specs.Layouts.{layout_of_term}
use Rattle.dy_meaning.specs.Numbering.{numbered_by}
use Rattle.dy_lowered.specs.Bodies.{FlatBody, lambda_body, body_alone, top_body, inside_code, inside_method, inside_function, inside_variable, inside_slot, all_slots, closures_of, code_bodies, function_bodies, init_bodies, first_closure, closure_bodies, bodies_of}
use Rattle.dy_lowered.specs.Flat.{Plain, Code, one}
use Rattle.dy_lowered.specs.Tables.{tables_of}
use Rattle.dy_lowered.specs.Terms.{code_of}
use Rattle.dy_lowering_whole.specs.sizes.Nodes.{total, nodes_of, nodes_of_lambda, nodes_of_code, nodes_of_function, nodes_of_init, nodes_of_top, nodes_of_library}
use Rattle.dy_lowering_whole.specs.sizes.Sizes.{instructions_of, HoldsAtMost, IsSmall}
use Rattle.dy_lowering_whole.proofs.sizes.Closing.{names_of, bodies_join}
use Rattle.dy_unit_sizes.specs.Sizes.{PartsHaveAtMost}
use Rattle.dy_unit_sizes.proofs.Bodies.{forms_same, slots_same, bodies_short}
use Rattle.dy_unit_sizes.proofs.Closing.{count_in, count_within, worth, worth_join, worth_in, worth_within}
use Rattle.dy_unit_sizes.proofs.Items.{hold_at_most, all_names}
use Rattle.dy_unit_sizes.proofs.Pieces.{W, join}

-- A measure of bodies that is no more for lists that are joined than for both.
module _ (measure : List FlatBody → ℕ) (empty : measure [] ≡ 0) (joins : (xs ys : List FlatBody) → measure (xs ++ ys) ≤ measure xs + measure ys)
    (of_lambda : (lambda : Lambda) (n m : ℕ) → measure (lambda_body lambda n ∷ []) + measure (closure_bodies (lambdas_within lambda) m) ≤ 4 * nodes_of_lambda lambda)
    (of_term : (term : Term) (n m : ℕ) (last : Code) → W last ≡ 0 → measure (body_alone term n last ∷ []) + measure (closure_bodies (lambdas_in term) m) ≤ 4 * nodes_of term) where
  abbrev closures : List Lambda → ℕ → ℕ
  closures xs m = measure (closure_bodies xs m)

  closures_join : (xs ys : List Lambda) (m : ℕ) → closures (xs ++ ys) m ≤ closures xs m + closures ys (m + length xs)
  closures_join xs ys m = omega (arith, ap measure (bodies_join xs ys m), joins (closure_bodies xs m) (closure_bodies ys (m + length xs)))

  code_measures : (code : MethodCode) (n m : ℕ) → measure (code_bodies code n) + closures (inside_code code) m ≤ 4 * nodes_of_code code
  code_measures (Dylan lambda) n m = of_lambda lambda n m
  code_measures _ n m = omega (arith, empty)

  function_measures : (function : Option Lambda) (n m : ℕ) → measure (function_bodies function n) + closures (inside_function function) m ≤ 4 * nodes_of_function function
  function_measures None n m = omega (arith, empty)
  function_measures (Some lambda) n m = of_lambda lambda n m

  init_measures : (init : Option Init) (n m : ℕ) → measure (init_bodies init n) + closures (of_init init) m ≤ 4 * nodes_of_init init
  init_measures None n m = omega (arith, empty)
  init_measures (Some (Each term)) n m = of_term term n m (one instr.Return) refl
  init_measures (Some (Calling term)) n m = of_term term n m (Plain instr.Push ∷ Plain (instr.CallValue 0) ∷ one instr.Return) refl

  top_measures : (top : TopTerm) (n m : ℕ) → measure (top_body top n ∷ []) + closures (of_top top) m ≤ 4 * nodes_of_top top
  top_measures (tops.Init bindings term) n m = of_term term n m (one instr.Return) refl
  top_measures (tops.Run term) n m = of_term term n m (one instr.Return) refl

  -- rows one after the other
  module _ {R : Type 0} (bodies : R → ℕ → List FlatBody) (inside : R → List Lambda) (nodes : R → ℕ) (row : (r : R) (n m : ℕ) → measure (bodies r n) + closures (inside r) m ≤ 4 * nodes r) where
    rows_measure : (rows : List R) (n m : ℕ) → measure (flat_map (λ (r : R × ℕ). bodies r.0 r.1) (numbered_by inside rows n)) + closures (flat_map inside rows) m ≤ 4 * total (map nodes rows)
    rows_measure [] n m = omega (arith, empty)
    rows_measure (r ∷ rows) n m =
        let next = n + length (inside r) in
        let others = flat_map (λ (r : R × ℕ). bodies r.0 r.1) (numbered_by inside rows next) in
        omega (arith, joins (bodies r n) others, closures_join (inside r) (flat_map inside rows) m, row r n m, rows_measure rows next (m + length (inside r)))

  library_measures : (library : LibraryRow) → measure (bodies_of library) ≤ 4 * nodes_of_library library
  library_measures library =
      let first = first_closure library in
      let slots = all_slots library in
      let in_slots = of_classes library in
      let in_methods = flat_map inside_method library.methods in
      let in_variables = flat_map inside_variable library.variables in
      let in_tops = flat_map of_top library.tops in
      let methods = first + length in_slots in
      let variables = methods + length in_methods in
      let forms = variables + length in_variables in
      let a = flat_map (λ (method : MethodRow × ℕ). code_bodies method.0.code method.1) (numbered_by inside_method library.methods methods) in
      let b = flat_map (λ (variable : VariableRow × ℕ). function_bodies variable.0.function variable.1) (numbered_by inside_variable library.variables variables) in
      let c = flat_map (λ (slot : SlotRow × ℕ). init_bodies slot.0.init slot.1) (numbered_by inside_slot slots first) in
      let d = map (λ (top : TopTerm × ℕ). top_body top.0 top.1) (numbered_by of_top library.tops forms) in
      let e = closure_bodies (closures_of library) first in
      let slot_rows = rows_measure (λ (slot : SlotRow) (n : ℕ). init_bodies slot.init n) inside_slot (λ (slot : SlotRow). nodes_of_init slot.init) (λ slot n m. init_measures slot.init n m) slots first first in
      let method_rows = rows_measure (λ (method : MethodRow) (n : ℕ). code_bodies method.code n) inside_method (λ (method : MethodRow). nodes_of_code method.code) (λ method n m. code_measures method.code n m) library.methods methods (first + length in_slots) in
      let variable_rows =
      rows_measure (λ (variable : VariableRow) (n : ℕ). function_bodies variable.function n) inside_variable (λ (variable : VariableRow). nodes_of_function variable.function) (λ variable n m. function_measures variable.function n m) library.variables variables
      (first + length (in_slots ++ in_methods)) in
      let form_rows = rows_measure (λ (top : TopTerm) (n : ℕ). top_body top n ∷ []) of_top nodes_of_top top_measures library.tops forms (first + length (in_slots ++ in_methods ++ in_variables)) in
      omega (
        arith,
        joins (a ++ b ++ c ++ d) e,
        joins (a ++ b ++ c) d,
        joins (a ++ b) c,
        joins a b,
        closures_join (in_slots ++ in_methods ++ in_variables) in_tops first,
        closures_join (in_slots ++ in_methods) in_variables first,
        closures_join in_slots in_methods first,
        slot_rows,
        method_rows,
        variable_rows,
        form_rows,
        ap (λ (xs : List Lambda). closures xs first) (slots_same library.classes),
        ap measure (forms_same library.tops forms),
      )

closures_count : (xs : List Lambda) (m : ℕ) → length (closure_bodies xs m) ≡ length xs
closures_count [] m = refl
closures_count (x ∷ xs) m = omega (arith, closures_count xs (m + 1))

-- no more bodies than nodes
pub bodies_few : (library : LibraryRow) → length (bodies_of library) ≤ nodes_of_library library
bodies_few library =
    let four : 4 * length (bodies_of library) ≤ 4 * nodes_of_library library = counted library in omega (arith, four)
  where
    counted : (library : LibraryRow) → 4 * length (bodies_of library) ≤ 4 * nodes_of_library library
    counted = library_measures (λ bodies. 4 * length bodies) refl (λ xs ys. omega (arith, length-append xs ys)) (λ lambda n m. omega (arith, count_within lambda, closures_count (lambdas_within lambda) m)) (λ term n m last none. omega (arith, count_in term, closures_count (lambdas_in term) m))

-- what they name
worth_few : (library : LibraryRow) → worth (bodies_of library) ≤ 4 * nodes_of_library library
worth_few = library_measures worth refl (λ xs ys. omega (arith, worth_join xs ys)) (λ lambda n m. omega (arith, worth_within lambda n m)) (λ term n m last none. omega (arith, join (code_of (layout_of_term term) term n) last, none, worth_in term (layout_of_term term) n m))

less_named : (bodies : List FlatBody) (n : ℕ) → worth bodies ≤ 4 * n → names_of bodies ≤ 4 * n - 1
less_named [] n few = omega arith
less_named (body ∷ bodies) n few = omega (arith, few, no_more bodies)
  where
    no_more : (bodies : List FlatBody) → names_of bodies ≤ worth bodies
    no_more [] = omega arith
    no_more (body ∷ bodies) = omega (arith, no_more bodies)

named_few : (library : LibraryRow) → names_of (bodies_of library) ≤ 4 * nodes_of_library library - 1
named_few library = less_named (bodies_of library) (nodes_of_library library) (worth_few library)

pub items_few : (library : LibraryRow) → HoldsAtMost (4 * nodes_of_library library - 1) (tables_of (instructions_of library))
items_few library = hold_at_most (instructions_of library) (4 * nodes_of_library library - 1) (omega (arith, all_names (bodies_of library), named_few library))

every_less : (bodies : List FlatBody) (n m : ℕ) → n < m → Every (λ (body : FlatBody). length body.code ≤ n) bodies → Every (λ (body : FlatBody). length body.code < m) bodies
every_less [] n m low every = tt
every_less (body ∷ bodies) n m low every = (omega (arith, low, every.0), every_less bodies n m low every.1)

pub units_small : (library : LibraryRow) → nodes_of_library library ≤ 2 ^ 30 → PartsHaveAtMost (2 ^ 26 - 1) library → IsSmall library
units_small library few parts = record {
  bodies = omega (arith, few, bodies_few library);
  codes = every_less (bodies_of library) (64 * (2 ^ 26 - 1)) (2 ^ 32) (omega arith) (bodies_short (2 ^ 26 - 1) library parts);
  items = hold_at_most (instructions_of library) (2 ^ 32 - 1) (omega (arith, few, all_names (bodies_of library), named_few library));
}

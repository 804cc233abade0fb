-- Each body is no longer than the part of the library that it stands in.
use Rattle.std.proofs.Common.{◌≡◌, ℕ, ◌+◌, ◌*◌, ◌≤◌, List, [], ◌∷◌, ◌++◌, length, map, Option, Some, None, refl, sym, ap, ◌∙◌, subst, arith, append_assoc, length-append}
use Rattle.std.specs.Prelude.{flat_map}
use Rattle.dy_term.specs.declared.term.Term.{Term}
use Rattle.dy_term.specs.declared.term.Lambda.{Lambda}
use Rattle.dy_term.specs.declared.rows.Init.{Init}
use Rattle.dy_term.specs.declared.rows.Init.TheVariants.{Each, Calling}
use Rattle.dy_term.specs.declared.rows.ClassRow.{ClassRow}
use Rattle.dy_term.specs.declared.rows.SlotRow.{SlotRow}
use Rattle.dy_term.specs.declared.rows.MethodCode.{MethodCode}
use Rattle.dy_term.specs.declared.rows.MethodCode.TheVariants.{Dylan, Getter, Setter, Builtin}
use Rattle.dy_term.specs.declared.rows.MethodRow.{MethodRow}
use Rattle.dy_term.specs.declared.rows.VariableRow.{VariableRow}
use Rattle.dy_term.specs.declared.rows.TopTerm.{TopTerm}
use Rattle.dy_term.specs.declared.rows.TopTerm.TheVariants as tops
use Rattle.dy_term.specs.declared.rows.LibraryRow.{LibraryRow}
use Rattle.dy_code.specs.Fetching as instr
use Rattle.dy_code.specs.Validity.{Every}
use Rattle.dy_meaning.specs.Lambdas.{lambdas_in, lambdas_within, of_init, of_class, of_classes, of_top}
use Rattle.dy_meaning.specs.Layouts.{layout_of_term}
use Rattle.dy_meaning.specs.Numbering.{numbered_by}
use Rattle.dy_lowered.specs.Bodies.{FlatBody, body_alone, top_body, inside_code, inside_method, inside_function, inside_variable, inside_slot, all_slots, closures_of, code_bodies, function_bodies, init_bodies, first_closure, closure_bodies, bodies_of}
use Rattle.dy_lowered.specs.Flat.{Plain, Code, one}
use Rattle.dy_lowered.specs.Terms.{code_of}
use Rattle.dy_lowering_whole.specs.sizes.Nodes.{nodes_of, nodes_of_code, nodes_of_function, nodes_of_init, nodes_of_top}
use Rattle.dy_lowering_whole.proofs.sizes.Closing.{lambda_short, longest, longest_in, longest_within, bodies_join}
use Rattle.dy_lowering_whole.proofs.sizes.Libraries.{term_short}
use Rattle.dy_unit_sizes.specs.Sizes.{PartsHaveAtMost}

-- forms have one body each
pub forms_same : (rows : List TopTerm) (n : ℕ) → map (λ (top : TopTerm × ℕ). top_body top.0 top.1) (numbered_by of_top rows n) ≡ flat_map (λ (top : TopTerm × ℕ). top_body top.0 top.1 ∷ []) (numbered_by of_top rows n)
forms_same [] n = refl
forms_same (top ∷ rows) n = ap (λ (rest : List FlatBody). top_body top n ∷ rest) (forms_same rows (n + length (of_top top)))

pub slots_same : (classes : List ClassRow) → flat_map of_class classes ≡ flat_map inside_slot (flat_map (λ (class : ClassRow). class.slots) classes)
slots_same [] = refl
slots_same (class ∷ classes) = ap (λ (rest : List Lambda). of_class class ++ rest) (slots_same classes) ∙ sym (flat_joined class.slots (flat_map (λ (class : ClassRow). class.slots) classes))
  where
    flat_joined : (xs ys : List SlotRow) → flat_map inside_slot (xs ++ ys) ≡ flat_map inside_slot xs ++ flat_map inside_slot ys
    flat_joined [] ys = refl
    flat_joined (x ∷ xs) ys = ap (λ (rest : List Lambda). inside_slot x ++ rest) (flat_joined xs ys) ∙ sym (append_assoc (inside_slot x) (flat_map inside_slot xs) (flat_map inside_slot ys))

-- so many instructions at most in each
module _ (most : ℕ) where
  abbrev Short : List FlatBody → Type 0
  Short bodies = Every (λ (body : FlatBody). length body.code ≤ 64 * most) bodies

  short_join : (xs ys : List FlatBody) → Short xs → Short ys → Short (xs ++ ys)
  short_join [] ys a b = b
  short_join (x ∷ xs) ys a b = (a.0, short_join xs ys a.1 b)

  short_all : (bodies : List FlatBody) → longest bodies ≤ 64 * most → Short bodies
  short_all [] h = tt
  short_all (body ∷ bodies) h = (omega (arith, h), short_all bodies (omega (arith, h)))

  alone_short : (term : Term) (n : ℕ) (last : Code) → length last ≤ 16 → nodes_of term ≤ most → Short (body_alone term n last ∷ [])
  alone_short term n last few low = (omega (arith, length-append (code_of (layout_of_term term) term n) last, term_short (layout_of_term term) term n, few, low), tt)

  -- a part, and the closures inside of it
  code_short : (code : MethodCode) (n : ℕ) → nodes_of_code code ≤ most → Short (code_bodies code n)
  code_short (Dylan lambda) n low = (omega (arith, lambda_short lambda n, low), tt)
  code_short (Getter class place) n low = tt
  code_short (Setter class place) n low = tt
  code_short (Builtin number) n low = tt

  code_inside : (code : MethodCode) (m : ℕ) → nodes_of_code code ≤ most → Short (closure_bodies (inside_code code) m)
  code_inside (Dylan lambda) m low = short_all (closure_bodies (lambdas_within lambda) m) (omega (arith, longest_within lambda m, low))
  code_inside (Getter class place) m low = tt
  code_inside (Setter class place) m low = tt
  code_inside (Builtin number) m low = tt

  function_short : (function : Option Lambda) (n : ℕ) → nodes_of_function function ≤ most → Short (function_bodies function n)
  function_short None n low = tt
  function_short (Some lambda) n low = (omega (arith, lambda_short lambda n, low), tt)

  function_inside : (function : Option Lambda) (m : ℕ) → nodes_of_function function ≤ most → Short (closure_bodies (inside_function function) m)
  function_inside None m low = tt
  function_inside (Some lambda) m low = short_all (closure_bodies (lambdas_within lambda) m) (omega (arith, longest_within lambda m, low))

  init_short : (init : Option Init) (n : ℕ) → nodes_of_init init ≤ most → Short (init_bodies init n)
  init_short None n low = tt
  init_short (Some (Each term)) n low = alone_short term n (one instr.Return) (omega arith) low
  init_short (Some (Calling term)) n low = alone_short term n (Plain instr.Push ∷ Plain (instr.CallValue 0) ∷ one instr.Return) (omega arith) low

  init_inside : (init : Option Init) (m : ℕ) → nodes_of_init init ≤ most → Short (closure_bodies (of_init init) m)
  init_inside None m low = tt
  init_inside (Some (Each term)) m low = short_all (closure_bodies (lambdas_in term) m) (omega (arith, longest_in term m, low))
  init_inside (Some (Calling term)) m low = short_all (closure_bodies (lambdas_in term) m) (omega (arith, longest_in term m, low))

  top_short : (top : TopTerm) (n : ℕ) → nodes_of_top top ≤ most → Short (top_body top n ∷ [])
  top_short (tops.Init bindings term) n low = alone_short term n (one instr.Return) (omega arith) low
  top_short (tops.Run term) n low = alone_short term n (one instr.Return) (omega arith) low

  top_inside : (top : TopTerm) (m : ℕ) → nodes_of_top top ≤ most → Short (closure_bodies (of_top top) m)
  top_inside (tops.Init bindings term) m low = short_all (closure_bodies (lambdas_in term) m) (omega (arith, longest_in term m, low))
  top_inside (tops.Run term) m low = short_all (closure_bodies (lambdas_in term) m) (omega (arith, longest_in term m, low))

  -- rows one after the other
  module _ {R : Type 0} (bodies : R → ℕ → List FlatBody) (inside : R → List Lambda) (nodes : R → ℕ) where
    rows_short : ((row : R) (n : ℕ) → nodes row ≤ most → Short (bodies row n)) → (rows : List R) (n : ℕ) → Every (λ (row : R). nodes row ≤ most) rows → Short (flat_map (λ (row : R × ℕ). bodies row.0 row.1) (numbered_by inside rows n))
    rows_short each [] n every = tt
    rows_short each (row ∷ rows) n every = short_join (bodies row n) (flat_map (λ (row : R × ℕ). bodies row.0 row.1) (numbered_by inside rows (n + length (inside row)))) (each row n every.0) (rows_short each rows (n + length (inside row)) every.1)

  closures_join : (xs ys : List Lambda) (m : ℕ) → Short (closure_bodies xs m) → Short (closure_bodies ys (m + length xs)) → Short (closure_bodies (xs ++ ys) m)
  closures_join xs ys m a b = subst Short (sym (bodies_join xs ys m)) (short_join (closure_bodies xs m) (closure_bodies ys (m + length xs)) a b)

  module _ {R : Type 0} (inside : R → List Lambda) (nodes : R → ℕ) where
    inside_short : ((row : R) (m : ℕ) → nodes row ≤ most → Short (closure_bodies (inside row) m)) → (rows : List R) (m : ℕ) → Every (λ (row : R). nodes row ≤ most) rows → Short (closure_bodies (flat_map inside rows) m)
    inside_short each [] m every = tt
    inside_short each (row ∷ rows) m every = closures_join (inside row) (flat_map inside rows) m (each row m every.0) (inside_short each rows (m + length (inside row)) every.1)

  pub bodies_short : (library : LibraryRow) → PartsHaveAtMost most library → Every (λ (body : FlatBody). length body.code ≤ 64 * most) (bodies_of library)
  bodies_short library has =
      let first = first_closure library in
      let slots = all_slots library in
      let in_slots = of_classes library in
      let in_methods = flat_map inside_method library.methods in
      let in_variables = flat_map inside_variable library.variables in
      let in_tops = flat_map of_top library.tops in
      let methods = first + length in_slots in
      let variables = methods + length in_methods in
      let forms = variables + length in_variables in
      let a = flat_map (λ (method : MethodRow × ℕ). code_bodies method.0.code method.1) (numbered_by inside_method library.methods methods) in
      let b = flat_map (λ (variable : VariableRow × ℕ). function_bodies variable.0.function variable.1) (numbered_by inside_variable library.variables variables) in
      let c = flat_map (λ (slot : SlotRow × ℕ). init_bodies slot.0.init slot.1) (numbered_by inside_slot slots first) in
      let d = map (λ (top : TopTerm × ℕ). top_body top.0 top.1) (numbered_by of_top library.tops forms) in
      let e = closure_bodies (closures_of library) first in
      let of_methods = rows_short (λ (method : MethodRow) (n : ℕ). code_bodies method.code n) inside_method (λ (method : MethodRow). nodes_of_code method.code) (λ method n low. code_short method.code n low) library.methods methods has.methods in
      let of_functions =
      rows_short (λ (variable : VariableRow) (n : ℕ). function_bodies variable.function n) inside_variable (λ (variable : VariableRow). nodes_of_function variable.function) (λ variable n low. function_short variable.function n low) library.variables variables has.functions in
      let of_slots = rows_short (λ (slot : SlotRow) (n : ℕ). init_bodies slot.init n) inside_slot (λ (slot : SlotRow). nodes_of_init slot.init) (λ slot n low. init_short slot.init n low) slots first has.slots in
      let of_forms : Short d = subst Short (sym (forms_same library.tops forms)) (rows_short (λ (top : TopTerm) (n : ℕ). top_body top n ∷ []) of_top nodes_of_top top_short library.tops forms has.tops) in
      let slots_in : Short (closure_bodies in_slots first) =
      subst (λ (xs : List Lambda). Short (closure_bodies xs first)) (sym (slots_same library.classes)) (inside_short inside_slot (λ (slot : SlotRow). nodes_of_init slot.init) (λ slot m low. init_inside slot.init m low) slots first has.slots) in
      let methods_in = inside_short inside_method (λ (method : MethodRow). nodes_of_code method.code) (λ method m low. code_inside method.code m low) library.methods (first + length in_slots) has.methods in
      let functions_in =
      inside_short inside_variable (λ (variable : VariableRow). nodes_of_function variable.function) (λ variable m low. function_inside variable.function m low) library.variables (first + length (in_slots ++ in_methods)) has.functions in
      let forms_in = inside_short of_top nodes_of_top top_inside library.tops (first + length (in_slots ++ in_methods ++ in_variables)) has.tops in
      let closed : Short e =
      closures_join (in_slots ++ in_methods ++ in_variables) in_tops first (closures_join (in_slots ++ in_methods) in_variables first (closures_join in_slots in_methods first slots_in methods_in) functions_in) forms_in in
      short_join (a ++ b ++ c ++ d) e (short_join (a ++ b ++ c) d (short_join (a ++ b) c (short_join a b of_methods of_functions) of_slots) of_forms) closed

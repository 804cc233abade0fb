-- Libraries as a whole.
use Rattle.std.proofs.Common.{◌≡◌, ℕ, ◌+◌, ◌*◌, ◌-◌, ◌^◌, ◌<◌, ◌≤◌, Bool, true, false, not, List, [], ◌∷◌, ◌++◌, length, map, Option, Some, None, refl, sym, ap, ◌∙◌, arith, append_assoc, length-append}
use Rattle.std.specs.Prelude.{flat_map, filter, filter_map, cond}
use Rattle.std.specs.List.{cons_option}
use Rattle.dy_term.specs.declared.term.Term.{Term}
use Rattle.dy_term.specs.declared.term.Lambda.{Lambda}
use Rattle.dy_term.specs.declared.rows.Init.{Init}
use Rattle.dy_term.specs.declared.rows.Init.TheVariants.{Each, Calling}
use Rattle.dy_term.specs.declared.rows.ClassRow.{ClassRow}
use Rattle.dy_term.specs.declared.rows.SlotRow.{SlotRow}
use Rattle.dy_term.specs.declared.rows.MethodCode.{MethodCode}
use Rattle.dy_term.specs.declared.rows.MethodCode.TheVariants.{Dylan}
use Rattle.dy_term.specs.declared.rows.MethodRow.{MethodRow}
use Rattle.dy_term.specs.declared.rows.VariableRow.{VariableRow}
use Rattle.dy_term.specs.declared.rows.TopTerm.{TopTerm}
use Rattle.dy_term.specs.declared.rows.TopTerm.TheVariants as tops
use Rattle.dy_term.specs.declared.rows.LibraryRow.{LibraryRow}
use Rattle.dy_values.specs.Identity.{is_same_binding}
use Rattle.dy_code.specs.Fetching.{Instruction}
use Rattle.dy_code.specs.Fetching as instr
use Rattle.dy_code.specs.Validity.{Every}
use Rattle.dy_meaning.specs.Lambdas.{lambdas_in, lambdas_within, of_init, of_class, of_classes, of_top}
use Rattle.dy_meaning.specs.Layouts.{Layout, layout_of_term}
use Rattle.dy_meaning.specs.Numbering.{numbered_by}
use Rattle.dy_lowered.specs.Bodies.{FlatBody, lambda_body, body_alone, top_body, inside_code, inside_method, inside_function, inside_variable, inside_slot, all_slots, closures_of, code_bodies, function_bodies, init_bodies, first_closure, closure_bodies, bodies_of}
use Rattle.dy_lowered.specs.Flat.{Flat, Plain, Jump, JumpFalse, Enter, Guard, Catch, Code, one, placed, placed_from}
use Rattle.dy_lowered.specs.Items.{constant_of, name_of, bound_of, list_of, type_of, results_of}
use Rattle.dy_lowered.specs.Sameness.{is_same_literal, is_same_bound, is_same_params, is_same_type, is_same_results}
use Rattle.dy_lowered.specs.Tables.{distinct, tables_of}
use Rattle.dy_lowered.specs.Terms.{code_of}
use Rattle.dy_lowering_whole.specs.sizes.Nodes.{total, nodes_of, nodes_of_lambda, nodes_of_code, nodes_of_function, nodes_of_init, nodes_of_top, nodes_of_library}
use Rattle.dy_lowering_whole.specs.sizes.Sizes.{instructions_of, HoldsAtMost, IsSmall}
use Rattle.dy_lowering_whole.proofs.sizes.Closing.{each, length_is, alone, lambda_short, longest, keeps_longest, keeps_longest_join, longest_in, longest_within, count_in, count_within, names, naming, naming_light, names_of, names_join, keeps_names, names_weigh, names_within, bodies_join}
use Rattle.dy_lowering_whole.proofs.sizes.Weighing.{weigh, weigh_join, by_length}

pub term_short : (layout : Layout) (term : Term) (number : ℕ) → length (code_of layout term number) + 16 ≤ 64 * nodes_of term
term_short layout term number = omega (arith, alone term layout number 0, length_is (code_of layout term number))

pub terms_short : (layout : Layout) (term : Term) (number : ℕ) → length (code_of layout term number) ≤ 64 * nodes_of term
terms_short layout term number = omega (arith, term_short layout term number)

alone_short : (term : Term) (number : ℕ) (last : Code) → length last ≤ 16 → length (body_alone term number last).code ≤ 64 * nodes_of term
alone_short term number last few = omega (arith, length-append (code_of (layout_of_term term) term number) last, term_short (layout_of_term term) term number, few)

-- forms have one body each
forms_same : (rows : List TopTerm) (n : ℕ) → map (λ (top : TopTerm × ℕ). top_body top.0 top.1) (numbered_by of_top rows n) ≡ flat_map (λ (top : TopTerm × ℕ). top_body top.0 top.1 ∷ []) (numbered_by of_top rows n)
forms_same [] n = refl
forms_same (top ∷ rows) n = ap (λ (rest : List FlatBody). top_body top n ∷ rest) (forms_same rows (n + length (of_top top)))

slots_same : (classes : List ClassRow) → flat_map of_class classes ≡ flat_map inside_slot (flat_map (λ (class : ClassRow). class.slots) classes)
slots_same [] = refl
slots_same (class ∷ classes) = ap (λ (rest : List Lambda). of_class class ++ rest) (slots_same classes) ∙ sym (flat_joined class.slots (flat_map (λ (class : ClassRow). class.slots) classes))
  where
    flat_joined : (xs ys : List SlotRow) → flat_map inside_slot (xs ++ ys) ≡ flat_map inside_slot xs ++ flat_map inside_slot ys
    flat_joined [] ys = refl
    flat_joined (x ∷ xs) ys = ap (λ (rest : List Lambda). inside_slot x ++ rest) (flat_joined xs ys) ∙ sym (append_assoc (inside_slot x) (flat_map inside_slot xs) (flat_map inside_slot ys))

-- A measure of bodies that is no more for lists that are joined than for both.
module _ (measure : List FlatBody → ℕ) (empty : measure [] ≡ 0) (joins : (xs ys : List FlatBody) → measure (xs ++ ys) ≤ measure xs + measure ys)
    (of_lambda : (lambda : Lambda) (n m : ℕ) → measure (lambda_body lambda n ∷ []) + measure (closure_bodies (lambdas_within lambda) m) ≤ 64 * nodes_of_lambda lambda)
    (of_term : (term : Term) (n m : ℕ) (last : Code) → length last ≤ 16 → measure (body_alone term n last ∷ []) + measure (closure_bodies (lambdas_in term) m) ≤ 64 * nodes_of term) where
  abbrev closures : List Lambda → ℕ → ℕ
  closures xs m = measure (closure_bodies xs m)

  closures_join : (xs ys : List Lambda) (m : ℕ) → closures (xs ++ ys) m ≤ closures xs m + closures ys (m + length xs)
  closures_join xs ys m = omega (arith, ap measure (bodies_join xs ys m), joins (closure_bodies xs m) (closure_bodies ys (m + length xs)))

  code_measures : (code : MethodCode) (n m : ℕ) → measure (code_bodies code n) + closures (inside_code code) m ≤ 64 * nodes_of_code code
  code_measures (Dylan lambda) n m = of_lambda lambda n m
  code_measures _ n m = omega (arith, empty)

  function_measures : (function : Option Lambda) (n m : ℕ) → measure (function_bodies function n) + closures (inside_function function) m ≤ 64 * nodes_of_function function
  function_measures None n m = omega (arith, empty)
  function_measures (Some lambda) n m = of_lambda lambda n m

  init_measures : (init : Option Init) (n m : ℕ) → measure (init_bodies init n) + closures (of_init init) m ≤ 64 * nodes_of_init init
  init_measures None n m = omega (arith, empty)
  init_measures (Some (Each term)) n m = of_term term n m (one instr.Return) (omega arith)
  init_measures (Some (Calling term)) n m = of_term term n m (Plain instr.Push ∷ Plain (instr.CallValue 0) ∷ one instr.Return) (omega arith)

  top_measures : (top : TopTerm) (n m : ℕ) → measure (top_body top n ∷ []) + closures (of_top top) m ≤ 64 * nodes_of_top top
  top_measures (tops.Init bindings term) n m = of_term term n m (one instr.Return) (omega arith)
  top_measures (tops.Run term) n m = of_term term n m (one instr.Return) (omega arith)

  -- rows one after the other
  module _ {R : Type 0} (bodies : R → ℕ → List FlatBody) (inside : R → List Lambda) (nodes : R → ℕ) (row : (r : R) (n m : ℕ) → measure (bodies r n) + closures (inside r) m ≤ 64 * nodes r) where
    rows_measure : (rows : List R) (n m : ℕ) → measure (flat_map (λ (r : R × ℕ). bodies r.0 r.1) (numbered_by inside rows n)) + closures (flat_map inside rows) m ≤ 64 * total (map nodes rows)
    rows_measure [] n m = omega (arith, empty)
    rows_measure (r ∷ rows) n m =
        let next = n + length (inside r) in
        let others = flat_map (λ (r : R × ℕ). bodies r.0 r.1) (numbered_by inside rows next) in
        omega (arith, joins (bodies r n) others, closures_join (inside r) (flat_map inside rows) m, row r n m, rows_measure rows next (m + length (inside r)))

  pub library_measures : (library : LibraryRow) → measure (bodies_of library) ≤ 64 * nodes_of_library library
  library_measures library =
      let first = first_closure library in
      let slots = all_slots library in
      let in_slots = of_classes library in
      let in_methods = flat_map inside_method library.methods in
      let in_variables = flat_map inside_variable library.variables in
      let in_tops = flat_map of_top library.tops in
      let methods = first + length in_slots in
      let variables = methods + length in_methods in
      let forms = variables + length in_variables in
      let a = flat_map (λ (method : MethodRow × ℕ). code_bodies method.0.code method.1) (numbered_by inside_method library.methods methods) in
      let b = flat_map (λ (variable : VariableRow × ℕ). function_bodies variable.0.function variable.1) (numbered_by inside_variable library.variables variables) in
      let c = flat_map (λ (slot : SlotRow × ℕ). init_bodies slot.0.init slot.1) (numbered_by inside_slot slots first) in
      let d = map (λ (top : TopTerm × ℕ). top_body top.0 top.1) (numbered_by of_top library.tops forms) in
      let e = closure_bodies (closures_of library) first in
      let slot_rows = rows_measure (λ (slot : SlotRow) (n : ℕ). init_bodies slot.init n) inside_slot (λ (slot : SlotRow). nodes_of_init slot.init) (λ slot n m. init_measures slot.init n m) slots first first in
      let method_rows = rows_measure (λ (method : MethodRow) (n : ℕ). code_bodies method.code n) inside_method (λ (method : MethodRow). nodes_of_code method.code) (λ method n m. code_measures method.code n m) library.methods methods (first + length in_slots) in
      let variable_rows =
      rows_measure (λ (variable : VariableRow) (n : ℕ). function_bodies variable.function n) inside_variable (λ (variable : VariableRow). nodes_of_function variable.function) (λ variable n m. function_measures variable.function n m) library.variables variables
      (first + length (in_slots ++ in_methods)) in
      let form_rows = rows_measure (λ (top : TopTerm) (n : ℕ). top_body top n ∷ []) of_top nodes_of_top top_measures library.tops forms (first + length (in_slots ++ in_methods ++ in_variables)) in
      omega (
        arith,
        joins (a ++ b ++ c ++ d) e,
        joins (a ++ b ++ c) d,
        joins (a ++ b) c,
        joins a b,
        closures_join (in_slots ++ in_methods ++ in_variables) in_tops first,
        closures_join (in_slots ++ in_methods) in_variables first,
        closures_join in_slots in_methods first,
        slot_rows,
        method_rows,
        variable_rows,
        form_rows,
        ap (λ (xs : List Lambda). closures xs first) (slots_same library.classes),
        ap measure (forms_same library.tops forms),
      )

-- how many bodies there are
counted_few : (library : LibraryRow) → length (bodies_of library) ≤ 64 * nodes_of_library library
counted_few = library_measures length refl (λ xs ys. omega (arith, length-append xs ys)) (λ lambda n m. omega (arith, count_within lambda, closures_count (lambdas_within lambda) m)) (λ term n m last few. omega (arith, count_in term, closures_count (lambdas_in term) m))
  where
    closures_count : (xs : List Lambda) (m : ℕ) → length (closure_bodies xs m) ≡ length xs
    closures_count [] m = refl
    closures_count (x ∷ xs) m = omega (arith, closures_count xs (m + 1))

pub bodies_few : (library : LibraryRow) → length (bodies_of library) ≤ 64 * nodes_of_library library
bodies_few library = counted_few library

-- what names items
named_few : (library : LibraryRow) → names_of (bodies_of library) ≤ 64 * nodes_of_library library
named_few = library_measures names_of refl (λ xs ys. omega (arith, names_join xs ys)) (λ lambda n m. omega (arith, names_within lambda n m)) (λ term n m last few. by_term term n m last few)
  where
    by_term : (term : Term) (n m : ℕ) (last : Code) → length last ≤ 16 → names_of (body_alone term n last ∷ []) + keeps_names (lambdas_in term) m ≤ 64 * nodes_of term
    by_term term n m last few = omega (arith, weigh_join naming (code_of (layout_of_term term) term n) last, by_length naming naming_light last, few, names_weigh term (layout_of_term term) n m)

-- each body is short
every_longest : (bodies : List FlatBody) (most : ℕ) → longest bodies ≤ most → Every (λ (body : FlatBody). length body.code ≤ most) bodies
every_longest [] most h = tt
every_longest (body ∷ bodies) most h = (omega (arith, h), every_longest bodies most (omega (arith, h)))

-- Their bodies apart, and those of their closures apart, are no longer.
longest_max : (xs ys : List FlatBody) (most : ℕ) → longest xs ≤ most → longest ys ≤ most → longest (xs ++ ys) ≤ most
longest_max [] ys most a b = b
longest_max (x ∷ xs) ys most a b = omega (arith, a, longest_max xs ys most (omega (arith, a)) b)

module _ {R : Type 0} (bodies : R → ℕ → List FlatBody) (inside : R → List Lambda) (nodes : R → ℕ) (row : (r : R) (n : ℕ) → longest (bodies r n) ≤ 64 * nodes r) where
  rows_longest : (rows : List R) (n : ℕ) → longest (flat_map (λ (r : R × ℕ). bodies r.0 r.1) (numbered_by inside rows n)) ≤ 64 * total (map nodes rows)
  rows_longest [] n = omega arith
  rows_longest (r ∷ rows) n =
      let next = n + length (inside r) in
      let others = flat_map (λ (r : R × ℕ). bodies r.0 r.1) (numbered_by inside rows next) in
      longest_max (bodies r n) others (64 * total (map nodes (r ∷ rows))) (omega (arith, row r n)) (omega (arith, rows_longest rows next))

module _ {R : Type 0} (inside : R → List Lambda) (nodes : R → ℕ) (row : (r : R) (m : ℕ) → keeps_longest (inside r) m ≤ 64 * nodes r) where
  inside_longest : (rows : List R) (m : ℕ) → keeps_longest (flat_map inside rows) m ≤ 64 * total (map nodes rows)
  inside_longest [] m = omega arith
  inside_longest (r ∷ rows) m =
      omega (arith, keeps_longest_join (inside r) (flat_map inside rows) m, row r m, inside_longest rows (m + length (inside r)))

code_longest : (code : MethodCode) (n : ℕ) → longest (code_bodies code n) ≤ 64 * nodes_of_code code
code_longest (Dylan lambda) n = omega (arith, lambda_short lambda n)
code_longest _ n = omega arith

code_inside : (code : MethodCode) (m : ℕ) → keeps_longest (inside_code code) m ≤ 64 * nodes_of_code code
code_inside (Dylan lambda) m = longest_within lambda m
code_inside _ m = omega arith

function_longest : (function : Option Lambda) (n : ℕ) → longest (function_bodies function n) ≤ 64 * nodes_of_function function
function_longest None n = omega arith
function_longest (Some lambda) n = omega (arith, lambda_short lambda n)

function_inside : (function : Option Lambda) (m : ℕ) → keeps_longest (inside_function function) m ≤ 64 * nodes_of_function function
function_inside None m = omega arith
function_inside (Some lambda) m = longest_within lambda m

init_longest : (init : Option Init) (n : ℕ) → longest (init_bodies init n) ≤ 64 * nodes_of_init init
init_longest None n = omega arith
init_longest (Some (Each term)) n = omega (arith, alone_short term n (one instr.Return) (omega arith))
init_longest (Some (Calling term)) n = omega (arith, alone_short term n (Plain instr.Push ∷ Plain (instr.CallValue 0) ∷ one instr.Return) (omega arith))

init_inside : (init : Option Init) (m : ℕ) → keeps_longest (of_init init) m ≤ 64 * nodes_of_init init
init_inside None m = omega arith
init_inside (Some (Each term)) m = longest_in term m
init_inside (Some (Calling term)) m = longest_in term m

top_longest : (top : TopTerm) (n : ℕ) → longest (top_body top n ∷ []) ≤ 64 * nodes_of_top top
top_longest (tops.Init bindings term) n = omega (arith, alone_short term n (one instr.Return) (omega arith))
top_longest (tops.Run term) n = omega (arith, alone_short term n (one instr.Return) (omega arith))

top_inside : (top : TopTerm) (m : ℕ) → keeps_longest (of_top top) m ≤ 64 * nodes_of_top top
top_inside (tops.Init bindings term) m = longest_in term m
top_inside (tops.Run term) m = longest_in term m

longest_few : (library : LibraryRow) → longest (bodies_of library) ≤ 64 * nodes_of_library library
longest_few library =
    let most = 64 * nodes_of_library library in
    let first = first_closure library in
    let slots = all_slots library in
    let in_slots = of_classes library in
    let in_methods = flat_map inside_method library.methods in
    let in_variables = flat_map inside_variable library.variables in
    let in_tops = flat_map of_top library.tops in
    let methods = first + length in_slots in
    let variables = methods + length in_methods in
    let forms = variables + length in_variables in
    let a = flat_map (λ (method : MethodRow × ℕ). code_bodies method.0.code method.1) (numbered_by inside_method library.methods methods) in
    let b = flat_map (λ (variable : VariableRow × ℕ). function_bodies variable.0.function variable.1) (numbered_by inside_variable library.variables variables) in
    let c = flat_map (λ (slot : SlotRow × ℕ). init_bodies slot.0.init slot.1) (numbered_by inside_slot slots first) in
    let d = map (λ (top : TopTerm × ℕ). top_body top.0 top.1) (numbered_by of_top library.tops forms) in
    let e = closure_bodies (closures_of library) first in
    let of_methods = rows_longest (λ (method : MethodRow) (n : ℕ). code_bodies method.code n) inside_method (λ (method : MethodRow). nodes_of_code method.code) (λ method n. code_longest method.code n) library.methods methods in
    let of_variables =
    rows_longest (λ (variable : VariableRow) (n : ℕ). function_bodies variable.function n) inside_variable (λ (variable : VariableRow). nodes_of_function variable.function) (λ variable n. function_longest variable.function n) library.variables variables in
    let of_slots = rows_longest (λ (slot : SlotRow) (n : ℕ). init_bodies slot.init n) inside_slot (λ (slot : SlotRow). nodes_of_init slot.init) (λ slot n. init_longest slot.init n) slots first in
    let of_forms = rows_longest (λ (top : TopTerm) (n : ℕ). top_body top n ∷ []) of_top nodes_of_top top_longest library.tops forms in
    let all_slots_in = inside_longest inside_slot (λ (slot : SlotRow). nodes_of_init slot.init) (λ slot m. init_inside slot.init m) slots first in
    let all_methods_in = inside_longest inside_method (λ (method : MethodRow). nodes_of_code method.code) (λ method m. code_inside method.code m) library.methods (first + length in_slots) in
    let all_variables_in =
    inside_longest inside_variable (λ (variable : VariableRow). nodes_of_function variable.function) (λ variable m. function_inside variable.function m) library.variables (first + length (in_slots ++ in_methods)) in
    let all_tops_in = inside_longest of_top nodes_of_top top_inside library.tops (first + length (in_slots ++ in_methods ++ in_variables)) in
    let closed : longest e ≤ most =
    omega (
      arith,
      keeps_longest_join (in_slots ++ in_methods ++ in_variables) in_tops first,
      keeps_longest_join (in_slots ++ in_methods) in_variables first,
      keeps_longest_join in_slots in_methods first,
      ap (λ (xs : List Lambda). keeps_longest xs first) (slots_same library.classes),
      all_slots_in,
      all_methods_in,
      all_variables_in,
      all_tops_in,
    ) in
    longest_max (a ++ b ++ c ++ d) e most
    (longest_max (a ++ b ++ c) d most (longest_max (a ++ b) c most (longest_max a b most (omega (arith, of_methods)) (omega (arith, of_variables))) (omega (arith, of_slots))) (omega (arith, of_forms, ap longest (forms_same library.tops forms)))) closed

pub bodies_short : (library : LibraryRow) → Every (λ (body : FlatBody). length body.code ≤ 64 * nodes_of_library library) (bodies_of library)
bodies_short library = every_longest (bodies_of library) (64 * nodes_of_library library) (longest_few library)

-- the items of lists
abbrev items : List Instruction → ℕ
items [] = 0
items (instruction ∷ code) = names instruction + items code

items_join : (a b : List Instruction) → items (a ++ b) ≡ items a + items b
items_join [] b = omega arith
items_join (x ∷ a) b = omega (arith, items_join a b)

placed_names : (place : ℕ) (flat : Flat) → names (placed place flat) ≤ naming flat
placed_names place (Plain instruction) = omega arith
placed_names place (Jump distance) = omega arith
placed_names place (JumpFalse distance) = omega arith
placed_names place (Enter distance) = omega arith
placed_names place (Guard distance) = omega arith
placed_names place (Catch condition distance) = omega arith

code_names : (place : ℕ) (code : Code) → items (placed_from place code) ≤ weigh naming code
code_names place [] = omega arith
code_names place (flat ∷ code) = omega (arith, placed_names place flat, code_names (place + 1) code)

all_names : (bodies : List FlatBody) → items (flat_map (λ (body : FlatBody). placed_from 0 body.code) bodies) ≤ names_of bodies
all_names [] = omega arith
all_names (body ∷ bodies) = omega (arith, items_join (placed_from 0 body.code) (flat_map (λ (body : FlatBody). placed_from 0 body.code) bodies), code_names 0 body.code, all_names bodies)

filter_few : {A : Type 0} (test : A → Bool) (xs : List A) → length (filter test xs) ≤ length xs
filter_few test [] = omega arith
filter_few test (x ∷ xs) = by (test x) (filter_few test xs)
  where
    by : (b : Bool) → length (filter test xs) ≤ length xs → length (cond b (x ∷ filter test xs) (filter test xs)) ≤ length (x ∷ xs)
    by true h = omega (arith, h)
    by false h = omega (arith, h)

distinct_few : {A : Type 0} (same : A → A → Bool) (xs : List A) → length (distinct same xs) ≤ length xs
distinct_few same [] = omega arith
distinct_few same (x ∷ xs) = omega (arith, filter_few (λ other. not (same x other)) (distinct same xs), distinct_few same xs)

-- what some instructions name
abbrev one_of : {A : Type 0} → Option A → ℕ
one_of None = 0
one_of (Some item) = 1

named_by : {A : Type 0} (item : Instruction → Option A) → ((instruction : Instruction) → one_of (item instruction) ≤ names instruction) → (code : List Instruction) → length (filter_map item code) ≤ items code
named_by item each [] = omega arith
named_by {A} item each (instruction ∷ code) = by (item instruction) (each instruction) (named_by item each code)
  where
    by : (o : Option A) → one_of o ≤ names instruction → length (filter_map item code) ≤ items code → length (cons_option o (filter_map item code)) ≤ names instruction + items code
    by None few h = omega (arith, h)
    by (Some x) few h = omega (arith, few, h)

constants_named : (instruction : Instruction) → one_of (constant_of instruction) ≤ names instruction
constants_named (instr.Const literal) = omega arith
constants_named _ = omega arith

names_named : (instruction : Instruction) → one_of (name_of instruction) ≤ names instruction
names_named (instr.Global named) = omega arith
names_named (instr.SetGlobal named) = omega arith
names_named (instr.Search generic count) = omega arith
names_named (instr.CallKnown named count) = omega arith
names_named _ = omega arith

bound_named : (instruction : Instruction) → one_of (bound_of instruction) ≤ names instruction
bound_named (instr.CallDirect sorted ambiguous count) = omega arith
bound_named _ = omega arith

lists_named : (instruction : Instruction) → one_of (list_of instruction) ≤ names instruction
lists_named (instr.Args params) = omega arith
lists_named _ = omega arith

types_named : (instruction : Instruction) → one_of (type_of instruction) ≤ names instruction
types_named (instr.Check type) = omega arith
types_named (instr.Handle condition) = omega arith
types_named (instr.Catch condition address) = omega arith
types_named _ = omega arith

results_named : (instruction : Instruction) → one_of (results_of instruction) ≤ names instruction
results_named (instr.CheckResults results) = omega arith
results_named _ = omega arith

hold_at_most : (code : List Instruction) (most : ℕ) → items code ≤ most → HoldsAtMost most (tables_of code)
hold_at_most code most few = record {
  constants = omega (arith, few, distinct_few is_same_literal (filter_map constant_of code), named_by constant_of constants_named code);
  names = omega (arith, few, distinct_few is_same_binding (filter_map name_of code), named_by name_of names_named code);
  bound = omega (arith, few, distinct_few is_same_bound (filter_map bound_of code), named_by bound_of bound_named code);
  lists = omega (arith, few, distinct_few is_same_params (filter_map list_of code), named_by list_of lists_named code);
  types = omega (arith, few, distinct_few is_same_type (filter_map type_of code), named_by type_of types_named code);
  results = omega (arith, few, distinct_few is_same_results (filter_map results_of code), named_by results_of results_named code);
}

pub items_few : (library : LibraryRow) → HoldsAtMost (64 * nodes_of_library library) (tables_of (instructions_of library))
items_few library = hold_at_most (instructions_of library) (64 * nodes_of_library library) (omega (arith, all_names (bodies_of library), named_few library))

every_less : (bodies : List FlatBody) (n m : ℕ) → n < m → Every (λ (body : FlatBody). length body.code ≤ n) bodies → Every (λ (body : FlatBody). length body.code < m) bodies
every_less [] n m low every = tt
every_less (body ∷ bodies) n m low every = (omega (arith, low, every.0), every_less bodies n m low every.1)

pub units_small : (library : LibraryRow) → nodes_of_library library < 2 ^ 26 → IsSmall library
units_small library few = record {
  bodies = omega (arith, few, bodies_few library);
  codes = every_less (bodies_of library) (64 * nodes_of_library library) (2 ^ 32) (omega (arith, few)) (bodies_short library);
  items = hold_at_most (instructions_of library) (2 ^ 32 - 1) (omega (arith, few, all_names (bodies_of library), named_few library));
}

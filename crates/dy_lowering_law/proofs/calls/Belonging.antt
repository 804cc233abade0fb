-- The bodies of all lambdas of a program.
use Rattle.std.proofs.Common.{◌≡◌, ℕ, zero, suc, ◌+◌, ◌<◌, ⊎_elim, cond, List, [], ◌∷◌, ◌++◌, map, take, length, flat_map, count_by, slice_get, is_some, Option, Some, None, refl, sym, ap, ◌∙◌, subst, arith, length-append}
use Rattle.std.proofs.lemmas.List.{length-map}
use Rattle.std.proofs.lemmas.List.Sums.{sum_by-cons}
use Rattle.std.proofs.lemmas.Option.{none-some, same_Some}
use Rattle.dy_term.specs.declared.term.Lambda.{Lambda}
use Rattle.dy_term.specs.declared.rows.Init.{Init}
use Rattle.dy_term.specs.declared.rows.Init.TheVariants.{Each, Calling}
use Rattle.dy_term.specs.declared.rows.SlotRow.{SlotRow}
use Rattle.dy_term.specs.declared.rows.ClassRow.{ClassRow}
use Rattle.dy_term.specs.declared.rows.MethodCode.{MethodCode}
use Rattle.dy_term.specs.declared.rows.MethodCode.TheVariants.{Dylan, Getter, Setter, Builtin}
use Rattle.dy_term.specs.declared.rows.MethodRow.{MethodRow}
use Rattle.dy_term.specs.declared.rows.VariableRow.{VariableRow}
use Rattle.dy_term.specs.declared.rows.TopTerm.{TopTerm}
use Rattle.dy_term.specs.declared.rows.TopTerm.TheVariants as tops
use Rattle.dy_term.specs.declared.rows.LibraryRow.{LibraryRow}
use Rattle.dy_term.specs.declared.rows.Program.{Program}
use Rattle.dy_code.specs.Programs.{dylan_methods, dylan_functions}
use Rattle.dy_meaning.specs.Lambdas.{lambdas_within, of_function, of_init, of_class, of_classes, of_methods, of_variables, of_top, of_library}
use Rattle.dy_meaning.specs.Layouts.{from}
use Rattle.dy_meaning.specs.Numbering.{numbered_by}
use Rattle.dy_meaning.specs.Programs.{lambda_of}
use Rattle.dy_lowered.specs.Bodies.{FlatBody, lambda_body, top_body, inside_code, inside_method, inside_function, inside_variable, inside_slot, all_slots, closures_of, code_bodies, function_bodies, init_bodies, init_count, first_closure, closure_bodies, bodies_of}
use Rattle.dy_lowering_law.specs.Renumbering.{lambda_of_code, numbers_if, numbers_of, library_numbers}
use Rattle.dy_lowering_law.specs.calls.Belonging.{bodies_before, Belongs}
use Rattle.dy_lowering_law.proofs.calls.Binding.{length_from}
use Rattle.dy_lowering_law.proofs.calls.Nested.{Nested, none_nested, joined, in_either, in_term, in_lambda}
use Rattle.dy_lowering_law.proofs.calls.Numbers.{left_of, right_of, from_get, dylan_same, method_lambda, function_lambda, methods_same, of_class_numbers, of_method_numbers, of_variable_numbers, of_form_numbers, classes_at, methods_at, variables_at, forms_at, methods_long, numbers_long, before as before_of, before_same, has_number}

-- how many bodies stand before those of the closures
module _ {A : Type 0} (lambda : A → Option Lambda) (inside : A → List Lambda) where
  abbrev row_bodies : List A → ℕ → List FlatBody
  row_bodies rows number = flat_map (λ (r : A × ℕ). function_bodies (lambda r.0) r.1) (numbered_by inside rows number)

  one_long : (held : Option Lambda) (number : ℕ) → length (function_bodies held number) ≡ cond (is_some held) 1 0
  one_long None number = refl
  one_long (Some l) number = refl

  rows_long : (rows : List A) (number : ℕ) → length (row_bodies rows number) ≡ count_by (λ r. is_some (lambda r)) rows
  rows_long [] number = refl
  rows_long (row ∷ rows) number =
      let one = one_long (lambda row) number in
      let others = rows_long rows (number + length (inside row)) in
      let all = sum_by-cons (λ r. cond (is_some (lambda r)) 1 0) row rows in
      omega (arith, one, others, all, length-append (function_bodies (lambda row) number) (row_bodies rows (number + length (inside row))))

bodies_same : (code : MethodCode) (number : ℕ) → code_bodies code number ≡ function_bodies (lambda_of_code code) number
bodies_same (Dylan lambda) number = refl
bodies_same (Getter class slot) number = refl
bodies_same (Setter class slot) number = refl
bodies_same (Builtin operation) number = refl

abbrev inner_of : Option Lambda → List Lambda
inner_of None = []
inner_of (Some lambda) = lambdas_within lambda

inside_same : (code : MethodCode) → inside_code code ≡ inner_of (lambda_of_code code)
inside_same (Dylan lambda) = refl
inside_same (Getter class slot) = refl
inside_same (Setter class slot) = refl
inside_same (Builtin operation) = refl

function_same : (held : Option Lambda) → inside_function held ≡ inner_of held
function_same None = refl
function_same (Some lambda) = refl

init_long : (init : Option Init) (number : ℕ) → length (init_bodies init number) ≡ length (init_bodies init 0)
init_long None number = refl
init_long (Some init) number = refl

slots_long : (slots : List SlotRow) (number : ℕ) → length (flat_map (λ (s : SlotRow × ℕ). init_bodies s.0.init s.1) (numbered_by inside_slot slots number)) ≡ init_count slots
slots_long [] number = refl
slots_long (slot ∷ slots) number =
    let next = number + length (inside_slot slot) in
    omega (arith, init_long slot.init number, slots_long slots next, length-append (init_bodies slot.init number) (flat_map (λ (s : SlotRow × ℕ). init_bodies s.0.init s.1) (numbered_by inside_slot slots next)))

numbered_long : {A : Type 0} (inside : A → List Lambda) (rows : List A) (number : ℕ) → length (numbered_by inside rows number) ≡ length rows
numbered_long inside [] number = refl
numbered_long inside (row ∷ rows) number = ap suc (numbered_long inside rows (number + length (inside row)))

closure_at : (lambdas : List Lambda) (number j : ℕ) (lambda : Lambda) → slice_get lambdas j ≡ Some lambda → slice_get (closure_bodies lambdas number) j ≡ Some (lambda_body lambda (number + j + 1))
closure_at [] number j lambda e = absurd (none-some lambda e)
closure_at (l ∷ lambdas) number zero lambda e =
    let at : number + 1 ≡ number + 0 + 1 = omega arith in
    λ i. Some (lambda_body (same_Some l lambda e i) (at i))
closure_at (l ∷ lambdas) number (suc j) lambda e =
    let at : number + 1 + j + 1 ≡ number + suc j + 1 = omega arith in
    closure_at lambdas (number + 1) j lambda e ∙ ap (λ n. Some (lambda_body lambda n)) at

-- lists of nested lambdas
rows_nested : {A : Type 0} (inside : A → List Lambda) → ((row : A) → Nested (inside row)) → (rows : List A) → Nested (flat_map inside rows)
rows_nested inside each [] = none_nested
rows_nested inside each (row ∷ rows) = joined (inside row) (flat_map inside rows) (each row) (rows_nested inside each rows)

init_nested : (init : Option Init) → Nested (of_init init)
init_nested None = none_nested
init_nested (Some (Each term)) = in_term term
init_nested (Some (Calling term)) = in_term term

top_nested : (top : TopTerm) → Nested (of_top top)
top_nested (tops.Init bindings term) = in_term term
top_nested (tops.Run term) = in_term term

class_nested : (class : ClassRow) → Nested (of_class class)
class_nested class = rows_nested (λ slot. of_init slot.init) (λ slot. init_nested slot.init) class.slots

module _ (before : ℕ) (library : LibraryRow) where
  abbrev first : ℕ
  first = first_closure library

  abbrev numbers : List ℕ
  numbers = library_numbers before library

  -- the body of a lambda of the library, and of those inside of it
  record Held (place : ℕ) (lambda : Lambda) : Type 0 where
    pub body : ℕ
    pub closure : ℕ
    pub stands : slice_get (bodies_of library) body ≡ Some (lambda_body lambda closure)
    pub numbered : slice_get numbers place ≡ Some (before + body)
    pub inner : (more : ℕ) → more < length (lambdas_within lambda) → slice_get numbers (place + 1 + more) ≡ Some (before + closure + more)

  abbrev AllHeld : ℕ → List Lambda → Type 0
  AllHeld start lambdas = (i : ℕ) (lambda : Lambda) → slice_get lambdas i ≡ Some lambda → Held (start + i) lambda

  both_held : (xs ys : List Lambda) (start behind : ℕ) → behind ≡ start + length xs → AllHeld start xs → AllHeld behind ys → AllHeld start (xs ++ ys)
  both_held xs ys start behind at one other i lambda e =
      ⊎_elim (λ a. one i lambda a) (λ b. let there : behind + b.0 ≡ start + i = omega (arith, at, b.1) in subst (λ (p : ℕ). Held p lambda) there (other b.0 lambda b.2)) (in_either xs ys i lambda e)

  -- bodies before those of closures
  abbrev method_bodies : List FlatBody
  method_bodies = flat_map (λ (m : MethodRow × ℕ). code_bodies m.0.code m.1) (numbered_by inside_method library.methods (first + length (of_classes library)))

  abbrev variable_start : ℕ
  variable_start = first + length (of_classes library) + length (flat_map inside_method library.methods)

  abbrev variable_bodies : List FlatBody
  variable_bodies = flat_map (λ (v : VariableRow × ℕ). function_bodies v.0.function v.1) (numbered_by inside_variable library.variables variable_start)

  abbrev slot_bodies : List FlatBody
  slot_bodies = flat_map (λ (s : SlotRow × ℕ). init_bodies s.0.init s.1) (numbered_by inside_slot (all_slots library) first)

  abbrev form_start : ℕ
  form_start = variable_start + length (flat_map inside_variable library.variables)

  abbrev form_bodies : List FlatBody
  form_bodies = map (λ (t : TopTerm × ℕ). top_body t.0 t.1) (numbered_by of_top library.tops form_start)

  abbrev closing_bodies : List FlatBody
  closing_bodies = closure_bodies (closures_of library) first

  methods_same_bodies : method_bodies ≡ row_bodies method_lambda inside_method library.methods (first + length (of_classes library))
  methods_same_bodies = λ i. flat_map (λ (m : MethodRow × ℕ). bodies_same m.0.code m.1 i) (numbered_by inside_method library.methods (first + length (of_classes library)))

  method_count : length method_bodies ≡ dylan_methods library.methods
  method_count = ap length methods_same_bodies ∙ rows_long method_lambda inside_method library.methods (first + length (of_classes library)) ∙ (λ i. count_by (λ r. sym (dylan_same r.code) i) library.methods)

  front_long : length (method_bodies ++ variable_bodies ++ slot_bodies ++ form_bodies) ≡ first
  front_long =
      let functions : length variable_bodies ≡ dylan_functions library.variables = rows_long function_lambda inside_variable library.variables variable_start in
      let forms : length form_bodies ≡ length library.tops = length-map (numbered_by of_top library.tops form_start) (λ (t : TopTerm × ℕ). top_body t.0 t.1) ∙ numbered_long of_top library.tops form_start in
      omega (
        arith,
        method_count,
        functions,
        slots_long (all_slots library) first,
        forms,
        length-append (method_bodies ++ variable_bodies ++ slot_bodies) form_bodies,
        length-append (method_bodies ++ variable_bodies) slot_bodies,
        length-append method_bodies variable_bodies,
      )

  closure_stands : (q : ℕ) (lambda : Lambda) → slice_get (closures_of library) q ≡ Some lambda → slice_get (bodies_of library) (first + q) ≡ Some (lambda_body lambda (first + q + 1))
  closure_stands q lambda e =
      right_of (method_bodies ++ variable_bodies ++ slot_bodies ++ form_bodies) closing_bodies first q (first + q) (lambda_body lambda (first + q + 1)) front_long refl (closure_at (closures_of library) first q lambda e)

  -- lambdas whose bodies follow each other among those of the closures
  closures_held : (lambdas : List Lambda) (start q : ℕ) → Nested lambdas → ((i : ℕ) (lambda : Lambda) → slice_get lambdas i ≡ Some lambda → slice_get (closures_of library) (q + i) ≡ Some lambda)
      → ((i : ℕ) → i < length lambdas → slice_get numbers (start + i) ≡ Some (before + (first + q + i))) → AllHeld start lambdas
  closures_held lambdas start q nested closures counted i lambda e =
      let within = nested.by i lambda e in
      let at : first + (q + i) ≡ first + q + i = omega arith in
      record {
        body = first + q + i;
        closure = first + q + i + 1;
        stands = (λ k. slice_get (bodies_of library) (sym at k)) ∙ closure_stands (q + i) lambda (closures i lambda e) ∙ (λ k. Some (lambda_body lambda (at k + 1)));
        numbered = counted i (omega (arith, within));
        inner = λ more less.
            let place : start + i + 1 + more ≡ start + (i + 1 + more) = omega arith in
            let value : before + (first + q + (i + 1 + more)) ≡ before + (first + q + i + 1) + more = omega arith in
            ap (slice_get numbers) place ∙ counted (i + 1 + more) (omega (arith, within, less)) ∙ ap Some value;
      }

  -- lambdas of rows, each with those inside of it
  module _ {A : Type 0} (lambda : A → Option Lambda) (inside : A → List Lambda) (same : (row : A) → inside row ≡ inner_of (lambda row)) where
    abbrev Numbered_at : ℕ → List ℕ → Type 0
    Numbered_at start list = (i : ℕ) (v : ℕ) → slice_get list i ≡ Some v → slice_get numbers (start + i) ≡ Some v

    abbrev Bodies_at : ℕ → List FlatBody → Type 0
    Bodies_at start list = (i : ℕ) (f : FlatBody) → slice_get list i ≡ Some f → slice_get (bodies_of library) (start + i) ≡ Some f

    abbrev Closures_at : ℕ → List Lambda → Type 0
    Closures_at start list = (i : ℕ) (l : Lambda) → slice_get list i ≡ Some l → slice_get (closures_of library) (start + i) ≡ Some l

    abbrev RowsHeld : List A → Type 0
    RowsHeld rows = (start b c q : ℕ) → c ≡ first + q → Numbered_at start (numbers_of lambda rows (before + b) (before + c)) → Bodies_at b (row_bodies lambda inside rows c) → Closures_at q (flat_map inside rows)
        → AllHeld start (flat_map (λ row. of_function (lambda row)) rows)

    row_held : (held : Option Lambda) (inner : List Lambda) → inner ≡ inner_of held → (rows : List A) → RowsHeld rows → (start b c q : ℕ) → c ≡ first + q
        → Numbered_at start (numbers_if held (numbers_of lambda rows) (before + b) (before + c)) → Bodies_at b (function_bodies held c ++ row_bodies lambda inside rows (c + length inner)) → Closures_at q (inner ++ flat_map inside rows)
        → AllHeld start (of_function held ++ flat_map (λ row. of_function (lambda row)) rows)
    row_held None inner e rows others start b c q at counted bodies closures =
        let none : length inner ≡ 0 = ap length e in
        let here : c ≡ c + length inner = omega (arith, none) in
        others start b (c + length inner) (q + length inner) (omega (arith, at))
        (λ i v h. counted i v (ap (λ n. slice_get (numbers_of lambda rows (before + b) (before + n)) i) here ∙ h))
        bodies
        (λ i l h. let there : q + length inner + i ≡ q + (length inner + i) = omega arith in ap (slice_get (closures_of library)) there ∙ closures (length inner + i) l (right_of inner (flat_map inside rows) (length inner) i (length inner + i) l refl refl h))
    row_held (Some held) inner e rows others start b c q at counted bodies closures = by
      where
        n : ℕ
        n = length (lambdas_within held)

        long : length inner ≡ n
        long = ap length e

        rest : List ℕ
        rest = numbers_of lambda rows (before + b + 1) (before + c + n)

        -- the numbers of those inside
        inside_counted : (i : ℕ) → i < n → slice_get numbers (start + suc i) ≡ Some (before + c + i)
        inside_counted i less = counted (suc i) (before + c + i) (left_of (from (before + c) n) rest i (before + c + i) (from_get n (before + c) i less))

        itself : Held (start + 0) held
        itself =
            let here : b ≡ b + 0 = omega arith in
            record {
              body = b;
              closure = c;
              stands = ap (slice_get (bodies_of library)) here ∙ bodies 0 (lambda_body held c) refl;
              numbered = counted 0 (before + b) refl;
              inner = λ more less. let place : start + 0 + 1 + more ≡ start + suc more = omega arith in ap (slice_get numbers) place ∙ inside_counted more less;
            }

        inner_held : AllHeld (start + 1) (lambdas_within held)
        inner_held =
            closures_held (lambdas_within held) (start + 1) q (in_lambda held)
            (λ i l h. closures i l (left_of inner (flat_map inside rows) i l (ap (λ list. slice_get list i) e ∙ h)))
            (λ i less.
            let place : start + 1 + i ≡ start + suc i = omega arith in
            let value : before + c + i ≡ before + (first + q + i) = omega (arith, at) in
            ap (slice_get numbers) place ∙ inside_counted i less ∙ ap Some value)

        rest_held : AllHeld (start + 1 + n) (flat_map (λ row. of_function (lambda row)) rows)
        rest_held =
            others (start + 1 + n) (b + 1) (c + length inner) (q + length inner) (omega (arith, at))
            (λ i v h.
            let place : start + 1 + n + i ≡ start + suc (n + i) = omega arith in
            let one : before + b + 1 ≡ before + (b + 1) = omega arith in
            let other : before + c + n ≡ before + (c + length inner) = omega (arith, long) in
            ap (slice_get numbers) place
            ∙ counted (suc (n + i)) v (right_of (from (before + c) n) rest n i (n + i) v (length_from n (before + c)) refl ((λ k. slice_get (numbers_of lambda rows (one k) (other k)) i) ∙ h)))
            (λ i f h. let place : b + 1 + i ≡ b + suc i = omega arith in ap (slice_get (bodies_of library)) place ∙ bodies (suc i) f h)
            (λ i l h. let there : q + length inner + i ≡ q + (length inner + i) = omega arith in ap (slice_get (closures_of library)) there ∙ closures (length inner + i) l (right_of inner (flat_map inside rows) (length inner) i (length inner + i) l refl refl h))

        by : AllHeld start (of_function (Some held) ++ flat_map (λ row. of_function (lambda row)) rows)
        by zero l h = subst (λ (q : Lambda). Held (start + 0) q) (same_Some held l h) itself
        by (suc i) l h =
            let there : start + 1 + i ≡ start + suc i = omega arith in
            subst (λ (p : ℕ). Held p l) there (both_held (lambdas_within held) (flat_map (λ row. of_function (lambda row)) rows) (start + 1) (start + 1 + n) refl inner_held rest_held i l h)

    rows_held : (rows : List A) → RowsHeld rows
    rows_held [] start b c q at counted bodies closures = λ i l e. absurd (none-some l e)
    rows_held (row ∷ rows) start b c q at counted bodies closures = row_held (lambda row) (inside row) (same row) rows (rows_held rows) start b c q at counted bodies closures

  -- all lambdas of the library
  classes_held : AllHeld 0 (of_classes library)
  classes_held =
      closures_held (of_classes library) 0 0 (rows_nested of_class class_nested library.classes)
      (λ i l e. let at : 0 + i ≡ i = omega arith in
      ap (slice_get (closures_of library)) at
      ∙ left_of (of_classes library ++ flat_map inside_method library.methods ++ flat_map inside_variable library.variables) (flat_map of_top library.tops) i l
      (left_of (of_classes library ++ flat_map inside_method library.methods) (flat_map inside_variable library.variables) i l
      (left_of (of_classes library) (flat_map inside_method library.methods) i l e)))
      (λ i less.
      let at : 0 + i ≡ i = omega arith in
      let value : classes_at before library + i ≡ before + (first + 0 + i) = omega arith in
      ap (slice_get numbers) at
      ∙ left_of (of_class_numbers before library ++ of_method_numbers before library ++ of_variable_numbers before library) (of_form_numbers before library) i _
      (left_of (of_class_numbers before library ++ of_method_numbers before library) (of_variable_numbers before library) i _
      (left_of (of_class_numbers before library) (of_method_numbers before library) i _ (from_get (length (of_classes library)) (classes_at before library) i less)))
      ∙ ap Some value)

  methods_held : AllHeld (length (of_classes library)) (of_methods library)
  methods_held =
      let n = length (of_classes library) in
      subst (λ (list : List Lambda). AllHeld n list) (sym (methods_same library.methods))
      (rows_held method_lambda inside_method (λ row. inside_same row.code) library.methods n 0 (first + n) n refl
      (λ i v e.
      let one : before ≡ before + 0 = omega arith in
      let other : methods_at before library ≡ before + (first + n) = omega arith in
      left_of (of_class_numbers before library ++ of_method_numbers before library ++ of_variable_numbers before library) (of_form_numbers before library) (n + i) v
      (left_of (of_class_numbers before library ++ of_method_numbers before library) (of_variable_numbers before library) (n + i) v
      (right_of (of_class_numbers before library) (of_method_numbers before library) n i (n + i) v (length_from n (classes_at before library)) refl
      ((λ k. slice_get (numbers_of method_lambda library.methods (one k) (other k)) i) ∙ e))))
      (λ i f e. let at : 0 + i ≡ i = omega arith in
      ap (slice_get (bodies_of library)) at
      ∙ left_of (method_bodies ++ variable_bodies ++ slot_bodies ++ form_bodies) closing_bodies i f
      (left_of (method_bodies ++ variable_bodies ++ slot_bodies) form_bodies i f
      (left_of (method_bodies ++ variable_bodies) slot_bodies i f
      (left_of method_bodies variable_bodies i f (ap (λ list. slice_get list i) methods_same_bodies ∙ e)))))
      (λ i l e.
      left_of (of_classes library ++ flat_map inside_method library.methods ++ flat_map inside_variable library.variables) (flat_map of_top library.tops) (n + i) l
      (left_of (of_classes library ++ flat_map inside_method library.methods) (flat_map inside_variable library.variables) (n + i) l
      (right_of (of_classes library) (flat_map inside_method library.methods) n i (n + i) l refl refl e))))

  variables_held : AllHeld (length (of_classes library) + length (of_methods library)) (of_variables library)
  variables_held =
      let n = length (of_classes library) in
      let m = length (of_methods library) in
      let d = dylan_methods library.methods in
      let q = n + length (flat_map inside_method library.methods) in
      let closing : first + n + length (flat_map inside_method library.methods) ≡ first + q = omega arith in
      rows_held function_lambda inside_variable (λ row. function_same row.function) library.variables (n + m) d variable_start q closing
      (λ i v e.
      let other : variables_at before library ≡ before + variable_start = omega arith in
      left_of (of_class_numbers before library ++ of_method_numbers before library ++ of_variable_numbers before library) (of_form_numbers before library) (n + m + i) v
      (right_of (of_class_numbers before library ++ of_method_numbers before library) (of_variable_numbers before library) (n + m) i (n + m + i) v
      (omega (arith, length-append (of_class_numbers before library) (of_method_numbers before library), length_from n (classes_at before library), methods_long before library)) refl
      ((λ k. slice_get (numbers_of function_lambda library.variables (before + d) (other k)) i) ∙ e)))
      (λ i f e.
      left_of (method_bodies ++ variable_bodies ++ slot_bodies ++ form_bodies) closing_bodies (d + i) f
      (left_of (method_bodies ++ variable_bodies ++ slot_bodies) form_bodies (d + i) f
      (left_of (method_bodies ++ variable_bodies) slot_bodies (d + i) f
      (right_of method_bodies variable_bodies d i (d + i) f method_count refl e))))
      (λ i l e.
      left_of (of_classes library ++ flat_map inside_method library.methods ++ flat_map inside_variable library.variables) (flat_map of_top library.tops) (q + i) l
      (right_of (of_classes library ++ flat_map inside_method library.methods) (flat_map inside_variable library.variables) q i (q + i) l (length-append (of_classes library) (flat_map inside_method library.methods)) refl e))

  tops_held : AllHeld (length (of_classes library) + length (of_methods library) + length (of_variables library)) (flat_map of_top library.tops)
  tops_held =
      let n = length (of_classes library) in
      let m = length (of_methods library) in
      let v = length (of_variables library) in
      let q = n + length (flat_map inside_method library.methods) + length (flat_map inside_variable library.variables) in
      closures_held (flat_map of_top library.tops) (n + m + v) q (rows_nested of_top top_nested library.tops)
      (λ i l e.
      right_of (of_classes library ++ flat_map inside_method library.methods ++ flat_map inside_variable library.variables) (flat_map of_top library.tops) q i (q + i) l
      (omega (arith, length-append (of_classes library ++ flat_map inside_method library.methods) (flat_map inside_variable library.variables), length-append (of_classes library) (flat_map inside_method library.methods))) refl e)
      (λ i less.
      let value : forms_at before library + i ≡ before + (first + q + i) = omega arith in
      right_of (of_class_numbers before library ++ of_method_numbers before library ++ of_variable_numbers before library) (of_form_numbers before library) (n + m + v) i (n + m + v + i) _
      (omega (
        arith,
        length-append (of_class_numbers before library ++ of_method_numbers before library) (of_variable_numbers before library),
        length-append (of_class_numbers before library) (of_method_numbers before library),
        length_from n (classes_at before library),
        methods_long before library,
        numbers_long function_lambda library.variables (before + dylan_methods library.methods) (variables_at before library),
      )) refl
      (from_get (length (flat_map of_top library.tops)) (forms_at before library) i less)
      ∙ ap Some value)

  library_held : AllHeld 0 (of_library library)
  library_held =
      let n = length (of_classes library) in
      let m = length (of_methods library) in
      let v = length (of_variables library) in
      both_held (of_classes library ++ of_methods library ++ of_variables library) (flat_map of_top library.tops) 0 (n + m + v)
      (omega (arith, length-append (of_classes library ++ of_methods library) (of_variables library), length-append (of_classes library) (of_methods library)))
      (both_held (of_classes library ++ of_methods library) (of_variables library) 0 (n + m) (omega (arith, length-append (of_classes library) (of_methods library)))
      (both_held (of_classes library) (of_methods library) 0 n (omega arith) classes_held methods_held) variables_held) tops_held

-- the library in whose list a lambda stands
record Place_in (libraries : List LibraryRow) (number : ℕ) (lambda : Lambda) : Type 0 where
  pub place : ℕ
  pub library : LibraryRow
  pub there : slice_get libraries place ≡ Some library
  pub j : ℕ
  pub at : number ≡ length (flat_map of_library (take place libraries)) + j
  pub held : slice_get (of_library library) j ≡ Some lambda

place_in : (libraries : List LibraryRow) (number : ℕ) (lambda : Lambda) → slice_get (flat_map of_library libraries) number ≡ Some lambda → Place_in libraries number lambda
place_in [] number lambda e = absurd (none-some lambda e)
place_in (library ∷ libraries) number lambda e =
    ⊎_elim
    (λ a. let at : number ≡ 0 + number = omega arith in record { place = 0; library = library; there = refl; j = number; at = at; held = a })
    (λ b. let more = place_in libraries b.0 lambda b.2 in
    record {
      place = suc more.place;
      library = more.library;
      there = more.there;
      j = more.j;
      at = omega (arith, b.1, more.at, length-append (of_library library) (flat_map of_library (take more.place libraries)));
      held = more.held;
    })
    (in_either (of_library library) (flat_map of_library libraries) number lambda e)

pub lambdas_belong : (program : Program) (number : ℕ) (lambda : Lambda) → lambda_of program number ≡ Some lambda → Belongs program number lambda
lambdas_belong program number lambda e =
    let found = place_in program.libraries number lambda e in
    let before = before_of program found.place found.library found.there in
    let zero_on : 0 + found.j ≡ found.j = omega arith in
    let held = library_held before found.library found.j lambda found.held in
    let same : bodies_before program found.place ≡ before = before_same program found.place found.library found.there in
    record {
      place = found.place;
      library = found.library;
      body = held.body;
      closure = held.closure;
      there = found.there;
      stands = held.stands;
      numbered = has_number program found.place found.library found.there found.j number (before + held.body) found.at (ap (slice_get (library_numbers before found.library)) (sym zero_on) ∙ held.numbered)
          ∙ ap (λ n. n + held.body) (sym same);
      inner = λ more less.
          let at : number + 1 + more ≡ length (flat_map of_library (take found.place program.libraries)) + (found.j + 1 + more) = omega (arith, found.at) in
          let on : found.j + 1 + more ≡ 0 + found.j + 1 + more = omega arith in
          has_number program found.place found.library found.there (found.j + 1 + more) (number + 1 + more) (before + held.closure + more) at (ap (slice_get (library_numbers before found.library)) on ∙ held.inner more less)
          ∙ ap (λ n. n + held.closure + more) (sym same);
    }

-- Numbers of lambdas, and of their bodies.
use Rattle.std.proofs.Common.{◌≡◌, ℕ, zero, suc, ◌+◌, ◌-◌, ◌<◌, Bool, true, cond, List, [], ◌∷◌, ◌++◌, map, take, length, flat_map, count_by, slice_get, is_some, Option, Some, None, refl, sym, ap, ◌∙◌, arith, length-append}
use Rattle.std.specs.Option.{option_map}
use Rattle.std.proofs.lemmas.List.{length-map, take-map}
use Rattle.std.proofs.lemmas.List.Sums.{sum_by-cons}
use Rattle.std.proofs.lemmas.Option.{none-some, same_Some, slice_get-map, get_or_from_slice_get}
use Rattle.dy_base.specs.declared.ids.BindingId.{BindingId}
use Rattle.dy_term.specs.declared.term.Lambda.{Lambda}
use Rattle.dy_term.specs.declared.rows.MethodCode.{MethodCode}
use Rattle.dy_term.specs.declared.rows.MethodCode.TheVariants.{Dylan, Getter, Setter, Builtin}
use Rattle.dy_term.specs.declared.rows.MethodRow.{MethodRow}
use Rattle.dy_term.specs.declared.rows.VariableRow.{VariableRow}
use Rattle.dy_term.specs.declared.rows.LibraryRow.{LibraryRow}
use Rattle.dy_term.specs.declared.rows.Program.{Program}
use Rattle.dy_code.specs.Programs.{if_there, is_dylan, dylan_methods, dylan_functions, bodies_in, body_number, start_at, method_body, function_body}
use Rattle.dy_meaning.specs.Lambdas.{lambdas_within, of_code, of_function, of_method, of_variable, of_classes, of_methods, of_variables, of_top, of_library, lambdas_of}
use Rattle.dy_meaning.specs.Layouts.{from}
use Rattle.dy_meaning.specs.Numbering.{numbered_by}
use Rattle.dy_lowered.specs.Bodies.{bodies_of, first_closure, inside_method, inside_variable, start_count}
use Rattle.dy_lowered.specs.Flat.{placed_from}
use Rattle.dy_lowered.specs.Tables.{tables_of}
use Rattle.dy_lowered.specs.Units.{lowered, body_of as unit_body}
use Rattle.dy_lowering_law.specs.Machines.{linked_program}
use Rattle.dy_lowering_law.specs.Renumbering.{lambda_of_code, numbers_if, numbers_of, library_numbers, numbers_from, body_of}
use Rattle.dy_lowering_law.specs.calls.Lambdas.{HasBody}
use Rattle.dy_lowering_law.proofs.calls.Binding.{length_from}

-- what stands in lists that follow each other
module _ {A : Type 0} where
  pub left_of : (xs ys : List A) (k : ℕ) (x : A) → slice_get xs k ≡ Some x → slice_get (xs ++ ys) k ≡ Some x
  left_of [] ys k x e = absurd (none-some x e)
  left_of (y ∷ xs) ys zero x e = e
  left_of (y ∷ xs) ys (suc k) x e = left_of xs ys k x e

  pub right_of : (xs ys : List A) (n k j : ℕ) (x : A) → length xs ≡ n → j ≡ n + k → slice_get ys k ≡ Some x → slice_get (xs ++ ys) j ≡ Some x
  right_of [] ys n k j x long at e = let here : j ≡ k = omega (arith, long, at) in ap (slice_get ys) here ∙ e
  right_of (y ∷ xs) ys n k zero x long at e = absurd (omega (arith, long, at))
  right_of (y ∷ xs) ys n k (suc j) x long at e = right_of xs ys (n - 1) k j x (omega (arith, long)) (omega (arith, long, at)) e

  counted_less : (p : A → Bool) (rows : List A) (k : ℕ) (row : A) → slice_get rows k ≡ Some row → p row ≡ true → count_by p (take k rows) < count_by p rows
  counted_less p [] k row e test = absurd (none-some row e)
  counted_less p (r ∷ rows) zero row e test =
      let here : ◌≡◌ {A = ℕ} (cond (p r) 1 0) 1 = ap (λ q. cond (p q) 1 0) (same_Some r row e) ∙ ap (λ b. cond b 1 0) test in
      let all = sum_by-cons (λ x. cond (p x) 1 0) r rows in
      omega (arith, here, all)
  counted_less p (r ∷ rows) (suc k) row e test =
      let all = sum_by-cons (λ x. cond (p x) 1 0) r rows in
      let some = sum_by-cons (λ x. cond (p x) 1 0) r (take k rows) in
      let less = counted_less p rows k row e test in
      omega (arith, all, some, less)

module _ {A B : Type 0} (f : A → List B) where
  in_flat : (rows : List A) (k j : ℕ) (row : A) (x : B) → slice_get rows k ≡ Some row → slice_get (f row) j ≡ Some x → slice_get (flat_map f rows) (length (flat_map f (take k rows)) + j) ≡ Some x
  in_flat [] k j row x e h = absurd (none-some row e)
  in_flat (r ∷ rows) zero j row x e h =
      let at : 0 + j ≡ j = omega arith in
      ap (slice_get (f r ++ flat_map f rows)) at
      ∙ left_of (f r) (flat_map f rows) j x (ap (λ q. slice_get (f q) j) (same_Some r row e) ∙ h)
  in_flat (r ∷ rows) (suc k) j row x e h =
      right_of (f r) (flat_map f rows) (length (f r)) (length (flat_map f (take k rows)) + j) _ x refl (omega (arith, length-append (f r) (flat_map f (take k rows)))) (in_flat rows k j row x e h)

-- rows with the numbers of their first lambdas
module _ {A : Type 0} (inside : A → List Lambda) where
  pub numbered_rows : (rows : List A) (start k : ℕ) → option_map (λ found. found.0) (slice_get (numbered_by inside rows start) k) ≡ slice_get rows k
  numbered_rows [] start k = refl
  numbered_rows (r ∷ rows) start zero = refl
  numbered_rows (r ∷ rows) start (suc k) = numbered_rows rows (start + length (inside r)) k

  pub numbered_at : (rows : List A) (start k : ℕ) (found : A × ℕ) → slice_get (numbered_by inside rows start) k ≡ Some found → (slice_get rows k ≡ Some found.0) × (found.1 ≡ start + length (flat_map inside (take k rows)))
  numbered_at [] start k found e = absurd (none-some found e)
  numbered_at (r ∷ rows) start zero found e =
      let p = same_Some {A = A × ℕ} (r, start) found e in
      let here : start ≡ start + 0 = omega arith in
      (ap (λ q. Some q.0) p, sym (ap (λ q. q.1) p) ∙ here)
  numbered_at (r ∷ rows) start (suc k) found e =
      let more = numbered_at rows (start + length (inside r)) k found e in
      (more.0, omega (arith, more.1, length-append (inside r) (flat_map inside (take k rows))))

pub from_get : (n at place : ℕ) → place < n → slice_get (from at n) place ≡ Some (at + place)
from_get zero at place less = absurd (omega (arith, less))
from_get (suc n) at zero less = let here : at ≡ at + 0 = omega arith in ap Some here
from_get (suc n) at (suc place) less =
    let here : at + 1 + place ≡ at + suc place = omega arith in
    from_get n (at + 1) place (omega (arith, less)) ∙ ap Some here

-- bodies of rows that may have a lambda, and of the lambdas inside
long_if : (held : Option Lambda) (others : ℕ → ℕ → List ℕ) (inner : List Lambda) → ((start closure : ℕ) → length (others start closure) ≡ length inner) → (start closure : ℕ) → length (numbers_if held others start closure) ≡ length (of_function held ++ inner)
long_if None others inner long start closure = long start closure
long_if (Some lambda) others inner long start closure =
    let n = length (lambdas_within lambda) in
    omega (arith, length-append (from closure n) (others (start + 1) (closure + n)), length_from n closure, long (start + 1) (closure + n), length-append (lambdas_within lambda) inner)

at_if : (held : Option Lambda) (others : ℕ → ℕ → List ℕ) (inner : List Lambda) (count : ℕ) → ((start closure : ℕ) → slice_get (others start closure) (length inner) ≡ Some (start + count)) → (start closure : ℕ)
    → slice_get (numbers_if held others start closure) (length (of_function held ++ inner)) ≡ Some (start + (cond (is_some held) 1 0 + count))
at_if None others inner count at start closure = let same : start + count ≡ start + (0 + count) = omega arith in at start closure ∙ ap Some same
at_if (Some lambda) others inner count at start closure =
    let n = length (lambdas_within lambda) in
    let same : start + 1 + count ≡ start + (1 + count) = omega arith in
    right_of (from closure n) (others (start + 1) (closure + n)) n (length inner) (length (lambdas_within lambda ++ inner)) (start + 1 + count) (length_from n closure) (length-append (lambdas_within lambda) inner) (at (start + 1) (closure + n))
    ∙ ap Some same

module _ {A : Type 0} (lambda : A → Option Lambda) where
  abbrev lambdas_at : A → List Lambda
  lambdas_at row = of_function (lambda row)

  pub numbers_long : (rows : List A) (start closure : ℕ) → length (numbers_of lambda rows start closure) ≡ length (flat_map lambdas_at rows)
  numbers_long [] start closure = refl
  numbers_long (row ∷ rows) start closure = long_if (lambda row) (numbers_of lambda rows) (flat_map lambdas_at rows) (numbers_long rows) start closure

  numbers_at : (rows : List A) (k : ℕ) (row : A) (held : Lambda) (start closure : ℕ) → slice_get rows k ≡ Some row → lambda row ≡ Some held
      → slice_get (numbers_of lambda rows start closure) (length (flat_map lambdas_at (take k rows))) ≡ Some (start + count_by (λ r. is_some (lambda r)) (take k rows))
  numbers_at [] k row held start closure e h = absurd (none-some row e)
  numbers_at (r ∷ rows) zero row held start closure e h =
      let here : start ≡ start + 0 = omega arith in
      ap (λ o. slice_get (numbers_if o (numbers_of lambda rows) start closure) 0) (ap lambda (same_Some r row e) ∙ h) ∙ ap Some here
  numbers_at (r ∷ rows) (suc k) row held start closure e h =
      at_if (lambda r) (numbers_of lambda rows) (flat_map lambdas_at (take k rows)) (count_by (λ q. is_some (lambda q)) (take k rows)) (λ s c. numbers_at rows k row held s c e h) start closure
      ∙ ap (λ n. Some (start + n)) (sym (sum_by-cons (λ q. cond (is_some (lambda q)) 1 0) r (take k rows)))

pub code_same : (code : MethodCode) → of_code code ≡ of_function (lambda_of_code code)
code_same (Dylan lambda) = refl
code_same (Getter class slot) = refl
code_same (Setter class slot) = refl
code_same (Builtin operation) = refl

pub dylan_same : (code : MethodCode) → is_dylan code ≡ is_some (lambda_of_code code)
dylan_same (Dylan lambda) = refl
dylan_same (Getter class slot) = refl
dylan_same (Setter class slot) = refl
dylan_same (Builtin operation) = refl

abbrev pub method_lambda : MethodRow → Option Lambda
method_lambda method = lambda_of_code method.code

abbrev pub function_lambda : VariableRow → Option Lambda
function_lambda variable = variable.function

pub methods_same : (methods : List MethodRow) → flat_map of_method methods ≡ flat_map (λ row. of_function (method_lambda row)) methods
methods_same methods = λ i. flat_map (λ row. code_same row.code i) methods

-- where the closures of a library begin
abbrev pub classes_at : ℕ → LibraryRow → ℕ
classes_at before library = before + first_closure library

abbrev pub methods_at : ℕ → LibraryRow → ℕ
methods_at before library = classes_at before library + length (of_classes library)

abbrev pub variables_at : ℕ → LibraryRow → ℕ
variables_at before library = methods_at before library + length (flat_map inside_method library.methods)

abbrev pub forms_at : ℕ → LibraryRow → ℕ
forms_at before library = variables_at before library + length (flat_map inside_variable library.variables)

module _ (before : ℕ) (library : LibraryRow) where
  abbrev pub of_class_numbers : List ℕ
  of_class_numbers = from (classes_at before library) (length (of_classes library))

  abbrev pub of_method_numbers : List ℕ
  of_method_numbers = numbers_of method_lambda library.methods before (methods_at before library)

  abbrev pub of_variable_numbers : List ℕ
  of_variable_numbers = numbers_of function_lambda library.variables (before + dylan_methods library.methods) (variables_at before library)

  abbrev pub of_form_numbers : List ℕ
  of_form_numbers = from (forms_at before library) (length (flat_map of_top library.tops))

  pub methods_long : length of_method_numbers ≡ length (of_methods library)
  methods_long = numbers_long method_lambda library.methods before (methods_at before library) ∙ ap length (sym (methods_same library.methods))

  library_long : length (library_numbers before library) ≡ length (of_library library)
  library_long =
      omega (
        arith,
        length_from (length (of_classes library)) (classes_at before library),
        methods_long,
        numbers_long function_lambda library.variables (before + dylan_methods library.methods) (variables_at before library),
        length_from (length (flat_map of_top library.tops)) (forms_at before library),
        length-append (of_class_numbers ++ of_method_numbers ++ of_variable_numbers) of_form_numbers,
        length-append (of_class_numbers ++ of_method_numbers) of_variable_numbers,
        length-append of_class_numbers of_method_numbers,
        length-append (of_classes library ++ of_methods library ++ of_variables library) (flat_map of_top library.tops),
        length-append (of_classes library ++ of_methods library) (of_variables library),
        length-append (of_classes library) (of_methods library),
      )

  -- the body of a method's lambda, and of a function's
  method_number : (k : ℕ) (row : MethodRow) (lambda : Lambda) → slice_get library.methods k ≡ Some row → method_lambda row ≡ Some lambda
      → slice_get (library_numbers before library) (length (of_classes library) + length (flat_map of_method (take k library.methods))) ≡ Some (before + dylan_methods (take k library.methods))
  method_number k row lambda e h =
      let place = length (flat_map (λ r. of_function (method_lambda r)) (take k library.methods)) in
      let body = before + count_by (λ r. is_some (method_lambda r)) (take k library.methods) in
      let same : place ≡ length (flat_map of_method (take k library.methods)) = ap length (sym (methods_same (take k library.methods))) in
      ap (λ n. slice_get (library_numbers before library) (length (of_classes library) + n)) (sym same)
      ∙ left_of (of_class_numbers ++ of_method_numbers ++ of_variable_numbers) of_form_numbers (length (of_classes library) + place) body
      (left_of (of_class_numbers ++ of_method_numbers) of_variable_numbers (length (of_classes library) + place) body
      (right_of of_class_numbers of_method_numbers (length (of_classes library)) place (length (of_classes library) + place) body (length_from (length (of_classes library)) (classes_at before library)) refl
      (numbers_at method_lambda library.methods k row lambda before (methods_at before library) e h)))
      ∙ (λ i. Some (before + count_by (λ r. sym (dylan_same r.code) i) (take k library.methods)))

  function_number : (k : ℕ) (row : VariableRow) (lambda : Lambda) → slice_get library.variables k ≡ Some row → row.function ≡ Some lambda
      → slice_get (library_numbers before library) (length (of_classes library) + length (of_methods library) + length (flat_map of_variable (take k library.variables))) ≡ Some (before + dylan_methods library.methods + dylan_functions (take k library.variables))
  function_number k row lambda e h =
      let place = length (flat_map of_variable (take k library.variables)) in
      let body = before + dylan_methods library.methods + dylan_functions (take k library.variables) in
      left_of (of_class_numbers ++ of_method_numbers ++ of_variable_numbers) of_form_numbers (length (of_classes library) + length (of_methods library) + place) body
      (right_of (of_class_numbers ++ of_method_numbers) of_variable_numbers (length (of_classes library) + length (of_methods library)) place (length (of_classes library) + length (of_methods library) + place) body
      (omega (arith, length-append of_class_numbers of_method_numbers, length_from (length (of_classes library)) (classes_at before library), methods_long)) refl
      (numbers_at function_lambda library.variables k row lambda (before + dylan_methods library.methods) (variables_at before library) e h))

-- the bodies of libraries
abbrev bodies_before : List LibraryRow → ℕ
bodies_before [] = 0
bodies_before (library ∷ libraries) = length (bodies_of library) + bodies_before libraries

in_numbers : (before : ℕ) (libraries : List LibraryRow) (k j : ℕ) (library : LibraryRow) (x : ℕ) → slice_get libraries k ≡ Some library → slice_get (library_numbers (before + bodies_before (take k libraries)) library) j ≡ Some x
    → slice_get (numbers_from before libraries) (length (flat_map of_library (take k libraries)) + j) ≡ Some x
in_numbers before [] k j library x e h = absurd (none-some library e)
in_numbers before (l ∷ libraries) zero j library x e h =
    let at : 0 + j ≡ j = omega arith in
    let here : before ≡ before + 0 = omega arith in
    ap (slice_get (library_numbers before l ++ numbers_from (before + length (bodies_of l)) libraries)) at
    ∙ left_of (library_numbers before l) (numbers_from (before + length (bodies_of l)) libraries) j x
    ((λ i. slice_get (library_numbers (here i) (same_Some l library e i)) j) ∙ h)
in_numbers before (l ∷ libraries) (suc k) j library x e h =
    let here : before + length (bodies_of l) + bodies_before (take k libraries) ≡ before + (length (bodies_of l) + bodies_before (take k libraries)) = omega arith in
    right_of (library_numbers before l) (numbers_from (before + length (bodies_of l)) libraries) (length (of_library l)) (length (flat_map of_library (take k libraries)) + j) _ x (library_long before l)
    (omega (arith, length-append (of_library l) (flat_map of_library (take k libraries))))
    (in_numbers (before + length (bodies_of l)) libraries k j library x e (ap (λ n. slice_get (library_numbers n library) j) here ∙ h))

unit_long : (program : Program) (library : LibraryRow) → length (lowered program library).bodies ≡ length (bodies_of library)
unit_long program library = length-map (bodies_of library) (unit_body (tables_of (flat_map (λ body. placed_from 0 body.code) (bodies_of library))))

units_long : (program : Program) (libraries : List LibraryRow) → bodies_in (map (lowered program) libraries) ≡ bodies_before libraries
units_long program [] = refl
units_long program (library ∷ libraries) = λ i. unit_long program library i + units_long program libraries i

-- a library of a program, by its place
module _ (program : Program) (k : ℕ) (library : LibraryRow) (there : slice_get program.libraries k ≡ Some library) where
  abbrev pub before : ℕ
  before = bodies_before (take k program.libraries)

  abbrev behind : ℕ
  behind = length (flat_map of_library (take k program.libraries))

  -- what has a number in the library has one in the program
  has_lambda : (j number : ℕ) (lambda : Lambda) → number ≡ behind + j → slice_get (of_library library) j ≡ Some lambda → slice_get (lambdas_of program) number ≡ Some lambda
  has_lambda j number lambda e h = ap (slice_get (lambdas_of program)) e ∙ in_flat of_library program.libraries k j library lambda there h

  pub has_number : (j number body : ℕ) → number ≡ behind + j → slice_get (library_numbers before library) j ≡ Some body → body_of program number ≡ body
  has_number j number body e h =
      let at : before ≡ 0 + before = omega arith in
      get_or_from_slice_get (numbers_from 0 program.libraries) number body 0
      (ap (slice_get (numbers_from 0 program.libraries)) e ∙ in_numbers 0 program.libraries k j library body there (ap (λ n. slice_get (library_numbers n library) j) (sym at) ∙ h))

  pub before_same : bodies_in (take k (linked_program program).code) ≡ before
  before_same = ap bodies_in (take-map (lowered program) k program.libraries) ∙ units_long program (take k program.libraries)

  -- the body at a place of the list of bodies that start
  starts_at : (place : ℕ) → place < start_count library → start_at (linked_program program) k place ≡ Some (before + place)
  starts_at place less =
      let linked = linked_program program in
      let at : 0 + place ≡ place = omega arith in
      ap (λ o. if_there o (λ unit. option_map (body_number linked k) (slice_get unit.starts place))) (slice_get-map (lowered program) program.libraries k ∙ ap (option_map (lowered program)) there)
      ∙ ap (option_map (body_number linked k)) (from_get (start_count library) 0 place less ∙ ap Some at)
      ∙ (λ i. Some (before_same i + place))

  -- the lambda of a function, and its body
  pub function_has : (named : BindingId) (row : VariableRow) (number : ℕ) (lambda : Lambda) (m : ℕ) → named.at.library ≡ k → named.at.row ≡ m
      → slice_get library.variables m ≡ Some row → number ≡ behind + length (of_classes library) + length (of_methods library) + length (flat_map of_variable (take m library.variables))
      → row.function ≡ Some lambda → HasBody program number lambda (function_body (linked_program program) named)
  function_has named row number lambda m at_library at_row e h f =
      let j = length (of_classes library) + length (of_methods library) + length (flat_map of_variable (take m library.variables)) in
      let off = length (flat_map of_variable (take m library.variables)) in
      let number_is : number ≡ behind + j = omega (arith, h) in
      let first_of : slice_get (flat_map of_variable library.variables) off ≡ Some lambda =
      (let at : off ≡ off + 0 = omega arith in
      ap (slice_get (flat_map of_variable library.variables)) at ∙ in_flat of_variable library.variables m 0 row lambda e (ap (λ o. slice_get (of_function o) 0) f)) in
      let inside : slice_get (of_library library) j ≡ Some lambda =
      left_of (of_classes library ++ of_methods library ++ of_variables library) (flat_map of_top library.tops) j lambda
      (right_of (of_classes library ++ of_methods library) (of_variables library) (length (of_classes library) + length (of_methods library)) off j lambda (length-append (of_classes library) (of_methods library)) refl first_of) in
      let place = dylan_methods library.methods + dylan_functions (take m library.variables) in
      let same : before + dylan_methods library.methods + dylan_functions (take m library.variables) ≡ before + place = omega arith in
      let less = counted_less (λ v. is_some v.function) library.variables m row e (ap is_some f) in
      record {
        numbered = has_lambda j number lambda number_is inside;
        found = (λ i. if_there (slice_get program.libraries (at_library i)) (λ l. start_at (linked_program program) (at_library i) (dylan_methods l.methods + dylan_functions (take (at_row i) l.variables))))
            ∙ ap (λ o. if_there o (λ l. start_at (linked_program program) k (dylan_methods l.methods + dylan_functions (take m l.variables)))) there
            ∙ starts_at place (omega (arith, less))
            ∙ ap Some (sym same)
            ∙ ap Some (sym (has_number j number _ number_is (function_number before library m row lambda e f)));
      }

  -- the lambda of a method, and its body
  pub method_has : (row : MethodRow) (number : ℕ) (lambda : Lambda) (m : ℕ)
      → slice_get library.methods m ≡ Some row → number ≡ behind + length (of_classes library) + length (flat_map of_method (take m library.methods))
      → row.code ≡ Dylan lambda → HasBody program number lambda (method_body (linked_program program) (record { 0 = record { library = k; row = m } }))
  method_has row number lambda m e h f =
      let off = length (flat_map of_method (take m library.methods)) in
      let j = length (of_classes library) + off in
      let number_is : number ≡ behind + j = omega (arith, h) in
      let held : method_lambda row ≡ Some lambda = ap lambda_of_code f in
      let first_of : slice_get (flat_map of_method library.methods) off ≡ Some lambda =
      (let at : off ≡ off + 0 = omega arith in
      ap (slice_get (flat_map of_method library.methods)) at ∙ in_flat of_method library.methods m 0 row lambda e (ap (λ c. slice_get (of_code c) 0) f)) in
      let inside : slice_get (of_library library) j ≡ Some lambda =
      left_of (of_classes library ++ of_methods library ++ of_variables library) (flat_map of_top library.tops) j lambda
      (left_of (of_classes library ++ of_methods library) (of_variables library) j lambda
      (right_of (of_classes library) (of_methods library) (length (of_classes library)) off j lambda refl refl first_of)) in
      let less = counted_less (λ r. is_dylan r.code) library.methods m row e (ap is_dylan f) in
      record {
        numbered = has_lambda j number lambda number_is inside;
        found = ap (λ o. if_there o (λ l. start_at (linked_program program) k (dylan_methods (take m l.methods)))) there
            ∙ starts_at (dylan_methods (take m library.methods)) (omega (arith, less))
            ∙ ap Some (sym (has_number j number _ number_is (method_number before library m row lambda e held)));
      }

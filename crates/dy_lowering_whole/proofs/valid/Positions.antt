-- Where the bodies of methods, functions and forms stand among those of a library.
use Rattle.std.proofs.Common.{◌≡◌, ℕ, zero, suc, ◌+◌, ◌-◌, ◌<◌, ◌≤◌, Bool, true, false, cond, List, [], ◌∷◌, ◌++◌, length, map, take, Option, Some, None, slice_get, refl, sym, ap, ◌∙◌, arith, append_assoc, length-append, fold}
use Rattle.std.specs.Prelude.{flat_map, sum_by, is_some, nat_lt, if◌then◌else◌}
use Rattle.std.specs.Option.{option_map}
use Rattle.std.proofs.lemmas.Option.{same_Some, none-some}
use Rattle.dy_term.specs.declared.term.Lambda.{Lambda}
use Rattle.dy_term.specs.declared.rows.Init.{Init}
use Rattle.dy_term.specs.declared.rows.MethodCode.{MethodCode}
use Rattle.dy_term.specs.declared.rows.MethodCode.TheVariants.{Dylan}
use Rattle.dy_term.specs.declared.rows.MethodRow.{MethodRow}
use Rattle.dy_term.specs.declared.rows.SlotRow.{SlotRow}
use Rattle.dy_term.specs.declared.rows.VariableRow.{VariableRow}
use Rattle.dy_term.specs.declared.rows.TopTerm.{TopTerm}
use Rattle.dy_term.specs.declared.rows.LibraryRow.{LibraryRow}
use Rattle.dy_code.specs.declared.unit.Body.{Body}
use Rattle.dy_code.specs.declared.unit.UnitCode.{UnitCode}
use Rattle.dy_code.specs.Programs.{Located, located_in, bodies_in, is_dylan, dylan_methods, dylan_functions}
use Rattle.dy_meaning.specs.Lambdas.{of_classes, of_top}
use Rattle.dy_meaning.specs.Layouts.{from}
use Rattle.dy_meaning.specs.Numbering.{numbered_by}
use Rattle.dy_lowered.specs.Bodies.{FlatBody, lambda_body, top_body, inside_method, inside_variable, inside_slot, all_slots, closures_of, code_bodies, function_bodies, init_bodies, init_count, start_count, first_closure, closure_bodies, bodies_of}

-- a sum over a list, from its front
abbrev pub counted : {X : Type 0} → (X → ℕ) → List X → ℕ
counted c [] = 0
counted c (x ∷ xs) = c x + counted c xs

sum_from : {X : Type 0} (c : X → ℕ) (xs : List X) (n : ℕ) → fold (λ (a : ℕ) (x : X). a + c x) n xs ≡ n + fold (λ (a : ℕ) (x : X). a + c x) 0 xs
sum_from c [] n = omega arith
sum_from c (x ∷ xs) n =
    let one = sum_from c xs (n + c x) in
    let two = sum_from c xs (0 + c x) in
    omega (arith, one, two)

pub sum_counted : {X : Type 0} (c : X → ℕ) (xs : List X) → sum_by c xs ≡ counted c xs
sum_counted c [] = refl
sum_counted c (x ∷ xs) =
    let one = sum_from c xs (0 + c x) in
    let rest = sum_counted c xs in
    omega (arith, one, rest)

pub get_before : {A : Type 0} (xs ys : List A) (k : ℕ) (x : A) → slice_get xs k ≡ Some x → slice_get (xs ++ ys) k ≡ Some x
get_before [] ys k x e = absurd (none-some x e)
get_before (z ∷ xs) ys zero x e = e
get_before (z ∷ xs) ys (suc k) x e = get_before xs ys k x e

pub get_behind : {A : Type 0} (xs ys : List A) (n k : ℕ) → length xs ≡ n → slice_get (xs ++ ys) (n + k) ≡ slice_get ys k
get_behind [] ys n k e = let same : n + k ≡ k = omega (arith, e) in ap (λ (m : ℕ). slice_get ys m) same
get_behind (z ∷ xs) ys n k e =
    let same : n + k ≡ suc (length xs + k) = omega (arith, e) in
    ap (λ (m : ℕ). slice_get (z ∷ (xs ++ ys)) m) same ∙ get_behind xs ys (length xs) k refl

-- what rows give, one list after the other
module _ {X Y : Type 0} (give : X × ℕ → List Y) (inside : X → List Lambda) (c : X → ℕ) (sizes : (x : X) (n : ℕ) → length (give (x, n)) ≡ c x) where
  abbrev given : List X → ℕ → List Y
  given xs number = flat_map give (numbered_by inside xs number)

  pub given_length : (xs : List X) (number : ℕ) → length (given xs number) ≡ counted c xs
  given_length [] number = refl
  given_length (x ∷ xs) number = length-append (give (x, number)) (given xs (number + length (inside x))) ∙ omega (arith, sizes x number, given_length xs (number + length (inside x)))

  pub record RowAt (xs : List X) (number r : ℕ) (make : ℕ → Y) : Type 0 where
    pub at : ℕ
    pub same : slice_get (given xs number) (counted c (take r xs)) ≡ Some (make at)

  pub row_at : (xs : List X) (number r : ℕ) (x : X) (make : ℕ → Y) → slice_get xs r ≡ Some x → ((n : ℕ) → give (x, n) ≡ make n ∷ []) → RowAt xs number r make
  row_at [] number r x make e one = absurd (none-some x e)
  row_at (z ∷ xs) number zero x make e one =
      let same : give (z, number) ≡ make number ∷ [] = ap (λ (w : X). give (w, number)) (same_Some z x e) ∙ one number in
      record { at = number; same = ap (λ (ys : List Y). slice_get (ys ++ given xs (number + length (inside z))) 0) same }
  row_at (z ∷ xs) number (suc r) x make e one =
      let next = number + length (inside z) in
      let rest = row_at xs next r x make e one in
      record { at = rest.at; same = get_behind (give (z, number)) (given xs next) (c z) (counted c (take r xs)) (sizes z number) ∙ rest.same }

-- how many rows of one kind stand before
pub counted_before : {X : Type 0} (c : X → ℕ) (xs : List X) (r : ℕ) (x : X) → slice_get xs r ≡ Some x → counted c (take r xs) + c x ≤ counted c xs
counted_before c [] r x e = absurd (none-some x e)
counted_before c (z ∷ xs) zero x e = let same = ap c (same_Some z x e) in omega (arith, same)
counted_before c (z ∷ xs) (suc r) x e = omega (arith, counted_before c xs r x e)

abbrev code_size : MethodCode → ℕ
code_size code = cond (is_dylan code) 1 0

abbrev function_size : Option Lambda → ℕ
function_size function = cond (is_some function) 1 0

code_sizes : (code : MethodCode) (n : ℕ) → length (code_bodies code n) ≡ code_size code
code_sizes (Dylan lambda) n = refl
code_sizes _ n = refl

function_sizes : (function : Option Lambda) (n : ℕ) → length (function_bodies function n) ≡ function_size function
function_sizes None n = refl
function_sizes (Some lambda) n = refl

init_sizes : (init : Option Init) (n : ℕ) → length (init_bodies init n) ≡ length (init_bodies init 0)
init_sizes None n = refl
init_sizes (Some init) n = refl

abbrev pub give_method : MethodRow × ℕ → List FlatBody
give_method method = code_bodies method.0.code method.1

abbrev pub give_variable : VariableRow × ℕ → List FlatBody
give_variable variable = function_bodies variable.0.function variable.1

abbrev pub give_slot : SlotRow × ℕ → List FlatBody
give_slot slot = init_bodies slot.0.init slot.1

abbrev pub give_top : TopTerm × ℕ → FlatBody
give_top top = top_body top.0 top.1

abbrev method_size : MethodRow → ℕ
method_size method = code_size method.code

abbrev variable_size : VariableRow → ℕ
variable_size variable = function_size variable.function

abbrev slot_size : SlotRow → ℕ
slot_size slot = length (init_bodies slot.init 0)

pub methods_counted : (methods : List MethodRow) → dylan_methods methods ≡ counted method_size methods
methods_counted methods = sum_counted method_size methods

pub functions_counted : (variables : List VariableRow) → dylan_functions variables ≡ counted variable_size variables
functions_counted variables = sum_counted variable_size variables

slots_counted : (slots : List SlotRow) → init_count slots ≡ counted slot_size slots
slots_counted [] = refl
slots_counted (slot ∷ slots) = ap (λ (n : ℕ). slot_size slot + n) (slots_counted slots)

-- a form, with some number of a first closure
record FormAt (tops : List TopTerm) (number i : ℕ) (top : TopTerm) : Type 0 where
  pub at : ℕ
  pub same : slice_get (map give_top (numbered_by of_top tops number)) i ≡ Some (top_body top at)

form_at : (tops : List TopTerm) (number i : ℕ) (top : TopTerm) → slice_get tops i ≡ Some top → FormAt tops number i top
form_at [] number i top e = absurd (none-some top e)
form_at (t ∷ tops) number zero top e = record { at = number; same = ap (λ (x : TopTerm). Some (top_body x number)) (same_Some t top e) }
form_at (t ∷ tops) number (suc i) top e =
    let rest = form_at tops (number + length (of_top t)) i top e in
    record { at = rest.at; same = rest.same }

-- the parts of the list of bodies
module _ (library : LibraryRow) where
  abbrev pub first : ℕ
  first = first_closure library

  abbrev pub methods_at : ℕ
  methods_at = first + length (of_classes library)

  abbrev pub variables_at : ℕ
  variables_at = methods_at + length (flat_map inside_method library.methods)

  abbrev pub forms_at : ℕ
  forms_at = variables_at + length (flat_map inside_variable library.variables)

  abbrev pub methods_part : List FlatBody
  methods_part = flat_map give_method (numbered_by inside_method library.methods methods_at)

  abbrev pub variables_part : List FlatBody
  variables_part = flat_map give_variable (numbered_by inside_variable library.variables variables_at)

  abbrev pub slots_part : List FlatBody
  slots_part = flat_map give_slot (numbered_by inside_slot (all_slots library) first)

  abbrev pub forms_part : List FlatBody
  forms_part = map give_top (numbered_by of_top library.tops forms_at)

  abbrev pub closures_part : List FlatBody
  closures_part = closure_bodies (closures_of library) first

  abbrev pub behind_slots : List FlatBody
  behind_slots = forms_part ++ closures_part

  abbrev pub behind_variables : List FlatBody
  behind_variables = slots_part ++ behind_slots

  abbrev pub behind_methods : List FlatBody
  behind_methods = variables_part ++ behind_variables

  pub parts_are : bodies_of library ≡ methods_part ++ behind_methods
  parts_are =
      append_assoc (methods_part ++ variables_part ++ slots_part) forms_part closures_part ∙ append_assoc (methods_part ++ variables_part) slots_part behind_slots ∙ append_assoc methods_part variables_part behind_variables

  pub methods_length : length methods_part ≡ dylan_methods library.methods
  methods_length = given_length give_method inside_method method_size (λ m n. code_sizes m.code n) library.methods methods_at ∙ sym (methods_counted library.methods)

  pub variables_length : length variables_part ≡ dylan_functions library.variables
  variables_length = given_length give_variable inside_variable variable_size (λ v n. function_sizes v.function n) library.variables variables_at ∙ sym (functions_counted library.variables)

  pub slots_length : length slots_part ≡ init_count (all_slots library)
  slots_length = given_length give_slot inside_slot slot_size (λ s n. init_sizes s.init n) (all_slots library) first ∙ sym (slots_counted (all_slots library))

  -- a body that is made with some number of a first closure
  pub record Stands (place : ℕ) (make : ℕ → FlatBody) : Type 0 where
    pub number : ℕ
    pub same : slice_get (bodies_of library) place ≡ Some (make number)

  method_one : (row : MethodRow) (lambda : Lambda) → row.code ≡ Dylan lambda → (n : ℕ) → code_bodies row.code n ≡ lambda_body lambda n ∷ []
  method_one row lambda e n = ap (λ (code : MethodCode). code_bodies code n) e

  pub method_stands : (r : ℕ) (row : MethodRow) (lambda : Lambda) → slice_get library.methods r ≡ Some row → row.code ≡ Dylan lambda → Stands (dylan_methods (take r library.methods)) (lambda_body lambda)
  method_stands r row lambda e f =
      let row_there = row_at give_method inside_method method_size (λ m n. code_sizes m.code n) library.methods methods_at r row (lambda_body lambda) e (method_one row lambda f) in
      let place = counted method_size (take r library.methods) in
      record {
        number = row_there.at;
        same = (λ i. slice_get (parts_are i) (methods_counted (take r library.methods) i)) ∙ get_before methods_part behind_methods place (lambda_body lambda row_there.at) row_there.same;
      }

  pub method_before : (r : ℕ) (row : MethodRow) (lambda : Lambda) → slice_get library.methods r ≡ Some row → row.code ≡ Dylan lambda → dylan_methods (take r library.methods) < dylan_methods library.methods
  method_before r row lambda e f =
      let one : method_size row ≡ 1 = ap code_size f in
      omega (arith, counted_before method_size library.methods r row e, one, methods_counted library.methods, methods_counted (take r library.methods))

  pub function_stands : (r : ℕ) (row : VariableRow) (lambda : Lambda) → slice_get library.variables r ≡ Some row → row.function ≡ Some lambda
      → Stands (dylan_methods library.methods + dylan_functions (take r library.variables)) (lambda_body lambda)
  function_stands r row lambda e f =
      let row_there = row_at give_variable inside_variable variable_size (λ v n. function_sizes v.function n) library.variables variables_at r row (lambda_body lambda) e (λ n. ap (λ (o : Option Lambda). function_bodies o n) f) in
      let place = counted variable_size (take r library.variables) in
      record {
        number = row_there.at;
        same = ap (λ (bodies : List FlatBody). slice_get bodies (dylan_methods library.methods + dylan_functions (take r library.variables))) parts_are
            ∙ get_behind methods_part behind_methods (dylan_methods library.methods) (dylan_functions (take r library.variables)) methods_length
            ∙ ap (λ (n : ℕ). slice_get behind_methods n) (functions_counted (take r library.variables)) ∙ get_before variables_part behind_variables place (lambda_body lambda row_there.at) row_there.same;
      }

  pub function_before : (r : ℕ) (row : VariableRow) (lambda : Lambda) → slice_get library.variables r ≡ Some row → row.function ≡ Some lambda → dylan_functions (take r library.variables) < dylan_functions library.variables
  function_before r row lambda e f =
      let one : variable_size row ≡ 1 = ap function_size f in
      omega (arith, counted_before variable_size library.variables r row e, one, functions_counted library.variables, functions_counted (take r library.variables))

  pub form_stands : (i : ℕ) (top : TopTerm) → slice_get library.tops i ≡ Some top → Stands (start_count library + i) (top_body top)
  form_stands i top e =
      let a = dylan_methods library.methods in
      let b = dylan_functions library.variables in
      let c = init_count (all_slots library) in
      let there = form_at library.tops forms_at i top e in
      let place : a + b + c + i ≡ a + (b + (c + i)) = omega arith in
      record {
        number = there.at;
        same = (λ i. slice_get (parts_are i) (place i)) ∙ get_behind methods_part behind_methods a (b + (c + i)) methods_length ∙ get_behind variables_part behind_variables b (c + i) variables_length
            ∙ get_behind slots_part behind_slots c i slots_length ∙ get_before forms_part closures_part i (top_body top there.at) there.same;
      }

-- numbers of bodies are told apart
not_less : (n k body : ℕ) → nat_lt (n + k + body) n ≡ false
not_less n k body = grind arith

pub record SamePlace (p q j k : ℕ) : Type 0 where
  pub places : p ≡ q
  pub bodies : j ≡ k

pub same_place : (units : List UnitCode) (p q j k : ℕ) (u v : UnitCode) → slice_get units p ≡ Some u → slice_get units q ≡ Some v → j < length u.bodies → k < length v.bodies
    → bodies_in (take p units) + j ≡ bodies_in (take q units) + k → SamePlace p q j k
same_place [] p q j k u v e f low lower same = absurd (none-some u e)
same_place (x ∷ units) zero zero j k u v e f low lower same = record { places = refl; bodies = omega (arith, same) }
same_place (x ∷ units) zero (suc q) j k u v e f low lower same =
    let size = ap (λ (w : UnitCode). length w.bodies) (same_Some x u e) in
    absurd (omega (arith, same, low, size))
same_place (x ∷ units) (suc p) zero j k u v e f low lower same =
    let size = ap (λ (w : UnitCode). length w.bodies) (same_Some x v f) in
    absurd (omega (arith, same, lower, size))
same_place (x ∷ units) (suc p) (suc q) j k u v e f low lower same =
    let rest = same_place units p q j k u v e f low lower (omega (arith, same)) in
    record { places = ap suc rest.places; bodies = rest.bodies }

-- the unit and the place of a body
pub record Found (units : List UnitCode) (number : ℕ) : Type 0 where
  pub place : ℕ
  pub body : ℕ
  pub unit : UnitCode
  pub there : slice_get units place ≡ Some unit
  pub inside : body < length unit.bodies
  pub same : number ≡ bodies_in (take place units) + body

pub found_in : (units : List UnitCode) (start number : ℕ) (at : Located) → located_in units start number ≡ Some at → Found units number
found_in [] start number at e = absurd (none-some at e)
found_in (u ∷ units) start number at e = step (nat_lt number (length u.bodies)) refl (λ f. found_in units (start + length u.bodies) (number - length u.bodies) at f) e
  where
    later : Found units (number - length u.bodies) → length u.bodies ≤ number → Found (u ∷ units) number
    later f past = record { place = suc f.place; body = f.body; unit = f.unit; there = f.there; inside = f.inside; same = let same = f.same in omega (arith, same, past) }

    step : (b : Bool) → nat_lt number (length u.bodies) ≡ b → (located_in units (start + length u.bodies) (number - length u.bodies) ≡ Some at → Found units (number - length u.bodies))
        → (if b then option_map (λ (x : Body). record { unit = u; before = start; body = x }) (slice_get u.bodies number) else located_in units (start + length u.bodies) (number - length u.bodies)) ≡ Some at → Found (u ∷ units) number
    step true less others e = record { place = 0; body = number; unit = u; there = refl; inside = below less; same = omega arith }
      where
        below : nat_lt number (length u.bodies) ≡ true → number < length u.bodies
        below less = grind (arith, less)
    step false less others e = later (others e) (past less)
      where
        past : nat_lt number (length u.bodies) ≡ false → length u.bodies ≤ number
        past less = grind (arith, less)

pub from_at : (first count k : ℕ) → k < count → slice_get (from first count) k ≡ Some (first + k)
from_at first zero k low = absurd (omega (arith, low))
from_at first (suc count) zero low = let same : first ≡ first + 0 = omega arith in ap Some same
from_at first (suc count) (suc k) low = let same : first + 1 + k ≡ first + suc k = omega arith in from_at (first + 1) count k (omega (arith, low)) ∙ ap Some same

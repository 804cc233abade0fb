-- Every body of a library whose terms are in scope names what is there.
use Rattle.std.proofs.Common.{◌≡◌, ◌⊎◌, inl, inr, ℕ, zero, suc, ◌+◌, ◌-◌, ◌<◌, ◌≤◌, Bool, true, false, ◌&&◌, ◌||◌, List, [], ◌∷◌, ◌++◌, length, map, Option, Some, None, slice_get, refl, sym, ap, ◌∙◌, subst, arith, append_assoc, length-append}
use Rattle.std.specs.Prelude.{flat_map, nat_eq, nat_lt}
use Rattle.std.specs.List.{list_all}
use Rattle.std.proofs.lemmas.List.{length-map}
use Rattle.std.proofs.lemmas.Option.{same_Some, none-some}
use Rattle.dy_term.specs.declared.types.DyType.{DyType}
use Rattle.dy_term.specs.declared.term.Term.{Term}
use Rattle.dy_term.specs.declared.term.Lambda.{Lambda, Lambda-F, out-Lambda, roll-Lambda, roll-out-Lambda, map-Lambda, fold-roll-Lambda}
use Rattle.dy_term.specs.declared.rows.Init.{Init}
use Rattle.dy_term.specs.declared.rows.Init.TheVariants.{Each, Calling}
use Rattle.dy_term.specs.declared.rows.ClassRow.{ClassRow}
use Rattle.dy_term.specs.declared.rows.MethodCode.{MethodCode}
use Rattle.dy_term.specs.declared.rows.MethodCode.TheVariants.{Dylan}
use Rattle.dy_term.specs.declared.rows.MethodRow.{MethodRow}
use Rattle.dy_term.specs.declared.rows.SlotRow.{SlotRow}
use Rattle.dy_term.specs.declared.rows.VariableRow.{VariableRow}
use Rattle.dy_term.specs.declared.rows.TopTerm.{TopTerm}
use Rattle.dy_term.specs.declared.rows.TopTerm.TheVariants as tops
use Rattle.dy_term.specs.declared.rows.LibraryRow.{LibraryRow}
use Rattle.dy_captures.specs.Marks.{Marks, join_typed, lambda_marks, marks_of_clause, marks_of_item, marks_of, marks_of_block, marks_of_for, marks_of_lambda, is_captured_by}
use Rattle.dy_outcome.specs.declared.place.Place.{Place}
use Rattle.dy_code.specs.Fetching.{locals_of, rest_locals, keyword_locals}
use Rattle.dy_code.specs.Fetching as instr
use Rattle.dy_code.specs.Validity.{Every}
use Rattle.dy_meaning.specs.Lambdas.{Inside, lambdas_within, lambdas_in, of_defaults, of_init, of_class, of_classes, of_top}
use Rattle.dy_meaning.specs.Layouts.{own_or_captured, place_of, layout_of, layout_of_term, from, with_last, all_below, captured_by, index_if, index_of}
use Rattle.dy_meaning.specs.Numbering.{numbered_by}
use Rattle.dy_meaning.specs.Numbers.{numbers_in}
use Rattle.dy_lowered.specs.Bodies.{FlatBody, rest_place, parameters, entry, lambda_body, body_alone, top_body, inside_code, inside_method, inside_function, inside_variable, inside_slot, all_slots, closures_of, code_bodies, function_bodies, init_bodies, init_count, first_closure, closure_bodies, bodies_of}
use Rattle.dy_code.specs.Programs.{dylan_methods, dylan_functions}
use Rattle.dy_lowered.specs.Flat.{Plain, Code, one}
use Rattle.dy_lowered.specs.Terms.{code_of}
use Rattle.dy_lowering_whole.specs.valid.Scoped.{is_lambda_scoped, is_code_scoped, is_function_scoped, is_alone_scoped, is_init_scoped, is_top_scoped, is_library_scoped}
use Rattle.dy_lowering_whole.specs.valid.Simple.{FlatSimple, IsSimple}
use Rattle.dy_lowering_whole.specs.valid.Valid.{ReadyProgramsMayRun, ScopedProgramsMayRun, ScopedBodiesFit, ScopedBodiesHold}
use Rattle.dy_lowering_whole.specs.valid.Writing.{IsBody, FlatFits}
use Rattle.dy_lowering_whole.proofs.valid.Evenness.{beside}
use Rattle.dy_lowering_whole.proofs.valid.Fetched.{every_at, written_holds}
use Rattle.dy_lowering_whole.proofs.valid.Fitting.{Fine, There, fit_cells}
use Rattle.dy_lowering_whole.proofs.valid.Laying.{every_append}
use Rattle.dy_lowering_whole.proofs.valid.Naming.{names_there, or_right}
use Rattle.dy_lowering_whole.proofs.valid.Positions.{get_before, get_behind, first as first_at, methods_at, variables_at, forms_at, methods_part, variables_part, slots_part, forms_part, closures_part, behind_slots, behind_variables, behind_methods, parts_are, methods_length, variables_length, slots_length, give_method, give_variable, give_slot, give_top}
use Rattle.dy_lowering_whole.proofs.valid.Readying.{program_ok, all_at}
use Rattle.dy_lowering_whole.proofs.valid.Safety.{Closes, IsSafe}
use Rattle.dy_lowering_whole.proofs.valid.Sameness.{both_true, and_true, no}
use Rattle.dy_lowering_whole.proofs.valid.Scopes.{IsBodyScoped, AreGood, good_join, good_lambdas, good_lambda, lambda_held_is}
use Rattle.dy_lowering_whole.proofs.valid.Tables.{IsIn, lt_true}
use Rattle.dy_lowering_whole.proofs.valid.Validating.{may_run}

-- numbers in a list, and where they stand
in_more : (x y : ℕ) (xs : List ℕ) → IsIn x xs ⊎ (x ≡ y) → IsIn x (xs ++ y ∷ [])
in_more x y [] (inl h) = absurd h
in_more x y [] (inr e) = inl e
in_more x y (z ∷ xs) (inl (inl e)) = inl e
in_more x y (z ∷ xs) (inl (inr h)) = inr (in_more x y xs (inl h))
in_more x y (z ∷ xs) (inr e) = inr (in_more x y xs (inr e))

in_last : (x y : ℕ) (b : Bool) (xs : List ℕ) → IsIn x xs ⊎ ((b ≡ true) × (x ≡ y)) → IsIn x (with_last b y xs)
in_last x y true xs (inl h) = in_more x y xs (inl h)
in_last x y true xs (inr p) = in_more x y xs (inr p.1)
in_last x y false xs (inl h) = h
in_last x y false xs (inr p) = no p.0

in_below : (test : ℕ → Bool) (bound x : ℕ) → x < bound → test x ≡ true → IsIn x (all_below test bound)
in_below test zero x low e = absurd (omega (arith, low))
in_below test (suc bound) x low e = step (nat_eq x bound) refl (λ less. in_below test bound x less e)
  where
    step : (b : Bool) → nat_eq x bound ≡ b → (x < bound → IsIn x (all_below test bound)) → IsIn x (with_last (test bound) bound (all_below test bound))
    step true same others =
        let is : x ≡ bound = equal x bound same in
        in_last x bound (test bound) (all_below test bound) (inr (subst (λ (k : ℕ). test k ≡ true) is e, is))
      where
        equal : (n m : ℕ) → nat_eq n m ≡ true → n ≡ m
        equal n m f = grind (arith, f)
    step false same others = in_last x bound (test bound) (all_below test bound) (inl (others (below low same)))
      where
        below : x < suc bound → nat_eq x bound ≡ false → x < bound
        below low f = grind (arith, low, f)

index_low : (x : ℕ) (xs : List ℕ) → IsIn x xs → index_of x xs < length xs
index_low x [] h = absurd h
index_low x (y ∷ xs) h = step (nat_eq y x) refl h (λ k. index_low x xs k)
  where
    step : (b : Bool) → nat_eq y x ≡ b → IsIn x (y ∷ xs) → (IsIn x xs → index_of x xs < length xs) → index_if b (index_of x xs) < length (y ∷ xs)
    step true e h others = omega arith
    step false e (inl same) others = absurd (differ same e)
      where
        differ : x ≡ y → nat_eq y x ≡ false → ⊥
        differ same e = grind (arith, same, e)
    step false e (inr k) others = let low = others k in omega (arith, low)

defaults_same : (ks : List (DyType × Term)) → flat_map (λ (k : DyType × Inside Term). k.1.1) (map (λ (k : DyType × Term). (k.0, beside lambdas_in k.1)) ks) ≡ of_defaults ks
defaults_same [] = refl
defaults_same (k ∷ ks) = ap (λ (rest : List Lambda). lambdas_in k.1 ++ rest) (defaults_same ks)

-- what is mentioned in the body of a lambda of the locals around it is captured
captured_is : (lambda : Lambda) (k : ℕ) → (marks_of k (out-Lambda lambda).body).mentioned ≡ true → k < (out-Lambda lambda).first → is_captured_by k lambda ≡ true
captured_is lambda k e low =
    let row = out-Lambda lambda in
    let keywords = join_typed (map (λ (d : DyType × Term). (d.0, marks_of k d.1)) row.keywords) in
    ap (λ (m : Marks). m.mentioned) (ap (marks_of_lambda k) (sym (roll-out-Lambda lambda)) ∙ marks_is row)
    ∙ and_true (keywords.mentioned || (marks_of k row.body).mentioned) (nat_lt k row.first) (or_right keywords.mentioned (marks_of k row.body).mentioned e) (lt_true k row.first low)
  where
    marks_is : (x : Lambda-F _ _ _ _ _ _) → marks_of_lambda k (roll-Lambda x) ≡ lambda_marks k (map-Lambda _ _ _ _ _ _ _ _ _ _ _ _ (marks_of_clause k) (marks_of_item k) (marks_of k) (marks_of_block k) (marks_of_for k) (marks_of_lambda k) x)
    marks_is = fold-roll-Lambda _ _ _ _ _ _ _ _ _ _ _ _

is_below : (k first : ℕ) → k < first → nat_lt k first ≡ true
is_below k first low = lt_true k first low

not_below : (k first : ℕ) → first ≤ k → nat_lt k first ≡ false
not_below k first high = grind (arith, high)

keys_few : (required : ℕ) (rest keys total first locals : ℕ) → total ≡ required + rest + keys → first + total ≤ locals → required + rest + first ≤ locals
keys_few required rest keys total first locals e room = omega (arith, e, room)

from_there : {A : Type 0} (Q : A → Type 0) (make : ℕ → A) (first count : ℕ) → ((k : ℕ) → first ≤ k → k < first + count → Q (make k)) → Every Q (map make (from first count))
from_there Q make first zero each = tt
from_there Q make first (suc count) each = (each first (omega arith) (omega arith), from_there Q make (first + 1) count (λ k high low. each k (omega (arith, high)) (omega (arith, low))))

rest_there : (P : Place → Type 0) (rest : Bool) (place : Place) → (rest ≡ true → P place) → Every P (rest_place rest place)
rest_there P true place each = (each refl, tt)
rest_there P false place each = tt

module _ (made : ℕ → ℕ → Type 0) (bodies : List FlatBody) where
  abbrev BodyFits : FlatBody → Type 0
  BodyFits flat = IsSimple made bodies flat.locals flat.captures flat.code

  -- The bodies of these lambdas follow each other.
  abbrev pub Stand : ℕ → List Lambda → Type 0
  Stand n lambdas = (i : ℕ) (l : Lambda) → slice_get lambdas i ≡ Some l → IsBody bodies (n + i) (length (captured_by l)) × made (n + i) (length (captured_by l))

  stand_front : (n : ℕ) (a b : List Lambda) → Stand n (a ++ b) → Stand n a
  stand_front n a b stand i l e = stand i l (get_before a b i l e)

  stand_back : (n m : ℕ) (a b : List Lambda) → m ≡ n + length a → Stand n (a ++ b) → Stand m b
  stand_back n m a b same stand i l e =
      let next : n + (length a + i) ≡ m + i = omega (arith, same) in
      subst (λ (k : ℕ). IsBody bodies k (length (captured_by l)) × made k (length (captured_by l))) next (stand (length a + i) l (get_behind a b (length a) i refl ∙ e))

  lambda_fits : (lambda : Lambda) (number : ℕ) → IsBodyScoped (out-Lambda lambda) → Stand number (lambdas_within lambda) → BodyFits (lambda_body lambda number)
  lambda_fits lambda number good stand =
      let row = out-Lambda lambda in
      let layout = layout_of lambda in
      let first = row.first in
      let locals = row.locals - first in
      let captures = length (captured_by lambda) in
      let room = good.room in
      let own : (k : ℕ) → first ≤ k → k < row.locals → There made bodies locals captures (place_of layout k) = λ k high low.
      subst (λ (b : Bool). There made bodies locals captures (own_or_captured b layout k)) (sym (not_below k first high)) (omega (arith, high, low)) in
      let says : (k : ℕ) → (marks_of k row.body).mentioned ≡ true → k < first → There made bodies locals captures (place_of layout k) = λ k e low.
      subst (λ (b : Bool). There made bodies locals captures (own_or_captured b layout k)) (sym (is_below k first low)) (index_low k (captured_by lambda) (in_below (λ j. is_captured_by j lambda) first k low (captured_is lambda k e low))) in
      let n = number + length (of_defaults row.keywords) in
      let held : lambdas_within lambda ≡ of_defaults row.keywords ++ lambdas_in row.body =
      ap lambdas_within (sym (roll-out-Lambda lambda)) ∙ lambda_held_is row ∙ ap (λ (ks : List Lambda). ks ++ lambdas_in row.body) (defaults_same row.keywords) in
      let inner = stand_back number n (of_defaults row.keywords) (lambdas_in row.body) refl (subst (Stand number) held stand) in
      let code = code_of layout row.body n in
      let last = Plain (instr.CheckResults row.results) ∷ one instr.Return in
      let required = length row.params.required in
      let rest = rest_locals row.params.rest in
      let several : required + rest + first ≤ row.locals = keys_few required rest (keyword_locals row.params.keys) (locals_of row.params) first row.locals refl room in
      every_append (Fine made bodies locals captures) (entry lambda) (code ++ last) (
        (tt, tt),
        (
          (omega (arith, room), tt),
          fit_cells made bodies locals captures (parameters lambda)
              (every_append (There made bodies locals captures) (map (place_of layout) (from first required)) (rest_place row.params.rest (place_of layout (first + required)))
              (from_there (There made bodies locals captures) (place_of layout) first required (λ k high low. own k high (omega (arith, low, several))))
              (rest_there (There made bodies locals captures) row.params.rest (place_of layout (first + required)) (λ is. own (first + required) (omega arith) (omega (arith, several, ap rest_locals is))))),
        ),
      )
      (every_append (Fine made bodies locals captures) code last (names_there made bodies locals captures row.locals layout own row.body n good.body says inner) ((tt, tt), ((tt, tt), tt)))

  alone_fits : (term : Term) (number : ℕ) (last : Code) → is_alone_scoped term ≡ true → Stand number (lambdas_in term) → Every (Fine made bodies (numbers_in term) 0) last → BodyFits (body_alone term number last)
  alone_fits term number last e stand end =
      let layout = layout_of_term term in
      let locals = numbers_in term in
      every_append (Fine made bodies locals 0) (code_of layout term number) last
      (names_there made bodies locals 0 locals layout (λ k high low. subst (λ (b : Bool). There made bodies locals 0 (own_or_captured b layout k)) (sym (not_below k 0 high)) (omega (arith, low))) term number e
      (λ k f low. absurd (omega (arith, low))) stand) end

  code_fits : (code : MethodCode) (number : ℕ) → is_code_scoped code ≡ true → Stand number (inside_code code) → Every BodyFits (code_bodies code number)
  code_fits (Dylan lambda) number e stand = (lambda_fits lambda number (good_lambda lambda 0 0 e).body stand, tt)
  code_fits _ number e stand = tt

  function_fits : (function : Option Lambda) (number : ℕ) → is_function_scoped function ≡ true → Stand number (inside_function function) → Every BodyFits (function_bodies function number)
  function_fits None number e stand = tt
  function_fits (Some lambda) number e stand = (lambda_fits lambda number (good_lambda lambda 0 0 e).body stand, tt)

  init_fits : (init : Option Init) (number : ℕ) → is_init_scoped init ≡ true → Stand number (of_init init) → Every BodyFits (init_bodies init number)
  init_fits None number e stand = tt
  init_fits (Some (Each term)) number e stand = (alone_fits term number (one instr.Return) e stand ((tt, tt), tt), tt)
  init_fits (Some (Calling term)) number e stand = (alone_fits term number (Plain instr.Push ∷ Plain (instr.CallValue 0) ∷ one instr.Return) e stand ((tt, tt), ((tt, tt), ((tt, tt), tt))), tt)

  top_fits : (top : TopTerm) (number : ℕ) → is_top_scoped top ≡ true → Stand number (of_top top) → BodyFits (top_body top number)
  top_fits (tops.Init bindings term) number e stand = alone_fits term number (one instr.Return) e stand ((tt, tt), tt)
  top_fits (tops.Run term) number e stand = alone_fits term number (one instr.Return) e stand ((tt, tt), tt)

  closures_fit : (lambdas : List Lambda) (number : ℕ) → Stand number lambdas → AreGood lambdas → Every BodyFits (closure_bodies lambdas number)
  closures_fit [] number stand good = tt
  closures_fit (lambda ∷ lambdas) number stand good =
      let begins = good.1 in
      let others = stand_back number (number + 1) (lambda ∷ []) lambdas (omega arith) stand in
      (lambda_fits lambda (number + 1) good.0 (stand_front (number + 1) (lambdas_within lambda) begins.rest (subst (Stand (number + 1)) begins.same others)), closures_fit lambdas (number + 1) others good.2)

  -- rows, whose closures stand one after the other
  rows_every : {X Y : Type 0} (P : Y → Type 0) (give : X × ℕ → List Y) (inside : X → List Lambda) (test : X → Bool) (xs : List X) (number : ℕ) → list_all test xs ≡ true → Stand number (flat_map inside xs)
      → ((x : X) (n : ℕ) → test x ≡ true → Stand n (inside x) → Every P (give (x, n))) → Every P (flat_map give (numbered_by inside xs number))
  rows_every P give inside test [] number e stand each = tt
  rows_every P give inside test (x ∷ xs) number e stand each =
      let p = both_true (test x) (list_all test xs) e in
      let next = number + length (inside x) in
      every_append P (give (x, number)) (flat_map give (numbered_by inside xs next)) (each x number p.0 (stand_front number (inside x) (flat_map inside xs) stand))
      (rows_every P give inside test xs next p.1 (stand_back number next (inside x) (flat_map inside xs) refl stand) each)

  rows_mapped : {X Y : Type 0} (P : Y → Type 0) (give : X × ℕ → Y) (inside : X → List Lambda) (test : X → Bool) (xs : List X) (number : ℕ) → list_all test xs ≡ true → Stand number (flat_map inside xs)
      → ((x : X) (n : ℕ) → test x ≡ true → Stand n (inside x) → P (give (x, n))) → Every P (map give (numbered_by inside xs number))
  rows_mapped P give inside test [] number e stand each = tt
  rows_mapped P give inside test (x ∷ xs) number e stand each =
      let p = both_true (test x) (list_all test xs) e in
      let next = number + length (inside x) in
      (each x number p.0 (stand_front number (inside x) (flat_map inside xs) stand), rows_mapped P give inside test xs next p.1 (stand_back number next (inside x) (flat_map inside xs) refl stand) each)

flat_good : {X : Type 0} (inside : X → List Lambda) (test : X → Bool) (xs : List X) → list_all test xs ≡ true → ((x : X) → test x ≡ true → AreGood (inside x)) → AreGood (flat_map inside xs)
flat_good inside test [] e each = tt
flat_good inside test (x ∷ xs) e each =
    let p = both_true (test x) (list_all test xs) e in
    good_join (inside x) (flat_map inside xs) (each x p.0) (flat_good inside test xs p.1 each)

code_good : (code : MethodCode) → is_code_scoped code ≡ true → AreGood (inside_code code)
code_good (Dylan lambda) e = (good_lambda lambda 0 0 e).within
code_good _ e = tt

function_good : (function : Option Lambda) → is_function_scoped function ≡ true → AreGood (inside_function function)
function_good None e = tt
function_good (Some lambda) e = (good_lambda lambda 0 0 e).within

init_good : (init : Option Init) → is_init_scoped init ≡ true → AreGood (of_init init)
init_good None e = tt
init_good (Some (Each term)) e = good_lambdas term 0 (numbers_in term) e
init_good (Some (Calling term)) e = good_lambdas term 0 (numbers_in term) e

top_good : (top : TopTerm) → is_top_scoped top ≡ true → AreGood (of_top top)
top_good (tops.Init bindings term) e = good_lambdas term 0 (numbers_in term) e
top_good (tops.Run term) e = good_lambdas term 0 (numbers_in term) e

-- the slots of all classes
flat_append : {A B : Type 0} (f : A → List B) (xs ys : List A) → flat_map f (xs ++ ys) ≡ flat_map f xs ++ flat_map f ys
flat_append f [] ys = refl
flat_append f (x ∷ xs) ys = ap (λ zs. f x ++ zs) (flat_append f xs ys) ∙ sym (append_assoc (f x) (flat_map f xs) (flat_map f ys))

slots_same : (classes : List ClassRow) → flat_map inside_slot (flat_map (λ (class : ClassRow). class.slots) classes) ≡ flat_map of_class classes
slots_same [] = refl
slots_same (class ∷ classes) = flat_append inside_slot class.slots (flat_map (λ (c : ClassRow). c.slots) classes) ∙ ap (λ (rest : List Lambda). flat_map inside_slot class.slots ++ rest) (slots_same classes)

closure_body_at : (lambdas : List Lambda) (number i : ℕ) (l : Lambda) → slice_get lambdas i ≡ Some l → slice_get (closure_bodies lambdas number) i ≡ Some (lambda_body l (number + i + 1))
closure_body_at [] number i l e = absurd (none-some l e)
closure_body_at (lambda ∷ lambdas) number zero l e =
    let same : number + 1 ≡ number + 0 + 1 = omega arith in
    λ j. Some (lambda_body (same_Some lambda l e j) (same j))
closure_body_at (lambda ∷ lambdas) number (suc i) l e =
    let same : number + 1 + i + 1 ≡ number + suc i + 1 = omega arith in
    closure_body_at lambdas (number + 1) i l e ∙ ap (λ (n : ℕ). Some (lambda_body l n)) same

numbered_length : {X : Type 0} (inside : X → List Lambda) (xs : List X) (number : ℕ) → length (numbered_by inside xs number) ≡ length xs
numbered_length inside [] number = refl
numbered_length inside (x ∷ xs) number = ap suc (numbered_length inside xs (number + length (inside x)))

abbrev slot_scoped : SlotRow → Bool
slot_scoped slot = is_init_scoped slot.init

abbrev method_scoped : MethodRow → Bool
method_scoped method = is_code_scoped method.code

abbrev variable_scoped : VariableRow → Bool
variable_scoped variable = is_function_scoped variable.function

record IsScopedLibrary (library : LibraryRow) : Type 0 where
  pub slots : list_all slot_scoped (all_slots library) ≡ true
  pub methods : list_all method_scoped library.methods ≡ true
  pub variables : list_all variable_scoped library.variables ≡ true
  pub tops : list_all is_top_scoped library.tops ≡ true

scoped_library : (library : LibraryRow) → is_library_scoped library ≡ true → IsScopedLibrary library
scoped_library library e =
    let a = both_true (list_all slot_scoped (all_slots library)) (list_all method_scoped library.methods && (list_all variable_scoped library.variables && list_all is_top_scoped library.tops)) e in
    let b = both_true (list_all method_scoped library.methods) (list_all variable_scoped library.variables && list_all is_top_scoped library.tops) a.1 in
    let c = both_true (list_all variable_scoped library.variables) (list_all is_top_scoped library.tops) b.1 in
    record { slots = a.0; methods = b.0; variables = c.0; tops = c.1 }

module _ (library : LibraryRow) (s : IsScopedLibrary library) where
  abbrev all : List FlatBody
  all = bodies_of library

  abbrev in_classes : List Lambda
  in_classes = of_classes library

  abbrev in_methods : List Lambda
  in_methods = flat_map inside_method library.methods

  abbrev in_variables : List Lambda
  in_variables = flat_map inside_variable library.variables

  abbrev in_tops : List Lambda
  in_tops = flat_map of_top library.tops

  -- every closure has its body
  closures_stand : Stand (Closes library) all (first_closure library) (closures_of library)
  closures_stand i l e =
      let a = dylan_methods library.methods in
      let b = dylan_functions library.variables in
      let c = init_count (all_slots library) in
      let d = length library.tops in
      let number = first_closure library in
      let place : number + i ≡ a + (b + (c + (d + i))) = omega arith in
      let forms_length : length (forms_part library) ≡ d = length-map (numbered_by of_top library.tops (forms_at library)) give_top ∙ numbered_length of_top library.tops (forms_at library) in
      let at : slice_get all (number + i) ≡ Some (lambda_body l (number + i + 1)) =
      (λ j. slice_get (parts_are library j) (place j))
      ∙ get_behind (methods_part library) (behind_methods library) a (b + (c + (d + i))) (methods_length library)
      ∙ get_behind (variables_part library) (behind_variables library) b (c + (d + i)) (variables_length library)
      ∙ get_behind (slots_part library) (behind_slots library) c (d + i) (slots_length library)
      ∙ get_behind (forms_part library) (closures_part library) d i forms_length ∙ closure_body_at (closures_of library) number i l e in
      (record { target = lambda_body l (number + i + 1); at = at; same = refl }, record { lambda = l; number = number + i + 1; at = at; behind = omega arith })

  all_good : AreGood (closures_of library)
  all_good =
      good_join (in_classes ++ in_methods ++ in_variables) in_tops
      (good_join (in_classes ++ in_methods) in_variables
      (good_join in_classes in_methods (subst AreGood (slots_same library.classes) (flat_good inside_slot slot_scoped (all_slots library) s.slots (λ slot e. init_good slot.init e)))
      (flat_good inside_method method_scoped library.methods s.methods (λ m e. code_good m.code e)))
      (flat_good inside_variable variable_scoped library.variables s.variables (λ v e. function_good v.function e)))
      (flat_good of_top is_top_scoped library.tops s.tops top_good)

  all_fit : Every (BodyFits (Closes library) all) all
  all_fit =
      let made = Closes library in
      let P = BodyFits made all in
      let three = in_classes ++ in_methods ++ in_variables in
      let two = in_classes ++ in_methods in
      let start = first_at library in
      let stand_three = stand_front made all start three in_tops closures_stand in
      let stand_two = stand_front made all start two in_variables stand_three in
      let stand_classes = stand_front made all start in_classes in_methods stand_two in
      let stand_methods = stand_back made all start (methods_at library) in_classes in_methods refl stand_two in
      let stand_variables = stand_back made all start (variables_at library) two in_variables (omega (arith, length-append in_classes in_methods)) stand_three in
      let stand_tops = stand_back made all start (forms_at library) three in_tops (omega (arith, length-append in_classes in_methods, length-append two in_variables)) closures_stand in
      subst (Every P) (sym (parts_are library))
      (every_append P (methods_part library) (behind_methods library) (rows_every made all P give_method inside_method method_scoped library.methods (methods_at library) s.methods stand_methods (λ m n e stand. code_fits made all m.code n e stand))
      (every_append P (variables_part library) (behind_variables library) (rows_every made all P give_variable inside_variable variable_scoped library.variables (variables_at library) s.variables stand_variables (λ v n e stand. function_fits made all v.function n e stand))
      (every_append P (slots_part library) (behind_slots library) (rows_every made all P give_slot inside_slot slot_scoped (all_slots library) start s.slots (subst (Stand made all start) (sym (slots_same library.classes)) stand_classes) (λ slot n e stand. init_fits made all slot.init n e stand))
      (every_append P (forms_part library) (closures_part library) (rows_mapped made all P give_top of_top is_top_scoped library.tops (forms_at library) s.tops stand_tops (λ t n e stand. top_fits made all t n e stand))
      (closures_fit made all (closures_of library) start closures_stand all_good)))))

  none_of : (lambda : Lambda) → is_lambda_scoped lambda 0 0 ≡ true → (out-Lambda lambda).first ≡ 0
  none_of lambda e = let good = good_lambda lambda 0 0 e in let below = good.below in omega (arith, below)

  safe : IsSafe library
  safe = record {
    fits = all_fit;
    methods = λ r row lambda at same. none_of lambda (ap is_code_scoped (sym same) ∙ all_at method_scoped library.methods r row s.methods at);
    functions = λ r row lambda at same. none_of lambda (ap is_function_scoped (sym same) ∙ all_at variable_scoped library.variables r row s.variables at);
  }

pub scoped_programs_may_run : ScopedProgramsMayRun
scoped_programs_may_run program scoped generics =
    may_run program (λ place library there. safe library (scoped_library library (all_at is_library_scoped program.libraries place library scoped there))) generics

firsts : {A : Type 0} (P Q : A → Type 0) (xs : List A) → Every (λ x. P x × Q x) xs → Every P xs
firsts P Q [] held = tt
firsts P Q (x ∷ xs) held = (held.0.0, firsts P Q xs held.1)

every_within : {A : Type 0} (P Q : A → Type 0) (xs : List A) → ((x : A) → P x → Q x) → Every P xs → Every Q xs
every_within P Q [] turn held = tt
every_within P Q (x ∷ xs) turn held = (turn x held.0, every_within P Q xs turn held.1)

pub scoped_bodies_fit : ScopedBodiesFit
scoped_bodies_fit library scoped =
    let all = bodies_of library in
    every_within (BodyFits (Closes library) all) (λ (body : FlatBody). Every (FlatFits all body.locals body.captures) body.code) all
    (λ body fits. firsts (FlatFits all body.locals body.captures) (FlatSimple (Closes library)) body.code fits) (all_fit library (scoped_library library scoped))

pub ready_programs_may_run : ReadyProgramsMayRun
ready_programs_may_run program ready generics = scoped_programs_may_run program (program_ok program ready) generics

pub scoped_bodies_hold : ScopedBodiesHold
scoped_bodies_hold program scoped place library there body flat at =
    written_holds program place library there body flat at
    (every_at (λ (b : FlatBody). Every (FlatFits (bodies_of library) b.locals b.captures) b.code) (bodies_of library) body flat (scoped_bodies_fit library (all_at is_library_scoped program.libraries place library scoped there)) at)

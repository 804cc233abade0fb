-- Calls stand in a program in scope that is lowered yet.
use Rattle.std.proofs.Common.{◌≡◌, ℕ, ◌+◌, ◌-◌, ◌≤◌, Bool, true, ◌&&◌, List, [], ◌∷◌, ◌++◌, length, Option, Some, None, slice_get, refl, sym, ◌∙◌, subst, arith, ap}
use Rattle.std.specs.Prelude.{flat_map}
use Rattle.std.specs.List.{list_all}
use Rattle.std.proofs.lemmas.Option.{none-some}
use Rattle.dy_base.specs.declared.ids.GenericId.{GenericId}
use Rattle.dy_term.specs.declared.term.Lambda.{Lambda, out-Lambda}
use Rattle.dy_term.specs.declared.rows.ClassRow.{ClassRow}
use Rattle.dy_term.specs.declared.rows.SlotRow.{SlotRow}
use Rattle.dy_term.specs.declared.rows.Init.{Init}
use Rattle.dy_term.specs.declared.rows.Init.TheVariants.{Each, Calling}
use Rattle.dy_term.specs.declared.rows.GenericRow.{GenericRow}
use Rattle.dy_term.specs.declared.rows.MethodCode.{MethodCode}
use Rattle.dy_term.specs.declared.rows.MethodCode.TheVariants.{Dylan}
use Rattle.dy_term.specs.declared.rows.MethodRow.{MethodRow}
use Rattle.dy_term.specs.declared.rows.VariableRow.{VariableRow}
use Rattle.dy_term.specs.declared.rows.TopTerm.{TopTerm}
use Rattle.dy_term.specs.declared.rows.TopTerm.TheVariants as tops
use Rattle.dy_term.specs.declared.rows.LibraryRow.{LibraryRow}
use Rattle.dy_term.specs.declared.rows.Program.{Program}
use Rattle.dy_code.specs.Fetching.{rest_locals, keyword_locals}
use Rattle.dy_code.specs.Validity.{Every}
use Rattle.dy_meaning.specs.Lambdas.{lambdas_in, lambdas_within, with_inner, of_defaults, of_init, of_class, of_classes, of_code, of_method, of_methods, of_function, of_variable, of_variables, of_top, of_library, lambdas_of}
use Rattle.dy_meaning.specs.Layouts.{layout_of}
use Rattle.dy_meaning.specs.Numbers.{numbers_in}
use Rattle.dy_meaning.specs.Programs.{lambda_of, generic_in, generic_at}
use Rattle.dy_lowered.specs.Bodies.{FlatBody, lambda_body, bodies_of, all_slots}
use Rattle.dy_lowering_law.specs.Behaving.{TermsFollow}
use Rattle.dy_lowering_law.specs.Following.{Holds}
use Rattle.dy_lowering_law.specs.Machines.{linked_program}
use Rattle.dy_lowering_law.specs.Ready.{generic_ready, is_empty, IsReady}
use Rattle.dy_lowering_law.specs.Renumbering.{body_of}
use Rattle.dy_lowering_law.proofs.parts.Answering.{all_taken}
use Rattle.dy_lowering_law.specs.calls.Belonging.{bodies_before, Belongs}
use Rattle.dy_lowering_law.specs.calls.Calls.{CallsStand}
use Rattle.dy_lowering_law.specs.calls.Entering.{IsPlain}
use Rattle.dy_lowering_law.specs.calls.Standing.{IsLaid, LambdasFollow}
use Rattle.dy_lowering_law.proofs.calls.Belonging.{lambdas_belong}
use Rattle.dy_lowering_law.proofs.calls.Nested.{Nested, none_nested, joined, with_nested, in_term, in_lambda}
use Rattle.dy_lowering_law.proofs.calls.Standing.{bodies_stand, calls_always_stand}
use Rattle.dy_lowering_whole.specs.valid.Scoped.{is_code_scoped, is_function_scoped, is_init_scoped, is_top_scoped, is_library_scoped, IsScoped}
use Rattle.dy_lowering_whole.proofs.valid.Fetched.{every_at}
use Rattle.dy_lowering_whole.proofs.valid.Laying.{every_append}
use Rattle.dy_lowering_whole.proofs.valid.Readying.{all_at, program_ok}
use Rattle.dy_lowering_whole.proofs.valid.Sameness.{both_true, no}
use Rattle.dy_lowering_whole.proofs.valid.Scopes.{IsBodyScoped, AreGood, good_lambdas, good_lambda}
use Rattle.dy_lowering_whole.proofs.valid.Securing.{scoped_bodies_hold}
use Rattle.dy_lowering_whole.specs.Lowered.{has_no_slots, is_lambda_lowered, is_code_lowered, is_function_lowered, is_top_lowered, is_library_lowered, IsLowered}
use Rattle.dy_lowering_whole.proofs.Inner.{AllLowered, lowered_inside, lowered_lambda, lowered_within, within_is, defaults_none}
use Rattle.dy_lowering_whole.proofs.Numbered.{Numbers, moved}
use Rattle.dy_lowering_whole.proofs.Readied.{lowered_of_ready}
use Rattle.dy_lowering_whole.proofs.Terms.{all_follow, ready_terms_follow}

-- a lambda that is in scope, and lowered yet
pub record IsFine (lambda : Lambda) : Type 0 where
  pub scoped : IsBodyScoped (out-Lambda lambda)
  pub lowered : is_lambda_lowered lambda ≡ true

-- rows that all pass two tests
every_of : {X Y : Type 0} (P : Y → Type 0) (give : X → List Y) (test other : X → Bool) (xs : List X) → list_all test xs ≡ true → list_all other xs ≡ true → ((x : X) → test x ≡ true → other x ≡ true → Every P (give x)) → Every P (flat_map give xs)
every_of P give test other [] e f each = tt
every_of P give test other (x ∷ xs) e f each =
    let p = both_true (test x) (list_all test xs) e in
    let q = both_true (other x) (list_all other xs) f in
    every_append P (give x) (flat_map give xs) (each x p.0 q.0) (every_of P give test other xs p.1 q.1 each)

all_fine : (xs : List Lambda) → AreGood xs → AllLowered xs → Every IsFine xs
all_fine [] good lowered = tt
all_fine (x ∷ xs) good lowered = (record { scoped = good.0; lowered = lowered.0 }, all_fine xs good.2 lowered.1)

with_fine : (lambda : Lambda) (s : is_code_scoped (Dylan lambda) ≡ true) → is_lambda_lowered lambda ≡ true → Every IsFine (with_inner lambda)
with_fine lambda s k =
    let good = good_lambda lambda 0 0 s in
    (record { scoped = good.body; lowered = k }, all_fine (lambdas_within lambda) good.within (lowered_within lambda k))

code_fine : (code : MethodCode) → is_code_scoped code ≡ true → is_code_lowered code ≡ true → Every IsFine (of_code code)
code_fine (Dylan lambda) s k = with_fine lambda s k
code_fine _ s k = tt

function_fine : (function : Option Lambda) → is_function_scoped function ≡ true → is_function_lowered function ≡ true → Every IsFine (of_function function)
function_fine None s k = tt
function_fine (Some lambda) s k = with_fine lambda s k

top_fine : (top : TopTerm) → is_top_scoped top ≡ true → is_top_lowered top ≡ true → Every IsFine (of_top top)
top_fine (tops.Init bindings term) s k = all_fine (lambdas_in term) (good_lambdas term 0 (numbers_in term) s) (lowered_inside term k)
top_fine (tops.Run term) s k = all_fine (lambdas_in term) (good_lambdas term 0 (numbers_in term) s) (lowered_inside term k)

abbrev method_scoped : MethodRow → Bool
method_scoped method = is_code_scoped method.code

abbrev variable_scoped : VariableRow → Bool
variable_scoped variable = is_function_scoped variable.function

abbrev method_lowered : MethodRow → Bool
method_lowered method = is_code_lowered method.code

abbrev variable_lowered : VariableRow → Bool
variable_lowered variable = is_function_lowered variable.function

empty_is : {X : Type 0} (xs : List X) → is_empty xs ≡ true → xs ≡ []
empty_is [] e = refl
empty_is (x ∷ xs) e = no e

-- classes without slots have no lambdas
class_bare : (class : ClassRow) → has_no_slots class ≡ true → of_class class ≡ []
class_bare class e = ap (λ (slots : List SlotRow). flat_map (λ (slot : SlotRow). of_init slot.init) slots) (empty_is class.slots e)

classes_bare : (classes : List ClassRow) → list_all has_no_slots classes ≡ true → flat_map of_class classes ≡ []
classes_bare [] e = refl
classes_bare (class ∷ classes) e =
    let p = both_true (has_no_slots class) (list_all has_no_slots classes) e in
    (λ i. class_bare class p.0 i ++ classes_bare classes p.1 i)

pub record IsFineLibrary (library : LibraryRow) : Type 0 where
  pub classes : of_classes library ≡ []
  pub generics : list_all generic_ready library.generics ≡ true
  pub methods : list_all method_lowered library.methods ≡ true
  pub variables : list_all variable_lowered library.variables ≡ true
  pub tops : list_all is_top_lowered library.tops ≡ true
  pub scoped_methods : list_all method_scoped library.methods ≡ true
  pub scoped_variables : list_all variable_scoped library.variables ≡ true
  pub scoped_tops : list_all is_top_scoped library.tops ≡ true

pub fine_library : (library : LibraryRow) → is_library_scoped library ≡ true → is_library_lowered library ≡ true → IsFineLibrary library
fine_library library s k =
    let a = both_true (list_all (λ slot. is_init_scoped slot.init) (all_slots library)) (list_all method_scoped library.methods && (list_all variable_scoped library.variables && list_all is_top_scoped library.tops)) s in
    let b = both_true (list_all method_scoped library.methods) (list_all variable_scoped library.variables && list_all is_top_scoped library.tops) a.1 in
    let c = both_true (list_all variable_scoped library.variables) (list_all is_top_scoped library.tops) b.1 in
    let p = both_true (list_all has_no_slots library.classes) (list_all generic_ready library.generics && (list_all method_lowered library.methods && (list_all variable_lowered library.variables && list_all is_top_lowered library.tops))) k in
    let q = both_true (list_all generic_ready library.generics) (list_all method_lowered library.methods && (list_all variable_lowered library.variables && list_all is_top_lowered library.tops)) p.1 in
    let r = both_true (list_all method_lowered library.methods) (list_all variable_lowered library.variables && list_all is_top_lowered library.tops) q.1 in
    let t = both_true (list_all variable_lowered library.variables) (list_all is_top_lowered library.tops) r.1 in
    record { classes = classes_bare library.classes p.0; generics = q.0; methods = r.0; variables = t.0; tops = t.1; scoped_methods = b.0; scoped_variables = c.0; scoped_tops = c.1 }

library_fine : (library : LibraryRow) → is_library_scoped library ≡ true → is_library_lowered library ≡ true → Every IsFine (of_library library)
library_fine library s k =
    let r = fine_library library s k in
    let a = of_classes library in
    let b = of_methods library in
    let c = of_variables library in
    every_append IsFine (a ++ b ++ c) (flat_map of_top library.tops)
    (every_append IsFine (a ++ b) c
    (every_append IsFine a b (subst (λ (lambdas : List Lambda). Every IsFine lambdas) (sym r.classes) tt)
    (every_of IsFine of_method method_scoped method_lowered library.methods r.scoped_methods r.methods (λ m. code_fine m.code)))
    (every_of IsFine of_variable variable_scoped variable_lowered library.variables r.scoped_variables r.variables (λ v. function_fine v.function)))
    (every_of IsFine of_top is_top_scoped is_top_lowered library.tops r.scoped_tops r.tops top_fine)

-- the lambdas of a program are nested
rows_nested : {A : Type 0} (inside : A → List Lambda) → ((row : A) → Nested (inside row)) → (rows : List A) → Nested (flat_map inside rows)
rows_nested inside each [] = none_nested
rows_nested inside each (row ∷ rows) = joined (inside row) (flat_map inside rows) (each row) (rows_nested inside each rows)

init_nested : (init : Option Init) → Nested (of_init init)
init_nested None = none_nested
init_nested (Some (Each term)) = in_term term
init_nested (Some (Calling term)) = in_term term

code_nested : (code : MethodCode) → Nested (of_code code)
code_nested (Dylan lambda) = with_nested lambda (in_lambda lambda)
code_nested _ = none_nested

function_nested : (function : Option Lambda) → Nested (of_function function)
function_nested None = none_nested
function_nested (Some lambda) = with_nested lambda (in_lambda lambda)

top_nested : (top : TopTerm) → Nested (of_top top)
top_nested (tops.Init bindings term) = in_term term
top_nested (tops.Run term) = in_term term

library_nested : (library : LibraryRow) → Nested (of_library library)
library_nested library =
    let a = of_classes library in
    let b = of_methods library in
    let c = of_variables library in
    joined (a ++ b ++ c) (flat_map of_top library.tops)
    (joined (a ++ b) c
    (joined a b (rows_nested of_class (λ class. rows_nested (λ slot. of_init slot.init) (λ slot. init_nested slot.init) class.slots) library.classes) (rows_nested of_method (λ m. code_nested m.code) library.methods))
    (rows_nested of_variable (λ v. function_nested v.function) library.variables))
    (rows_nested of_top top_nested library.tops)

module _ (program : Program) (scoped : IsScoped program) (lowered : IsLowered program) where
  all_lambdas : Every IsFine (lambdas_of program)
  all_lambdas = every_of IsFine of_library is_library_scoped is_library_lowered program.libraries scoped lowered library_fine

  fine_at : (number : ℕ) (lambda : Lambda) → lambda_of program number ≡ Some lambda → IsFine lambda
  fine_at number lambda e = every_at IsFine (lambdas_of program) number lambda all_lambdas e

  generic_in_ready : (row : ℕ) (library : Option LibraryRow) (generic : GenericRow) → ((l : LibraryRow) → library ≡ Some l → IsFineLibrary l) → generic_in row library ≡ Some generic → generic_ready generic ≡ true
  generic_in_ready row None generic each e = absurd (none-some generic e)
  generic_in_ready row (Some library) generic each e = all_at generic_ready library.generics row generic (each library refl).generics e

  pub library_is : (place : ℕ) (library : LibraryRow) → slice_get program.libraries place ≡ Some library → IsFineLibrary library
  library_is place library there =
      fine_library library (all_at is_library_scoped program.libraries place library scoped there) (all_at is_library_lowered program.libraries place library lowered there)

  generics_ready : (generic : GenericId) (row : GenericRow) → generic_at program generic ≡ Some row → generic_ready row ≡ true
  generics_ready generic row e =
      generic_in_ready generic.0.row (slice_get program.libraries generic.0.library) row (λ l there. library_is generic.0.library l there) e

  plain_lambda : (lambda : Lambda) → IsFine lambda → IsPlain lambda
  plain_lambda lambda fine =
      let row = out-Lambda lambda in
      let r = lowered_lambda lambda fine.lowered in
      let room : row.first + (length row.params.required + rest_locals row.params.rest + keyword_locals row.params.keys) ≤ row.locals = fine.scoped.room in
      record { keys = r.keys; room = omega (arith, room) }

  -- the code of a body stands where the body belongs
  pub body_holds : (place : ℕ) (library : LibraryRow) → slice_get program.libraries place ≡ Some library → (body : ℕ) (flat : FlatBody) → slice_get (bodies_of library) body ≡ Some flat
      → Holds (linked_program program) (bodies_before program place) (bodies_before program place + body) 0 flat.code
  body_holds place library there body flat stands = scoped_bodies_hold program scoped place library there body flat stands

  lambda_holds : (number : ℕ) (lambda : Lambda) (b : Belongs program number lambda)
      → Holds (linked_program program) (bodies_before program b.place) (body_of program number) 0 (lambda_body lambda b.closure).code
  lambda_holds number lambda b =
      subst (λ (body : ℕ). Holds (linked_program program) (bodies_before program b.place) body 0 (lambda_body lambda b.closure).code) (sym b.numbered)
      (body_holds b.place b.library b.there b.body (lambda_body lambda b.closure) b.stands)

  laid : IsLaid program
  laid = record {
    generics = generics_ready;
    operations = λ n before locals number count. all_taken program n before locals number count;
    lambdas = λ number lambda known.
        let b = lambdas_belong program number lambda known in
        record {
          before = bodies_before program b.place;
          closure = b.closure;
          plain = plain_lambda lambda (fine_at number lambda known);
          stands = bodies_stand program number lambda b (lambda_holds number lambda b);
        };
  }

  -- lambdas inside of a lambda follow it, as do their bodies
  inner_numbers : (number : ℕ) (lambda : Lambda) → lambda_of program number ≡ Some lambda → (b : Belongs program number lambda) → Numbers program (bodies_before program b.place) b.closure (number + 1) (lambdas_within lambda)
  inner_numbers number lambda known b more less =
      let nested = (rows_nested of_library library_nested program.libraries).by number lambda known in
      let before = bodies_before program b.place in
      let at : before + b.closure + more ≡ before + (b.closure + more) = omega arith in
      record { known = omega (arith, nested, less); same = b.inner more less ∙ at }

  lambdas_follow : (n : ℕ) → CallsStand program n → LambdasFollow program laid n
  unfolding laid
  lambdas_follow n stand number lambda known =
      let row = out-Lambda lambda in
      let fine = fine_at number lambda known in
      let r = lowered_lambda lambda fine.lowered in
      let b = lambdas_belong program number lambda known in
      let before = bodies_before program b.place in
      let defaults = length (of_defaults row.keywords) in
      let none : defaults ≡ 0 = defaults_none lambda r.keywords in
      let inner = subst (λ (xs : List Lambda). Numbers program before b.closure (number + 1) xs) (within_is lambda r.keywords) (inner_numbers number lambda known b) in
      all_follow program n before row.locals (layout_of lambda) stand row.body (b.closure + defaults) (number + 1 + defaults) fine.scoped.body r.body
      (moved program before (lambdas_in row.body) b.closure (b.closure + defaults) (number + 1) (number + 1 + defaults) (omega (arith, none)) (omega (arith, none)) inner)

pub calls_stand : (program : Program) → IsScoped program → IsLowered program → (n : ℕ) → CallsStand program n
calls_stand program scoped lowered = calls_always_stand program (laid program scoped lowered) (lambdas_follow program scoped lowered)

pub ready_calls_stand : (program : Program) → IsReady program → (n : ℕ) → CallsStand program n
ready_calls_stand program ready = calls_stand program (program_ok program ready) (lowered_of_ready program ready)

pub terms_follow : (program : Program) → IsReady program → TermsFollow program
terms_follow program ready n before closure lambda last layout term e numbered = ready_terms_follow program n before closure lambda last layout term (ready_calls_stand program ready n) e numbered

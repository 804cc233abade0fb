-- Programs that count as lowered are made of the kinds that are lowered yet.
use Rattle.std.proofs.Common.{◌≡◌, ℕ, ◌+◌, Bool, true, ◌&&◌, List, [], ◌∷◌, length, map, Option, Some, None, refl, sym, ap, ◌∙◌}
use Rattle.std.specs.Prelude.{nat_eq, nat_lt, nat_le}
use Rattle.std.specs.List.{list_all}
use Rattle.std.specs.Option.{option_map}
use Rattle.dy_term.specs.declared.types.DyType.{DyType}
use Rattle.dy_term.specs.declared.term.ForClause.{ForClause}
use Rattle.dy_term.specs.declared.term.Item.{Item, Item-F, roll-Item}
use Rattle.dy_term.specs.declared.term.Term.{Term, Term-F, roll-Term}
use Rattle.dy_term.specs.declared.term.BlockRow.{BlockRow}
use Rattle.dy_term.specs.declared.term.ForRow.{ForRow}
use Rattle.dy_term.specs.declared.term.Lambda.{Lambda, out-Lambda, roll-out-Lambda}
use Rattle.dy_term.specs.declared.rows.ClassRow.{ClassRow}
use Rattle.dy_term.specs.declared.rows.MethodCode.{MethodCode}
use Rattle.dy_term.specs.declared.rows.MethodCode.TheVariants.{Dylan}
use Rattle.dy_term.specs.declared.rows.MethodRow.{MethodRow}
use Rattle.dy_term.specs.declared.rows.VariableRow.{VariableRow}
use Rattle.dy_term.specs.declared.rows.TopTerm.{TopTerm}
use Rattle.dy_term.specs.declared.rows.TopTerm.TheVariants as tops
use Rattle.dy_term.specs.declared.rows.LibraryRow.{LibraryRow}
use Rattle.dy_term.specs.declared.rows.Program.{Program}
use Rattle.dy_code.specs.Fetching.{rest_locals}
use Rattle.dy_meaning.specs.Numbers.{numbers_in}
use Rattle.dy_meaning.proofs.Induction.{by_terms, Clauses_with, Items_with, Terms_with, Blocks_with, Fors_with, Lambdas_with, item_of, term_of}
use Rattle.dy_lowered.specs.Readiness.{all_ready, held_ready, is_set, is_own, are_distinct, are_bound, with_rest, is_ready, is_item_ready}
use Rattle.dy_lowering_law.specs.Ready.{has_no_keywords, generic_ready, is_empty, lambda_ready, code_ready, function_ready, top_ready, library_ready, IsReady}
use Rattle.dy_lowering_whole.proofs.valid.Sameness.{both_true, and_true, no}
use Rattle.dy_lowering_whole.specs.Lowered.{has_no_slots, is_lowered, is_item_lowered, is_lambda_lowered, is_code_lowered, is_function_lowered, is_top_lowered, is_library_lowered, IsLowered}
use Rattle.dy_lowering_whole.proofs.Layers.{ready_layer, item_ready_layer, ready_is, item_ready_is}
use Rattle.dy_lowering_whole.proofs.Scoping.{lowered_layer, item_lowered_layer, lambda_lowered_layer, lowered_is, item_lowered_is, lambda_lowered_is}

module _ (first last : ℕ) where
  abbrev ready : Term → Bool
  ready = is_ready first last

  abbrev C : ForClause → Type 0
  C x = Unit {0}

  abbrev I : Item → Type 0
  I x = is_item_ready first last x ≡ true → is_item_lowered x ≡ true

  abbrev T : Term → Type 0
  T x = ready x ≡ true → is_lowered x ≡ true

  abbrev K : BlockRow → Type 0
  K x = Unit {0}

  abbrev F : ForRow → Type 0
  F x = Unit {0}

  abbrev L : Lambda → Type 0
  L x = Unit {0}

  from_term : (x : Term-F ForClause Item Term BlockRow ForRow Lambda) → (ready_layer first last x ≡ true → lowered_layer x ≡ true) → T (roll-Term x)
  from_term x h e = lowered_is x ∙ h (sym (ready_is first last x) ∙ e)

  from_item : (x : Item-F ForClause Item Term BlockRow ForRow Lambda) → (item_ready_layer first last x ≡ true → item_lowered_layer x ≡ true) → I (roll-Item x)
  from_item x h e = item_lowered_is x ∙ h (sym (item_ready_is first last x) ∙ e)

  abbrev A_term : Type 0
  A_term = Terms_with C I T K F L

  abbrev An_item : Type 0
  An_item = Items_with C I T K F L

  abbrev ready_terms : List A_term → Bool
  ready_terms ys = all_ready (map ready (map (λ y. y.0) ys))

  abbrev lowered_terms : List A_term → Bool
  lowered_terms ys = all_ready (map is_lowered (map (λ y. y.0) ys))

  terms_are : (ys : List A_term) → ready_terms ys ≡ true → lowered_terms ys ≡ true
  terms_are [] e = refl
  terms_are (y ∷ ys) e =
      let p = both_true (ready y.0) (ready_terms ys) e in
      and_true (is_lowered y.0) (lowered_terms ys) (y.1 p.0) (terms_are ys p.1)

  items_are : (ys : List An_item) → all_ready (map (is_item_ready first last) (map (λ y. y.0) ys)) ≡ true → all_ready (map is_item_lowered (map (λ y. y.0) ys)) ≡ true
  items_are [] e = refl
  items_are (y ∷ ys) e =
      let p = both_true (is_item_ready first last y.0) (all_ready (map (is_item_ready first last) (map (λ y. y.0) ys))) e in
      and_true (is_item_lowered y.0) (all_ready (map is_item_lowered (map (λ y. y.0) ys))) (y.1 p.0) (items_are ys p.1)

  abbrev A_pair : Type 0
  A_pair = A_term × A_term

  abbrev ready_pairs : List A_pair → Bool
  ready_pairs ys = all_ready (map (λ (b : Bool × Bool). b.0 && b.1) (map (λ (p : Term × Term). (ready p.0, ready p.1)) (map (λ (y : A_pair). (y.0.0, y.1.0)) ys)))

  abbrev lowered_pairs : List A_pair → Bool
  lowered_pairs ys = all_ready (map (λ (b : Bool × Bool). b.0 && b.1) (map (λ (p : Term × Term). (is_lowered p.0, is_lowered p.1)) (map (λ (y : A_pair). (y.0.0, y.1.0)) ys)))

  both_are : (a b : A_term) → (ready a.0 && ready b.0) ≡ true → (is_lowered a.0 && is_lowered b.0) ≡ true
  both_are a b e =
      let p = both_true (ready a.0) (ready b.0) e in
      and_true (is_lowered a.0) (is_lowered b.0) (a.1 p.0) (b.1 p.1)

  pairs_are : (ys : List A_pair) → ready_pairs ys ≡ true → lowered_pairs ys ≡ true
  pairs_are [] e = refl
  pairs_are (y ∷ ys) e =
      let p = both_true (ready y.0.0 && ready y.1.0) (ready_pairs ys) e in
      and_true (is_lowered y.0.0 && is_lowered y.1.0) (lowered_pairs ys) (both_are y.0 y.1 p.0) (pairs_are ys p.1)

  abbrev An_arm : Type 0
  An_arm = List A_term × A_term

  abbrev ready_arms : List An_arm → Bool
  ready_arms ys = all_ready (map (λ (b : List Bool × Bool). all_ready b.0 && b.1) (map (λ (p : List Term × Term). (map ready p.0, ready p.1)) (map (λ (y : An_arm). (map (λ z. z.0) y.0, y.1.0)) ys)))

  abbrev lowered_arms : List An_arm → Bool
  lowered_arms ys = all_ready (map (λ (b : List Bool × Bool). all_ready b.0 && b.1) (map (λ (p : List Term × Term). (map is_lowered p.0, is_lowered p.1)) (map (λ (y : An_arm). (map (λ z. z.0) y.0, y.1.0)) ys)))

  arms_are : (ys : List An_arm) → ready_arms ys ≡ true → lowered_arms ys ≡ true
  arms_are [] e = refl
  arms_are (y ∷ ys) e =
      let p = both_true (ready_terms y.0 && ready y.1.0) (ready_arms ys) e in
      let q = both_true (ready_terms y.0) (ready y.1.0) p.0 in
      and_true (lowered_terms y.0 && is_lowered y.1.0) (lowered_arms ys) (and_true (lowered_terms y.0) (is_lowered y.1.0) (terms_are y.0 q.0) (y.1.1 q.1)) (arms_are ys p.1)

  abbrev ready_held : Option A_term → Bool
  ready_held y = held_ready (option_map ready (option_map (λ y. y.0) y))

  abbrev lowered_held : Option A_term → Bool
  lowered_held y = held_ready (option_map is_lowered (option_map (λ y. y.0) y))

  held_is : (y : Option A_term) → ready_held y ≡ true → lowered_held y ≡ true
  held_is None e = refl
  held_is (Some y) e = y.1 e

  select_is : (v : A_term) (t : Option A_term) (ys : List An_arm) (o : Option A_term) → (ready v.0 && (ready_held t && (ready_arms ys && ready_held o))) ≡ true
      → (is_lowered v.0 && (lowered_held t && (lowered_arms ys && lowered_held o))) ≡ true
  select_is v t ys o e =
      let p = both_true (ready v.0) (ready_held t && (ready_arms ys && ready_held o)) e in
      let q = both_true (ready_held t) (ready_arms ys && ready_held o) p.1 in
      let r = both_true (ready_arms ys) (ready_held o) q.1 in
      and_true (is_lowered v.0) (lowered_held t && (lowered_arms ys && lowered_held o)) (v.1 p.0)
      (and_true (lowered_held t) (lowered_arms ys && lowered_held o) (held_is t q.0) (and_true (lowered_arms ys) (lowered_held o) (arms_are ys r.0) (held_is o r.1)))

  term_is : (y : Term-F (Clauses_with C I T K F L) An_item A_term (Blocks_with C I T K F L) (Fors_with C I T K F L) (Lambdas_with C I T K F L)) → T (term_of C I T K F L y)
  term_is (Term-F.Lit value) = from_term _ (λ e. e)
  term_is (Term-F.Local local) = from_term _ (λ e. refl)
  term_is (Term-F.Global binding) = from_term _ (λ e. refl)
  term_is (Term-F.ClassName class) = from_term _ (λ e. refl)
  term_is (Term-F.GenericName generic) = from_term _ (λ e. refl)
  term_is (Term-F.SetLocal local y) = from_term _ (λ e. y.1 (both_true (nat_lt local last) (ready y.0) e).1)
  term_is (Term-F.SetGlobal binding y) = from_term _ (λ e. y.1 (both_true (is_set binding.what) (ready y.0) e).1)
  term_is (Term-F.Call f ys) = from_term _ (λ e.
      let p = both_true (ready f.0) (ready_terms ys) e in
      and_true (is_lowered f.0) (lowered_terms ys) (f.1 p.0) (terms_are ys p.1))
  term_is (Term-F.Site generic ys) = from_term _ (λ e. terms_are ys e)
  term_is (Term-F.Cond ys y) = from_term _ (λ e.
      let p = both_true (ready_pairs ys) (ready y.0) e in
      and_true (lowered_pairs ys) (is_lowered y.0) (pairs_are ys p.0) (y.1 p.1))
  term_is (Term-F.And a b) = from_term _ (λ e. both_are a b e)
  term_is (Term-F.Or a b) = from_term _ (λ e. both_are a b e)
  term_is (Term-F.Select v None ys None) = from_term _ (λ e. select_is v None ys None e)
  term_is (Term-F.Select v None ys (Some o)) = from_term _ (λ e. select_is v None ys (Some o) e)
  term_is (Term-F.Select v (Some t) ys None) = from_term _ (λ e. select_is v (Some t) ys None e)
  term_is (Term-F.Select v (Some t) ys (Some o)) = from_term _ (λ e. select_is v (Some t) ys (Some o) e)
  term_is (Term-F.Body ys) = from_term _ (λ e. items_are ys e)
  term_is (Term-F.Loop a b) = from_term _ (λ e. no e)
  term_is (Term-F.For y) = from_term _ (λ e. no e)
  term_is (Term-F.Method y) = from_term _ (λ e. no e)
  term_is (Term-F.Block y) = from_term _ (λ e. no e)
  term_is (Term-F.Op operation ys) = from_term _ (λ e. terms_are ys e)
  term_is (Term-F.Next ys) = from_term _ (λ e. no e)

  item_is : (y : Item-F (Clauses_with C I T K F L) An_item A_term (Blocks_with C I T K F L) (Fors_with C I T K F L) (Lambdas_with C I T K F L)) → I (item_of C I T K F L y)
  item_is (Item-F.Run y) = from_item _ (λ e. y.1 e)
  item_is (Item-F.Let all rest y) = from_item _ (λ e.
      let numbers = with_rest (map (λ (local : ℕ × DyType). local.0) all) rest in
      let p = both_true (are_bound first last numbers) (ready y.0) e in
      let q = both_true (list_all (is_own first last) numbers) (are_distinct numbers) p.0 in
      and_true (are_distinct numbers) (is_lowered y.0) q.1 (y.1 p.1))
  item_is (Item-F.LetMethods methods) = from_item _ (λ e. no e)
  item_is (Item-F.Handler type y) = from_item _ (λ e. no e)

  pub ready_lowered : (term : Term) → T term
  ready_lowered = by_terms C I T K F L (λ y. tt) item_is term_is (λ y. tt) (λ y. tt) (λ y. tt)

-- rows
keywords_empty : (ks : List (DyType × Term)) → is_empty ks ≡ true → is_empty {A = DyType × Bool} (map (λ (k : DyType × Term). (k.0, is_lowered k.1)) ks) ≡ true
keywords_empty [] e = refl
keywords_empty (k ∷ ks) e = no e

lambda_is : (lambda : Lambda) → lambda_ready lambda ≡ true → is_lambda_lowered lambda ≡ true
lambda_is lambda e =
    let row = out-Lambda lambda in
    let size = length row.params.required + rest_locals row.params.rest in
    let empty = is_empty {A = DyType × Bool} (map (λ (k : DyType × Term). (k.0, is_lowered k.1)) row.keywords) in
    let same : is_lambda_lowered lambda ≡ lambda_lowered_layer row = ap is_lambda_lowered (sym (roll-out-Lambda lambda)) ∙ lambda_lowered_is row in
    let a = both_true (has_no_keywords row.params) (is_empty row.keywords && (nat_eq row.first 0 && (nat_le size row.locals && is_ready 0 row.locals row.body))) e in
    let b = both_true (is_empty row.keywords) (nat_eq row.first 0 && (nat_le size row.locals && is_ready 0 row.locals row.body)) a.1 in
    let c = both_true (nat_eq row.first 0) (nat_le size row.locals && is_ready 0 row.locals row.body) b.1 in
    let d = both_true (nat_le size row.locals) (is_ready 0 row.locals row.body) c.1 in
    same ∙ and_true (has_no_keywords row.params) (empty && is_lowered row.body) a.0 (and_true empty (is_lowered row.body) (keywords_empty row.keywords b.0) (ready_lowered 0 row.locals row.body d.1))

code_is : (code : MethodCode) → code_ready code ≡ true → is_code_lowered code ≡ true
code_is (Dylan lambda) e = lambda_is lambda e
code_is _ e = refl

function_is : (function : Option Lambda) → function_ready function ≡ true → is_function_lowered function ≡ true
function_is None e = refl
function_is (Some lambda) e = lambda_is lambda e

top_is : (top : TopTerm) → top_ready top ≡ true → is_top_lowered top ≡ true
top_is (tops.Init bindings term) e = ready_lowered 0 (numbers_in term) term e
top_is (tops.Run term) e = ready_lowered 0 (numbers_in term) term e

all_pass : {X : Type 0} (test other : X → Bool) (xs : List X) → list_all test xs ≡ true → ((x : X) → test x ≡ true → other x ≡ true) → list_all other xs ≡ true
all_pass test other [] e each = refl
all_pass test other (x ∷ xs) e each =
    let p = both_true (test x) (list_all test xs) e in
    and_true (other x) (list_all other xs) (each x p.0) (all_pass test other xs p.1 each)

abbrev method_ready : MethodRow → Bool
method_ready method = code_ready method.code

abbrev variable_ready : VariableRow → Bool
variable_ready variable = function_ready variable.function

abbrev method_lowered : MethodRow → Bool
method_lowered method = is_code_lowered method.code

abbrev variable_lowered : VariableRow → Bool
variable_lowered variable = is_function_lowered variable.function

no_classes : (classes : List ClassRow) → is_empty classes ≡ true → list_all has_no_slots classes ≡ true
no_classes [] e = refl
no_classes (class ∷ classes) e = no e

library_is : (library : LibraryRow) → library_ready library ≡ true → is_library_lowered library ≡ true
library_is library e =
    let a = both_true (is_empty library.classes) (list_all generic_ready library.generics && (list_all method_ready library.methods && (list_all variable_ready library.variables && list_all top_ready library.tops))) e in
    let b = both_true (list_all generic_ready library.generics) (list_all method_ready library.methods && (list_all variable_ready library.variables && list_all top_ready library.tops)) a.1 in
    let c = both_true (list_all method_ready library.methods) (list_all variable_ready library.variables && list_all top_ready library.tops) b.1 in
    let d = both_true (list_all variable_ready library.variables) (list_all top_ready library.tops) c.1 in
    let tops_are = all_pass top_ready is_top_lowered library.tops d.1 top_is in
    let variables_are = and_true (list_all variable_lowered library.variables) (list_all is_top_lowered library.tops) (all_pass variable_ready variable_lowered library.variables d.0 (λ v. function_is v.function)) tops_are in
    let methods_are = and_true (list_all method_lowered library.methods) (list_all variable_lowered library.variables && list_all is_top_lowered library.tops) (all_pass method_ready method_lowered library.methods c.0 (λ m. code_is m.code)) variables_are in
    and_true (list_all has_no_slots library.classes) (list_all generic_ready library.generics && (list_all method_lowered library.methods && (list_all variable_lowered library.variables && list_all is_top_lowered library.tops))) (no_classes library.classes a.0)
    (and_true (list_all generic_ready library.generics) (list_all method_lowered library.methods && (list_all variable_lowered library.variables && list_all is_top_lowered library.tops)) b.0 methods_are)

pub lowered_of_ready : (program : Program) → IsReady program → IsLowered program
lowered_of_ready program ready = all_pass library_ready is_library_lowered program.libraries ready library_is

-- A program whose terms are lowered yet is in scope.
use Rattle.std.proofs.Common.{◌≡◌, ℕ, zero, suc, ◌+◌, ◌≤◌, Bool, true, not, ◌&&◌, nat_eq, List, [], ◌∷◌, length, map, Option, Some, None, slice_get, refl, sym, ap, ◌∙◌, arith}
use Rattle.std.specs.Prelude.{flat_map, nat_lt, nat_le, is_some}
use Rattle.std.specs.List.{list_all}
use Rattle.std.specs.Option.{option_map}
use Rattle.std.proofs.lemmas.Option.{same_Some, none-some}
use Rattle.dy_term.specs.declared.types.DyType.{DyType}
use Rattle.dy_term.specs.declared.term.ForClause.{ForClause, fold-ForClause}
use Rattle.dy_term.specs.declared.term.Item.{Item, Item-F, roll-Item, map-Item, fold-roll-Item}
use Rattle.dy_term.specs.declared.term.Term.{Term, Term-F, roll-Term, map-Term, fold-roll-Term}
use Rattle.dy_term.specs.declared.term.BlockRow.{BlockRow, fold-BlockRow}
use Rattle.dy_term.specs.declared.term.ForRow.{ForRow, fold-ForRow}
use Rattle.dy_term.specs.declared.term.Lambda.{Lambda, out-Lambda, roll-out-Lambda, fold-Lambda}
use Rattle.dy_term.specs.declared.rows.ClassRow.{ClassRow}
use Rattle.dy_term.specs.declared.rows.MethodCode.{MethodCode}
use Rattle.dy_term.specs.declared.rows.MethodCode.TheVariants.{Dylan}
use Rattle.dy_term.specs.declared.rows.MethodRow.{MethodRow}
use Rattle.dy_term.specs.declared.rows.SlotRow.{SlotRow}
use Rattle.dy_term.specs.declared.rows.VariableRow.{VariableRow}
use Rattle.dy_term.specs.declared.rows.TopTerm.{TopTerm}
use Rattle.dy_term.specs.declared.rows.TopTerm.TheVariants as tops
use Rattle.dy_term.specs.declared.rows.LibraryRow.{LibraryRow}
use Rattle.dy_term.specs.declared.rows.Program.{Program}
use Rattle.dy_code.specs.Fetching.{locals_of, rest_locals, keyword_locals}
use Rattle.dy_meaning.specs.Numbers.{numbers_in}
use Rattle.dy_meaning.proofs.Induction.{by_terms, Clauses_with, Items_with, Terms_with, Blocks_with, Fors_with, Lambdas_with, item_of, term_of}
use Rattle.dy_lowered.specs.Bodies.{all_slots}
use Rattle.dy_lowered.specs.Readiness.{all_ready, held_ready, is_own, is_set, with_rest, are_bound, are_distinct, clause_ready, item_ready, term_ready, block_ready, for_ready, lambda_ready, is_ready, is_item_ready}
use Rattle.dy_lowering_law.specs.Ready as law
use Rattle.dy_lowering_law.specs.Ready.{has_no_keywords, generic_ready, is_empty, code_ready, function_ready, top_ready, library_ready, IsReady}
use Rattle.dy_lowering_whole.specs.valid.Scoped.{all_scoped, held_scoped, pairs_scoped, arms_scoped, typed_scoped, are_own, is_item_scoped, is_scoped, is_lambda_scoped, is_code_scoped, is_function_scoped, is_init_scoped, is_top_scoped, is_library_scoped, IsScoped}
use Rattle.dy_lowering_whole.proofs.valid.Sameness.{both_true, and_true, no, is_eq}
use Rattle.dy_lowering_whole.proofs.valid.Scopes.{item_scope, term_scope, item_scope_is, term_scope_is, lambda_scope_is}

module _ (first last : ℕ) where
  abbrev ready : Term → Bool
  ready = is_ready first last

  abbrev item_is_ready : Item → Bool
  item_is_ready = is_item_ready first last

  abbrev clause_is_ready : ForClause → Bool
  clause_is_ready = fold-ForClause Bool Bool Bool Bool Bool Bool (clause_ready first last) (item_ready first last) (term_ready first last) (block_ready first last) (for_ready first last) (lambda_ready first last)

  abbrev block_is_ready : BlockRow → Bool
  block_is_ready = fold-BlockRow Bool Bool Bool Bool Bool Bool (clause_ready first last) (item_ready first last) (term_ready first last) (block_ready first last) (for_ready first last) (lambda_ready first last)

  abbrev for_is_ready : ForRow → Bool
  for_is_ready = fold-ForRow Bool Bool Bool Bool Bool Bool (clause_ready first last) (item_ready first last) (term_ready first last) (block_ready first last) (for_ready first last) (lambda_ready first last)

  abbrev lambda_is_ready : Lambda → Bool
  lambda_is_ready = fold-Lambda Bool Bool Bool Bool Bool Bool (clause_ready first last) (item_ready first last) (term_ready first last) (block_ready first last) (for_ready first last) (lambda_ready first last)

  abbrev ready_layer : Term-F ForClause Item Term BlockRow ForRow Lambda → Bool
  ready_layer x = term_ready first last (map-Term _ _ _ _ _ _ _ _ _ _ _ _ clause_is_ready item_is_ready ready block_is_ready for_is_ready lambda_is_ready x)

  abbrev item_ready_layer : Item-F ForClause Item Term BlockRow ForRow Lambda → Bool
  item_ready_layer x = item_ready first last (map-Item _ _ _ _ _ _ _ _ _ _ _ _ clause_is_ready item_is_ready ready block_is_ready for_is_ready lambda_is_ready x)

  ready_is : (x : Term-F ForClause Item Term BlockRow ForRow Lambda) → ready (roll-Term x) ≡ ready_layer x
  ready_is = fold-roll-Term _ _ _ _ _ _ _ _ _ _ _ _

  item_ready_is : (x : Item-F ForClause Item Term BlockRow ForRow Lambda) → item_is_ready (roll-Item x) ≡ item_ready_layer x
  item_ready_is = fold-roll-Item _ _ _ _ _ _ _ _ _ _ _ _

  abbrev C : ForClause → Type 0
  C x = Unit {0}

  abbrev I : Item → Type 0
  I x = item_is_ready x ≡ true → is_item_scoped x first last ≡ true

  abbrev T : Term → Type 0
  T x = ready x ≡ true → is_scoped x first last ≡ true

  abbrev K : BlockRow → Type 0
  K x = Unit {0}

  abbrev F : ForRow → Type 0
  F x = Unit {0}

  abbrev L : Lambda → Type 0
  L x = Unit {0}

  scope_term : (x : Term-F ForClause Item Term BlockRow ForRow Lambda) → (ready_layer x ≡ true → term_scope x first last ≡ true) → T (roll-Term x)
  scope_term x h e = ap (λ (s : ℕ → ℕ → Bool). s first last) (term_scope_is x) ∙ h (sym (ready_is x) ∙ e)

  scope_item : (x : Item-F ForClause Item Term BlockRow ForRow Lambda) → (item_ready_layer x ≡ true → item_scope x first last ≡ true) → I (roll-Item x)
  scope_item x h e = ap (λ (s : ℕ → ℕ → Bool). s first last) (item_scope_is x) ∙ h (sym (item_ready_is x) ∙ e)

  abbrev A_term : Type 0
  A_term = Terms_with C I T K F L

  abbrev An_item : Type 0
  An_item = Items_with C I T K F L

  abbrev readies : List A_term → Bool
  readies ys = all_ready (map ready (map (λ y. y.0) ys))

  abbrev scopes : List A_term → Bool
  scopes ys = all_scoped (map is_scoped (map (λ y. y.0) ys)) first last

  terms_scoped : (ys : List A_term) → readies ys ≡ true → scopes ys ≡ true
  terms_scoped [] e = refl
  terms_scoped (y ∷ ys) e =
      let p = both_true (ready y.0) (readies ys) e in
      and_true (is_scoped y.0 first last) (scopes ys) (y.1 p.0) (terms_scoped ys p.1)

  items_scoped : (ys : List An_item) → all_ready (map item_is_ready (map (λ y. y.0) ys)) ≡ true → all_scoped (map is_item_scoped (map (λ y. y.0) ys)) first last ≡ true
  items_scoped [] e = refl
  items_scoped (y ∷ ys) e =
      let p = both_true (item_is_ready y.0) (all_ready (map item_is_ready (map (λ y. y.0) ys))) e in
      and_true (is_item_scoped y.0 first last) (all_scoped (map is_item_scoped (map (λ y. y.0) ys)) first last) (y.1 p.0) (items_scoped ys p.1)

  abbrev A_pair : Type 0
  A_pair = A_term × A_term

  abbrev ready_pairs : List A_pair → Bool
  ready_pairs ys = all_ready (map (λ (b : Bool × Bool). b.0 && b.1) (map (λ (p : Term × Term). (ready p.0, ready p.1)) (map (λ (y : A_pair). (y.0.0, y.1.0)) ys)))

  abbrev scoped_pairs : List A_pair → Bool
  scoped_pairs ys = pairs_scoped (map (λ (p : Term × Term). (is_scoped p.0, is_scoped p.1)) (map (λ (y : A_pair). (y.0.0, y.1.0)) ys)) first last

  branches_scoped : (ys : List A_pair) → ready_pairs ys ≡ true → scoped_pairs ys ≡ true
  branches_scoped [] e = refl
  branches_scoped (y ∷ ys) e =
      let p = both_true (ready y.0.0 && ready y.1.0) (ready_pairs ys) e in
      let q = both_true (ready y.0.0) (ready y.1.0) p.0 in
      and_true (is_scoped y.0.0 first last && is_scoped y.1.0 first last) (scoped_pairs ys) (and_true (is_scoped y.0.0 first last) (is_scoped y.1.0 first last) (y.0.1 q.0) (y.1.1 q.1)) (branches_scoped ys p.1)

  abbrev An_arm : Type 0
  An_arm = List A_term × A_term

  abbrev ready_arms : List An_arm → Bool
  ready_arms ys = all_ready (map (λ (b : List Bool × Bool). all_ready b.0 && b.1) (map (λ (p : List Term × Term). (map ready p.0, ready p.1)) (map (λ (y : An_arm). (map (λ z. z.0) y.0, y.1.0)) ys)))

  abbrev scoped_arms : List An_arm → Bool
  scoped_arms ys = arms_scoped (map (λ (p : List Term × Term). (map is_scoped p.0, is_scoped p.1)) (map (λ (y : An_arm). (map (λ z. z.0) y.0, y.1.0)) ys)) first last

  all_arms_scoped : (ys : List An_arm) → ready_arms ys ≡ true → scoped_arms ys ≡ true
  all_arms_scoped [] e = refl
  all_arms_scoped (y ∷ ys) e =
      let p = both_true (readies y.0 && ready y.1.0) (ready_arms ys) e in
      let q = both_true (readies y.0) (ready y.1.0) p.0 in
      and_true (scopes y.0 && is_scoped y.1.0 first last) (scoped_arms ys) (and_true (scopes y.0) (is_scoped y.1.0 first last) (terms_scoped y.0 q.0) (y.1.1 q.1)) (all_arms_scoped ys p.1)

  abbrev ready_held : Option A_term → Bool
  ready_held y = held_ready (option_map ready (option_map (λ y. y.0) y))

  abbrev scoped_held : Option A_term → Bool
  scoped_held y = held_scoped (option_map is_scoped (option_map (λ y. y.0) y)) first last

  one_scoped : (y : Option A_term) → ready_held y ≡ true → scoped_held y ≡ true
  one_scoped None e = refl
  one_scoped (Some y) e = y.1 e

  two_scoped : (a b : A_term) → (ready a.0 && ready b.0) ≡ true → (is_scoped a.0 first last && is_scoped b.0 first last) ≡ true
  two_scoped a b e =
      let p = both_true (ready a.0) (ready b.0) e in
      and_true (is_scoped a.0 first last) (is_scoped b.0 first last) (a.1 p.0) (b.1 p.1)

  select_scoped : (v : A_term) (t : Option A_term) (ys : List An_arm) (o : Option A_term) → (ready v.0 && (ready_held t && (ready_arms ys && ready_held o))) ≡ true
      → (is_scoped v.0 first last && (scoped_held t && (scoped_arms ys && scoped_held o))) ≡ true
  select_scoped v t ys o e =
      let p = both_true (ready v.0) (ready_held t && (ready_arms ys && ready_held o)) e in
      let q = both_true (ready_held t) (ready_arms ys && ready_held o) p.1 in
      let r = both_true (ready_arms ys) (ready_held o) q.1 in
      and_true (is_scoped v.0 first last) (scoped_held t && (scoped_arms ys && scoped_held o)) (v.1 p.0)
      (and_true (scoped_held t) (scoped_arms ys && scoped_held o) (one_scoped t q.0) (and_true (scoped_arms ys) (scoped_held o) (all_arms_scoped ys r.0) (one_scoped o r.1)))

  term_ok : (y : Term-F (Clauses_with C I T K F L) An_item A_term (Blocks_with C I T K F L) (Fors_with C I T K F L) (Lambdas_with C I T K F L)) → T (term_of C I T K F L y)
  term_ok (Term-F.Lit value) = scope_term _ (λ e. refl)
  term_ok (Term-F.Local local) = scope_term _ (λ e. e)
  term_ok (Term-F.Global binding) = scope_term _ (λ e. e)
  term_ok (Term-F.ClassName class) = scope_term _ (λ e. refl)
  term_ok (Term-F.GenericName generic) = scope_term _ (λ e. refl)
  term_ok (Term-F.SetLocal local y) = scope_term _ (λ e.
      let p = both_true (nat_lt local last) (ready y.0) e in
      and_true (nat_lt local last) (is_scoped y.0 first last) p.0 (y.1 p.1))
  term_ok (Term-F.SetGlobal binding y) = scope_term _ (λ e.
      let p = both_true (is_set binding.what) (ready y.0) e in
      and_true (is_set binding.what) (is_scoped y.0 first last) p.0 (y.1 p.1))
  term_ok (Term-F.Call f ys) = scope_term _ (λ e.
      let p = both_true (ready f.0) (readies ys) e in
      and_true (is_scoped f.0 first last) (scopes ys) (f.1 p.0) (terms_scoped ys p.1))
  term_ok (Term-F.Site generic ys) = scope_term _ (λ e. terms_scoped ys e)
  term_ok (Term-F.Cond ys y) = scope_term _ (λ e.
      let p = both_true (ready_pairs ys) (ready y.0) e in
      and_true (scoped_pairs ys) (is_scoped y.0 first last) (branches_scoped ys p.0) (y.1 p.1))
  term_ok (Term-F.And a b) = scope_term _ (λ e. two_scoped a b e)
  term_ok (Term-F.Or a b) = scope_term _ (λ e. two_scoped a b e)
  term_ok (Term-F.Select v None ys None) = scope_term _ (λ e. select_scoped v None ys None e)
  term_ok (Term-F.Select v None ys (Some o)) = scope_term _ (λ e. select_scoped v None ys (Some o) e)
  term_ok (Term-F.Select v (Some t) ys None) = scope_term _ (λ e. select_scoped v (Some t) ys None e)
  term_ok (Term-F.Select v (Some t) ys (Some o)) = scope_term _ (λ e. select_scoped v (Some t) ys (Some o) e)
  term_ok (Term-F.Body ys) = scope_term _ (λ e. items_scoped ys e)
  term_ok (Term-F.Loop a b) = scope_term _ (λ e. no e)
  term_ok (Term-F.For y) = scope_term _ (λ e. no e)
  term_ok (Term-F.Method y) = scope_term _ (λ e. no e)
  term_ok (Term-F.Block y) = scope_term _ (λ e. no e)
  term_ok (Term-F.Op operation ys) = scope_term _ (λ e. terms_scoped ys e)
  term_ok (Term-F.Next ys) = scope_term _ (λ e. no e)

  item_ok : (y : Item-F (Clauses_with C I T K F L) An_item A_term (Blocks_with C I T K F L) (Fors_with C I T K F L) (Lambdas_with C I T K F L)) → I (item_of C I T K F L y)
  item_ok (Item-F.Run y) = scope_item _ (λ e. y.1 e)
  item_ok (Item-F.Let all rest y) = scope_item _ (λ e.
      let numbers = with_rest (map (λ (local : ℕ × DyType). local.0) all) rest in
      let p = both_true (are_bound first last numbers) (ready y.0) e in
      let q = both_true (list_all (is_own first last) numbers) (are_distinct numbers) p.0 in
      and_true (are_own numbers first last) (is_scoped y.0 first last) q.0 (y.1 p.1))
  item_ok (Item-F.LetMethods methods) = scope_item _ (λ e. no e)
  item_ok (Item-F.Handler type y) = scope_item _ (λ e. no e)

  pub ready_scoped : (term : Term) → is_ready first last term ≡ true → is_scoped term first last ≡ true
  ready_scoped = by_terms C I T K F L (λ y. tt) item_ok term_ok (λ y. tt) (λ y. tt) (λ y. tt)

le_of : (n m : ℕ) → nat_le n m ≡ true → n ≤ m
le_of n m e = grind (arith, e)

le_true : (n m : ℕ) → n ≤ m → nat_le n m ≡ true
le_true n m h = grind (arith, h)

keys_none : (keys : Option (List (List ℕ))) → not (is_some keys) ≡ true → keyword_locals keys ≡ 0
keys_none None e = refl
keys_none (Some keys) e = no e

keywords_scoped : (keywords : List (DyType × Term)) (first last : ℕ) → is_empty keywords ≡ true → typed_scoped (map (λ (k : DyType × Term). (k.0, is_scoped k.1)) keywords) first last ≡ true
keywords_scoped [] first last e = refl
keywords_scoped (k ∷ keywords) first last e = no e

lambda_ok : (lambda : Lambda) → law.lambda_ready lambda ≡ true → is_lambda_scoped lambda 0 0 ≡ true
lambda_ok lambda e =
    let row = out-Lambda lambda in
    let size = length row.params.required + rest_locals row.params.rest in
    let keywords : List (DyType × (ℕ → ℕ → Bool)) = map (λ (k : DyType × Term). (k.0, is_scoped k.1)) row.keywords in
    let a = both_true (has_no_keywords row.params) (is_empty row.keywords && (nat_eq row.first 0 && (nat_le size row.locals && is_ready 0 row.locals row.body))) e in
    let b = both_true (is_empty row.keywords) (nat_eq row.first 0 && (nat_le size row.locals && is_ready 0 row.locals row.body)) a.1 in
    let c = both_true (nat_eq row.first 0) (nat_le size row.locals && is_ready 0 row.locals row.body) b.1 in
    let d = both_true (nat_le size row.locals) (is_ready 0 row.locals row.body) c.1 in
    let keys = keys_none row.params.keys (both_true (not (is_some row.params.keys)) (not row.params.all_keys) a.0).0 in
    let first = is_eq row.first 0 c.0 in
    let room = le_of size row.locals d.0 in
    let is_body : is_scoped row.body row.first row.locals ≡ true = ap (λ (k : ℕ). is_scoped row.body k row.locals) first ∙ ready_scoped 0 row.locals row.body d.1 in
    let is_keywords = keywords_scoped row.keywords row.first row.locals b.0 in
    ap (λ (l : Lambda). is_lambda_scoped l 0 0) (sym (roll-out-Lambda lambda)) ∙ ap (λ (s : ℕ → ℕ → Bool). s 0 0) (lambda_scope_is row)
    ∙ and_true (nat_le row.first 0) (nat_le (row.first + locals_of row.params) row.locals && (typed_scoped keywords row.first row.locals && is_scoped row.body row.first row.locals)) (le_true row.first 0 (omega (arith, first)))
    (and_true (nat_le (row.first + locals_of row.params) row.locals) (typed_scoped keywords row.first row.locals && is_scoped row.body row.first row.locals) (le_true (row.first + locals_of row.params) row.locals (omega (arith, first, keys, room)))
    (and_true (typed_scoped keywords row.first row.locals) (is_scoped row.body row.first row.locals) is_keywords is_body))

code_ok : (code : MethodCode) → code_ready code ≡ true → is_code_scoped code ≡ true
code_ok (Dylan lambda) e = lambda_ok lambda e
code_ok _ e = refl

function_ok : (function : Option Lambda) → function_ready function ≡ true → is_function_scoped function ≡ true
function_ok None e = refl
function_ok (Some lambda) e = lambda_ok lambda e

top_ok : (top : TopTerm) → top_ready top ≡ true → is_top_scoped top ≡ true
top_ok (tops.Init bindings term) e = ready_scoped 0 (numbers_in term) term e
top_ok (tops.Run term) e = ready_scoped 0 (numbers_in term) term e

all_ok : {X : Type 0} (test other : X → Bool) (xs : List X) → ((x : X) → test x ≡ true → other x ≡ true) → list_all test xs ≡ true → list_all other xs ≡ true
all_ok test other [] turn e = refl
all_ok test other (x ∷ xs) turn e =
    let p = both_true (test x) (list_all test xs) e in
    and_true (other x) (list_all other xs) (turn x p.0) (all_ok test other xs turn p.1)

no_slots : (classes : List ClassRow) → is_empty classes ≡ true → list_all (λ (slot : SlotRow). is_init_scoped slot.init) (flat_map (λ (class : ClassRow). class.slots) classes) ≡ true
no_slots [] e = refl
no_slots (class ∷ classes) e = no e

library_ok : (library : LibraryRow) → library_ready library ≡ true → is_library_scoped library ≡ true
library_ok library e =
    let methods_ready = list_all (λ (m : MethodRow). code_ready m.code) library.methods in
    let variables_ready = list_all (λ (v : VariableRow). function_ready v.function) library.variables in
    let tops_ready = list_all top_ready library.tops in
    let a = both_true (is_empty library.classes) (list_all generic_ready library.generics && (methods_ready && (variables_ready && tops_ready))) e in
    let b = both_true (list_all generic_ready library.generics) (methods_ready && (variables_ready && tops_ready)) a.1 in
    let c = both_true methods_ready (variables_ready && tops_ready) b.1 in
    let d = both_true variables_ready tops_ready c.1 in
    let methods = list_all (λ (m : MethodRow). is_code_scoped m.code) library.methods in
    let variables = list_all (λ (v : VariableRow). is_function_scoped v.function) library.variables in
    let forms = list_all is_top_scoped library.tops in
    and_true (list_all (λ (slot : SlotRow). is_init_scoped slot.init) (all_slots library)) (methods && (variables && forms)) (no_slots library.classes a.0)
    (and_true methods (variables && forms) (all_ok (λ (m : MethodRow). code_ready m.code) (λ (m : MethodRow). is_code_scoped m.code) library.methods (λ m f. code_ok m.code f) c.0)
    (and_true variables forms (all_ok (λ (v : VariableRow). function_ready v.function) (λ (v : VariableRow). is_function_scoped v.function) library.variables (λ v f. function_ok v.function f) d.0)
    (all_ok top_ready is_top_scoped library.tops top_ok d.1)))

pub program_ok : (program : Program) → IsReady program → IsScoped program
program_ok program ready = all_ok library_ready is_library_scoped program.libraries library_ok ready

pub all_at : {X : Type 0} (test : X → Bool) (xs : List X) (k : ℕ) (x : X) → list_all test xs ≡ true → slice_get xs k ≡ Some x → test x ≡ true
all_at test [] k x e f = absurd (none-some x f)
all_at test (y ∷ xs) zero x e f = ap test (sym (same_Some y x f)) ∙ (both_true (test y) (list_all test xs) e).0
all_at test (y ∷ xs) (suc k) x e f = all_at test xs k x (both_true (test y) (list_all test xs) e).1 f

-- The lambdas inside of what is lowered yet are lowered yet.
use Rattle.std.proofs.Common.{◌≡◌, ℕ, Bool, true, not, ◌&&◌, List, [], ◌∷◌, ◌++◌, length, map, Option, Some, None, refl, sym, ap, ◌∙◌, subst}
use Rattle.std.specs.Prelude.{flat_map, is_some}
use Rattle.std.specs.Option.{option_map}
use Rattle.dy_term.specs.declared.types.DyType.{DyType}
use Rattle.dy_term.specs.declared.term.Limit.{Limit}
use Rattle.dy_term.specs.declared.term.ForClause.{ForClause, ForClause-F, roll-ForClause}
use Rattle.dy_term.specs.declared.term.Item.{Item, Item-F, roll-Item}
use Rattle.dy_term.specs.declared.term.Term.{Term, Term-F, roll-Term}
use Rattle.dy_term.specs.declared.term.BlockRow.{BlockRow}
use Rattle.dy_term.specs.declared.term.ForRow.{ForRow, ForRow-F, roll-ForRow}
use Rattle.dy_term.specs.declared.term.Lambda.{Lambda, Lambda-F, out-Lambda, roll-Lambda, roll-out-Lambda}
use Rattle.dy_code.specs.Validity.{Every}
use Rattle.dy_meaning.specs.Lambdas.{Inside, of_all, of_held, of_pairs, of_arms, of_second, itself_and, lambdas_in_clause, lambdas_in_for, lambdas_in_item, lambdas_in, lambdas_within, of_defaults}
use Rattle.dy_meaning.proofs.Induction.{by_terms, Clauses_with, Items_with, Terms_with, Blocks_with, Fors_with, Lambdas_with, clause_of, item_of, term_of, for_of, lambda_of}
use Rattle.dy_lowered.specs.Readiness.{all_ready, held_ready, are_distinct, with_rest}
use Rattle.dy_lowering_law.specs.Ready.{has_no_keywords, is_empty}
use Rattle.dy_lowering_whole.proofs.valid.Evenness.{beside}
use Rattle.dy_lowering_whole.proofs.valid.Laying.{every_append}
use Rattle.dy_lowering_whole.proofs.valid.Sameness.{both_true, no}
use Rattle.dy_lowering_whole.proofs.valid.Scopes.{clause_held, for_held, clause_held_is, for_held_is}
use Rattle.dy_lowering_whole.specs.Lowered.{second_lowered, is_lowered, is_item_lowered, is_lambda_lowered}
use Rattle.dy_lowering_whole.proofs.Scoping.{is_clause_lowered, is_for_lowered, clause_lowered_layer, for_lowered_layer, clause_lowered_is, for_lowered_is, lowered_layer, item_lowered_layer, lambda_lowered_layer, lowered_is, item_lowered_is, lambda_lowered_is, held_layer, item_held_layer, lambda_held_layer, held_is, item_held_is, lambda_held_is}

abbrev pub IsLoweredOne : Lambda → Type 0
IsLoweredOne lambda = is_lambda_lowered lambda ≡ true

abbrev pub AllLowered : List Lambda → Type 0
AllLowered xs = Every IsLoweredOne xs

join : (xs ys : List Lambda) → AllLowered xs → AllLowered ys → AllLowered (xs ++ ys)
join xs ys a b = every_append IsLoweredOne xs ys a b

abbrev C : ForClause → Type 0
C x = is_clause_lowered x ≡ true → AllLowered (lambdas_in_clause x)

abbrev I : Item → Type 0
I x = is_item_lowered x ≡ true → AllLowered (lambdas_in_item x)

abbrev T : Term → Type 0
T x = is_lowered x ≡ true → AllLowered (lambdas_in x)

abbrev K : BlockRow → Type 0
K x = Unit {0}

abbrev F : ForRow → Type 0
F x = is_for_lowered x ≡ true → AllLowered (lambdas_in_for x)

abbrev L : Lambda → Type 0
L x = is_lambda_lowered x ≡ true → AllLowered (lambdas_within x)

in_term : (x : Term-F ForClause Item Term BlockRow ForRow Lambda) → (lowered_layer x ≡ true → AllLowered (held_layer x)) → T (roll-Term x)
in_term x h e = subst AllLowered (sym (held_is x)) (h (sym (lowered_is x) ∙ e))

in_item : (x : Item-F ForClause Item Term BlockRow ForRow Lambda) → (item_lowered_layer x ≡ true → AllLowered (item_held_layer x)) → I (roll-Item x)
in_item x h e = subst AllLowered (sym (item_held_is x)) (h (sym (item_lowered_is x) ∙ e))

in_clause : (x : ForClause-F ForClause Item Term BlockRow ForRow Lambda) → (clause_lowered_layer x ≡ true → AllLowered (clause_held x)) → C (roll-ForClause x)
in_clause x h e = subst AllLowered (sym (clause_held_is x)) (h (sym (clause_lowered_is x) ∙ e))

in_for : (x : ForRow-F ForClause Item Term BlockRow ForRow Lambda) → (for_lowered_layer x ≡ true → AllLowered (for_held x)) → F (roll-ForRow x)
in_for x h e = subst AllLowered (sym (for_held_is x)) (h (sym (for_lowered_is x) ∙ e))

in_lambda : (x : Lambda-F ForClause Item Term BlockRow ForRow Lambda) → (lambda_lowered_layer x ≡ true → AllLowered (lambda_held_layer x)) → L (roll-Lambda x)
in_lambda x h e = subst AllLowered (sym (lambda_held_is x)) (h (sym (lambda_lowered_is x) ∙ e))

abbrev A_term : Type 0
A_term = Terms_with C I T K F L

abbrev An_item : Type 0
An_item = Items_with C I T K F L

abbrev A_lambda : Type 0
A_lambda = Lambdas_with C I T K F L

abbrev held_terms : List A_term → List (Inside Term)
held_terms ys = map (beside lambdas_in) (map (λ y. y.0) ys)

abbrev lowered_terms : List A_term → Bool
lowered_terms ys = all_ready (map is_lowered (map (λ y. y.0) ys))

terms_in : (ys : List A_term) → lowered_terms ys ≡ true → AllLowered (of_all (held_terms ys))
terms_in [] e = tt
terms_in (y ∷ ys) e =
    let p = both_true (is_lowered y.0) (lowered_terms ys) e in
    join (lambdas_in y.0) (of_all (held_terms ys)) (y.1 p.0) (terms_in ys p.1)

abbrev held_items : List An_item → List (Inside Item)
held_items ys = map (beside lambdas_in_item) (map (λ y. y.0) ys)

items_in : (ys : List An_item) → all_ready (map is_item_lowered (map (λ y. y.0) ys)) ≡ true → AllLowered (of_all (held_items ys))
items_in [] e = tt
items_in (y ∷ ys) e =
    let p = both_true (is_item_lowered y.0) (all_ready (map is_item_lowered (map (λ y. y.0) ys))) e in
    join (lambdas_in_item y.0) (of_all (held_items ys)) (y.1 p.0) (items_in ys p.1)

abbrev A_pair : Type 0
A_pair = A_term × A_term

abbrev held_pairs : List A_pair → List (Inside Term × Inside Term)
held_pairs ys = map (λ (p : Term × Term). (beside lambdas_in p.0, beside lambdas_in p.1)) (map (λ (y : A_pair). (y.0.0, y.1.0)) ys)

abbrev lowered_pairs : List A_pair → Bool
lowered_pairs ys = all_ready (map (λ (b : Bool × Bool). b.0 && b.1) (map (λ (p : Term × Term). (is_lowered p.0, is_lowered p.1)) (map (λ (y : A_pair). (y.0.0, y.1.0)) ys)))

pairs_in : (ys : List A_pair) → lowered_pairs ys ≡ true → AllLowered (of_pairs (held_pairs ys))
pairs_in [] e = tt
pairs_in (y ∷ ys) e =
    let p = both_true (is_lowered y.0.0 && is_lowered y.1.0) (lowered_pairs ys) e in
    let q = both_true (is_lowered y.0.0) (is_lowered y.1.0) p.0 in
    join (lambdas_in y.0.0 ++ lambdas_in y.1.0) (of_pairs (held_pairs ys)) (join (lambdas_in y.0.0) (lambdas_in y.1.0) (y.0.1 q.0) (y.1.1 q.1)) (pairs_in ys p.1)

abbrev An_arm : Type 0
An_arm = List A_term × A_term

abbrev held_arms : List An_arm → List (List (Inside Term) × Inside Term)
held_arms ys = map (λ (p : List Term × Term). (map (beside lambdas_in) p.0, beside lambdas_in p.1)) (map (λ (y : An_arm). (map (λ z. z.0) y.0, y.1.0)) ys)

abbrev lowered_arms : List An_arm → Bool
lowered_arms ys = all_ready (map (λ (b : List Bool × Bool). all_ready b.0 && b.1) (map (λ (p : List Term × Term). (map is_lowered p.0, is_lowered p.1)) (map (λ (y : An_arm). (map (λ z. z.0) y.0, y.1.0)) ys)))

arms_in : (ys : List An_arm) → lowered_arms ys ≡ true → AllLowered (of_arms (held_arms ys))
arms_in [] e = tt
arms_in (y ∷ ys) e =
    let p = both_true (lowered_terms y.0 && is_lowered y.1.0) (lowered_arms ys) e in
    let q = both_true (lowered_terms y.0) (is_lowered y.1.0) p.0 in
    join (of_all (held_terms y.0) ++ lambdas_in y.1.0) (of_arms (held_arms ys)) (join (of_all (held_terms y.0)) (lambdas_in y.1.0) (terms_in y.0 q.0) (y.1.1 q.1)) (arms_in ys p.1)

abbrev held_held : Option A_term → Option (Inside Term)
held_held y = option_map (beside lambdas_in) (option_map (λ y. y.0) y)

abbrev lowered_held : Option A_term → Bool
lowered_held y = held_ready (option_map is_lowered (option_map (λ y. y.0) y))

held_in : (y : Option A_term) → lowered_held y ≡ true → AllLowered (of_held (held_held y))
held_in None e = tt
held_in (Some y) e = y.1 e

both_in : (a b : A_term) → (is_lowered a.0 && is_lowered b.0) ≡ true → AllLowered (lambdas_in a.0 ++ lambdas_in b.0)
both_in a b e =
    let p = both_true (is_lowered a.0) (is_lowered b.0) e in
    join (lambdas_in a.0) (lambdas_in b.0) (a.1 p.0) (b.1 p.1)

select_in : (v : A_term) (t : Option A_term) (ys : List An_arm) (o : Option A_term) → (is_lowered v.0 && (lowered_held t && (lowered_arms ys && lowered_held o))) ≡ true
    → AllLowered (lambdas_in v.0 ++ of_held (held_held t) ++ of_arms (held_arms ys) ++ of_held (held_held o))
select_in v t ys o e =
    let p = both_true (is_lowered v.0) (lowered_held t && (lowered_arms ys && lowered_held o)) e in
    let q = both_true (lowered_held t) (lowered_arms ys && lowered_held o) p.1 in
    let r = both_true (lowered_arms ys) (lowered_held o) q.1 in
    join (lambdas_in v.0 ++ of_held (held_held t) ++ of_arms (held_arms ys)) (of_held (held_held o))
    (join (lambdas_in v.0 ++ of_held (held_held t)) (of_arms (held_arms ys)) (join (lambdas_in v.0) (of_held (held_held t)) (v.1 p.0) (held_in t q.0)) (arms_in ys r.0)) (held_in o r.1)

term_in : (y : Term-F (Clauses_with C I T K F L) An_item A_term (Blocks_with C I T K F L) (Fors_with C I T K F L) A_lambda) → T (term_of C I T K F L y)
term_in (Term-F.Lit value) = in_term _ (λ e. tt)
term_in (Term-F.Local local) = in_term _ (λ e. tt)
term_in (Term-F.Global binding) = in_term _ (λ e. tt)
term_in (Term-F.ClassName class) = in_term _ (λ e. tt)
term_in (Term-F.GenericName generic) = in_term _ (λ e. tt)
term_in (Term-F.SetLocal local y) = in_term _ (λ e. y.1 e)
term_in (Term-F.SetGlobal binding y) = in_term _ (λ e. y.1 e)
term_in (Term-F.Call f ys) = in_term _ (λ e.
    let p = both_true (is_lowered f.0) (lowered_terms ys) e in
    join (lambdas_in f.0) (of_all (held_terms ys)) (f.1 p.0) (terms_in ys p.1))
term_in (Term-F.Site generic ys) = in_term _ (λ e. terms_in ys e)
term_in (Term-F.Cond ys y) = in_term _ (λ e.
    let p = both_true (lowered_pairs ys) (is_lowered y.0) e in
    join (of_pairs (held_pairs ys)) (lambdas_in y.0) (pairs_in ys p.0) (y.1 p.1))
term_in (Term-F.And a b) = in_term _ (λ e. both_in a b e)
term_in (Term-F.Or a b) = in_term _ (λ e. both_in a b e)
term_in (Term-F.Select v None ys None) = in_term _ (λ e. select_in v None ys None e)
term_in (Term-F.Select v None ys (Some o)) = in_term _ (λ e. select_in v None ys (Some o) e)
term_in (Term-F.Select v (Some t) ys None) = in_term _ (λ e. select_in v (Some t) ys None e)
term_in (Term-F.Select v (Some t) ys (Some o)) = in_term _ (λ e. select_in v (Some t) ys (Some o) e)
term_in (Term-F.Body ys) = in_term _ (λ e. items_in ys e)
term_in (Term-F.Loop a b) = in_term _ (λ e. both_in a b e)
term_in (Term-F.For y) = in_term _ (λ e. y.1 e)
term_in (Term-F.Method y) = in_term _ (λ e. (e, y.1 e))
term_in (Term-F.Block y) = in_term _ (λ e. no e)
term_in (Term-F.Op operation ys) = in_term _ (λ e. terms_in ys e)
term_in (Term-F.Next ys) = in_term _ (λ e. no e)

-- loops
module _ {A : Type 0} where
  abbrev held_second : Option (A × A_term) → Option (A × Inside Term)
  held_second y = option_map (λ (p : A × Term). (p.0, beside lambdas_in p.1)) (option_map (λ (p : A × A_term). (p.0, p.1.0)) y)

  abbrev lowered_second : Option (A × A_term) → Bool
  lowered_second y = second_lowered (option_map (λ (p : A × Term). (p.0, is_lowered p.1)) (option_map (λ (p : A × A_term). (p.0, p.1.0)) y))

  second_inside : (y : Option (A × A_term)) → lowered_second y ≡ true → AllLowered (of_second (held_second y))
  second_inside None e = tt
  second_inside (Some y) e = y.1.1 e

counts_in : (a : A_term) (y : Option (Limit × A_term)) (t : Option A_term) → (is_lowered a.0 && (lowered_second y && lowered_held t)) ≡ true → AllLowered (lambdas_in a.0 ++ of_second (held_second y) ++ of_held (held_held t))
counts_in a y t e =
    let p = both_true (is_lowered a.0) (lowered_second y && lowered_held t) e in
    let q = both_true (lowered_second y) (lowered_held t) p.1 in
    join (lambdas_in a.0 ++ of_second (held_second y)) (of_held (held_held t)) (join (lambdas_in a.0) (of_second (held_second y)) (a.1 p.0) (second_inside y q.0)) (held_in t q.1)

abbrev A_clause : Type 0
A_clause = Clauses_with C I T K F L

clause_in : (y : ForClause-F A_clause An_item A_term (Blocks_with C I T K F L) (Fors_with C I T K F L) A_lambda) → C (clause_of C I T K F L y)
clause_in (ForClause-F.Then local type a b) = in_clause _ (λ e. both_in a b e)
clause_in (ForClause-F.In local type y) = in_clause _ (λ e. no e)
clause_in (ForClause-F.From local type a None None) = in_clause _ (λ e. counts_in a None None e)
clause_in (ForClause-F.From local type a None (Some t)) = in_clause _ (λ e. counts_in a None (Some t) e)
clause_in (ForClause-F.From local type a (Some y) None) = in_clause _ (λ e. counts_in a (Some y) None e)
clause_in (ForClause-F.From local type a (Some y) (Some t)) = in_clause _ (λ e. counts_in a (Some y) (Some t) e)

abbrev clauses_of : List A_clause → List ForClause
clauses_of ys = map (λ y. y.0) ys

clauses_in : (ys : List A_clause) → all_ready (map is_clause_lowered (clauses_of ys)) ≡ true → AllLowered (of_all (map (beside lambdas_in_clause) (clauses_of ys)))
clauses_in [] e = tt
clauses_in (y ∷ ys) e =
    let p = both_true (is_clause_lowered y.0) (all_ready (map is_clause_lowered (clauses_of ys))) e in
    join (lambdas_in_clause y.0) (of_all (map (beside lambdas_in_clause) (clauses_of ys))) (y.1 p.0) (clauses_in ys p.1)

turns_in : (cs : List A_clause) (t : Option (Bool × A_term)) (b : A_term) (o : Option A_term) → (all_ready (map is_clause_lowered (clauses_of cs)) && (lowered_second t && (is_lowered b.0 && lowered_held o))) ≡ true
    → AllLowered (of_all (map (beside lambdas_in_clause) (clauses_of cs)) ++ of_second (held_second t) ++ lambdas_in b.0 ++ of_held (held_held o))
turns_in cs t b o e =
    let w = of_all (map (beside lambdas_in_clause) (clauses_of cs)) in
    let x = of_second (held_second t) in
    let p = both_true (all_ready (map is_clause_lowered (clauses_of cs))) (lowered_second t && (is_lowered b.0 && lowered_held o)) e in
    let q = both_true (lowered_second t) (is_lowered b.0 && lowered_held o) p.1 in
    let r = both_true (is_lowered b.0) (lowered_held o) q.1 in
    join (w ++ x ++ lambdas_in b.0) (of_held (held_held o)) (join (w ++ x) (lambdas_in b.0) (join w x (clauses_in cs p.0) (second_inside t q.0)) (b.1 r.0)) (held_in o r.1)

abbrev a_for : List A_clause → Option (Bool × A_term) → A_term → Option A_term → ForRow-F A_clause An_item A_term (Blocks_with C I T K F L) (Fors_with C I T K F L) A_lambda
a_for cs t b o = record { clauses = cs; test = t; body = b; finally = o }

for_in : (cs : List A_clause) (t : Option (Bool × A_term)) (b : A_term) (o : Option A_term) → F (for_of C I T K F L (a_for cs t b o))
for_in cs None b None = in_for _ (λ e. turns_in cs None b None e)
for_in cs None b (Some o) = in_for _ (λ e. turns_in cs None b (Some o) e)
for_in cs (Some t) b None = in_for _ (λ e. turns_in cs (Some t) b None e)
for_in cs (Some t) b (Some o) = in_for _ (λ e. turns_in cs (Some t) b (Some o) e)

abbrev A_method : Type 0
A_method = ℕ × A_lambda

abbrev rows_of : List A_method → List (ℕ × Lambda)
rows_of ys = map (λ (y : A_method). (y.0, y.1.0)) ys

methods_in : (ys : List A_method) → all_ready (map (λ (m : ℕ × Bool). m.1) (map (λ (m : ℕ × Lambda). (m.0, is_lambda_lowered m.1)) (rows_of ys))) ≡ true
    → AllLowered (flat_map (λ (m : ℕ × Inside Lambda). itself_and m.1) (map (λ (m : ℕ × Lambda). (m.0, beside lambdas_within m.1)) (rows_of ys)))
methods_in [] e = tt
methods_in (y ∷ ys) e =
    let p = both_true (is_lambda_lowered y.1.0) (all_ready (map (λ (m : ℕ × Bool). m.1) (map (λ (m : ℕ × Lambda). (m.0, is_lambda_lowered m.1)) (rows_of ys)))) e in
    join (y.1.0 ∷ lambdas_within y.1.0) (flat_map (λ (m : ℕ × Inside Lambda). itself_and m.1) (map (λ (m : ℕ × Lambda). (m.0, beside lambdas_within m.1)) (rows_of ys))) (p.0, y.1.1 p.0) (methods_in ys p.1)

item_in : (y : Item-F (Clauses_with C I T K F L) An_item A_term (Blocks_with C I T K F L) (Fors_with C I T K F L) A_lambda) → I (item_of C I T K F L y)
item_in (Item-F.Run y) = in_item _ (λ e. y.1 e)
item_in (Item-F.Let all rest y) = in_item _ (λ e. y.1 (both_true (are_distinct (with_rest (map (λ (local : ℕ × DyType). local.0) all) rest)) (is_lowered y.0) e).1)
item_in (Item-F.LetMethods ys) = in_item _ (λ e. methods_in ys e)
item_in (Item-F.Handler type y) = in_item _ (λ e. no e)

-- a lambda without keywords
abbrev A_keyword : Type 0
A_keyword = DyType × A_term

keywords_in : (ks : List A_keyword) → is_empty {A = DyType × Bool} (map (λ (k : DyType × Term). (k.0, is_lowered k.1)) (map (λ (k : A_keyword). (k.0, k.1.0)) ks)) ≡ true
    → AllLowered (flat_map (λ (k : DyType × Inside Term). k.1.1) (map (λ (k : DyType × Term). (k.0, beside lambdas_in k.1)) (map (λ (k : A_keyword). (k.0, k.1.0)) ks)))
keywords_in [] e = tt
keywords_in (k ∷ ks) e = no e

lambda_in : (y : Lambda-F (Clauses_with C I T K F L) An_item A_term (Blocks_with C I T K F L) (Fors_with C I T K F L) A_lambda) → L (lambda_of C I T K F L y)
lambda_in y = in_lambda _ (λ e.
    let empty = is_empty {A = DyType × Bool} (map (λ (k : DyType × Term). (k.0, is_lowered k.1)) (map (λ (k : A_keyword). (k.0, k.1.0)) y.keywords)) in
    let p = both_true (has_no_keywords y.params) (empty && is_lowered y.body.0) e in
    let q = both_true empty (is_lowered y.body.0) p.1 in
    join _ (lambdas_in y.body.0) (keywords_in y.keywords q.0) (y.body.1 q.1))

pub lowered_inside : (term : Term) → is_lowered term ≡ true → AllLowered (lambdas_in term)
lowered_inside = by_terms C I T K F L clause_in item_in term_in (λ y. tt) (λ y. for_in y.clauses y.test y.body y.finally) lambda_in

-- a lambda that is lowered yet
pub record IsLoweredLambda (lambda : Lambda) : Type 0 where
  pub keys : (out-Lambda lambda).params.keys ≡ None
  pub keywords : (out-Lambda lambda).keywords ≡ []
  pub body : is_lowered (out-Lambda lambda).body ≡ true

keys_none : (keys : Option (List (List ℕ))) → not (is_some keys) ≡ true → keys ≡ None
keys_none None e = refl
keys_none (Some keys) e = no e

keywords_none : (ks : List (DyType × Term)) → is_empty {A = DyType × Bool} (map (λ (k : DyType × Term). (k.0, is_lowered k.1)) ks) ≡ true → ks ≡ []
keywords_none [] e = refl
keywords_none (k ∷ ks) e = no e

pub lowered_lambda : (lambda : Lambda) → is_lambda_lowered lambda ≡ true → IsLoweredLambda lambda
lowered_lambda lambda e =
    let x = out-Lambda lambda in
    let same : is_lambda_lowered lambda ≡ lambda_lowered_layer x = ap is_lambda_lowered (sym (roll-out-Lambda lambda)) ∙ lambda_lowered_is x in
    let empty = is_empty {A = DyType × Bool} (map (λ (k : DyType × Term). (k.0, is_lowered k.1)) x.keywords) in
    let p = both_true (has_no_keywords x.params) (empty && is_lowered x.body) (sym same ∙ e) in
    let q = both_true empty (is_lowered x.body) p.1 in
    record {
      keys = keys_none x.params.keys (both_true (not (is_some x.params.keys)) (not x.params.all_keys) p.0).0;
      keywords = keywords_none x.keywords q.0;
      body = q.1;
    }

-- the lambdas inside of it are those of its body
pub within_is : (lambda : Lambda) → (out-Lambda lambda).keywords ≡ [] → lambdas_within lambda ≡ lambdas_in (out-Lambda lambda).body
within_is lambda none =
    ap lambdas_within (sym (roll-out-Lambda lambda)) ∙ lambda_held_is (out-Lambda lambda)
    ∙ ap (λ (ks : List (DyType × Term)). flat_map (λ (k : DyType × Inside Term). k.1.1) (map (λ (k : DyType × Term). (k.0, beside lambdas_in k.1)) ks) ++ lambdas_in (out-Lambda lambda).body) none

pub defaults_none : (lambda : Lambda) → (out-Lambda lambda).keywords ≡ [] → length (of_defaults (out-Lambda lambda).keywords) ≡ 0
defaults_none lambda none = ap (λ (ks : List (DyType × Term)). length (of_defaults ks)) none

pub lowered_within : (lambda : Lambda) → is_lambda_lowered lambda ≡ true → AllLowered (lambdas_within lambda)
lowered_within lambda e =
    let r = lowered_lambda lambda e in
    subst AllLowered (sym (within_is lambda r.keywords)) (lowered_inside (out-Lambda lambda).body r.body)

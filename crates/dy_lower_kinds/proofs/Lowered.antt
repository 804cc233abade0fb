-- Libraries that are lowered yet are of kinds that have code.
use Rattle.std.proofs.Common.{◌≡◌, ℕ, Bool, true, ◌&&◌, List, [], ◌∷◌, map, Option, Some, None, refl, sym, ap, ◌∙◌}
use Rattle.std.specs.List.{list_all}
use Rattle.std.specs.Option.{option_map}
use Rattle.dy_term.specs.declared.types.DyType.{DyType}
use Rattle.dy_term.specs.declared.term.Limit.{Limit}
use Rattle.dy_term.specs.declared.term.ForClause.{ForClause, ForClause-F, roll-ForClause, map-ForClause, fold-ForClause, fold-roll-ForClause}
use Rattle.dy_term.specs.declared.term.Item.{Item, Item-F, roll-Item, map-Item, fold-roll-Item}
use Rattle.dy_term.specs.declared.term.Term.{Term, Term-F, roll-Term, map-Term, fold-roll-Term}
use Rattle.dy_term.specs.declared.term.BlockRow.{BlockRow, fold-BlockRow}
use Rattle.dy_term.specs.declared.term.ForRow.{ForRow, ForRow-F, roll-ForRow, map-ForRow, fold-ForRow, fold-roll-ForRow}
use Rattle.dy_term.specs.declared.term.Lambda.{Lambda, Lambda-F, roll-Lambda, out-Lambda, roll-out-Lambda, map-Lambda, fold-roll-Lambda}
use Rattle.dy_term.specs.declared.rows.SlotRow.{SlotRow}
use Rattle.dy_term.specs.declared.rows.MethodCode.{MethodCode}
use Rattle.dy_term.specs.declared.rows.MethodCode.TheVariants.{Dylan}
use Rattle.dy_term.specs.declared.rows.MethodRow.{MethodRow}
use Rattle.dy_term.specs.declared.rows.VariableRow.{VariableRow}
use Rattle.dy_term.specs.declared.rows.TopTerm.{TopTerm}
use Rattle.dy_term.specs.declared.rows.TopTerm.TheVariants as tops
use Rattle.dy_term.specs.declared.rows.LibraryRow.{LibraryRow}
use Rattle.dy_meaning.proofs.Induction.{by_terms, Clauses_with, Items_with, Terms_with, Blocks_with, Fors_with, Lambdas_with, clause_of, item_of, term_of, for_of, lambda_of}
use Rattle.dy_lowered.specs.Readiness.{all_ready, held_ready, are_distinct, with_rest}
use Rattle.dy_lowering_law.specs.Ready.{has_no_keywords, generic_ready, is_empty}
use Rattle.dy_lowering_whole.proofs.valid.Sameness.{both_true, and_true, no}
use Rattle.dy_lowering_whole.specs.Lowered.{second_lowered, clause_lowered, item_lowered, term_lowered, block_lowered, for_lowered, lambda_lowered, has_no_slots, is_lowered, is_item_lowered, is_lambda_lowered, is_code_lowered, is_function_lowered, is_top_lowered, is_library_lowered}
use Rattle.dy_lower_kinds.specs.Kinds.{has_code, clause_has_code, item_has_code, for_has_code, lambda_has_code, method_has_code, function_has_code, init_has_code, class_has_code, top_has_code, library_has_code}
use Rattle.dy_lower_kinds.proofs.Selecting.{term_layer, item_layer, clause_layer, for_layer, lambda_layer, term_is, item_is, clause_is, for_is, lambda_is, kind_lambda}

abbrev clause_lowered_of : ForClause → Bool
clause_lowered_of = fold-ForClause Bool Bool Bool Bool Bool Bool clause_lowered item_lowered term_lowered block_lowered for_lowered lambda_lowered

abbrev block_lowered_of : BlockRow → Bool
block_lowered_of = fold-BlockRow Bool Bool Bool Bool Bool Bool clause_lowered item_lowered term_lowered block_lowered for_lowered lambda_lowered

abbrev for_lowered_of : ForRow → Bool
for_lowered_of = fold-ForRow Bool Bool Bool Bool Bool Bool clause_lowered item_lowered term_lowered block_lowered for_lowered lambda_lowered

abbrev lowered_layer : Term-F ForClause Item Term BlockRow ForRow Lambda → Bool
lowered_layer x = term_lowered (map-Term _ _ _ _ _ _ _ _ _ _ _ _ clause_lowered_of is_item_lowered is_lowered block_lowered_of for_lowered_of is_lambda_lowered x)

abbrev item_lowered_layer : Item-F ForClause Item Term BlockRow ForRow Lambda → Bool
item_lowered_layer x = item_lowered (map-Item _ _ _ _ _ _ _ _ _ _ _ _ clause_lowered_of is_item_lowered is_lowered block_lowered_of for_lowered_of is_lambda_lowered x)

abbrev clause_lowered_layer : ForClause-F ForClause Item Term BlockRow ForRow Lambda → Bool
clause_lowered_layer x = clause_lowered (map-ForClause _ _ _ _ _ _ _ _ _ _ _ _ clause_lowered_of is_item_lowered is_lowered block_lowered_of for_lowered_of is_lambda_lowered x)

abbrev for_lowered_layer : ForRow-F ForClause Item Term BlockRow ForRow Lambda → Bool
for_lowered_layer x = for_lowered (map-ForRow _ _ _ _ _ _ _ _ _ _ _ _ clause_lowered_of is_item_lowered is_lowered block_lowered_of for_lowered_of is_lambda_lowered x)

abbrev lambda_lowered_layer : Lambda-F ForClause Item Term BlockRow ForRow Lambda → Bool
lambda_lowered_layer x = lambda_lowered (map-Lambda _ _ _ _ _ _ _ _ _ _ _ _ clause_lowered_of is_item_lowered is_lowered block_lowered_of for_lowered_of is_lambda_lowered x)

lowered_is : (x : Term-F ForClause Item Term BlockRow ForRow Lambda) → is_lowered (roll-Term x) ≡ lowered_layer x
lowered_is = fold-roll-Term _ _ _ _ _ _ _ _ _ _ _ _

item_lowered_is : (x : Item-F ForClause Item Term BlockRow ForRow Lambda) → is_item_lowered (roll-Item x) ≡ item_lowered_layer x
item_lowered_is = fold-roll-Item _ _ _ _ _ _ _ _ _ _ _ _

clause_lowered_is : (x : ForClause-F ForClause Item Term BlockRow ForRow Lambda) → clause_lowered_of (roll-ForClause x) ≡ clause_lowered_layer x
clause_lowered_is = fold-roll-ForClause _ _ _ _ _ _ _ _ _ _ _ _

for_lowered_is : (x : ForRow-F ForClause Item Term BlockRow ForRow Lambda) → for_lowered_of (roll-ForRow x) ≡ for_lowered_layer x
for_lowered_is = fold-roll-ForRow _ _ _ _ _ _ _ _ _ _ _ _

lambda_lowered_is : (x : Lambda-F ForClause Item Term BlockRow ForRow Lambda) → is_lambda_lowered (roll-Lambda x) ≡ lambda_lowered_layer x
lambda_lowered_is = fold-roll-Lambda _ _ _ _ _ _ _ _ _ _ _ _

abbrev C : ForClause → Type 0
C x = clause_lowered_of x ≡ true → clause_has_code x ≡ true

abbrev I : Item → Type 0
I x = is_item_lowered x ≡ true → item_has_code x ≡ true

abbrev T : Term → Type 0
T x = is_lowered x ≡ true → has_code x ≡ true

abbrev K : BlockRow → Type 0
K x = Unit {0}

abbrev F : ForRow → Type 0
F x = for_lowered_of x ≡ true → for_has_code x ≡ true

abbrev L : Lambda → Type 0
L x = is_lambda_lowered x ≡ true → lambda_has_code x ≡ true

from_term : (x : Term-F ForClause Item Term BlockRow ForRow Lambda) → (lowered_layer x ≡ true → term_layer x ≡ true) → T (roll-Term x)
from_term x h e = term_is x ∙ h (sym (lowered_is x) ∙ e)

from_item : (x : Item-F ForClause Item Term BlockRow ForRow Lambda) → (item_lowered_layer x ≡ true → item_layer x ≡ true) → I (roll-Item x)
from_item x h e = item_is x ∙ h (sym (item_lowered_is x) ∙ e)

from_clause : (x : ForClause-F ForClause Item Term BlockRow ForRow Lambda) → (clause_lowered_layer x ≡ true → clause_layer x ≡ true) → C (roll-ForClause x)
from_clause x h e = clause_is x ∙ h (sym (clause_lowered_is x) ∙ e)

from_for : (x : ForRow-F ForClause Item Term BlockRow ForRow Lambda) → (for_lowered_layer x ≡ true → for_layer x ≡ true) → F (roll-ForRow x)
from_for x h e = for_is x ∙ h (sym (for_lowered_is x) ∙ e)

from_lambda : (x : Lambda-F ForClause Item Term BlockRow ForRow Lambda) → (lambda_lowered_layer x ≡ true → lambda_layer x ≡ true) → L (roll-Lambda x)
from_lambda x h e = lambda_is x ∙ h (sym (lambda_lowered_is x) ∙ e)

abbrev A_term : Type 0
A_term = Terms_with C I T K F L

abbrev An_item : Type 0
An_item = Items_with C I T K F L

abbrev A_clause : Type 0
A_clause = Clauses_with C I T K F L

abbrev A_lambda : Type 0
A_lambda = Lambdas_with C I T K F L

abbrev lowered_terms : List A_term → Bool
lowered_terms ys = all_ready (map is_lowered (map (λ y. y.0) ys))

abbrev coded_terms : List A_term → Bool
coded_terms ys = all_ready (map has_code (map (λ y. y.0) ys))

terms_are : (ys : List A_term) → lowered_terms ys ≡ true → coded_terms ys ≡ true
terms_are [] e = refl
terms_are (y ∷ ys) e =
    let p = both_true (is_lowered y.0) (lowered_terms ys) e in
    and_true (has_code y.0) (coded_terms ys) (y.1 p.0) (terms_are ys p.1)

items_are : (ys : List An_item) → all_ready (map is_item_lowered (map (λ y. y.0) ys)) ≡ true → all_ready (map item_has_code (map (λ y. y.0) ys)) ≡ true
items_are [] e = refl
items_are (y ∷ ys) e =
    let p = both_true (is_item_lowered y.0) (all_ready (map is_item_lowered (map (λ y. y.0) ys))) e in
    and_true (item_has_code y.0) (all_ready (map item_has_code (map (λ y. y.0) ys))) (y.1 p.0) (items_are ys p.1)

clauses_are : (ys : List A_clause) → all_ready (map clause_lowered_of (map (λ y. y.0) ys)) ≡ true → all_ready (map clause_has_code (map (λ y. y.0) ys)) ≡ true
clauses_are [] e = refl
clauses_are (y ∷ ys) e =
    let p = both_true (clause_lowered_of y.0) (all_ready (map clause_lowered_of (map (λ y. y.0) ys))) e in
    and_true (clause_has_code y.0) (all_ready (map clause_has_code (map (λ y. y.0) ys))) (y.1 p.0) (clauses_are ys p.1)

abbrev A_pair : Type 0
A_pair = A_term × A_term

abbrev lowered_pairs : List A_pair → Bool
lowered_pairs ys = all_ready (map (λ (b : Bool × Bool). b.0 && b.1) (map (λ (p : Term × Term). (is_lowered p.0, is_lowered p.1)) (map (λ (y : A_pair). (y.0.0, y.1.0)) ys)))

abbrev coded_pairs : List A_pair → Bool
coded_pairs ys = all_ready (map (λ (b : Bool × Bool). b.0 && b.1) (map (λ (p : Term × Term). (has_code p.0, has_code p.1)) (map (λ (y : A_pair). (y.0.0, y.1.0)) ys)))

both_are : (a b : A_term) → (is_lowered a.0 && is_lowered b.0) ≡ true → (has_code a.0 && has_code b.0) ≡ true
both_are a b e =
    let p = both_true (is_lowered a.0) (is_lowered b.0) e in
    and_true (has_code a.0) (has_code b.0) (a.1 p.0) (b.1 p.1)

pairs_are : (ys : List A_pair) → lowered_pairs ys ≡ true → coded_pairs ys ≡ true
pairs_are [] e = refl
pairs_are (y ∷ ys) e =
    let p = both_true (is_lowered y.0.0 && is_lowered y.1.0) (lowered_pairs ys) e in
    and_true (has_code y.0.0 && has_code y.1.0) (coded_pairs ys) (both_are y.0 y.1 p.0) (pairs_are ys p.1)

abbrev An_arm : Type 0
An_arm = List A_term × A_term

abbrev lowered_arms : List An_arm → Bool
lowered_arms ys = all_ready (map (λ (b : List Bool × Bool). all_ready b.0 && b.1) (map (λ (p : List Term × Term). (map is_lowered p.0, is_lowered p.1)) (map (λ (y : An_arm). (map (λ z. z.0) y.0, y.1.0)) ys)))

abbrev coded_arms : List An_arm → Bool
coded_arms ys = all_ready (map (λ (b : List Bool × Bool). all_ready b.0 && b.1) (map (λ (p : List Term × Term). (map has_code p.0, has_code p.1)) (map (λ (y : An_arm). (map (λ z. z.0) y.0, y.1.0)) ys)))

arms_are : (ys : List An_arm) → lowered_arms ys ≡ true → coded_arms ys ≡ true
arms_are [] e = refl
arms_are (y ∷ ys) e =
    let p = both_true (lowered_terms y.0 && is_lowered y.1.0) (lowered_arms ys) e in
    let q = both_true (lowered_terms y.0) (is_lowered y.1.0) p.0 in
    and_true (coded_terms y.0 && has_code y.1.0) (coded_arms ys) (and_true (coded_terms y.0) (has_code y.1.0) (terms_are y.0 q.0) (y.1.1 q.1)) (arms_are ys p.1)

abbrev lowered_held : Option A_term → Bool
lowered_held y = held_ready (option_map is_lowered (option_map (λ y. y.0) y))

abbrev coded_held : Option A_term → Bool
coded_held y = held_ready (option_map has_code (option_map (λ y. y.0) y))

held_is : (y : Option A_term) → lowered_held y ≡ true → coded_held y ≡ true
held_is None e = refl
held_is (Some y) e = y.1 e

abbrev lowered_second : {X : Type 0} → Option (X × A_term) → Bool
lowered_second {X} y = second_lowered {A = X} (option_map (λ (t : X × Term). (t.0, is_lowered t.1)) (option_map (λ (t : X × A_term). (t.0, t.1.0)) y))

abbrev coded_second : {X : Type 0} → Option (X × A_term) → Bool
coded_second {X} y = second_lowered {A = X} (option_map (λ (t : X × Term). (t.0, has_code t.1)) (option_map (λ (t : X × A_term). (t.0, t.1.0)) y))

second_is : {X : Type 0} (y : Option (X × A_term)) → lowered_second y ≡ true → coded_second y ≡ true
second_is None e = refl
second_is (Some y) e = y.1.1 e

select_is : (v : A_term) (t : Option A_term) (ys : List An_arm) (o : Option A_term) → (is_lowered v.0 && (lowered_held t && (lowered_arms ys && lowered_held o))) ≡ true
    → (has_code v.0 && (coded_held t && (coded_arms ys && coded_held o))) ≡ true
select_is v t ys o e =
    let p = both_true (is_lowered v.0) (lowered_held t && (lowered_arms ys && lowered_held o)) e in
    let q = both_true (lowered_held t) (lowered_arms ys && lowered_held o) p.1 in
    let r = both_true (lowered_arms ys) (lowered_held o) q.1 in
    and_true (has_code v.0) (coded_held t && (coded_arms ys && coded_held o)) (v.1 p.0)
    (and_true (coded_held t) (coded_arms ys && coded_held o) (held_is t q.0) (and_true (coded_arms ys) (coded_held o) (arms_are ys r.0) (held_is o r.1)))

term_has : (y : Term-F A_clause An_item A_term (Blocks_with C I T K F L) (Fors_with C I T K F L) A_lambda) → T (term_of C I T K F L y)
term_has (Term-F.Lit value) = from_term _ (λ e. refl)
term_has (Term-F.Local local) = from_term _ (λ e. refl)
term_has (Term-F.Global binding) = from_term _ (λ e. refl)
term_has (Term-F.ClassName class) = from_term _ (λ e. refl)
term_has (Term-F.GenericName generic) = from_term _ (λ e. refl)
term_has (Term-F.SetLocal local y) = from_term _ (λ e. y.1 e)
term_has (Term-F.SetGlobal binding y) = from_term _ (λ e. y.1 e)
term_has (Term-F.Call f ys) = from_term _ (λ e.
    let p = both_true (is_lowered f.0) (lowered_terms ys) e in
    and_true (has_code f.0) (coded_terms ys) (f.1 p.0) (terms_are ys p.1))
term_has (Term-F.Site generic ys) = from_term _ (λ e. terms_are ys e)
term_has (Term-F.Cond ys y) = from_term _ (λ e.
    let p = both_true (lowered_pairs ys) (is_lowered y.0) e in
    and_true (coded_pairs ys) (has_code y.0) (pairs_are ys p.0) (y.1 p.1))
term_has (Term-F.And a b) = from_term _ (λ e. both_are a b e)
term_has (Term-F.Or a b) = from_term _ (λ e. both_are a b e)
term_has (Term-F.Select v None ys None) = from_term _ (λ e. select_is v None ys None e)
term_has (Term-F.Select v None ys (Some o)) = from_term _ (λ e. select_is v None ys (Some o) e)
term_has (Term-F.Select v (Some t) ys None) = from_term _ (λ e. select_is v (Some t) ys None e)
term_has (Term-F.Select v (Some t) ys (Some o)) = from_term _ (λ e. select_is v (Some t) ys (Some o) e)
term_has (Term-F.Body ys) = from_term _ (λ e. items_are ys e)
term_has (Term-F.Loop a b) = from_term _ (λ e. both_are a b e)
term_has (Term-F.For y) = from_term _ (λ e. y.1 e)
term_has (Term-F.Method y) = from_term _ (λ e. y.1 e)
term_has (Term-F.Block y) = from_term _ (λ e. no e)
term_has (Term-F.Op operation ys) = from_term _ (λ e. terms_are ys e)
term_has (Term-F.Next None) = from_term _ (λ e. no e)
term_has (Term-F.Next (Some ys)) = from_term _ (λ e. no e)

abbrev lowered_methods : List (ℕ × A_lambda) → Bool
lowered_methods ys = all_ready (map (λ (m : ℕ × Bool). m.1) (map (λ (m : ℕ × Lambda). (m.0, is_lambda_lowered m.1)) (map (λ (m : ℕ × A_lambda). (m.0, m.1.0)) ys)))

abbrev coded_methods : List (ℕ × A_lambda) → Bool
coded_methods ys = all_ready (map (λ (m : ℕ × Bool). m.1) (map (λ (m : ℕ × Lambda). (m.0, lambda_has_code m.1)) (map (λ (m : ℕ × A_lambda). (m.0, m.1.0)) ys)))

methods_are : (ys : List (ℕ × A_lambda)) → lowered_methods ys ≡ true → coded_methods ys ≡ true
methods_are [] e = refl
methods_are (y ∷ ys) e =
    let p = both_true (is_lambda_lowered y.1.0) (lowered_methods ys) e in
    and_true (lambda_has_code y.1.0) (coded_methods ys) (y.1.1 p.0) (methods_are ys p.1)

item_has : (y : Item-F A_clause An_item A_term (Blocks_with C I T K F L) (Fors_with C I T K F L) A_lambda) → I (item_of C I T K F L y)
item_has (Item-F.Run y) = from_item _ (λ e. y.1 e)
item_has (Item-F.Let all rest y) = from_item _ (λ e. y.1 (both_true (are_distinct (with_rest (map (λ (local : ℕ × DyType). local.0) all) rest)) (is_lowered y.0) e).1)
item_has (Item-F.LetMethods methods) = from_item _ (λ e. methods_are methods e)
item_has (Item-F.Handler type y) = from_item _ (λ e. no e)

from_is : (start : A_term) (limit : Option (Limit × A_term)) (step : Option A_term) → (is_lowered start.0 && (lowered_second limit && lowered_held step)) ≡ true
    → (has_code start.0 && (coded_second limit && coded_held step)) ≡ true
from_is start limit step e =
    let p = both_true (is_lowered start.0) (lowered_second limit && lowered_held step) e in
    let q = both_true (lowered_second limit) (lowered_held step) p.1 in
    and_true (has_code start.0) (coded_second limit && coded_held step) (start.1 p.0) (and_true (coded_second limit) (coded_held step) (second_is limit q.0) (held_is step q.1))

clause_has : (y : ForClause-F A_clause An_item A_term (Blocks_with C I T K F L) (Fors_with C I T K F L) A_lambda) → C (clause_of C I T K F L y)
clause_has (ForClause-F.Then local type start next) = from_clause _ (λ e. both_are start next e)
clause_has (ForClause-F.In local type collection) = from_clause _ (λ e. no e)
clause_has (ForClause-F.From local type start None None) = from_clause _ (λ e. from_is start None None e)
clause_has (ForClause-F.From local type start None (Some step)) = from_clause _ (λ e. from_is start None (Some step) e)
clause_has (ForClause-F.From local type start (Some limit) None) = from_clause _ (λ e. from_is start (Some limit) None e)
clause_has (ForClause-F.From local type start (Some limit) (Some step)) = from_clause _ (λ e. from_is start (Some limit) (Some step) e)

abbrev lowered_clauses : List A_clause → Bool
lowered_clauses ys = all_ready (map clause_lowered_of (map (λ y. y.0) ys))

abbrev coded_clauses : List A_clause → Bool
coded_clauses ys = all_ready (map clause_has_code (map (λ y. y.0) ys))

row_is : (clauses : List A_clause) (test : Option (Bool × A_term)) (body : A_term) (finally : Option A_term)
    → (lowered_clauses clauses && (lowered_second test && (is_lowered body.0 && lowered_held finally))) ≡ true
    → (coded_clauses clauses && (coded_second test && (has_code body.0 && coded_held finally))) ≡ true
row_is clauses test body finally e =
    let p = both_true (lowered_clauses clauses) (lowered_second test && (is_lowered body.0 && lowered_held finally)) e in
    let q = both_true (lowered_second test) (is_lowered body.0 && lowered_held finally) p.1 in
    let r = both_true (is_lowered body.0) (lowered_held finally) q.1 in
    and_true (coded_clauses clauses) (coded_second test && (has_code body.0 && coded_held finally)) (clauses_are clauses p.0)
    (and_true (coded_second test) (has_code body.0 && coded_held finally) (second_is test q.0) (and_true (has_code body.0) (coded_held finally) (body.1 r.0) (held_is finally r.1)))

abbrev a_for : List A_clause → Option (Bool × A_term) → A_term → Option A_term → ForRow-F A_clause An_item A_term (Blocks_with C I T K F L) (Fors_with C I T K F L) A_lambda
a_for clauses test body finally = record { clauses = clauses; test = test; body = body; finally = finally }

for_has : (clauses : List A_clause) (test : Option (Bool × A_term)) (body : A_term) (finally : Option A_term) → F (for_of C I T K F L (a_for clauses test body finally))
for_has clauses None body None = from_for _ (λ e. row_is clauses None body None e)
for_has clauses None body (Some finally) = from_for _ (λ e. row_is clauses None body (Some finally) e)
for_has clauses (Some test) body None = from_for _ (λ e. row_is clauses (Some test) body None e)
for_has clauses (Some test) body (Some finally) = from_for _ (λ e. row_is clauses (Some test) body (Some finally) e)

keywords_none : (ks : List (DyType × A_term)) → is_empty {A = DyType × Bool} (map (λ (k : DyType × Term). (k.0, is_lowered k.1)) (map (λ (k : DyType × A_term). (k.0, k.1.0)) ks)) ≡ true
    → is_empty {A = DyType × Bool} (map (λ (k : DyType × Term). (k.0, has_code k.1)) (map (λ (k : DyType × A_term). (k.0, k.1.0)) ks)) ≡ true
keywords_none [] e = refl
keywords_none (k ∷ ks) e = no e

lambda_has : (y : Lambda-F A_clause An_item A_term (Blocks_with C I T K F L) (Fors_with C I T K F L) A_lambda) → L (lambda_of C I T K F L y)
lambda_has y = from_lambda _ (λ e.
    let keys = map (λ (k : DyType × A_term). (k.0, k.1.0)) y.keywords in
    let before = is_empty {A = DyType × Bool} (map (λ (k : DyType × Term). (k.0, is_lowered k.1)) keys) in
    let after = is_empty {A = DyType × Bool} (map (λ (k : DyType × Term). (k.0, has_code k.1)) keys) in
    let p = both_true (has_no_keywords y.params) (before && is_lowered y.body.0) e in
    let q = both_true before (is_lowered y.body.0) p.1 in
    and_true after (has_code y.body.0) (keywords_none y.keywords q.0) (y.body.1 q.1))

pub lowered_has : (term : Term) → T term
lowered_has = by_terms C I T K F L clause_has item_has term_has (λ y. tt) (λ y. for_has y.clauses y.test y.body y.finally) lambda_has

none_before : (ks : List (DyType × Term)) → is_empty {A = DyType × Bool} (map (λ (k : DyType × Term). (k.0, is_lowered k.1)) ks) ≡ true → is_empty ks ≡ true
none_before [] e = refl
none_before (k ∷ ks) e = no e

lambda_lowered_has : (lambda : Lambda) → L lambda
lambda_lowered_has lambda e =
    let row = out-Lambda lambda in
    let before = is_empty {A = DyType × Bool} (map (λ (k : DyType × Term). (k.0, is_lowered k.1)) row.keywords) in
    let same : is_lambda_lowered lambda ≡ lambda_lowered_layer row = ap is_lambda_lowered (sym (roll-out-Lambda lambda)) ∙ lambda_lowered_is row in
    let p = both_true (has_no_keywords row.params) (before && is_lowered row.body) (sym same ∙ e) in
    let q = both_true before (is_lowered row.body) p.1 in
    kind_lambda lambda ∙ and_true (is_empty row.keywords) (has_code row.body) (none_before row.keywords q.0) (lowered_has row.body q.1)

-- rows
code_has : (code : MethodCode) → is_code_lowered code ≡ true → method_has_code code ≡ true
code_has (Dylan lambda) e = lambda_lowered_has lambda e
code_has _ e = refl

function_has : (function : Option Lambda) → is_function_lowered function ≡ true → function_has_code function ≡ true
function_has None e = refl
function_has (Some lambda) e = lambda_lowered_has lambda e

top_has : (top : TopTerm) → is_top_lowered top ≡ true → top_has_code top ≡ true
top_has (tops.Init bindings term) e = lowered_has term e
top_has (tops.Run term) e = lowered_has term e

all_pass : {X : Type 0} (test other : X → Bool) (xs : List X) → list_all test xs ≡ true → ((x : X) → test x ≡ true → other x ≡ true) → list_all other xs ≡ true
all_pass test other [] e each = refl
all_pass test other (x ∷ xs) e each =
    let p = both_true (test x) (list_all test xs) e in
    and_true (other x) (list_all other xs) (each x p.0) (all_pass test other xs p.1 each)

no_slots : (slots : List SlotRow) → is_empty slots ≡ true → list_all (λ (slot : SlotRow). init_has_code slot.init) slots ≡ true
no_slots [] e = refl
no_slots (slot ∷ slots) e = no e

abbrev method_lowered : MethodRow → Bool
method_lowered method = is_code_lowered method.code

abbrev variable_lowered : VariableRow → Bool
variable_lowered variable = is_function_lowered variable.function

abbrev method_coded : MethodRow → Bool
method_coded method = method_has_code method.code

abbrev variable_coded : VariableRow → Bool
variable_coded variable = function_has_code variable.function

pub library_has : (library : LibraryRow) → is_library_lowered library ≡ true → library_has_code library ≡ true
library_has library e =
    let tops = list_all is_top_lowered library.tops in
    let variables = list_all variable_lowered library.variables in
    let methods = list_all method_lowered library.methods in
    let generics = list_all generic_ready library.generics in
    let a = both_true (list_all has_no_slots library.classes) (generics && (methods && (variables && tops))) e in
    let b = both_true generics (methods && (variables && tops)) a.1 in
    let c = both_true methods (variables && tops) b.1 in
    let d = both_true variables tops c.1 in
    let tops_now = list_all top_has_code library.tops in
    let variables_now = list_all variable_coded library.variables in
    let methods_now = list_all method_coded library.methods in
    and_true (list_all class_has_code library.classes) (methods_now && (variables_now && tops_now))
    (all_pass has_no_slots class_has_code library.classes a.0 (λ class. no_slots class.slots))
    (and_true methods_now (variables_now && tops_now) (all_pass method_lowered method_coded library.methods c.0 (λ method. code_has method.code))
    (and_true variables_now tops_now (all_pass variable_lowered variable_coded library.variables d.0 (λ variable. function_has variable.function))
    (all_pass is_top_lowered top_has_code library.tops d.1 top_has)))

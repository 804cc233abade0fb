-- The lambdas inside of a term that is in scope: each has a body in scope, and those inside of it
-- follow it.
use Rattle.std.proofs.Common.{◌≡◌, ℕ, ◌+◌, ◌≤◌, Bool, true, ◌&&◌, List, [], ◌∷◌, ◌++◌, map, Option, Some, None, sym, ap, ◌∙◌, subst, append_assoc, append-nil, arith}
use Rattle.std.specs.Prelude.{flat_map, nat_lt, nat_le}
use Rattle.std.specs.Option.{option_map}
use Rattle.dy_term.specs.declared.types.DyType.{DyType}
use Rattle.dy_term.specs.declared.term.Limit.{Limit}
use Rattle.dy_term.specs.declared.term.ForClause.{ForClause, ForClause-F, roll-ForClause, map-ForClause, fold-roll-ForClause, para-roll-ForClause}
use Rattle.dy_term.specs.declared.term.Item.{Item, Item-F, roll-Item, map-Item, fold-roll-Item, para-roll-Item}
use Rattle.dy_term.specs.declared.term.Term.{Term, Term-F, roll-Term, map-Term, fold-roll-Term, para-roll-Term}
use Rattle.dy_term.specs.declared.term.BlockRow.{BlockRow, BlockRow-F, roll-BlockRow, map-BlockRow, fold-roll-BlockRow, para-roll-BlockRow}
use Rattle.dy_term.specs.declared.term.ForRow.{ForRow, ForRow-F, roll-ForRow, map-ForRow, fold-roll-ForRow, para-roll-ForRow}
use Rattle.dy_term.specs.declared.term.Lambda.{Lambda, Lambda-F, out-Lambda, roll-Lambda, out-roll-Lambda, roll-out-Lambda, map-Lambda, fold-roll-Lambda, para-roll-Lambda}
use Rattle.dy_code.specs.Fetching.{locals_of}
use Rattle.dy_meaning.specs.Lambdas.{Inside, of_all, of_held, of_pairs, of_arms, of_second, of_given, itself_and, clause_lambdas, item_lambdas, term_lambdas, block_lambdas, for_lambdas, lambda_lambdas, lambdas_in_clause, lambdas_in_item, lambdas_in, lambdas_in_block, lambdas_in_for, lambdas_within}
use Rattle.dy_meaning.proofs.Induction.{by_terms, Clauses_with, Items_with, Terms_with, Blocks_with, Fors_with, Lambdas_with, clause_of, item_of, term_of, block_of, for_of, lambda_of}
use Rattle.dy_lowered.specs.Readiness.{is_own, is_set, with_rest}
use Rattle.dy_lowering_whole.specs.valid.Scoped.{Scoping, all_scoped, held_scoped, second_scoped, given_scoped, pairs_scoped, arms_scoped, typed_scoped, clauses_scoped, methods_scoped, are_own, clause_scoped, item_scoped, term_scoped, block_scoped, for_scoped, lambda_scoped, is_clause_scoped, is_item_scoped, is_scoped, is_block_scoped, is_for_scoped, is_lambda_scoped}
use Rattle.dy_lowering_whole.proofs.valid.Evenness.{beside}
use Rattle.dy_lowering_whole.proofs.valid.Sameness.{both_true}

le_of : (n m : ℕ) → nat_le n m ≡ true → n ≤ m
le_of n m e = grind (arith, e)

-- a layer of a lambda: its body has room for the arguments, and is in scope
pub record IsBodyScoped (row : Lambda-F ForClause Item Term BlockRow ForRow Lambda) : Type 0 where
  pub room : row.first + locals_of row.params ≤ row.locals
  pub body : is_scoped row.body row.first row.locals ≡ true

-- a list that begins with another one
pub record Begins (front all : List Lambda) : Type 0 where
  pub rest : List Lambda
  pub same : all ≡ front ++ rest

abbrev pub AreGood : List Lambda → Type 0
AreGood [] = Unit {0}
AreGood (lambda ∷ lambdas) = IsBodyScoped (out-Lambda lambda) × Begins (lambdas_within lambda) lambdas × AreGood lambdas

pub good_join : (xs ys : List Lambda) → AreGood xs → AreGood ys → AreGood (xs ++ ys)
good_join [] ys a b = b
good_join (x ∷ xs) ys a b =
    let begins = a.1 in
    (a.0, record { rest = begins.rest ++ ys; same = ap (λ (zs : List Lambda). zs ++ ys) begins.same ∙ append_assoc (lambdas_within x) begins.rest ys }, good_join xs ys a.2 b)

-- the lambdas of a layer, and whether it is in scope
abbrev pub clause_held : ForClause-F ForClause Item Term BlockRow ForRow Lambda → List Lambda
clause_held x = clause_lambdas (map-ForClause _ _ _ _ _ _ _ _ _ _ _ _ (beside lambdas_in_clause) (beside lambdas_in_item) (beside lambdas_in) (beside lambdas_in_block) (beside lambdas_in_for) (beside lambdas_within) x)

abbrev pub item_held : Item-F ForClause Item Term BlockRow ForRow Lambda → List Lambda
item_held x = item_lambdas (map-Item _ _ _ _ _ _ _ _ _ _ _ _ (beside lambdas_in_clause) (beside lambdas_in_item) (beside lambdas_in) (beside lambdas_in_block) (beside lambdas_in_for) (beside lambdas_within) x)

abbrev pub term_held : Term-F ForClause Item Term BlockRow ForRow Lambda → List Lambda
term_held x = term_lambdas (map-Term _ _ _ _ _ _ _ _ _ _ _ _ (beside lambdas_in_clause) (beside lambdas_in_item) (beside lambdas_in) (beside lambdas_in_block) (beside lambdas_in_for) (beside lambdas_within) x)

abbrev block_held : BlockRow-F ForClause Item Term BlockRow ForRow Lambda → List Lambda
block_held x = block_lambdas (map-BlockRow _ _ _ _ _ _ _ _ _ _ _ _ (beside lambdas_in_clause) (beside lambdas_in_item) (beside lambdas_in) (beside lambdas_in_block) (beside lambdas_in_for) (beside lambdas_within) x)

abbrev pub for_held : ForRow-F ForClause Item Term BlockRow ForRow Lambda → List Lambda
for_held x = for_lambdas (map-ForRow _ _ _ _ _ _ _ _ _ _ _ _ (beside lambdas_in_clause) (beside lambdas_in_item) (beside lambdas_in) (beside lambdas_in_block) (beside lambdas_in_for) (beside lambdas_within) x)

abbrev lambda_held : Lambda-F ForClause Item Term BlockRow ForRow Lambda → List Lambda
lambda_held x = lambda_lambdas (map-Lambda _ _ _ _ _ _ _ _ _ _ _ _ (beside lambdas_in_clause) (beside lambdas_in_item) (beside lambdas_in) (beside lambdas_in_block) (beside lambdas_in_for) (beside lambdas_within) x)

pub clause_held_is : (x : ForClause-F ForClause Item Term BlockRow ForRow Lambda) → lambdas_in_clause (roll-ForClause x) ≡ clause_held x
clause_held_is = para-roll-ForClause _ _ _ _ _ _ _ _ _ _ _ _

pub item_held_is : (x : Item-F ForClause Item Term BlockRow ForRow Lambda) → lambdas_in_item (roll-Item x) ≡ item_held x
item_held_is = para-roll-Item _ _ _ _ _ _ _ _ _ _ _ _

pub term_held_is : (x : Term-F ForClause Item Term BlockRow ForRow Lambda) → lambdas_in (roll-Term x) ≡ term_held x
term_held_is = para-roll-Term _ _ _ _ _ _ _ _ _ _ _ _

block_held_is : (x : BlockRow-F ForClause Item Term BlockRow ForRow Lambda) → lambdas_in_block (roll-BlockRow x) ≡ block_held x
block_held_is = para-roll-BlockRow _ _ _ _ _ _ _ _ _ _ _ _

pub for_held_is : (x : ForRow-F ForClause Item Term BlockRow ForRow Lambda) → lambdas_in_for (roll-ForRow x) ≡ for_held x
for_held_is = para-roll-ForRow _ _ _ _ _ _ _ _ _ _ _ _

pub lambda_held_is : (x : Lambda-F ForClause Item Term BlockRow ForRow Lambda) → lambdas_within (roll-Lambda x) ≡ lambda_held x
lambda_held_is = para-roll-Lambda _ _ _ _ _ _ _ _ _ _ _ _

abbrev pub clause_scope : ForClause-F ForClause Item Term BlockRow ForRow Lambda → Scoping
clause_scope x = clause_scoped (map-ForClause _ _ _ _ _ _ _ _ _ _ _ _ is_clause_scoped is_item_scoped is_scoped is_block_scoped is_for_scoped is_lambda_scoped x)

abbrev pub item_scope : Item-F ForClause Item Term BlockRow ForRow Lambda → Scoping
item_scope x = item_scoped (map-Item _ _ _ _ _ _ _ _ _ _ _ _ is_clause_scoped is_item_scoped is_scoped is_block_scoped is_for_scoped is_lambda_scoped x)

abbrev pub term_scope : Term-F ForClause Item Term BlockRow ForRow Lambda → Scoping
term_scope x = term_scoped (map-Term _ _ _ _ _ _ _ _ _ _ _ _ is_clause_scoped is_item_scoped is_scoped is_block_scoped is_for_scoped is_lambda_scoped x)

abbrev block_scope : BlockRow-F ForClause Item Term BlockRow ForRow Lambda → Scoping
block_scope x = block_scoped (map-BlockRow _ _ _ _ _ _ _ _ _ _ _ _ is_clause_scoped is_item_scoped is_scoped is_block_scoped is_for_scoped is_lambda_scoped x)

abbrev pub for_scope : ForRow-F ForClause Item Term BlockRow ForRow Lambda → Scoping
for_scope x = for_scoped (map-ForRow _ _ _ _ _ _ _ _ _ _ _ _ is_clause_scoped is_item_scoped is_scoped is_block_scoped is_for_scoped is_lambda_scoped x)

abbrev pub lambda_scope : Lambda-F ForClause Item Term BlockRow ForRow Lambda → Scoping
lambda_scope x = lambda_scoped (map-Lambda _ _ _ _ _ _ _ _ _ _ _ _ is_clause_scoped is_item_scoped is_scoped is_block_scoped is_for_scoped is_lambda_scoped x)

pub clause_scope_is : (x : ForClause-F ForClause Item Term BlockRow ForRow Lambda) → is_clause_scoped (roll-ForClause x) ≡ clause_scope x
clause_scope_is = fold-roll-ForClause _ _ _ _ _ _ _ _ _ _ _ _

pub item_scope_is : (x : Item-F ForClause Item Term BlockRow ForRow Lambda) → is_item_scoped (roll-Item x) ≡ item_scope x
item_scope_is = fold-roll-Item _ _ _ _ _ _ _ _ _ _ _ _

pub term_scope_is : (x : Term-F ForClause Item Term BlockRow ForRow Lambda) → is_scoped (roll-Term x) ≡ term_scope x
term_scope_is = fold-roll-Term _ _ _ _ _ _ _ _ _ _ _ _

block_scope_is : (x : BlockRow-F ForClause Item Term BlockRow ForRow Lambda) → is_block_scoped (roll-BlockRow x) ≡ block_scope x
block_scope_is = fold-roll-BlockRow _ _ _ _ _ _ _ _ _ _ _ _

pub for_scope_is : (x : ForRow-F ForClause Item Term BlockRow ForRow Lambda) → is_for_scoped (roll-ForRow x) ≡ for_scope x
for_scope_is = fold-roll-ForRow _ _ _ _ _ _ _ _ _ _ _ _

pub lambda_scope_is : (x : Lambda-F ForClause Item Term BlockRow ForRow Lambda) → is_lambda_scoped (roll-Lambda x) ≡ lambda_scope x
lambda_scope_is = fold-roll-Lambda _ _ _ _ _ _ _ _ _ _ _ _

-- a test of a layer, from that of the whole
pub at_layer : (a b : Scoping) (first last : ℕ) → a ≡ b → a first last ≡ true → b first last ≡ true
at_layer a b first last e h = ap (λ (s : Scoping). s first last) (sym e) ∙ h

abbrev C : ForClause → Type 0
C x = (first last : ℕ) → is_clause_scoped x first last ≡ true → AreGood (lambdas_in_clause x)

abbrev I : Item → Type 0
I x = (first last : ℕ) → is_item_scoped x first last ≡ true → AreGood (lambdas_in_item x)

abbrev T : Term → Type 0
T x = (first last : ℕ) → is_scoped x first last ≡ true → AreGood (lambdas_in x)

abbrev K : BlockRow → Type 0
K x = (first last : ℕ) → is_block_scoped x first last ≡ true → AreGood (lambdas_in_block x)

abbrev F : ForRow → Type 0
F x = (first last : ℕ) → is_for_scoped x first last ≡ true → AreGood (lambdas_in_for x)

abbrev L : Lambda → Type 0
L x = (first last : ℕ) → is_lambda_scoped x first last ≡ true → AreGood (lambdas_within x) × IsBodyScoped (out-Lambda x)

good_clause : (x : ForClause-F ForClause Item Term BlockRow ForRow Lambda) → ((first last : ℕ) → clause_scope x first last ≡ true → AreGood (clause_held x)) → C (roll-ForClause x)
good_clause x h first last e = subst AreGood (sym (clause_held_is x)) (h first last (at_layer (is_clause_scoped (roll-ForClause x)) (clause_scope x) first last (clause_scope_is x) e))

good_item : (x : Item-F ForClause Item Term BlockRow ForRow Lambda) → ((first last : ℕ) → item_scope x first last ≡ true → AreGood (item_held x)) → I (roll-Item x)
good_item x h first last e = subst AreGood (sym (item_held_is x)) (h first last (at_layer (is_item_scoped (roll-Item x)) (item_scope x) first last (item_scope_is x) e))

good_term : (x : Term-F ForClause Item Term BlockRow ForRow Lambda) → ((first last : ℕ) → term_scope x first last ≡ true → AreGood (term_held x)) → T (roll-Term x)
good_term x h first last e = subst AreGood (sym (term_held_is x)) (h first last (at_layer (is_scoped (roll-Term x)) (term_scope x) first last (term_scope_is x) e))

good_block : (x : BlockRow-F ForClause Item Term BlockRow ForRow Lambda) → ((first last : ℕ) → block_scope x first last ≡ true → AreGood (block_held x)) → K (roll-BlockRow x)
good_block x h first last e = subst AreGood (sym (block_held_is x)) (h first last (at_layer (is_block_scoped (roll-BlockRow x)) (block_scope x) first last (block_scope_is x) e))

good_for : (x : ForRow-F ForClause Item Term BlockRow ForRow Lambda) → ((first last : ℕ) → for_scope x first last ≡ true → AreGood (for_held x)) → F (roll-ForRow x)
good_for x h first last e = subst AreGood (sym (for_held_is x)) (h first last (at_layer (is_for_scoped (roll-ForRow x)) (for_scope x) first last (for_scope_is x) e))

abbrev A_term : Type 0
A_term = Terms_with C I T K F L

abbrev An_item : Type 0
An_item = Items_with C I T K F L

abbrev A_clause : Type 0
A_clause = Clauses_with C I T K F L

abbrev A_lambda : Type 0
A_lambda = Lambdas_with C I T K F L

abbrev A_block : Type 0
A_block = Blocks_with C I T K F L

abbrev A_for : Type 0
A_for = Fors_with C I T K F L

abbrev held_terms : List A_term → List (Inside Term)
held_terms ys = map (beside lambdas_in) (map (λ y. y.0) ys)

abbrev scoped_terms : List A_term → List Scoping
scoped_terms ys = map is_scoped (map (λ y. y.0) ys)

module _ (first last : ℕ) where
  terms_good : (ys : List A_term) → all_scoped (scoped_terms ys) first last ≡ true → AreGood (of_all (held_terms ys))
  terms_good [] e = tt
  terms_good (y ∷ ys) e =
      let p = both_true (is_scoped y.0 first last) (all_scoped (scoped_terms ys) first last) e in
      good_join (lambdas_in y.0) (of_all (held_terms ys)) (y.1 first last p.0) (terms_good ys p.1)

  items_good : (ys : List An_item) → all_scoped (map is_item_scoped (map (λ y. y.0) ys)) first last ≡ true → AreGood (of_all (map (beside lambdas_in_item) (map (λ y. y.0) ys)))
  items_good [] e = tt
  items_good (y ∷ ys) e =
      let p = both_true (is_item_scoped y.0 first last) (all_scoped (map is_item_scoped (map (λ y. y.0) ys)) first last) e in
      good_join (lambdas_in_item y.0) (of_all (map (beside lambdas_in_item) (map (λ y. y.0) ys))) (y.1 first last p.0) (items_good ys p.1)

  clauses_good : (ys : List A_clause) → all_scoped (map is_clause_scoped (map (λ y. y.0) ys)) first last ≡ true → AreGood (of_all (map (beside lambdas_in_clause) (map (λ y. y.0) ys)))
  clauses_good [] e = tt
  clauses_good (y ∷ ys) e =
      let p = both_true (is_clause_scoped y.0 first last) (all_scoped (map is_clause_scoped (map (λ y. y.0) ys)) first last) e in
      good_join (lambdas_in_clause y.0) (of_all (map (beside lambdas_in_clause) (map (λ y. y.0) ys))) (y.1 first last p.0) (clauses_good ys p.1)

abbrev A_pair : Type 0
A_pair = A_term × A_term

abbrev held_pairs : List A_pair → List (Inside Term × Inside Term)
held_pairs ys = map (λ (p : Term × Term). (beside lambdas_in p.0, beside lambdas_in p.1)) (map (λ (y : A_pair). (y.0.0, y.1.0)) ys)

abbrev scoped_pairs : List A_pair → List (Scoping × Scoping)
scoped_pairs ys = map (λ (p : Term × Term). (is_scoped p.0, is_scoped p.1)) (map (λ (y : A_pair). (y.0.0, y.1.0)) ys)

abbrev An_arm : Type 0
An_arm = List A_term × A_term

abbrev held_arms : List An_arm → List (List (Inside Term) × Inside Term)
held_arms ys = map (λ (p : List Term × Term). (map (beside lambdas_in) p.0, beside lambdas_in p.1)) (map (λ (y : An_arm). (map (λ z. z.0) y.0, y.1.0)) ys)

abbrev scoped_arms : List An_arm → List (List Scoping × Scoping)
scoped_arms ys = map (λ (p : List Term × Term). (map is_scoped p.0, is_scoped p.1)) (map (λ (y : An_arm). (map (λ z. z.0) y.0, y.1.0)) ys)

abbrev held_held : Option A_term → Option (Inside Term)
held_held y = option_map (beside lambdas_in) (option_map (λ y. y.0) y)

abbrev scoped_held : Option A_term → Option Scoping
scoped_held y = option_map is_scoped (option_map (λ y. y.0) y)

abbrev A_limit : Type 0
A_limit = Limit × A_term

abbrev held_limit : Option A_limit → Option (Limit × Inside Term)
held_limit y = option_map (λ (p : Limit × Term). (p.0, beside lambdas_in p.1)) (option_map (λ (p : A_limit). (p.0, p.1.0)) y)

abbrev scoped_limit : Option A_limit → Option (Limit × Scoping)
scoped_limit y = option_map (λ (p : Limit × Term). (p.0, is_scoped p.1)) (option_map (λ (p : A_limit). (p.0, p.1.0)) y)

abbrev A_test : Type 0
A_test = Bool × A_term

abbrev held_test : Option A_test → Option (Bool × Inside Term)
held_test y = option_map (λ (p : Bool × Term). (p.0, beside lambdas_in p.1)) (option_map (λ (p : A_test). (p.0, p.1.0)) y)

abbrev scoped_test : Option A_test → Option (Bool × Scoping)
scoped_test y = option_map (λ (p : Bool × Term). (p.0, is_scoped p.1)) (option_map (λ (p : A_test). (p.0, p.1.0)) y)

abbrev A_method : Type 0
A_method = ℕ × A_lambda

abbrev held_methods : List A_method → List (ℕ × Inside Lambda)
held_methods ys = map (λ (m : ℕ × Lambda). (m.0, beside lambdas_within m.1)) (map (λ (y : A_method). (y.0, y.1.0)) ys)

abbrev scoped_methods : List A_method → List (ℕ × Scoping)
scoped_methods ys = map (λ (m : ℕ × Lambda). (m.0, is_lambda_scoped m.1)) (map (λ (y : A_method). (y.0, y.1.0)) ys)

abbrev of_methods : List (ℕ × Inside Lambda) → List Lambda
of_methods methods = flat_map (λ (method : ℕ × Inside Lambda). itself_and method.1) methods

abbrev A_catch : Type 0
A_catch = Option ℕ × DyType × A_term

abbrev held_catches : List A_catch → List (Option ℕ × DyType × Inside Term)
held_catches ys = map (λ (c : Option ℕ × DyType × Term). (c.0, c.1, beside lambdas_in c.2)) (map (λ (y : A_catch). (y.0, y.1, y.2.0)) ys)

abbrev scoped_catches : List A_catch → List (Option ℕ × DyType × Scoping)
scoped_catches ys = map (λ (c : Option ℕ × DyType × Term). (c.0, c.1, is_scoped c.2)) (map (λ (y : A_catch). (y.0, y.1, y.2.0)) ys)

abbrev of_catches : List (Option ℕ × DyType × Inside Term) → List Lambda
of_catches clauses = flat_map (λ (clause : Option ℕ × DyType × Inside Term). clause.2.1) clauses

abbrev A_keyword : Type 0
A_keyword = DyType × A_term

abbrev held_keywords : List A_keyword → List (DyType × Inside Term)
held_keywords ys = map (λ (k : DyType × Term). (k.0, beside lambdas_in k.1)) (map (λ (y : A_keyword). (y.0, y.1.0)) ys)

abbrev scoped_keywords : List A_keyword → List (DyType × Scoping)
scoped_keywords ys = map (λ (k : DyType × Term). (k.0, is_scoped k.1)) (map (λ (y : A_keyword). (y.0, y.1.0)) ys)

abbrev of_keywords : List (DyType × Inside Term) → List Lambda
of_keywords keywords = flat_map (λ (keyword : DyType × Inside Term). keyword.1.1) keywords

abbrev held_given : Option (List A_term) → Option (List (Inside Term))
held_given y = option_map (map (beside lambdas_in)) (option_map (map (λ z. z.0)) y)

abbrev scoped_given : Option (List A_term) → Option (List Scoping)
scoped_given y = option_map (map is_scoped) (option_map (map (λ z. z.0)) y)

module _ (first last : ℕ) where
  pairs_good : (ys : List A_pair) → pairs_scoped (scoped_pairs ys) first last ≡ true → AreGood (of_pairs (held_pairs ys))
  pairs_good [] e = tt
  pairs_good (y ∷ ys) e =
      let p = both_true (is_scoped y.0.0 first last && is_scoped y.1.0 first last) (pairs_scoped (scoped_pairs ys) first last) e in
      let q = both_true (is_scoped y.0.0 first last) (is_scoped y.1.0 first last) p.0 in
      good_join (lambdas_in y.0.0 ++ lambdas_in y.1.0) (of_pairs (held_pairs ys)) (good_join (lambdas_in y.0.0) (lambdas_in y.1.0) (y.0.1 first last q.0) (y.1.1 first last q.1)) (pairs_good ys p.1)

  arms_good : (ys : List An_arm) → arms_scoped (scoped_arms ys) first last ≡ true → AreGood (of_arms (held_arms ys))
  arms_good [] e = tt
  arms_good (y ∷ ys) e =
      let values = all_scoped (scoped_terms y.0) first last in
      let p = both_true (values && is_scoped y.1.0 first last) (arms_scoped (scoped_arms ys) first last) e in
      let q = both_true values (is_scoped y.1.0 first last) p.0 in
      good_join (of_all (held_terms y.0) ++ lambdas_in y.1.0) (of_arms (held_arms ys)) (good_join (of_all (held_terms y.0)) (lambdas_in y.1.0) (terms_good first last y.0 q.0) (y.1.1 first last q.1)) (arms_good ys p.1)

  held_good : (y : Option A_term) → held_scoped (scoped_held y) first last ≡ true → AreGood (of_held (held_held y))
  held_good None e = tt
  held_good (Some y) e = y.1 first last e

  limit_good : (y : Option A_limit) → second_scoped (scoped_limit y) first last ≡ true → AreGood (of_second (held_limit y))
  limit_good None e = tt
  limit_good (Some y) e = y.1.1 first last e

  test_good : (y : Option A_test) → second_scoped (scoped_test y) first last ≡ true → AreGood (of_second (held_test y))
  test_good None e = tt
  test_good (Some y) e = y.1.1 first last e

  given_good : (y : Option (List A_term)) → given_scoped (scoped_given y) first last ≡ true → AreGood (of_given (held_given y))
  given_good None e = tt
  given_good (Some ys) e = terms_good first last ys e

  lambda_good : (y : A_lambda) → is_lambda_scoped y.0 first last ≡ true → AreGood (y.0 ∷ lambdas_within y.0)
  lambda_good y e =
      let h = y.1 first last e in
      (h.1, record { rest = []; same = sym (append-nil (lambdas_within y.0)) }, h.0)

  methods_good : (ys : List A_method) → methods_scoped (scoped_methods ys) first last ≡ true → AreGood (of_methods (held_methods ys))
  methods_good [] e = tt
  methods_good (y ∷ ys) e =
      let p = both_true (is_own first last y.0 && is_lambda_scoped y.1.0 first last) (methods_scoped (scoped_methods ys) first last) e in
      let q = both_true (is_own first last y.0) (is_lambda_scoped y.1.0 first last) p.0 in
      good_join (y.1.0 ∷ lambdas_within y.1.0) (of_methods (held_methods ys)) (lambda_good y.1 q.1) (methods_good ys p.1)

  catches_good : (ys : List A_catch) → clauses_scoped (scoped_catches ys) first last ≡ true → AreGood (of_catches (held_catches ys))
  catches_good [] e = tt
  catches_good (y ∷ ys) e =
      let p = both_true (is_scoped y.2.0 first last) (clauses_scoped (scoped_catches ys) first last) e in
      good_join (lambdas_in y.2.0) (of_catches (held_catches ys)) (y.2.1 first last p.0) (catches_good ys p.1)

  keywords_good : (ys : List A_keyword) → typed_scoped (scoped_keywords ys) first last ≡ true → AreGood (of_keywords (held_keywords ys))
  keywords_good [] e = tt
  keywords_good (y ∷ ys) e =
      let p = both_true (is_scoped y.1.0 first last) (typed_scoped (scoped_keywords ys) first last) e in
      good_join (lambdas_in y.1.0) (of_keywords (held_keywords ys)) (y.1.1 first last p.0) (keywords_good ys p.1)

  select_good : (v : A_term) (t : Option A_term) (ys : List An_arm) (o : Option A_term)
      → (is_scoped v.0 first last && (held_scoped (scoped_held t) first last && (arms_scoped (scoped_arms ys) first last && held_scoped (scoped_held o) first last))) ≡ true
      → AreGood (lambdas_in v.0 ++ of_held (held_held t) ++ of_arms (held_arms ys) ++ of_held (held_held o))
  select_good v t ys o e =
      let p = both_true (is_scoped v.0 first last) (held_scoped (scoped_held t) first last && (arms_scoped (scoped_arms ys) first last && held_scoped (scoped_held o) first last)) e in
      let q = both_true (held_scoped (scoped_held t) first last) (arms_scoped (scoped_arms ys) first last && held_scoped (scoped_held o) first last) p.1 in
      let r = both_true (arms_scoped (scoped_arms ys) first last) (held_scoped (scoped_held o) first last) q.1 in
      good_join (lambdas_in v.0 ++ of_held (held_held t) ++ of_arms (held_arms ys)) (of_held (held_held o))
      (good_join (lambdas_in v.0 ++ of_held (held_held t)) (of_arms (held_arms ys)) (good_join (lambdas_in v.0) (of_held (held_held t)) (v.1 first last p.0) (held_good t q.0)) (arms_good ys r.0)) (held_good o r.1)

  counts_good : (local : ℕ) (s : A_term) (y : Option A_limit) (t : Option A_term)
      → (is_own first last local && (is_scoped s.0 first last && (second_scoped (scoped_limit y) first last && held_scoped (scoped_held t) first last))) ≡ true
      → AreGood (lambdas_in s.0 ++ of_second (held_limit y) ++ of_held (held_held t))
  counts_good local s y t e =
      let p = both_true (is_own first last local) (is_scoped s.0 first last && (second_scoped (scoped_limit y) first last && held_scoped (scoped_held t) first last)) e in
      let q = both_true (is_scoped s.0 first last) (second_scoped (scoped_limit y) first last && held_scoped (scoped_held t) first last) p.1 in
      let r = both_true (second_scoped (scoped_limit y) first last) (held_scoped (scoped_held t) first last) q.1 in
      good_join (lambdas_in s.0 ++ of_second (held_limit y)) (of_held (held_held t)) (good_join (lambdas_in s.0) (of_second (held_limit y)) (s.1 first last q.0) (limit_good y r.0)) (held_good t r.1)

  block_good : (b : A_term) (a c : Option A_term) (ys : List A_catch)
      → (is_scoped b.0 first last && (held_scoped (scoped_held a) first last && (held_scoped (scoped_held c) first last && clauses_scoped (scoped_catches ys) first last))) ≡ true
      → AreGood (lambdas_in b.0 ++ of_held (held_held a) ++ of_held (held_held c) ++ of_catches (held_catches ys))
  block_good b a c ys e =
      let p = both_true (is_scoped b.0 first last) (held_scoped (scoped_held a) first last && (held_scoped (scoped_held c) first last && clauses_scoped (scoped_catches ys) first last)) e in
      let q = both_true (held_scoped (scoped_held a) first last) (held_scoped (scoped_held c) first last && clauses_scoped (scoped_catches ys) first last) p.1 in
      let r = both_true (held_scoped (scoped_held c) first last) (clauses_scoped (scoped_catches ys) first last) q.1 in
      good_join (lambdas_in b.0 ++ of_held (held_held a) ++ of_held (held_held c)) (of_catches (held_catches ys))
      (good_join (lambdas_in b.0 ++ of_held (held_held a)) (of_held (held_held c)) (good_join (lambdas_in b.0) (of_held (held_held a)) (b.1 first last p.0) (held_good a q.0)) (held_good c r.0)) (catches_good ys r.1)

  abbrev held_clauses : List A_clause → List (Inside ForClause)
  held_clauses ys = map (beside lambdas_in_clause) (map (λ y. y.0) ys)

  abbrev scoped_clauses : List A_clause → List Scoping
  scoped_clauses ys = map is_clause_scoped (map (λ y. y.0) ys)

  turns_good : (cs : List A_clause) (t : Option A_test) (b : A_term) (f : Option A_term)
      → (all_scoped (scoped_clauses cs) first last && (second_scoped (scoped_test t) first last && (is_scoped b.0 first last && held_scoped (scoped_held f) first last))) ≡ true
      → AreGood (of_all (held_clauses cs) ++ of_second (held_test t) ++ lambdas_in b.0 ++ of_held (held_held f))
  turns_good cs t b f e =
      let p = both_true (all_scoped (scoped_clauses cs) first last) (second_scoped (scoped_test t) first last && (is_scoped b.0 first last && held_scoped (scoped_held f) first last)) e in
      let q = both_true (second_scoped (scoped_test t) first last) (is_scoped b.0 first last && held_scoped (scoped_held f) first last) p.1 in
      let r = both_true (is_scoped b.0 first last) (held_scoped (scoped_held f) first last) q.1 in
      good_join (of_all (held_clauses cs) ++ of_second (held_test t) ++ lambdas_in b.0) (of_held (held_held f))
      (good_join (of_all (held_clauses cs) ++ of_second (held_test t)) (lambdas_in b.0) (good_join (of_all (held_clauses cs)) (of_second (held_test t)) (clauses_good first last cs p.0) (test_good t q.0)) (b.1 first last r.0)) (held_good f r.1)

clause_goods : (y : ForClause-F A_clause An_item A_term A_block A_for A_lambda) → C (clause_of C I T K F L y)
clause_goods (ForClause-F.Then local type s t) = good_clause _ (λ first last e.
    let p = both_true (is_own first last local) (is_scoped s.0 first last && is_scoped t.0 first last) e in
    let q = both_true (is_scoped s.0 first last) (is_scoped t.0 first last) p.1 in
    good_join (lambdas_in s.0) (lambdas_in t.0) (s.1 first last q.0) (t.1 first last q.1))
clause_goods (ForClause-F.In local type c) = good_clause _ (λ first last e. c.1 first last (both_true (is_own first last local) (is_scoped c.0 first last) e).1)
clause_goods (ForClause-F.From local type s None None) = good_clause _ (λ first last e. counts_good first last local s None None e)
clause_goods (ForClause-F.From local type s None (Some t)) = good_clause _ (λ first last e. counts_good first last local s None (Some t) e)
clause_goods (ForClause-F.From local type s (Some y) None) = good_clause _ (λ first last e. counts_good first last local s (Some y) None e)
clause_goods (ForClause-F.From local type s (Some y) (Some t)) = good_clause _ (λ first last e. counts_good first last local s (Some y) (Some t) e)

item_goods : (y : Item-F A_clause An_item A_term A_block A_for A_lambda) → I (item_of C I T K F L y)
item_goods (Item-F.Run y) = good_item _ (λ first last e. y.1 first last e)
item_goods (Item-F.Let all rest y) = good_item _ (λ first last e. y.1 first last (both_true (are_own (with_rest (map (λ (local : ℕ × DyType). local.0) all) rest) first last) (is_scoped y.0 first last) e).1)
item_goods (Item-F.LetMethods methods) = good_item _ (λ first last e. methods_good first last methods e)
item_goods (Item-F.Handler type y) = good_item _ (λ first last e. y.1 first last e)

term_goods : (y : Term-F A_clause An_item A_term A_block A_for A_lambda) → T (term_of C I T K F L y)
term_goods (Term-F.Lit value) = good_term _ (λ first last e. tt)
term_goods (Term-F.Local local) = good_term _ (λ first last e. tt)
term_goods (Term-F.Global binding) = good_term _ (λ first last e. tt)
term_goods (Term-F.ClassName class) = good_term _ (λ first last e. tt)
term_goods (Term-F.GenericName generic) = good_term _ (λ first last e. tt)
term_goods (Term-F.SetLocal local y) = good_term _ (λ first last e. y.1 first last (both_true (nat_lt local last) (is_scoped y.0 first last) e).1)
term_goods (Term-F.SetGlobal binding y) = good_term _ (λ first last e. y.1 first last (both_true (is_set binding.what) (is_scoped y.0 first last) e).1)
term_goods (Term-F.Call f ys) = good_term _ (λ first last e.
    let p = both_true (is_scoped f.0 first last) (all_scoped (scoped_terms ys) first last) e in
    good_join (lambdas_in f.0) (of_all (held_terms ys)) (f.1 first last p.0) (terms_good first last ys p.1))
term_goods (Term-F.Site generic ys) = good_term _ (λ first last e. terms_good first last ys e)
term_goods (Term-F.Cond ys y) = good_term _ (λ first last e.
    let p = both_true (pairs_scoped (scoped_pairs ys) first last) (is_scoped y.0 first last) e in
    good_join (of_pairs (held_pairs ys)) (lambdas_in y.0) (pairs_good first last ys p.0) (y.1 first last p.1))
term_goods (Term-F.And a b) = good_term _ (λ first last e.
    let p = both_true (is_scoped a.0 first last) (is_scoped b.0 first last) e in
    good_join (lambdas_in a.0) (lambdas_in b.0) (a.1 first last p.0) (b.1 first last p.1))
term_goods (Term-F.Or a b) = good_term _ (λ first last e.
    let p = both_true (is_scoped a.0 first last) (is_scoped b.0 first last) e in
    good_join (lambdas_in a.0) (lambdas_in b.0) (a.1 first last p.0) (b.1 first last p.1))
term_goods (Term-F.Select v None ys None) = good_term _ (λ first last e. select_good first last v None ys None e)
term_goods (Term-F.Select v None ys (Some o)) = good_term _ (λ first last e. select_good first last v None ys (Some o) e)
term_goods (Term-F.Select v (Some t) ys None) = good_term _ (λ first last e. select_good first last v (Some t) ys None e)
term_goods (Term-F.Select v (Some t) ys (Some o)) = good_term _ (λ first last e. select_good first last v (Some t) ys (Some o) e)
term_goods (Term-F.Body ys) = good_term _ (λ first last e. items_good first last ys e)
term_goods (Term-F.Loop a b) = good_term _ (λ first last e.
    let p = both_true (is_scoped a.0 first last) (is_scoped b.0 first last) e in
    good_join (lambdas_in a.0) (lambdas_in b.0) (a.1 first last p.0) (b.1 first last p.1))
term_goods (Term-F.For y) = good_term _ (λ first last e. y.1 first last e)
term_goods (Term-F.Method y) = good_term _ (λ first last e. lambda_good first last y e)
term_goods (Term-F.Block y) = good_term _ (λ first last e. y.1 first last e)
term_goods (Term-F.Op operation ys) = good_term _ (λ first last e. terms_good first last ys e)
term_goods (Term-F.Next None) = good_term _ (λ first last e. tt)
term_goods (Term-F.Next (Some ys)) = good_term _ (λ first last e. terms_good first last ys e)

abbrev a_block : Option ℕ → A_term → Option A_term → Option A_term → List A_catch → BlockRow-F A_clause An_item A_term A_block A_for A_lambda
a_block x b a c ys = record { exit = x; body = b; afterwards = a; cleanup = c; clauses = ys }

block_by : (x : Option ℕ) (b : A_term) (a c : Option A_term) (ys : List A_catch) → K (block_of C I T K F L (a_block x b a c ys))
block_by x b None None ys = good_block _ (λ first last e. block_good first last b None None ys e)
block_by x b None (Some c) ys = good_block _ (λ first last e. block_good first last b None (Some c) ys e)
block_by x b (Some a) None ys = good_block _ (λ first last e. block_good first last b (Some a) None ys e)
block_by x b (Some a) (Some c) ys = good_block _ (λ first last e. block_good first last b (Some a) (Some c) ys e)

block_goods : (y : BlockRow-F A_clause An_item A_term A_block A_for A_lambda) → K (block_of C I T K F L y)
block_goods y = block_by y.exit y.body y.afterwards y.cleanup y.clauses

abbrev a_for : List A_clause → Option A_test → A_term → Option A_term → ForRow-F A_clause An_item A_term A_block A_for A_lambda
a_for cs t b f = record { clauses = cs; test = t; body = b; finally = f }

for_by : (cs : List A_clause) (t : Option A_test) (b : A_term) (f : Option A_term) → F (for_of C I T K F L (a_for cs t b f))
for_by cs None b None = good_for _ (λ first last e. turns_good first last cs None b None e)
for_by cs None b (Some f) = good_for _ (λ first last e. turns_good first last cs None b (Some f) e)
for_by cs (Some t) b None = good_for _ (λ first last e. turns_good first last cs (Some t) b None e)
for_by cs (Some t) b (Some f) = good_for _ (λ first last e. turns_good first last cs (Some t) b (Some f) e)

for_goods : (y : ForRow-F A_clause An_item A_term A_block A_for A_lambda) → F (for_of C I T K F L y)
for_goods y = for_by y.clauses y.test y.body y.finally

abbrev A_row : Type 0
A_row = Lambda-F A_clause An_item A_term A_block A_for A_lambda

abbrev plain_row : A_row → Lambda-F ForClause Item Term BlockRow ForRow Lambda
plain_row y = map-Lambda _ _ _ _ _ _ _ _ _ _ _ _ (λ e. e.0) (λ e. e.0) (λ e. e.0) (λ e. e.0) (λ e. e.0) (λ e. e.0) y

lambda_goods : (y : A_row) → L (lambda_of C I T K F L y)
lambda_goods y first last e =
    let x = plain_row y in
    let f = at_layer (is_lambda_scoped (roll-Lambda x)) (lambda_scope x) first last (lambda_scope_is x) e in
    let p = both_true (nat_le y.first last) (nat_le (y.first + locals_of y.params) y.locals && (typed_scoped (scoped_keywords y.keywords) y.first y.locals && is_scoped y.body.0 y.first y.locals)) f in
    let q = both_true (nat_le (y.first + locals_of y.params) y.locals) (typed_scoped (scoped_keywords y.keywords) y.first y.locals && is_scoped y.body.0 y.first y.locals) p.1 in
    let r = both_true (typed_scoped (scoped_keywords y.keywords) y.first y.locals) (is_scoped y.body.0 y.first y.locals) q.1 in
    let row : IsBodyScoped x = record { room = le_of (y.first + locals_of y.params) y.locals q.0; body = r.1 } in (
      subst AreGood (sym (lambda_held_is x)) (good_join (of_keywords (held_keywords y.keywords)) (lambdas_in y.body.0) (keywords_good y.first y.locals y.keywords r.0) (y.body.1 y.first y.locals r.1)),
      subst IsBodyScoped (sym (out-roll-Lambda x)) row,
    )

pub good_lambdas : (term : Term) (first last : ℕ) → is_scoped term first last ≡ true → AreGood (lambdas_in term)
good_lambdas = by_terms C I T K F L clause_goods item_goods term_goods block_goods for_goods lambda_goods

keywords_plain : (first last : ℕ) (ks : List (DyType × Term)) → typed_scoped (map (λ (k : DyType × Term). (k.0, is_scoped k.1)) ks) first last ≡ true → AreGood (of_keywords (map (λ (k : DyType × Term). (k.0, beside lambdas_in k.1)) ks))
keywords_plain first last [] e = tt
keywords_plain first last (k ∷ ks) e =
    let p = both_true (is_scoped k.1 first last) (typed_scoped (map (λ (k : DyType × Term). (k.0, is_scoped k.1)) ks) first last) e in
    good_join (lambdas_in k.1) (of_keywords (map (λ (k : DyType × Term). (k.0, beside lambdas_in k.1)) ks)) (good_lambdas k.1 first last p.0) (keywords_plain first last ks p.1)

-- a lambda in scope
pub record IsLambdaGood (lambda : Lambda) (last : ℕ) : Type 0 where
  pub below : (out-Lambda lambda).first ≤ last
  pub body : IsBodyScoped (out-Lambda lambda)
  pub within : AreGood (lambdas_within lambda)

pub good_lambda : (lambda : Lambda) (first last : ℕ) → is_lambda_scoped lambda first last ≡ true → IsLambdaGood lambda last
good_lambda lambda first last e =
    let x = out-Lambda lambda in
    let same : is_lambda_scoped lambda ≡ lambda_scope x = ap is_lambda_scoped (sym (roll-out-Lambda lambda)) ∙ lambda_scope_is x in
    let f = at_layer (is_lambda_scoped lambda) (lambda_scope x) first last same e in
    let keywords = map (λ (k : DyType × Term). (k.0, is_scoped k.1)) x.keywords in
    let p = both_true (nat_le x.first last) (nat_le (x.first + locals_of x.params) x.locals && (typed_scoped keywords x.first x.locals && is_scoped x.body x.first x.locals)) f in
    let q = both_true (nat_le (x.first + locals_of x.params) x.locals) (typed_scoped keywords x.first x.locals && is_scoped x.body x.first x.locals) p.1 in
    let r = both_true (typed_scoped keywords x.first x.locals) (is_scoped x.body x.first x.locals) q.1 in
    record {
      below = le_of x.first last p.0;
      body = record { room = le_of (x.first + locals_of x.params) x.locals q.0; body = r.1 };
      within = subst AreGood (sym (ap lambdas_within (sym (roll-out-Lambda lambda)) ∙ lambda_held_is x))
          (good_join (of_keywords (map (λ (k : DyType × Term). (k.0, beside lambdas_in k.1)) x.keywords)) (lambdas_in x.body) (keywords_plain x.first x.locals x.keywords r.0) (good_lambdas x.body x.first x.locals r.1));
    }

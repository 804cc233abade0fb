-- The lambdas inside of a lambda stand behind it in each list of lambdas in the order of the text.
use Rattle.std.proofs.Common.{◌≡◌, ℕ, zero, suc, ◌+◌, ◌≤◌, ◌⊎◌, inl, inr, ⊎_elim, Bool, List, [], ◌∷◌, ◌++◌, map, length, flat_map, slice_get, Option, Some, None, sym, ap, subst, arith, length-append}
use Rattle.std.proofs.lemmas.Option.{none-some, same_Some}
use Rattle.dy_term.specs.declared.types.DyType.{DyType}
use Rattle.dy_term.specs.declared.term.ForClause.{ForClause, ForClause-F, roll-ForClause, map-ForClause, para-roll-ForClause}
use Rattle.dy_term.specs.declared.term.Item.{Item, Item-F, roll-Item, map-Item, para-roll-Item}
use Rattle.dy_term.specs.declared.term.Term.{Term, Term-F, roll-Term, map-Term, para-roll-Term}
use Rattle.dy_term.specs.declared.term.BlockRow.{BlockRow, BlockRow-F, roll-BlockRow, map-BlockRow, para-roll-BlockRow}
use Rattle.dy_term.specs.declared.term.ForRow.{ForRow, ForRow-F, roll-ForRow, map-ForRow, para-roll-ForRow}
use Rattle.dy_term.specs.declared.term.Lambda.{Lambda, Lambda-F, roll-Lambda, map-Lambda, para-roll-Lambda, ind-Lambda}
use Rattle.dy_meaning.specs.Lambdas.{Inside, of_all, of_pairs, of_arms, itself_and, clause_lambdas, item_lambdas, term_lambdas, block_lambdas, for_lambdas, lambda_lambdas, lambdas_in_clause, lambdas_in_item, lambdas_in, lambdas_in_block, lambdas_in_for, lambdas_within, with_inner}
use Rattle.dy_meaning.proofs.Induction.{by_terms, Clauses_with, Items_with, Terms_with, Blocks_with, Fors_with, Lambdas_with, clause_of, item_of, term_of, block_of, for_of, lambda_of}

pub record Nested (lambdas : List Lambda) : Type 0 where
  pub by : (place : ℕ) (lambda : Lambda) → slice_get lambdas place ≡ Some lambda → place + 1 + length (lambdas_within lambda) ≤ length lambdas

-- what stands in one of two lists
pub in_either : {A : Type 0} (xs ys : List A) (j : ℕ) (x : A) → slice_get (xs ++ ys) j ≡ Some x → (slice_get xs j ≡ Some x) ⊎ ((k : ℕ) × (j ≡ length xs + k) × (slice_get ys k ≡ Some x))
in_either [] ys j x e = let at : j ≡ 0 + j = omega arith in inr (j, at, e)
in_either (y ∷ xs) ys zero x e = inl e
in_either (y ∷ xs) ys (suc j) x e = ⊎_elim (λ a. inl a) (λ b. let at : suc j ≡ suc (length xs) + b.0 = omega (arith, b.1) in inr (b.0, at, b.2)) (in_either xs ys j x e)

pub none_nested : Nested []
none_nested = record { by = λ place lambda e. absurd (none-some lambda e) }

pub joined : (xs ys : List Lambda) → Nested xs → Nested ys → Nested (xs ++ ys)
joined xs ys one other = record {
  by = λ place lambda e.
      let long = length-append xs ys in
      ⊎_elim (λ a. let within = one.by place lambda a in omega (arith, within, long)) (λ b. let within = other.by b.0 lambda b.2 in omega (arith, within, long, b.1)) (in_either xs ys place lambda e);
}

pub with_nested : (lambda : Lambda) → Nested (lambdas_within lambda) → Nested (with_inner lambda)
with_nested lambda inner = record { by = by }
  where
    by : (place : ℕ) (l : Lambda) → slice_get (with_inner lambda) place ≡ Some l → place + 1 + length (lambdas_within l) ≤ length (with_inner lambda)
    by zero l e = let same : length (lambdas_within lambda) ≡ length (lambdas_within l) = ap (λ q. length (lambdas_within q)) (same_Some lambda l e) in omega (arith, same)
    by (suc place) l e = let within = inner.by place l e in omega (arith, within)

carried : (a b : List Lambda) → a ≡ b → Nested b → Nested a
carried a b e nested = subst (λ l. Nested l) (sym e) nested

abbrev beside : {A : Type 0} → (A → List Lambda) → A → Inside A
beside inside part = (part, inside part)

-- the lambdas of a layer, and the equations
abbrev clause_layer : ForClause-F ForClause Item Term BlockRow ForRow Lambda → List Lambda
clause_layer x = clause_lambdas (map-ForClause _ _ _ _ _ _ _ _ _ _ _ _ (beside lambdas_in_clause) (beside lambdas_in_item) (beside lambdas_in) (beside lambdas_in_block) (beside lambdas_in_for) (beside lambdas_within) x)

abbrev item_layer : Item-F ForClause Item Term BlockRow ForRow Lambda → List Lambda
item_layer x = item_lambdas (map-Item _ _ _ _ _ _ _ _ _ _ _ _ (beside lambdas_in_clause) (beside lambdas_in_item) (beside lambdas_in) (beside lambdas_in_block) (beside lambdas_in_for) (beside lambdas_within) x)

abbrev term_layer : Term-F ForClause Item Term BlockRow ForRow Lambda → List Lambda
term_layer x = term_lambdas (map-Term _ _ _ _ _ _ _ _ _ _ _ _ (beside lambdas_in_clause) (beside lambdas_in_item) (beside lambdas_in) (beside lambdas_in_block) (beside lambdas_in_for) (beside lambdas_within) x)

abbrev block_layer : BlockRow-F ForClause Item Term BlockRow ForRow Lambda → List Lambda
block_layer x = block_lambdas (map-BlockRow _ _ _ _ _ _ _ _ _ _ _ _ (beside lambdas_in_clause) (beside lambdas_in_item) (beside lambdas_in) (beside lambdas_in_block) (beside lambdas_in_for) (beside lambdas_within) x)

abbrev for_layer : ForRow-F ForClause Item Term BlockRow ForRow Lambda → List Lambda
for_layer x = for_lambdas (map-ForRow _ _ _ _ _ _ _ _ _ _ _ _ (beside lambdas_in_clause) (beside lambdas_in_item) (beside lambdas_in) (beside lambdas_in_block) (beside lambdas_in_for) (beside lambdas_within) x)

abbrev lambda_layer : Lambda-F ForClause Item Term BlockRow ForRow Lambda → List Lambda
lambda_layer x = lambda_lambdas (map-Lambda _ _ _ _ _ _ _ _ _ _ _ _ (beside lambdas_in_clause) (beside lambdas_in_item) (beside lambdas_in) (beside lambdas_in_block) (beside lambdas_in_for) (beside lambdas_within) x)

abbrev C : ForClause → Type 0
C x = Nested (lambdas_in_clause x)

abbrev I : Item → Type 0
I x = Nested (lambdas_in_item x)

abbrev T : Term → Type 0
T x = Nested (lambdas_in x)

abbrev K : BlockRow → Type 0
K x = Nested (lambdas_in_block x)

abbrev F : ForRow → Type 0
F x = Nested (lambdas_in_for x)

abbrev L : Lambda → Type 0
L x = Nested (lambdas_within x)

clause_by : (x : ForClause-F ForClause Item Term BlockRow ForRow Lambda) → Nested (clause_layer x) → C (roll-ForClause x)
clause_by x nested = carried _ _ (para-roll-ForClause _ _ _ _ _ _ _ _ _ _ _ _ x) nested

item_by : (x : Item-F ForClause Item Term BlockRow ForRow Lambda) → Nested (item_layer x) → I (roll-Item x)
item_by x nested = carried _ _ (para-roll-Item _ _ _ _ _ _ _ _ _ _ _ _ x) nested

term_by : (x : Term-F ForClause Item Term BlockRow ForRow Lambda) → Nested (term_layer x) → T (roll-Term x)
term_by x nested = carried _ _ (para-roll-Term _ _ _ _ _ _ _ _ _ _ _ _ x) nested

block_by : (x : BlockRow-F ForClause Item Term BlockRow ForRow Lambda) → Nested (block_layer x) → K (roll-BlockRow x)
block_by x nested = carried _ _ (para-roll-BlockRow _ _ _ _ _ _ _ _ _ _ _ _ x) nested

for_by : (x : ForRow-F ForClause Item Term BlockRow ForRow Lambda) → Nested (for_layer x) → F (roll-ForRow x)
for_by x nested = carried _ _ (para-roll-ForRow _ _ _ _ _ _ _ _ _ _ _ _ x) nested

lambda_by : (x : Lambda-F ForClause Item Term BlockRow ForRow Lambda) → Nested (lambda_layer x) → L (roll-Lambda x)
lambda_by x nested = carried _ _ (para-roll-Lambda _ _ _ _ _ _ _ _ _ _ _ _ x) nested

abbrev A_term : Type 0
A_term = Terms_with C I T K F L

-- lists of parts
clauses_nested : (ys : List (Clauses_with C I T K F L)) → Nested (of_all (map (beside lambdas_in_clause) (map (λ y. y.0) ys)))
clauses_nested [] = none_nested
clauses_nested (y ∷ ys) = joined (lambdas_in_clause y.0) _ y.1 (clauses_nested ys)

items_nested : (ys : List (Items_with C I T K F L)) → Nested (of_all (map (beside lambdas_in_item) (map (λ y. y.0) ys)))
items_nested [] = none_nested
items_nested (y ∷ ys) = joined (lambdas_in_item y.0) _ y.1 (items_nested ys)

terms_nested : (ys : List A_term) → Nested (of_all (map (beside lambdas_in) (map (λ y. y.0) ys)))
terms_nested [] = none_nested
terms_nested (y ∷ ys) = joined (lambdas_in y.0) _ y.1 (terms_nested ys)

abbrev A_pair : Type 0
A_pair = A_term × A_term

pairs_nested : (ys : List A_pair) → Nested (of_pairs (map (λ (p : Term × Term). (beside lambdas_in p.0, beside lambdas_in p.1)) (map (λ (y : A_pair). (y.0.0, y.1.0)) ys)))
pairs_nested [] = none_nested
pairs_nested (y ∷ ys) = joined (lambdas_in y.0.0 ++ lambdas_in y.1.0) _ (joined (lambdas_in y.0.0) (lambdas_in y.1.0) y.0.1 y.1.1) (pairs_nested ys)

abbrev An_arm : Type 0
An_arm = List A_term × A_term

arms_nested : (ys : List An_arm) → Nested (of_arms (map (λ (p : List Term × Term). (map (beside lambdas_in) p.0, beside lambdas_in p.1)) (map (λ (y : An_arm). (map (λ z. z.0) y.0, y.1.0)) ys)))
arms_nested [] = none_nested
arms_nested (y ∷ ys) = joined (of_all (map (beside lambdas_in) (map (λ z. z.0) y.0)) ++ lambdas_in y.1.0) _ (joined _ (lambdas_in y.1.0) (terms_nested y.0) y.1.1) (arms_nested ys)

abbrev A_method : Type 0
A_method = ℕ × Lambdas_with C I T K F L

methods_nested : (ys : List A_method) → Nested (flat_map (λ (m : ℕ × Inside Lambda). itself_and m.1) (map (λ (m : ℕ × Lambda). (m.0, beside lambdas_within m.1)) (map (λ (y : A_method). (y.0, y.1.0)) ys)))
methods_nested [] = none_nested
methods_nested (y ∷ ys) = joined (with_inner y.1.0) _ (with_nested y.1.0 y.1.1) (methods_nested ys)

abbrev A_keyword : Type 0
A_keyword = DyType × A_term

keywords_nested : (ys : List A_keyword) → Nested (flat_map (λ (k : DyType × Inside Term). k.1.1) (map (λ (p : DyType × Term). (p.0, beside lambdas_in p.1)) (map (λ (y : A_keyword). (y.0, y.1.0)) ys)))
keywords_nested [] = none_nested
keywords_nested (y ∷ ys) = joined (lambdas_in y.1.0) _ y.1.1 (keywords_nested ys)

abbrev A_clause : Type 0
A_clause = Option ℕ × DyType × A_term

caught_nested : (ys : List A_clause) → Nested (flat_map (λ (k : Option ℕ × DyType × Inside Term). k.2.1) (map (λ (p : Option ℕ × DyType × Term). (p.0, p.1, beside lambdas_in p.2)) (map (λ (y : A_clause). (y.0, y.1, y.2.0)) ys)))
caught_nested [] = none_nested
caught_nested (y ∷ ys) = joined (lambdas_in y.2.0) _ y.2.1 (caught_nested ys)

term_nested : (y : Term-F (Clauses_with C I T K F L) (Items_with C I T K F L) A_term (Blocks_with C I T K F L) (Fors_with C I T K F L) (Lambdas_with C I T K F L)) → T (term_of C I T K F L y)
term_nested (Term-F.Lit value) = term_by _ none_nested
term_nested (Term-F.Local local) = term_by _ none_nested
term_nested (Term-F.Global binding) = term_by _ none_nested
term_nested (Term-F.ClassName class) = term_by _ none_nested
term_nested (Term-F.GenericName generic) = term_by _ none_nested
term_nested (Term-F.SetLocal local t) = term_by _ t.1
term_nested (Term-F.SetGlobal binding t) = term_by _ t.1
term_nested (Term-F.Call f ts) = term_by _ (joined (lambdas_in f.0) _ f.1 (terms_nested ts))
term_nested (Term-F.Site generic ts) = term_by _ (terms_nested ts)
term_nested (Term-F.Cond bs o) = term_by _ (joined _ (lambdas_in o.0) (pairs_nested bs) o.1)
term_nested (Term-F.And a b) = term_by _ (joined (lambdas_in a.0) (lambdas_in b.0) a.1 b.1)
term_nested (Term-F.Or a b) = term_by _ (joined (lambdas_in a.0) (lambdas_in b.0) a.1 b.1)
term_nested (Term-F.Select v None arms None) = term_by _ (joined _ [] (joined (lambdas_in v.0 ++ []) _ (joined (lambdas_in v.0) [] v.1 none_nested) (arms_nested arms)) none_nested)
term_nested (Term-F.Select v None arms (Some o)) = term_by _ (joined _ (lambdas_in o.0) (joined (lambdas_in v.0 ++ []) _ (joined (lambdas_in v.0) [] v.1 none_nested) (arms_nested arms)) o.1)
term_nested (Term-F.Select v (Some t) arms None) = term_by _ (joined _ [] (joined (lambdas_in v.0 ++ lambdas_in t.0) _ (joined (lambdas_in v.0) (lambdas_in t.0) v.1 t.1) (arms_nested arms)) none_nested)
term_nested (Term-F.Select v (Some t) arms (Some o)) = term_by _ (joined _ (lambdas_in o.0) (joined (lambdas_in v.0 ++ lambdas_in t.0) _ (joined (lambdas_in v.0) (lambdas_in t.0) v.1 t.1) (arms_nested arms)) o.1)
term_nested (Term-F.Body is) = term_by _ (items_nested is)
term_nested (Term-F.Loop a b) = term_by _ (joined (lambdas_in a.0) (lambdas_in b.0) a.1 b.1)
term_nested (Term-F.For row) = term_by _ row.1
term_nested (Term-F.Method lambda) = term_by _ (with_nested lambda.0 lambda.1)
term_nested (Term-F.Block row) = term_by _ row.1
term_nested (Term-F.Op number ts) = term_by _ (terms_nested ts)
term_nested (Term-F.Next None) = term_by _ none_nested
term_nested (Term-F.Next (Some ts)) = term_by _ (terms_nested ts)

clause_nested : (y : ForClause-F (Clauses_with C I T K F L) (Items_with C I T K F L) A_term (Blocks_with C I T K F L) (Fors_with C I T K F L) (Lambdas_with C I T K F L)) → C (clause_of C I T K F L y)
clause_nested (ForClause-F.Then local type a b) = clause_by _ (joined (lambdas_in a.0) (lambdas_in b.0) a.1 b.1)
clause_nested (ForClause-F.In local type a) = clause_by _ a.1
clause_nested (ForClause-F.From local type a None None) = clause_by _ (joined (lambdas_in a.0 ++ []) [] (joined (lambdas_in a.0) [] a.1 none_nested) none_nested)
clause_nested (ForClause-F.From local type a None (Some s)) = clause_by _ (joined (lambdas_in a.0 ++ []) (lambdas_in s.0) (joined (lambdas_in a.0) [] a.1 none_nested) s.1)
clause_nested (ForClause-F.From local type a (Some l) None) = clause_by _ (joined (lambdas_in a.0 ++ lambdas_in l.1.0) [] (joined (lambdas_in a.0) (lambdas_in l.1.0) a.1 l.1.1) none_nested)
clause_nested (ForClause-F.From local type a (Some l) (Some s)) = clause_by _ (joined (lambdas_in a.0 ++ lambdas_in l.1.0) (lambdas_in s.0) (joined (lambdas_in a.0) (lambdas_in l.1.0) a.1 l.1.1) s.1)

item_nested : (y : Item-F (Clauses_with C I T K F L) (Items_with C I T K F L) A_term (Blocks_with C I T K F L) (Fors_with C I T K F L) (Lambdas_with C I T K F L)) → I (item_of C I T K F L y)
item_nested (Item-F.Run t) = item_by _ t.1
item_nested (Item-F.Let locals rest t) = item_by _ t.1
item_nested (Item-F.LetMethods methods) = item_by _ (methods_nested methods)
item_nested (Item-F.Handler type f) = item_by _ f.1

abbrev A_block : Option ℕ → A_term → Option A_term → Option A_term → List A_clause → BlockRow-F (Clauses_with C I T K F L) (Items_with C I T K F L) A_term (Blocks_with C I T K F L) (Fors_with C I T K F L) (Lambdas_with C I T K F L)
A_block exit body afterwards cleanup clauses = record { exit = exit; body = body; afterwards = afterwards; cleanup = cleanup; clauses = clauses }

block_parts : (exit : Option ℕ) (b : A_term) (a c : Option A_term) (clauses : List A_clause) → K (block_of C I T K F L (A_block exit b a c clauses))
block_parts exit b None None clauses = block_by _ (joined _ _ (joined _ [] (joined (lambdas_in b.0) [] b.1 none_nested) none_nested) (caught_nested clauses))
block_parts exit b None (Some c) clauses = block_by _ (joined _ _ (joined _ (lambdas_in c.0) (joined (lambdas_in b.0) [] b.1 none_nested) c.1) (caught_nested clauses))
block_parts exit b (Some a) None clauses = block_by _ (joined _ _ (joined _ [] (joined (lambdas_in b.0) (lambdas_in a.0) b.1 a.1) none_nested) (caught_nested clauses))
block_parts exit b (Some a) (Some c) clauses = block_by _ (joined _ _ (joined _ (lambdas_in c.0) (joined (lambdas_in b.0) (lambdas_in a.0) b.1 a.1) c.1) (caught_nested clauses))

block_nested : (y : BlockRow-F (Clauses_with C I T K F L) (Items_with C I T K F L) A_term (Blocks_with C I T K F L) (Fors_with C I T K F L) (Lambdas_with C I T K F L)) → K (block_of C I T K F L y)
block_nested y = block_parts y.exit y.body y.afterwards y.cleanup y.clauses

abbrev A_test : Type 0
A_test = Bool × A_term

abbrev A_for : List (Clauses_with C I T K F L) → Option A_test → A_term → Option A_term → ForRow-F (Clauses_with C I T K F L) (Items_with C I T K F L) A_term (Blocks_with C I T K F L) (Fors_with C I T K F L) (Lambdas_with C I T K F L)
A_for clauses test body last = record { clauses = clauses; test = test; body = body; finally = last }

for_parts : (cs : List (Clauses_with C I T K F L)) (t : Option A_test) (b : A_term) (f : Option A_term) → F (for_of C I T K F L (A_for cs t b f))
for_parts cs None b None = for_by _ (joined _ [] (joined _ (lambdas_in b.0) (joined _ [] (clauses_nested cs) none_nested) b.1) none_nested)
for_parts cs None b (Some f) = for_by _ (joined _ (lambdas_in f.0) (joined _ (lambdas_in b.0) (joined _ [] (clauses_nested cs) none_nested) b.1) f.1)
for_parts cs (Some t) b None = for_by _ (joined _ [] (joined _ (lambdas_in b.0) (joined _ (lambdas_in t.1.0) (clauses_nested cs) t.1.1) b.1) none_nested)
for_parts cs (Some t) b (Some f) = for_by _ (joined _ (lambdas_in f.0) (joined _ (lambdas_in b.0) (joined _ (lambdas_in t.1.0) (clauses_nested cs) t.1.1) b.1) f.1)

for_nested : (y : ForRow-F (Clauses_with C I T K F L) (Items_with C I T K F L) A_term (Blocks_with C I T K F L) (Fors_with C I T K F L) (Lambdas_with C I T K F L)) → F (for_of C I T K F L y)
for_nested y = for_parts y.clauses y.test y.body y.finally

lambda_nested : (y : Lambda-F (Clauses_with C I T K F L) (Items_with C I T K F L) A_term (Blocks_with C I T K F L) (Fors_with C I T K F L) (Lambdas_with C I T K F L)) → L (lambda_of C I T K F L y)
lambda_nested y = lambda_by _ (joined _ (lambdas_in y.body.0) (keywords_nested y.keywords) y.body.1)

pub in_term : (term : Term) → Nested (lambdas_in term)
in_term = by_terms C I T K F L clause_nested item_nested term_nested block_nested for_nested lambda_nested

pub in_lambda : (lambda : Lambda) → Nested (lambdas_within lambda)
in_lambda = ind-Lambda C I T K F L
    (λ x y q. subst (λ z. C (roll-ForClause z)) q (clause_nested y)) (λ x y q. subst (λ z. I (roll-Item z)) q (item_nested y)) (λ x y q. subst (λ z. T (roll-Term z)) q (term_nested y)) (λ x y q. subst (λ z. K (roll-BlockRow z)) q (block_nested y)) (λ x y q. subst (λ z. F (roll-ForRow z)) q (for_nested y)) (λ x y q. subst (λ z. L (roll-Lambda z)) q (lambda_nested y))

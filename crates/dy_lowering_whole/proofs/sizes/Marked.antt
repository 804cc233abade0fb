-- A term mentions no more locals than it has nodes.
use Rattle.std.proofs.Common.{◌≡◌, ℕ, zero, suc, ◌+◌, ◌≤◌, Bool, true, false, ◌&&◌, ◌||◌, List, [], ◌∷◌, length, map, Option, Some, None, refl, sym, ap, ◌∙◌, arith, length-append}
use Rattle.std.specs.Prelude.{nat_eq, nat_lt}
use Rattle.std.specs.Option.{option_map}
use Rattle.dy_term.specs.declared.types.DyType.{DyType}
use Rattle.dy_term.specs.declared.term.Limit.{Limit}
use Rattle.dy_term.specs.declared.term.ForClause.{ForClause, ForClause-F, roll-ForClause, map-ForClause, fold-roll-ForClause}
use Rattle.dy_term.specs.declared.term.Item.{Item, Item-F, roll-Item, map-Item, fold-roll-Item}
use Rattle.dy_term.specs.declared.term.Term.{Term, Term-F, roll-Term, map-Term, fold-roll-Term}
use Rattle.dy_term.specs.declared.term.BlockRow.{BlockRow, BlockRow-F, roll-BlockRow, map-BlockRow, fold-roll-BlockRow}
use Rattle.dy_term.specs.declared.term.ForRow.{ForRow, ForRow-F, roll-ForRow, map-ForRow, fold-roll-ForRow}
use Rattle.dy_term.specs.declared.term.Lambda.{Lambda, Lambda-F, out-Lambda, roll-Lambda, map-Lambda, fold-roll-Lambda}
use Rattle.dy_captures.specs.Marks.{Marks, join, join_all, join_some, join_branches, join_arms, join_typed, join_limit, join_clauses, join_given, join_methods, clause_marks, item_marks, term_marks, block_marks, for_marks, lambda_marks, marks_of_clause, marks_of_item, marks_of, marks_of_block, marks_of_for, marks_of_lambda, is_captured_by}
use Rattle.dy_meaning.specs.Layouts.{with_last, all_below, captured_by}
use Rattle.dy_meaning.proofs.Induction.{by_terms, Clauses_with, Items_with, Terms_with, Blocks_with, Fors_with, Lambdas_with, clause_of, item_of, term_of, block_of, for_of, lambda_of}
use Rattle.dy_lowering_whole.specs.sizes.Nodes.{total, held, second, given, clause_nodes, item_nodes, term_nodes, block_nodes, for_nodes, lambda_nodes, nodes_of_clause, nodes_of_item, nodes_of, nodes_of_block, nodes_of_for, nodes_of_lambda}

-- how many numbers below a bound pass a test
abbrev pub count : (ℕ → Bool) → ℕ → ℕ
count test bound = length (all_below test bound)

abbrev one_if : Bool → ℕ
one_if true = 1
one_if false = 0

last_counts : (b : Bool) (number : ℕ) (numbers : List ℕ) → length (with_last b number numbers) ≡ length numbers + one_if b
last_counts true number numbers = length-append numbers (number ∷ [])
last_counts false number numbers = omega arith

next_counts : (test : ℕ → Bool) (bound : ℕ) → count test (suc bound) ≡ count test bound + one_if (test bound)
next_counts test bound = last_counts (test bound) bound (all_below test bound)

either_one : (a b : Bool) → one_if (a || b) ≤ one_if a + one_if b
either_one true b = omega arith
either_one false b = omega arith

count_or : (a b : ℕ → Bool) (bound : ℕ) → count (λ k. a k || b k) bound ≤ count a bound + count b bound
count_or a b zero = omega arith
count_or a b (suc bound) = omega (arith, next_counts (λ k. a k || b k) bound, next_counts a bound, next_counts b bound, either_one (a bound) (b bound), count_or a b bound)

first_one : (a b : Bool) → one_if (a && b) ≤ one_if a
first_one true true = omega arith
first_one true false = omega arith
first_one false b = omega arith

count_and : (a b : ℕ → Bool) (bound : ℕ) → count (λ k. a k && b k) bound ≤ count a bound
count_and a b zero = omega arith
count_and a b (suc bound) = omega (arith, next_counts (λ k. a k && b k) bound, next_counts a bound, first_one (a bound) (b bound), count_and a b bound)

count_none : (bound : ℕ) → count (λ k. false) bound ≡ 0
count_none zero = refl
count_none (suc bound) = next_counts (λ k. false) bound ∙ omega (arith, count_none bound)

-- one number is below a bound once at most
count_one : (n bound : ℕ) → (count (λ k. nat_eq n k) bound ≤ 1) × (bound ≤ n → count (λ k. nat_eq n k) bound ≡ 0)
count_one n zero = (omega arith, λ low. refl)
count_one n (suc bound) = step (nat_eq n bound) refl (count_one n bound)
  where
    step : (b : Bool) → nat_eq n bound ≡ b → (count (λ k. nat_eq n k) bound ≤ 1) × (bound ≤ n → count (λ k. nat_eq n k) bound ≡ 0) → (count (λ k. nat_eq n k) (suc bound) ≤ 1) × (suc bound ≤ n → count (λ k. nat_eq n k) (suc bound) ≡ 0)
    step true e before =
        let same : n ≡ bound = equal n bound e in
        let none = before.1 (omega (arith, same)) in
        let next : count (λ k. nat_eq n k) (suc bound) ≡ count (λ k. nat_eq n k) bound + 1 = next_counts (λ k. nat_eq n k) bound ∙ ap (λ b. count (λ k. nat_eq n k) bound + one_if b) e in
        (omega (arith, next, none), λ low. absurd (omega (arith, low, same)))
      where
        equal : (x y : ℕ) → nat_eq x y ≡ true → x ≡ y
        equal x y f = grind (arith, f)
    step false e before =
        let next : count (λ k. nat_eq n k) (suc bound) ≡ count (λ k. nat_eq n k) bound + 0 = next_counts (λ k. nat_eq n k) bound ∙ ap (λ b. count (λ k. nat_eq n k) bound + one_if b) e in
        let low = before.0 in
        (omega (arith, next, low), λ far. next ∙ omega (arith, before.1 (omega (arith, far))))

count_same : (a b : ℕ → Bool) (bound : ℕ) → ((k : ℕ) → a k ≡ b k) → count a bound ≡ count b bound
count_same a b zero same = refl
count_same a b (suc bound) same = next_counts a bound ∙ omega (arith, count_same a b bound same, ap one_if (same bound)) ∙ sym (next_counts b bound)

-- what marks mention
abbrev mentions : (ℕ → Marks) → ℕ → ℕ
mentions marks bound = count (λ k. (marks k).mentioned) bound

mentions_join : (a b : ℕ → Marks) (bound : ℕ) → mentions (λ k. join (a k) (b k)) bound ≤ mentions a bound + mentions b bound
mentions_join a b bound = count_or (λ k. (a k).mentioned) (λ k. (b k).mentioned) bound

abbrev C : ForClause → Type 0
C x = (bound : ℕ) → mentions (λ k. marks_of_clause k x) bound ≤ nodes_of_clause x

abbrev I : Item → Type 0
I x = (bound : ℕ) → mentions (λ k. marks_of_item k x) bound ≤ nodes_of_item x

abbrev T : Term → Type 0
T x = (bound : ℕ) → mentions (λ k. marks_of k x) bound ≤ nodes_of x

abbrev K : BlockRow → Type 0
K x = (bound : ℕ) → mentions (λ k. marks_of_block k x) bound ≤ nodes_of_block x

abbrev F : ForRow → Type 0
F x = (bound : ℕ) → mentions (λ k. marks_of_for k x) bound ≤ nodes_of_for x

abbrev L : Lambda → Type 0
L x = (bound : ℕ) → mentions (λ k. marks_of_lambda k x) bound ≤ nodes_of_lambda x

-- one layer, and how many nodes it has
abbrev clause_layer : ℕ → ForClause-F ForClause Item Term BlockRow ForRow Lambda → Marks
clause_layer k x = clause_marks k (map-ForClause _ _ _ _ _ _ _ _ _ _ _ _ (marks_of_clause k) (marks_of_item k) (marks_of k) (marks_of_block k) (marks_of_for k) (marks_of_lambda k) x)

clause_is : (k : ℕ) (x : ForClause-F ForClause Item Term BlockRow ForRow Lambda) → marks_of_clause k (roll-ForClause x) ≡ clause_layer k x
clause_is k = fold-roll-ForClause _ _ _ _ _ _ _ _ _ _ _ _

abbrev pub clause_size : ForClause-F ForClause Item Term BlockRow ForRow Lambda → ℕ
clause_size x = clause_nodes (map-ForClause _ _ _ _ _ _ _ _ _ _ _ _ nodes_of_clause nodes_of_item nodes_of nodes_of_block nodes_of_for nodes_of_lambda x)

pub clause_size_is : (x : ForClause-F ForClause Item Term BlockRow ForRow Lambda) → nodes_of_clause (roll-ForClause x) ≡ clause_size x
clause_size_is = fold-roll-ForClause _ _ _ _ _ _ _ _ _ _ _ _

clause_by : (x : ForClause-F ForClause Item Term BlockRow ForRow Lambda) → ((bound : ℕ) → mentions (λ k. clause_layer k x) bound ≤ clause_size x) → C (roll-ForClause x)
clause_by x h bound =
    let same = count_same (λ k. (marks_of_clause k (roll-ForClause x)).mentioned) (λ k. (clause_layer k x).mentioned) bound (λ k. ap (λ (m : Marks). m.mentioned) (clause_is k x)) in
    omega (arith, h bound, same, clause_size_is x)

abbrev item_layer : ℕ → Item-F ForClause Item Term BlockRow ForRow Lambda → Marks
item_layer k x = item_marks k (map-Item _ _ _ _ _ _ _ _ _ _ _ _ (marks_of_clause k) (marks_of_item k) (marks_of k) (marks_of_block k) (marks_of_for k) (marks_of_lambda k) x)

item_is : (k : ℕ) (x : Item-F ForClause Item Term BlockRow ForRow Lambda) → marks_of_item k (roll-Item x) ≡ item_layer k x
item_is k = fold-roll-Item _ _ _ _ _ _ _ _ _ _ _ _

abbrev pub item_size : Item-F ForClause Item Term BlockRow ForRow Lambda → ℕ
item_size x = item_nodes (map-Item _ _ _ _ _ _ _ _ _ _ _ _ nodes_of_clause nodes_of_item nodes_of nodes_of_block nodes_of_for nodes_of_lambda x)

pub item_size_is : (x : Item-F ForClause Item Term BlockRow ForRow Lambda) → nodes_of_item (roll-Item x) ≡ item_size x
item_size_is = fold-roll-Item _ _ _ _ _ _ _ _ _ _ _ _

item_by : (x : Item-F ForClause Item Term BlockRow ForRow Lambda) → ((bound : ℕ) → mentions (λ k. item_layer k x) bound ≤ item_size x) → I (roll-Item x)
item_by x h bound =
    let same = count_same (λ k. (marks_of_item k (roll-Item x)).mentioned) (λ k. (item_layer k x).mentioned) bound (λ k. ap (λ (m : Marks). m.mentioned) (item_is k x)) in
    omega (arith, h bound, same, item_size_is x)

abbrev term_layer : ℕ → Term-F ForClause Item Term BlockRow ForRow Lambda → Marks
term_layer k x = term_marks k (map-Term _ _ _ _ _ _ _ _ _ _ _ _ (marks_of_clause k) (marks_of_item k) (marks_of k) (marks_of_block k) (marks_of_for k) (marks_of_lambda k) x)

term_is : (k : ℕ) (x : Term-F ForClause Item Term BlockRow ForRow Lambda) → marks_of k (roll-Term x) ≡ term_layer k x
term_is k = fold-roll-Term _ _ _ _ _ _ _ _ _ _ _ _

abbrev pub term_size : Term-F ForClause Item Term BlockRow ForRow Lambda → ℕ
term_size x = term_nodes (map-Term _ _ _ _ _ _ _ _ _ _ _ _ nodes_of_clause nodes_of_item nodes_of nodes_of_block nodes_of_for nodes_of_lambda x)

pub term_size_is : (x : Term-F ForClause Item Term BlockRow ForRow Lambda) → nodes_of (roll-Term x) ≡ term_size x
term_size_is = fold-roll-Term _ _ _ _ _ _ _ _ _ _ _ _

term_by : (x : Term-F ForClause Item Term BlockRow ForRow Lambda) → ((bound : ℕ) → mentions (λ k. term_layer k x) bound ≤ term_size x) → T (roll-Term x)
term_by x h bound =
    let same = count_same (λ k. (marks_of k (roll-Term x)).mentioned) (λ k. (term_layer k x).mentioned) bound (λ k. ap (λ (m : Marks). m.mentioned) (term_is k x)) in
    omega (arith, h bound, same, term_size_is x)

abbrev block_layer : ℕ → BlockRow-F ForClause Item Term BlockRow ForRow Lambda → Marks
block_layer k x = block_marks k (map-BlockRow _ _ _ _ _ _ _ _ _ _ _ _ (marks_of_clause k) (marks_of_item k) (marks_of k) (marks_of_block k) (marks_of_for k) (marks_of_lambda k) x)

block_is : (k : ℕ) (x : BlockRow-F ForClause Item Term BlockRow ForRow Lambda) → marks_of_block k (roll-BlockRow x) ≡ block_layer k x
block_is k = fold-roll-BlockRow _ _ _ _ _ _ _ _ _ _ _ _

abbrev pub block_size : BlockRow-F ForClause Item Term BlockRow ForRow Lambda → ℕ
block_size x = block_nodes (map-BlockRow _ _ _ _ _ _ _ _ _ _ _ _ nodes_of_clause nodes_of_item nodes_of nodes_of_block nodes_of_for nodes_of_lambda x)

pub block_size_is : (x : BlockRow-F ForClause Item Term BlockRow ForRow Lambda) → nodes_of_block (roll-BlockRow x) ≡ block_size x
block_size_is = fold-roll-BlockRow _ _ _ _ _ _ _ _ _ _ _ _

block_by : (x : BlockRow-F ForClause Item Term BlockRow ForRow Lambda) → ((bound : ℕ) → mentions (λ k. block_layer k x) bound ≤ block_size x) → K (roll-BlockRow x)
block_by x h bound =
    let same = count_same (λ k. (marks_of_block k (roll-BlockRow x)).mentioned) (λ k. (block_layer k x).mentioned) bound (λ k. ap (λ (m : Marks). m.mentioned) (block_is k x)) in
    omega (arith, h bound, same, block_size_is x)

abbrev for_layer : ℕ → ForRow-F ForClause Item Term BlockRow ForRow Lambda → Marks
for_layer k x = for_marks k (map-ForRow _ _ _ _ _ _ _ _ _ _ _ _ (marks_of_clause k) (marks_of_item k) (marks_of k) (marks_of_block k) (marks_of_for k) (marks_of_lambda k) x)

for_is : (k : ℕ) (x : ForRow-F ForClause Item Term BlockRow ForRow Lambda) → marks_of_for k (roll-ForRow x) ≡ for_layer k x
for_is k = fold-roll-ForRow _ _ _ _ _ _ _ _ _ _ _ _

abbrev pub for_size : ForRow-F ForClause Item Term BlockRow ForRow Lambda → ℕ
for_size x = for_nodes (map-ForRow _ _ _ _ _ _ _ _ _ _ _ _ nodes_of_clause nodes_of_item nodes_of nodes_of_block nodes_of_for nodes_of_lambda x)

pub for_size_is : (x : ForRow-F ForClause Item Term BlockRow ForRow Lambda) → nodes_of_for (roll-ForRow x) ≡ for_size x
for_size_is = fold-roll-ForRow _ _ _ _ _ _ _ _ _ _ _ _

for_by : (x : ForRow-F ForClause Item Term BlockRow ForRow Lambda) → ((bound : ℕ) → mentions (λ k. for_layer k x) bound ≤ for_size x) → F (roll-ForRow x)
for_by x h bound =
    let same = count_same (λ k. (marks_of_for k (roll-ForRow x)).mentioned) (λ k. (for_layer k x).mentioned) bound (λ k. ap (λ (m : Marks). m.mentioned) (for_is k x)) in
    omega (arith, h bound, same, for_size_is x)

abbrev lambda_layer : ℕ → Lambda-F ForClause Item Term BlockRow ForRow Lambda → Marks
lambda_layer k x = lambda_marks k (map-Lambda _ _ _ _ _ _ _ _ _ _ _ _ (marks_of_clause k) (marks_of_item k) (marks_of k) (marks_of_block k) (marks_of_for k) (marks_of_lambda k) x)

lambda_is : (k : ℕ) (x : Lambda-F ForClause Item Term BlockRow ForRow Lambda) → marks_of_lambda k (roll-Lambda x) ≡ lambda_layer k x
lambda_is k = fold-roll-Lambda _ _ _ _ _ _ _ _ _ _ _ _

abbrev pub lambda_size : Lambda-F ForClause Item Term BlockRow ForRow Lambda → ℕ
lambda_size x = lambda_nodes (map-Lambda _ _ _ _ _ _ _ _ _ _ _ _ nodes_of_clause nodes_of_item nodes_of nodes_of_block nodes_of_for nodes_of_lambda x)

pub lambda_size_is : (x : Lambda-F ForClause Item Term BlockRow ForRow Lambda) → nodes_of_lambda (roll-Lambda x) ≡ lambda_size x
lambda_size_is = fold-roll-Lambda _ _ _ _ _ _ _ _ _ _ _ _

lambda_by : (x : Lambda-F ForClause Item Term BlockRow ForRow Lambda) → ((bound : ℕ) → mentions (λ k. lambda_layer k x) bound ≤ lambda_size x) → L (roll-Lambda x)
lambda_by x h bound =
    let same = count_same (λ k. (marks_of_lambda k (roll-Lambda x)).mentioned) (λ k. (lambda_layer k x).mentioned) bound (λ k. ap (λ (m : Marks). m.mentioned) (lambda_is k x)) in
    omega (arith, h bound, same, lambda_size_is x)

abbrev A_clause : Type 0
A_clause = Clauses_with C I T K F L

abbrev An_item : Type 0
An_item = Items_with C I T K F L

abbrev A_term : Type 0
A_term = Terms_with C I T K F L

abbrev A_block : Type 0
A_block = Blocks_with C I T K F L

abbrev A_for : Type 0
A_for = Fors_with C I T K F L

abbrev A_lambda : Type 0
A_lambda = Lambdas_with C I T K F L

-- lists of parts
abbrev terms_marked : List A_term → ℕ → Marks
terms_marked ys k = join_all (map (marks_of k) (map (λ y. y.0) ys))

abbrev terms_size : List A_term → ℕ
terms_size ys = total (map nodes_of (map (λ y. y.0) ys))

terms_mention : (ys : List A_term) (bound : ℕ) → mentions (terms_marked ys) bound ≤ terms_size ys
terms_mention [] bound = omega (arith, count_none bound)
terms_mention (y ∷ ys) bound = omega (arith, mentions_join (λ k. marks_of k y.0) (terms_marked ys) bound, y.1 bound, terms_mention ys bound)

items_mention : (ys : List An_item) (bound : ℕ) → mentions (λ k. join_all (map (marks_of_item k) (map (λ y. y.0) ys))) bound ≤ total (map nodes_of_item (map (λ y. y.0) ys))
items_mention [] bound = omega (arith, count_none bound)
items_mention (y ∷ ys) bound = omega (arith, mentions_join (λ k. marks_of_item k y.0) (λ k. join_all (map (marks_of_item k) (map (λ y. y.0) ys))) bound, y.1 bound, items_mention ys bound)

clauses_mention : (ys : List A_clause) (bound : ℕ) → mentions (λ k. join_all (map (marks_of_clause k) (map (λ y. y.0) ys))) bound ≤ total (map nodes_of_clause (map (λ y. y.0) ys))
clauses_mention [] bound = omega (arith, count_none bound)
clauses_mention (y ∷ ys) bound = omega (arith, mentions_join (λ k. marks_of_clause k y.0) (λ k. join_all (map (marks_of_clause k) (map (λ y. y.0) ys))) bound, y.1 bound, clauses_mention ys bound)

abbrev A_pair : Type 0
A_pair = A_term × A_term

abbrev pairs_of : List A_pair → List (Term × Term)
pairs_of ys = map (λ (y : A_pair). (y.0.0, y.1.0)) ys

abbrev pairs_marked : List A_pair → ℕ → Marks
pairs_marked ys k = join_branches (map (λ (p : Term × Term). (marks_of k p.0, marks_of k p.1)) (pairs_of ys))

abbrev pairs_size : List A_pair → ℕ
pairs_size ys = total (map (λ (n : ℕ × ℕ). n.0 + n.1) (map (λ (p : Term × Term). (nodes_of p.0, nodes_of p.1)) (pairs_of ys)))

pairs_mention : (ys : List A_pair) (bound : ℕ) → mentions (pairs_marked ys) bound ≤ pairs_size ys
pairs_mention [] bound = omega (arith, count_none bound)
pairs_mention (y ∷ ys) bound =
    omega (arith, mentions_join (λ k. marks_of k y.0.0) (λ k. join (marks_of k y.1.0) (pairs_marked ys k)) bound, mentions_join (λ k. marks_of k y.1.0) (pairs_marked ys) bound, y.0.1 bound, y.1.1 bound, pairs_mention ys bound)

abbrev An_arm : Type 0
An_arm = List A_term × A_term

abbrev arms_of : List An_arm → List (List Term × Term)
arms_of ys = map (λ (y : An_arm). (map (λ z. z.0) y.0, y.1.0)) ys

abbrev arms_marked : List An_arm → ℕ → Marks
arms_marked ys k = join_arms (map (λ (p : List Term × Term). (map (marks_of k) p.0, marks_of k p.1)) (arms_of ys))

abbrev arms_size : List An_arm → ℕ
arms_size ys = total (map (λ (n : List ℕ × ℕ). total n.0 + n.1) (map (λ (p : List Term × Term). (map nodes_of p.0, nodes_of p.1)) (arms_of ys)))

arms_mention : (ys : List An_arm) (bound : ℕ) → mentions (arms_marked ys) bound ≤ arms_size ys
arms_mention [] bound = omega (arith, count_none bound)
arms_mention (y ∷ ys) bound =
    omega (arith, mentions_join (terms_marked y.0) (λ k. join (marks_of k y.1.0) (arms_marked ys k)) bound, mentions_join (λ k. marks_of k y.1.0) (arms_marked ys) bound, terms_mention y.0 bound, y.1.1 bound, arms_mention ys bound)

abbrev held_marked : Option A_term → ℕ → Marks
held_marked y k = join_some (option_map (marks_of k) (option_map (λ y. y.0) y))

abbrev held_size : Option A_term → ℕ
held_size y = held (option_map nodes_of (option_map (λ y. y.0) y))

held_mentions : (y : Option A_term) (bound : ℕ) → mentions (held_marked y) bound ≤ held_size y
held_mentions None bound = omega (arith, count_none bound)
held_mentions (Some y) bound = y.1 bound

abbrev A_limit : Type 0
A_limit = Limit × A_term

abbrev limit_marked : Option A_limit → ℕ → Marks
limit_marked y k = join_limit (option_map (λ (p : Limit × Term). (p.0, marks_of k p.1)) (option_map (λ (p : A_limit). (p.0, p.1.0)) y))

abbrev limit_size : Option A_limit → ℕ
limit_size y = second (option_map (λ (p : Limit × Term). (p.0, nodes_of p.1)) (option_map (λ (p : A_limit). (p.0, p.1.0)) y))

limit_mentions : (y : Option A_limit) (bound : ℕ) → mentions (limit_marked y) bound ≤ limit_size y
limit_mentions None bound = omega (arith, count_none bound)
limit_mentions (Some y) bound = y.1.1 bound

abbrev A_test : Type 0
A_test = Bool × A_term

abbrev test_marked : Option A_test → ℕ → Marks
test_marked y k = join_limit (option_map (λ (p : Bool × Term). (p.0, marks_of k p.1)) (option_map (λ (p : A_test). (p.0, p.1.0)) y))

abbrev test_size : Option A_test → ℕ
test_size y = second (option_map (λ (p : Bool × Term). (p.0, nodes_of p.1)) (option_map (λ (p : A_test). (p.0, p.1.0)) y))

test_mentions : (y : Option A_test) (bound : ℕ) → mentions (test_marked y) bound ≤ test_size y
test_mentions None bound = omega (arith, count_none bound)
test_mentions (Some y) bound = y.1.1 bound

abbrev A_method : Type 0
A_method = ℕ × A_lambda

abbrev methods_of : List A_method → List (ℕ × Lambda)
methods_of ys = map (λ (y : A_method). (y.0, y.1.0)) ys

abbrev methods_marked : List A_method → ℕ → Marks
methods_marked ys k = join_methods k (map (λ (m : ℕ × Lambda). (m.0, marks_of_lambda k m.1)) (methods_of ys))

abbrev methods_size : List A_method → ℕ
methods_size ys = total (map (λ (n : ℕ × ℕ). 1 + n.1) (map (λ (m : ℕ × Lambda). (m.0, nodes_of_lambda m.1)) (methods_of ys)))

methods_mention : (ys : List A_method) (bound : ℕ) → mentions (methods_marked ys) bound ≤ methods_size ys
methods_mention [] bound = omega (arith, count_none bound)
methods_mention (y ∷ ys) bound = omega (arith, mentions_join (λ k. marks_of_lambda k y.1.0) (methods_marked ys) bound, y.1.1 bound, methods_mention ys bound)

abbrev A_catch : Type 0
A_catch = Option ℕ × DyType × A_term

abbrev catches_of : List A_catch → List (Option ℕ × DyType × Term)
catches_of ys = map (λ (y : A_catch). (y.0, y.1, y.2.0)) ys

abbrev catches_marked : List A_catch → ℕ → Marks
catches_marked ys k = join_clauses (map (λ (c : Option ℕ × DyType × Term). (c.0, c.1, marks_of k c.2)) (catches_of ys))

abbrev catches_size : List A_catch → ℕ
catches_size ys = total (map (λ (c : Option ℕ × DyType × ℕ). 1 + c.2) (map (λ (c : Option ℕ × DyType × Term). (c.0, c.1, nodes_of c.2)) (catches_of ys)))

catches_mention : (ys : List A_catch) (bound : ℕ) → mentions (catches_marked ys) bound ≤ catches_size ys
catches_mention [] bound = omega (arith, count_none bound)
catches_mention (y ∷ ys) bound = omega (arith, mentions_join (λ k. marks_of k y.2.0) (catches_marked ys) bound, y.2.1 bound, catches_mention ys bound)

abbrev A_keyword : Type 0
A_keyword = DyType × A_term

abbrev keywords_of : List A_keyword → List (DyType × Term)
keywords_of ys = map (λ (y : A_keyword). (y.0, y.1.0)) ys

abbrev keywords_marked : List A_keyword → ℕ → Marks
keywords_marked ys k = join_typed (map (λ (d : DyType × Term). (d.0, marks_of k d.1)) (keywords_of ys))

abbrev keywords_size : List A_keyword → ℕ
keywords_size ys = total (map (λ (d : DyType × ℕ). 1 + d.1) (map (λ (d : DyType × Term). (d.0, nodes_of d.1)) (keywords_of ys)))

keywords_mention : (ys : List A_keyword) (bound : ℕ) → mentions (keywords_marked ys) bound ≤ keywords_size ys
keywords_mention [] bound = omega (arith, count_none bound)
keywords_mention (y ∷ ys) bound = omega (arith, mentions_join (λ k. marks_of k y.1.0) (keywords_marked ys) bound, y.1.1 bound, keywords_mention ys bound)

abbrev given_marked : Option (List A_term) → ℕ → Marks
given_marked y k = join_given (option_map (map (marks_of k)) (option_map (map (λ z. z.0)) y))

abbrev given_size : Option (List A_term) → ℕ
given_size y = given (option_map (map nodes_of) (option_map (map (λ z. z.0)) y))

given_mentions : (y : Option (List A_term)) (bound : ℕ) → mentions (given_marked y) bound ≤ given_size y
given_mentions None bound = omega (arith, count_none bound)
given_mentions (Some ys) bound = terms_mention ys bound

-- parts one after the other
three : (a b c : ℕ → Marks) (bound n m k : ℕ) → mentions a bound ≤ n → mentions b bound ≤ m → mentions c bound ≤ k → mentions (λ i. join (a i) (join (b i) (c i))) bound ≤ n + (m + k)
three a b c bound n m k x y z = omega (arith, mentions_join a (λ i. join (b i) (c i)) bound, mentions_join b c bound, x, y, z)

four : (a b c d : ℕ → Marks) (bound n m k j : ℕ) → mentions a bound ≤ n → mentions b bound ≤ m → mentions c bound ≤ k → mentions d bound ≤ j → mentions (λ i. join (a i) (join (b i) (join (c i) (d i)))) bound ≤ n + (m + (k + j))
four a b c d bound n m k j x y z w = omega (arith, mentions_join a (λ i. join (b i) (join (c i) (d i))) bound, three b c d bound m k j y z w, x)

select_mentions : (v : A_term) (t : Option A_term) (ys : List An_arm) (o : Option A_term) (bound : ℕ)
    → mentions (λ k. join (marks_of k v.0) (join (held_marked t k) (join (arms_marked ys k) (held_marked o k)))) bound ≤ 1 + (nodes_of v.0 + (held_size t + (arms_size ys + held_size o)))
select_mentions v t ys o bound =
    omega (arith, four (λ k. marks_of k v.0) (held_marked t) (arms_marked ys) (held_marked o) bound (nodes_of v.0) (held_size t) (arms_size ys) (held_size o) (v.1 bound) (held_mentions t bound) (arms_mention ys bound) (held_mentions o bound))

counts_mention : (s : A_term) (y : Option A_limit) (t : Option A_term) (bound : ℕ) → mentions (λ k. join (marks_of k s.0) (join (limit_marked y k) (held_marked t k))) bound ≤ 1 + (nodes_of s.0 + (limit_size y + held_size t))
counts_mention s y t bound = omega (arith, three (λ k. marks_of k s.0) (limit_marked y) (held_marked t) bound (nodes_of s.0) (limit_size y) (held_size t) (s.1 bound) (limit_mentions y bound) (held_mentions t bound))

clause_mentions : (y : ForClause-F A_clause An_item A_term A_block A_for A_lambda) → C (clause_of C I T K F L y)
clause_mentions (ForClause-F.Then local type s t) = clause_by _ (λ bound. omega (arith, mentions_join (λ k. marks_of k s.0) (λ k. marks_of k t.0) bound, s.1 bound, t.1 bound))
clause_mentions (ForClause-F.In local type c) = clause_by _ (λ bound. omega (arith, c.1 bound))
clause_mentions (ForClause-F.From local type s None None) = clause_by _ (λ bound. counts_mention s None None bound)
clause_mentions (ForClause-F.From local type s None (Some t)) = clause_by _ (λ bound. counts_mention s None (Some t) bound)
clause_mentions (ForClause-F.From local type s (Some y) None) = clause_by _ (λ bound. counts_mention s (Some y) None bound)
clause_mentions (ForClause-F.From local type s (Some y) (Some t)) = clause_by _ (λ bound. counts_mention s (Some y) (Some t) bound)

item_mentions : (y : Item-F A_clause An_item A_term A_block A_for A_lambda) → I (item_of C I T K F L y)
item_mentions (Item-F.Run y) = item_by _ (λ bound. omega (arith, y.1 bound))
item_mentions (Item-F.Let all rest y) = item_by _ (λ bound. omega (arith, y.1 bound))
item_mentions (Item-F.LetMethods ys) = item_by _ (λ bound. omega (arith, methods_mention ys bound))
item_mentions (Item-F.Handler type y) = item_by _ (λ bound. omega (arith, y.1 bound))

one_mentioned : (local : ℕ) (bound : ℕ) → count (λ k. nat_eq local k) bound ≤ 1
one_mentioned local bound = (count_one local bound).0

set_mentions : (local : ℕ) (y : A_term) (bound : ℕ) → count (λ k. nat_eq local k || (false || (marks_of k y.0).mentioned)) bound ≤ 1 + nodes_of y.0
set_mentions local y bound = omega (arith, count_or (λ k. nat_eq local k) (λ k. (marks_of k y.0).mentioned) bound, one_mentioned local bound, y.1 bound)

term_mentions : (y : Term-F A_clause An_item A_term A_block A_for A_lambda) → T (term_of C I T K F L y)
term_mentions (Term-F.Lit value) = term_by _ (λ bound. omega (arith, count_none bound))
term_mentions (Term-F.Local local) = term_by _ (λ bound. one_mentioned local bound)
term_mentions (Term-F.Global binding) = term_by _ (λ bound. omega (arith, count_none bound))
term_mentions (Term-F.ClassName class) = term_by _ (λ bound. omega (arith, count_none bound))
term_mentions (Term-F.GenericName generic) = term_by _ (λ bound. omega (arith, count_none bound))
term_mentions (Term-F.SetLocal local y) = term_by _ (λ bound. set_mentions local y bound)
term_mentions (Term-F.SetGlobal binding y) = term_by _ (λ bound. omega (arith, y.1 bound))
term_mentions (Term-F.Call f ys) = term_by _ (λ bound. omega (arith, mentions_join (λ k. marks_of k f.0) (terms_marked ys) bound, f.1 bound, terms_mention ys bound))
term_mentions (Term-F.Site generic ys) = term_by _ (λ bound. omega (arith, terms_mention ys bound))
term_mentions (Term-F.Cond ys y) = term_by _ (λ bound. omega (arith, mentions_join (pairs_marked ys) (λ k. marks_of k y.0) bound, pairs_mention ys bound, y.1 bound))
term_mentions (Term-F.And a b) = term_by _ (λ bound. omega (arith, mentions_join (λ k. marks_of k a.0) (λ k. marks_of k b.0) bound, a.1 bound, b.1 bound))
term_mentions (Term-F.Or a b) = term_by _ (λ bound. omega (arith, mentions_join (λ k. marks_of k a.0) (λ k. marks_of k b.0) bound, a.1 bound, b.1 bound))
term_mentions (Term-F.Select v None ys None) = term_by _ (λ bound. select_mentions v None ys None bound)
term_mentions (Term-F.Select v None ys (Some o)) = term_by _ (λ bound. select_mentions v None ys (Some o) bound)
term_mentions (Term-F.Select v (Some t) ys None) = term_by _ (λ bound. select_mentions v (Some t) ys None bound)
term_mentions (Term-F.Select v (Some t) ys (Some o)) = term_by _ (λ bound. select_mentions v (Some t) ys (Some o) bound)
term_mentions (Term-F.Body ys) = term_by _ (λ bound. omega (arith, items_mention ys bound))
term_mentions (Term-F.Loop a b) = term_by _ (λ bound. omega (arith, mentions_join (λ k. marks_of k a.0) (λ k. marks_of k b.0) bound, a.1 bound, b.1 bound))
term_mentions (Term-F.For y) = term_by _ (λ bound. y.1 bound)
term_mentions (Term-F.Method y) = term_by _ (λ bound. y.1 bound)
term_mentions (Term-F.Block y) = term_by _ (λ bound. y.1 bound)
term_mentions (Term-F.Op operation ys) = term_by _ (λ bound. omega (arith, terms_mention ys bound))
term_mentions (Term-F.Next None) = term_by _ (λ bound. omega (arith, given_mentions None bound))
term_mentions (Term-F.Next (Some ys)) = term_by _ (λ bound. omega (arith, given_mentions (Some ys) bound))

block_mention : (b : A_term) (a c : Option A_term) (ys : List A_catch) (bound : ℕ) → mentions (λ k. join (marks_of k b.0) (join (held_marked a k) (join (held_marked c k) (catches_marked ys k)))) bound ≤ 1 + (nodes_of b.0 + (held_size a + (held_size c + catches_size ys)))
block_mention b a c ys bound =
    omega (arith, four (λ k. marks_of k b.0) (held_marked a) (held_marked c) (catches_marked ys) bound (nodes_of b.0) (held_size a) (held_size c) (catches_size ys) (b.1 bound) (held_mentions a bound) (held_mentions c bound) (catches_mention ys bound))

abbrev a_block : Option ℕ → A_term → Option A_term → Option A_term → List A_catch → BlockRow-F A_clause An_item A_term A_block A_for A_lambda
a_block x b a c ys = record { exit = x; body = b; afterwards = a; cleanup = c; clauses = ys }

block_mentions : (x : Option ℕ) (b : A_term) (a c : Option A_term) (ys : List A_catch) → K (block_of C I T K F L (a_block x b a c ys))
block_mentions x b None None ys = block_by _ (λ bound. block_mention b None None ys bound)
block_mentions x b None (Some c) ys = block_by _ (λ bound. block_mention b None (Some c) ys bound)
block_mentions x b (Some a) None ys = block_by _ (λ bound. block_mention b (Some a) None ys bound)
block_mentions x b (Some a) (Some c) ys = block_by _ (λ bound. block_mention b (Some a) (Some c) ys bound)

abbrev clauses_marked : List A_clause → ℕ → Marks
clauses_marked ys k = join_all (map (marks_of_clause k) (map (λ y. y.0) ys))

abbrev clauses_size : List A_clause → ℕ
clauses_size ys = total (map nodes_of_clause (map (λ y. y.0) ys))

for_mention : (cs : List A_clause) (t : Option A_test) (b : A_term) (f : Option A_term) (bound : ℕ) → mentions (λ k. join (clauses_marked cs k) (join (test_marked t k) (join (marks_of k b.0) (held_marked f k)))) bound ≤ 1 + (clauses_size cs + (test_size t + (nodes_of b.0 + held_size f)))
for_mention cs t b f bound =
    omega (arith, four (clauses_marked cs) (test_marked t) (λ k. marks_of k b.0) (held_marked f) bound (clauses_size cs) (test_size t) (nodes_of b.0) (held_size f) (clauses_mention cs bound) (test_mentions t bound) (b.1 bound) (held_mentions f bound))

abbrev a_for : List A_clause → Option A_test → A_term → Option A_term → ForRow-F A_clause An_item A_term A_block A_for A_lambda
a_for cs t b f = record { clauses = cs; test = t; body = b; finally = f }

for_mentions : (cs : List A_clause) (t : Option A_test) (b : A_term) (f : Option A_term) → F (for_of C I T K F L (a_for cs t b f))
for_mentions cs None b None = for_by _ (λ bound. for_mention cs None b None bound)
for_mentions cs None b (Some f) = for_by _ (λ bound. for_mention cs None b (Some f) bound)
for_mentions cs (Some t) b None = for_by _ (λ bound. for_mention cs (Some t) b None bound)
for_mentions cs (Some t) b (Some f) = for_by _ (λ bound. for_mention cs (Some t) b (Some f) bound)

lambda_mentions : (y : Lambda-F A_clause An_item A_term A_block A_for A_lambda) → L (lambda_of C I T K F L y)
lambda_mentions y = lambda_by _ (λ bound.
    let both : ℕ → Marks = λ k. join (keywords_marked y.keywords k) (marks_of k y.body.0) in
    omega (arith, count_and (λ k. (both k).mentioned) (λ k. nat_lt k y.first) bound, mentions_join (keywords_marked y.keywords) (λ k. marks_of k y.body.0) bound, keywords_mention y.keywords bound, y.body.1 bound))

pub mentioned : (term : Term) → T term
mentioned = by_terms C I T K F L clause_mentions item_mentions term_mentions (λ y. block_mentions y.exit y.body y.afterwards y.cleanup y.clauses) (λ y. for_mentions y.clauses y.test y.body y.finally) lambda_mentions

-- A closure captures no more locals than its lambda has nodes.
pub captures_few : (lambda : Lambda) → length (captured_by lambda) ≤ nodes_of_lambda lambda
captures_few lambda =
    let bound = (out-Lambda lambda).first in
    let term = roll-Term (Term-F.Method lambda) in
    let same = count_same (λ k. (marks_of k term).mentioned) (λ k. is_captured_by k lambda) bound (λ k. ap (λ (m : Marks). m.mentioned) (term_is k (Term-F.Method lambda))) in
    omega (arith, mentioned term bound, same, term_size_is (Term-F.Method lambda))

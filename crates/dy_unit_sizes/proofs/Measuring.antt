-- How many items the code of a term names, with what is held for the lambdas inside of it.
use Rattle.std.proofs.Common.{◌≡◌, ℕ, ◌+◌, ◌*◌, ◌≤◌, Bool, ℤ, List, [], ◌∷◌, ◌++◌, length, map, Option, Some, None, refl, ap, arith}
use Rattle.std.specs.Prelude.{flat_map}
use Rattle.std.specs.Option.{option_map}
use Rattle.std.proofs.lemmas.List.{length-map}
use Rattle.dy_term.specs.declared.types.DyType.{DyType}
use Rattle.dy_term.specs.declared.term.Limit.{Limit}
use Rattle.dy_term.specs.declared.term.ForClause.{ForClause, ForClause-F, roll-ForClause, map-ForClause, para-roll-ForClause}
use Rattle.dy_term.specs.declared.term.Item.{Item, Item-F, roll-Item, map-Item, para-roll-Item}
use Rattle.dy_term.specs.declared.term.Term.{Term, Term-F, out-Term, roll-Term, map-Term, para-roll-Term}
use Rattle.dy_term.specs.declared.term.BlockRow.{BlockRow, BlockRow-F, roll-BlockRow, map-BlockRow, para-roll-BlockRow}
use Rattle.dy_term.specs.declared.term.ForRow.{ForRow, ForRow-F, roll-ForRow, map-ForRow, para-roll-ForRow}
use Rattle.dy_term.specs.declared.term.Lambda.{Lambda, Lambda-F}
use Rattle.dy_code.specs.Fetching as instr
use Rattle.dy_meaning.specs.Lambdas.{Inside, of_all, of_held, of_pairs, of_arms, of_second, itself_and, clause_lambdas, item_lambdas, term_lambdas, block_lambdas, for_lambdas, lambdas_in_clause, lambdas_in_item, lambdas_in, lambdas_in_block, lambdas_in_for, lambdas_within}
use Rattle.dy_meaning.specs.Layouts.{Layout, place_of, captured_by}
use Rattle.dy_meaning.specs.Numbering.{Numbered, terms_from, behind_terms, items_from, branches_from, behind_branches, arms_from, behind_arms, held_from, behind_held, clauses_from, behind_clauses, second_from, behind_second}
use Rattle.dy_meaning.proofs.Induction.{by_terms, Clauses_with, Items_with, Terms_with, Blocks_with, Fors_with, Lambdas_with, clause_of, item_of, term_of, block_of, for_of, lambda_of}
use Rattle.dy_lowered.specs.Flat.{Code, one}
use Rattle.dy_lowered.specs.Parts.{closing, select, Part, part_code}
use Rattle.dy_lowered.specs.Terms.{class_named, generic_named, function_named, number_of, known_or, limit_from, step_from, methods_from, clause_coded, item_coded, term_coded, block_coded, for_coded, code_of, item_code, clause_code, block_code, for_code, lambda_code}
use Rattle.dy_lowered.specs.Turns.{Clause, for_loop}
use Rattle.dy_lowering_whole.specs.sizes.Nodes.{total, held, second, nodes_of_clause, nodes_of_item, nodes_of, nodes_of_block, nodes_of_for, nodes_of_lambda}
use Rattle.dy_lowering_whole.proofs.sizes.Closing.{naming, naming_light}
use Rattle.dy_lowering_whole.proofs.sizes.Marked.{clause_size, item_size, term_size, block_size, for_size, clause_size_is, item_size_is, term_size_is, block_size_is, for_size_is}
use Rattle.dy_lowering_whole.proofs.sizes.Measuring.{beside}
use Rattle.dy_lowering_whole.proofs.sizes.Weighing.{by_count, read_weighs, letting_weighs, sum_of, with_weighs, calling_weighs, assigning_weighs, pairs_of, branching_weighs, both_weigh, either_weighs, methods_of, local_methods_weigh, handler_weighs, loop_weighs}
use Rattle.dy_unit_sizes.proofs.Pieces.{W, join, values_of, arms_of, held_in, select_names, parts_in, body_names}
use Rattle.dy_unit_sizes.proofs.Looping.{limit_cost, step_cost, cost, costs, test_cost, for_names}

-- one layer: its code, and the lambdas inside of it
abbrev clause_layer : Layout → ForClause-F ForClause Item Term BlockRow ForRow Lambda → ℕ → Clause
clause_layer layout x = clause_coded layout (map-ForClause _ _ _ _ _ _ _ _ _ _ _ _ (beside (clause_code layout)) (beside (item_code layout)) (beside (code_of layout)) (beside (block_code layout)) (beside (for_code layout)) (beside (lambda_code layout)) x)

clause_is : (layout : Layout) (x : ForClause-F ForClause Item Term BlockRow ForRow Lambda) → clause_code layout (roll-ForClause x) ≡ clause_layer layout x
clause_is layout = para-roll-ForClause _ _ _ _ _ _ _ _ _ _ _ _

abbrev item_layer : Layout → Item-F ForClause Item Term BlockRow ForRow Lambda → ℕ → Part
item_layer layout x = item_coded layout (map-Item _ _ _ _ _ _ _ _ _ _ _ _ (beside (clause_code layout)) (beside (item_code layout)) (beside (code_of layout)) (beside (block_code layout)) (beside (for_code layout)) (beside (lambda_code layout)) x)

item_is : (layout : Layout) (x : Item-F ForClause Item Term BlockRow ForRow Lambda) → item_code layout (roll-Item x) ≡ item_layer layout x
item_is layout = para-roll-Item _ _ _ _ _ _ _ _ _ _ _ _

abbrev term_layer : Layout → Term-F ForClause Item Term BlockRow ForRow Lambda → ℕ → Code
term_layer layout x = term_coded layout (map-Term _ _ _ _ _ _ _ _ _ _ _ _ (beside (clause_code layout)) (beside (item_code layout)) (beside (code_of layout)) (beside (block_code layout)) (beside (for_code layout)) (beside (lambda_code layout)) x)

term_is : (layout : Layout) (x : Term-F ForClause Item Term BlockRow ForRow Lambda) → code_of layout (roll-Term x) ≡ term_layer layout x
term_is layout = para-roll-Term _ _ _ _ _ _ _ _ _ _ _ _

abbrev block_layer : Layout → BlockRow-F ForClause Item Term BlockRow ForRow Lambda → ℕ → Code
block_layer layout x = block_coded layout (map-BlockRow _ _ _ _ _ _ _ _ _ _ _ _ (beside (clause_code layout)) (beside (item_code layout)) (beside (code_of layout)) (beside (block_code layout)) (beside (for_code layout)) (beside (lambda_code layout)) x)

block_is : (layout : Layout) (x : BlockRow-F ForClause Item Term BlockRow ForRow Lambda) → block_code layout (roll-BlockRow x) ≡ block_layer layout x
block_is layout = para-roll-BlockRow _ _ _ _ _ _ _ _ _ _ _ _

abbrev for_layer : Layout → ForRow-F ForClause Item Term BlockRow ForRow Lambda → ℕ → Code
for_layer layout x = for_coded layout (map-ForRow _ _ _ _ _ _ _ _ _ _ _ _ (beside (clause_code layout)) (beside (item_code layout)) (beside (code_of layout)) (beside (block_code layout)) (beside (for_code layout)) (beside (lambda_code layout)) x)

for_is : (layout : Layout) (x : ForRow-F ForClause Item Term BlockRow ForRow Lambda) → for_code layout (roll-ForRow x) ≡ for_layer layout x
for_is layout = para-roll-ForRow _ _ _ _ _ _ _ _ _ _ _ _

abbrev clause_held : ForClause-F ForClause Item Term BlockRow ForRow Lambda → List Lambda
clause_held x = clause_lambdas (map-ForClause _ _ _ _ _ _ _ _ _ _ _ _ (beside lambdas_in_clause) (beside lambdas_in_item) (beside lambdas_in) (beside lambdas_in_block) (beside lambdas_in_for) (beside lambdas_within) x)

clause_held_is : (x : ForClause-F ForClause Item Term BlockRow ForRow Lambda) → lambdas_in_clause (roll-ForClause x) ≡ clause_held x
clause_held_is = para-roll-ForClause _ _ _ _ _ _ _ _ _ _ _ _

abbrev item_held : Item-F ForClause Item Term BlockRow ForRow Lambda → List Lambda
item_held x = item_lambdas (map-Item _ _ _ _ _ _ _ _ _ _ _ _ (beside lambdas_in_clause) (beside lambdas_in_item) (beside lambdas_in) (beside lambdas_in_block) (beside lambdas_in_for) (beside lambdas_within) x)

item_held_is : (x : Item-F ForClause Item Term BlockRow ForRow Lambda) → lambdas_in_item (roll-Item x) ≡ item_held x
item_held_is = para-roll-Item _ _ _ _ _ _ _ _ _ _ _ _

abbrev term_held : Term-F ForClause Item Term BlockRow ForRow Lambda → List Lambda
term_held x = term_lambdas (map-Term _ _ _ _ _ _ _ _ _ _ _ _ (beside lambdas_in_clause) (beside lambdas_in_item) (beside lambdas_in) (beside lambdas_in_block) (beside lambdas_in_for) (beside lambdas_within) x)

term_held_is : (x : Term-F ForClause Item Term BlockRow ForRow Lambda) → lambdas_in (roll-Term x) ≡ term_held x
term_held_is = para-roll-Term _ _ _ _ _ _ _ _ _ _ _ _

abbrev block_held : BlockRow-F ForClause Item Term BlockRow ForRow Lambda → List Lambda
block_held x = block_lambdas (map-BlockRow _ _ _ _ _ _ _ _ _ _ _ _ (beside lambdas_in_clause) (beside lambdas_in_item) (beside lambdas_in) (beside lambdas_in_block) (beside lambdas_in_for) (beside lambdas_within) x)

block_held_is : (x : BlockRow-F ForClause Item Term BlockRow ForRow Lambda) → lambdas_in_block (roll-BlockRow x) ≡ block_held x
block_held_is = para-roll-BlockRow _ _ _ _ _ _ _ _ _ _ _ _

abbrev for_held : ForRow-F ForClause Item Term BlockRow ForRow Lambda → List Lambda
for_held x = for_lambdas (map-ForRow _ _ _ _ _ _ _ _ _ _ _ _ (beside lambdas_in_clause) (beside lambdas_in_item) (beside lambdas_in) (beside lambdas_in_block) (beside lambdas_in_for) (beside lambdas_within) x)

for_held_is : (x : ForRow-F ForClause Item Term BlockRow ForRow Lambda) → lambdas_in_for (roll-ForRow x) ≡ for_held x
for_held_is = para-roll-ForRow _ _ _ _ _ _ _ _ _ _ _ _

-- what holds of terms, and of closures of lambdas
module _ (keeps : List Lambda → ℕ → ℕ) where
  abbrev pub C : ForClause → Type 0
  C x = (layout : Layout) (n m : ℕ) → cost (clause_code layout x n) + keeps (lambdas_in_clause x) m ≤ 4 * nodes_of_clause x

  abbrev pub I : Item → Type 0
  I x = (layout : Layout) (n m : ℕ) → W (part_code (item_code layout x n)) + keeps (lambdas_in_item x) m ≤ 4 * nodes_of_item x

  abbrev pub T : Term → Type 0
  T x = (layout : Layout) (n m : ℕ) → W (code_of layout x n) + (keeps (lambdas_in x) m + 3) ≤ 4 * nodes_of x

  abbrev pub K : BlockRow → Type 0
  K x = (layout : Layout) (n m : ℕ) → W (block_code layout x n) + (keeps (lambdas_in_block x) m + 3) ≤ 4 * nodes_of_block x

  abbrev pub F : ForRow → Type 0
  F x = (layout : Layout) (n m : ℕ) → W (for_code layout x n) + (keeps (lambdas_in_for x) m + 3) ≤ 4 * nodes_of_for x

  abbrev pub L : Lambda → Type 0
  L x = (layout : Layout) (n m : ℕ) → W (closing n (map (place_of layout) (captured_by x))) + (keeps (x ∷ lambdas_within x) m + 3) ≤ 4 * nodes_of_lambda x

  abbrev pub A_clause : Type 0
  A_clause = Clauses_with C I T K F L

  abbrev pub An_item : Type 0
  An_item = Items_with C I T K F L

  abbrev pub A_term : Type 0
  A_term = Terms_with C I T K F L

  abbrev pub A_block : Type 0
  A_block = Blocks_with C I T K F L

  abbrev pub A_for : Type 0
  A_for = Fors_with C I T K F L

  abbrev pub A_lambda : Type 0
  A_lambda = Lambdas_with C I T K F L

  abbrev pub A_lambda_row : Type 0
  A_lambda_row = Lambda-F A_clause An_item A_term A_block A_for A_lambda

module _ (keeps : List Lambda → ℕ → ℕ) (keeps_none : (m : ℕ) → keeps [] m ≡ 0)
    (keeps_join : (xs ys : List Lambda) (m : ℕ) → keeps (xs ++ ys) m ≤ keeps xs m + keeps ys (m + length xs))
    (close : (y : A_lambda_row keeps) → L keeps (lambda_of (C keeps) (I keeps) (T keeps) (K keeps) (F keeps) (L keeps) y)) where
  clause_by : (x : ForClause-F ForClause Item Term BlockRow ForRow Lambda) → ((layout : Layout) (n m : ℕ) → cost (clause_layer layout x n) + keeps (clause_held x) m ≤ 4 * clause_size x) → C keeps (roll-ForClause x)
  clause_by x h layout n m =
      let code = ap (λ (make : ℕ → Clause). cost (make n)) (clause_is layout x) in
      let inner = ap (λ (xs : List Lambda). keeps xs m) (clause_held_is x) in
      omega (arith, h layout n m, code, inner, clause_size_is x)

  item_by : (x : Item-F ForClause Item Term BlockRow ForRow Lambda) → ((layout : Layout) (n m : ℕ) → W (part_code (item_layer layout x n)) + keeps (item_held x) m ≤ 4 * item_size x) → I keeps (roll-Item x)
  item_by x h layout n m =
      let code = ap (λ (make : ℕ → Part). W (part_code (make n))) (item_is layout x) in
      let inner = ap (λ (xs : List Lambda). keeps xs m) (item_held_is x) in
      omega (arith, h layout n m, code, inner, item_size_is x)

  term_by : (x : Term-F ForClause Item Term BlockRow ForRow Lambda) → ((layout : Layout) (n m : ℕ) → W (term_layer layout x n) + (keeps (term_held x) m + 3) ≤ 4 * term_size x) → T keeps (roll-Term x)
  term_by x h layout n m =
      let code = ap (λ (make : ℕ → Code). W (make n)) (term_is layout x) in
      let inner = ap (λ (xs : List Lambda). keeps xs m) (term_held_is x) in
      omega (arith, h layout n m, code, inner, term_size_is x)

  block_by : (x : BlockRow-F ForClause Item Term BlockRow ForRow Lambda) → ((layout : Layout) (n m : ℕ) → W (block_layer layout x n) + (keeps (block_held x) m + 3) ≤ 4 * block_size x) → K keeps (roll-BlockRow x)
  block_by x h layout n m =
      let code = ap (λ (make : ℕ → Code). W (make n)) (block_is layout x) in
      let inner = ap (λ (xs : List Lambda). keeps xs m) (block_held_is x) in
      omega (arith, h layout n m, code, inner, block_size_is x)

  for_by : (x : ForRow-F ForClause Item Term BlockRow ForRow Lambda) → ((layout : Layout) (n m : ℕ) → W (for_layer layout x n) + (keeps (for_held x) m + 3) ≤ 4 * for_size x) → F keeps (roll-ForRow x)
  for_by x h layout n m =
      let code = ap (λ (make : ℕ → Code). W (make n)) (for_is layout x) in
      let inner = ap (λ (xs : List Lambda). keeps xs m) (for_held_is x) in
      omega (arith, h layout n m, code, inner, for_size_is x)

  abbrev A_terms : Type 0
  A_terms = A_term keeps

  abbrev An_items : Type 0
  An_items = An_item keeps

  abbrev A_clauses : Type 0
  A_clauses = A_clause keeps

  abbrev A_blocks : Type 0
  A_blocks = A_block keeps

  abbrev A_fors : Type 0
  A_fors = A_for keeps

  abbrev A_lambdas : Type 0
  A_lambdas = A_lambda keeps

  abbrev coded : Layout → List A_terms → List (Numbered Term Code)
  coded layout ys = map (beside (code_of layout)) (map (λ y. y.0) ys)

  abbrev inside : List A_terms → List Lambda
  inside ys = of_all (map (beside lambdas_in) (map (λ y. y.0) ys))

  abbrev size : List A_terms → ℕ
  size ys = total (map nodes_of (map (λ y. y.0) ys))

  terms_weigh : (ys : List A_terms) (layout : Layout) (n m : ℕ) → sum_of naming naming_light (terms_from (coded layout ys) n) + keeps (inside ys) m ≤ 4 * size ys
  terms_weigh [] layout n m = omega (arith, keeps_none m)
  terms_weigh (y ∷ ys) layout n m =
      let a = lambdas_in y.0 in
      omega (arith, keeps_join a (inside ys) m, y.1 layout n m, terms_weigh ys layout (n + length a) (m + length a))

  values_weigh : (ys : List A_terms) (layout : Layout) (n m : ℕ) → values_of (terms_from (coded layout ys) n) + keeps (inside ys) m ≤ 4 * size ys
  values_weigh [] layout n m = omega (arith, keeps_none m)
  values_weigh (y ∷ ys) layout n m =
      let a = lambdas_in y.0 in
      omega (arith, keeps_join a (inside ys) m, y.1 layout n m, values_weigh ys layout (n + length a) (m + length a))

  terms_count : (ys : List A_terms) (layout : Layout) (n : ℕ) → keeps (inside ys) n ≤ 4 * size ys
  terms_count ys layout n = omega (arith, terms_weigh ys layout n n)

  abbrev coded_items : Layout → List An_items → List (Numbered Item Part)
  coded_items layout ys = map (beside (item_code layout)) (map (λ y. y.0) ys)

  abbrev items_inside : List An_items → List Lambda
  items_inside ys = of_all (map (beside lambdas_in_item) (map (λ y. y.0) ys))

  items_weigh : (ys : List An_items) (layout : Layout) (n m : ℕ) → parts_in (items_from (coded_items layout ys) n) + keeps (items_inside ys) m ≤ 4 * total (map nodes_of_item (map (λ y. y.0) ys))
  items_weigh [] layout n m = omega (arith, keeps_none m)
  items_weigh (y ∷ ys) layout n m =
      let a = lambdas_in_item y.0 in
      omega (arith, keeps_join a (items_inside ys) m, y.1 layout n m, items_weigh ys layout (n + length a) (m + length a))

  abbrev coded_clauses : Layout → List A_clauses → List (Numbered ForClause Clause)
  coded_clauses layout ys = map (beside (clause_code layout)) (map (λ y. y.0) ys)

  abbrev clauses_inside : List A_clauses → List Lambda
  clauses_inside ys = of_all (map (beside lambdas_in_clause) (map (λ y. y.0) ys))

  abbrev clauses_size : List A_clauses → ℕ
  clauses_size ys = total (map nodes_of_clause (map (λ y. y.0) ys))

  clauses_weigh : (ys : List A_clauses) (layout : Layout) (n m : ℕ) → costs (clauses_from (coded_clauses layout ys) n) + keeps (clauses_inside ys) m ≤ 4 * clauses_size ys
  clauses_weigh [] layout n m = omega (arith, keeps_none m)
  clauses_weigh (y ∷ ys) layout n m =
      let a = lambdas_in_clause y.0 in
      omega (arith, keeps_join a (clauses_inside ys) m, y.1 layout n m, clauses_weigh ys layout (n + length a) (m + length a))

  abbrev A_pair : Type 0
  A_pair = A_terms × A_terms

  abbrev pair_terms : List A_pair → List (Term × Term)
  pair_terms ys = map (λ (y : A_pair). (y.0.0, y.1.0)) ys

  abbrev coded_pairs : Layout → List A_pair → List (Numbered Term Code × Numbered Term Code)
  coded_pairs layout ys = map (λ (p : Term × Term). (beside (code_of layout) p.0, beside (code_of layout) p.1)) (pair_terms ys)

  abbrev pairs_inside : List A_pair → List Lambda
  pairs_inside ys = of_pairs (map (λ (p : Term × Term). (beside lambdas_in p.0, beside lambdas_in p.1)) (pair_terms ys))

  abbrev pairs_size : List A_pair → ℕ
  pairs_size ys = total (map (λ (n : ℕ × ℕ). n.0 + n.1) (map (λ (p : Term × Term). (nodes_of p.0, nodes_of p.1)) (pair_terms ys)))

  pairs_weigh : (ys : List A_pair) (layout : Layout) (n m : ℕ) → pairs_of naming naming_light (branches_from (coded_pairs layout ys) n) + keeps (pairs_inside ys) m ≤ 4 * pairs_size ys
  pairs_weigh [] layout n m = omega (arith, keeps_none m)
  pairs_weigh (y ∷ ys) layout n m =
      let a = lambdas_in y.0.0 in
      let b = lambdas_in y.1.0 in
      omega (
        arith,
        keeps_join (a ++ b) (pairs_inside ys) m,
        keeps_join a b m,
        y.0.1 layout n m,
        y.1.1 layout (n + length a) (m + length a),
        pairs_weigh ys layout (n + length a + length b) (m + length (a ++ b)),
      )

  abbrev An_arm : Type 0
  An_arm = List A_terms × A_terms

  abbrev arm_terms : List An_arm → List (List Term × Term)
  arm_terms ys = map (λ (y : An_arm). (map (λ z. z.0) y.0, y.1.0)) ys

  abbrev coded_arms : Layout → List An_arm → List (List (Numbered Term Code) × Numbered Term Code)
  coded_arms layout ys = map (λ (p : List Term × Term). (map (beside (code_of layout)) p.0, beside (code_of layout) p.1)) (arm_terms ys)

  abbrev arms_inside : List An_arm → List Lambda
  arms_inside ys = of_arms (map (λ (p : List Term × Term). (map (beside lambdas_in) p.0, beside lambdas_in p.1)) (arm_terms ys))

  abbrev arms_size : List An_arm → ℕ
  arms_size ys = total (map (λ (n : List ℕ × ℕ). total n.0 + n.1) (map (λ (p : List Term × Term). (map nodes_of p.0, nodes_of p.1)) (arm_terms ys)))

  arms_weigh : (ys : List An_arm) (layout : Layout) (n m : ℕ) → arms_of (arms_from (coded_arms layout ys) n) + keeps (arms_inside ys) m ≤ 4 * arms_size ys
  arms_weigh [] layout n m = omega (arith, keeps_none m)
  arms_weigh (y ∷ ys) layout n m =
      let a = inside y.0 in
      let b = lambdas_in y.1.0 in
      let k = behind_terms (coded layout y.0) n in
      omega (
        arith,
        keeps_join (a ++ b) (arms_inside ys) m,
        keeps_join a b m,
        values_weigh y.0 layout n m,
        y.1.1 layout k (m + length a),
        arms_weigh ys layout (k + length b) (m + length (a ++ b)),
      )

  abbrev coded_held : Layout → Option A_terms → Option (Numbered Term Code)
  coded_held layout y = option_map (beside (code_of layout)) (option_map (λ y. y.0) y)

  abbrev held_inside : Option A_terms → List Lambda
  held_inside y = of_held (option_map (beside lambdas_in) (option_map (λ y. y.0) y))

  abbrev held_size : Option A_terms → ℕ
  held_size y = held (option_map nodes_of (option_map (λ y. y.0) y))

  held_weighs : (y : Option A_terms) (layout : Layout) (n m : ℕ) → held_in (held_from (coded_held layout y) n) + keeps (held_inside y) m ≤ 4 * held_size y
  held_weighs None layout n m = omega (arith, keeps_none m)
  held_weighs (Some y) layout n m = omega (arith, y.1 layout n m)

  -- the parts of a `for`
  abbrev A_limit : Type 0
  A_limit = Limit × A_terms

  abbrev A_test : Type 0
  A_test = Bool × A_terms

  abbrev coded_limit : Layout → Option A_limit → Option (Limit × Numbered Term Code)
  coded_limit layout y = option_map (λ (p : Limit × Term). (p.0, beside (code_of layout) p.1)) (option_map (λ (p : A_limit). (p.0, p.1.0)) y)

  abbrev coded_test : Layout → Option A_test → Option (Bool × Numbered Term Code)
  coded_test layout y = option_map (λ (p : Bool × Term). (p.0, beside (code_of layout) p.1)) (option_map (λ (p : A_test). (p.0, p.1.0)) y)

  abbrev limit_inside : Option A_limit → List Lambda
  limit_inside y = of_second (option_map (λ (p : Limit × Term). (p.0, beside lambdas_in p.1)) (option_map (λ (p : A_limit). (p.0, p.1.0)) y))

  abbrev test_inside : Option A_test → List Lambda
  test_inside y = of_second (option_map (λ (p : Bool × Term). (p.0, beside lambdas_in p.1)) (option_map (λ (p : A_test). (p.0, p.1.0)) y))

  abbrev limit_size : Option A_limit → ℕ
  limit_size y = second (option_map (λ (p : Limit × Term). (p.0, nodes_of p.1)) (option_map (λ (p : A_limit). (p.0, p.1.0)) y))

  abbrev test_size : Option A_test → ℕ
  test_size y = second (option_map (λ (p : Bool × Term). (p.0, nodes_of p.1)) (option_map (λ (p : A_test). (p.0, p.1.0)) y))

  limit_by : (limit : Limit) (known : Option ℤ) (code : Code) → limit_cost (Some (limit, known_or known code)) ≤ W code + 2
  limit_by limit None code = omega arith
  limit_by limit (Some number) code = omega arith

  step_by : (known : Option ℤ) (code : Code) → step_cost (known_or known code) ≤ W code + 7
  step_by None code = omega arith
  step_by (Some number) code = omega arith

  limit_weighs : (y : Option A_limit) (layout : Layout) (n m : ℕ) → limit_cost (limit_from (coded_limit layout y) n) + keeps (limit_inside y) m ≤ 4 * limit_size y + 1
  limit_weighs None layout n m = omega (arith, keeps_none m)
  limit_weighs (Some y) layout n m = omega (arith, limit_by y.0 (number_of (out-Term y.1.0)) (code_of layout y.1.0 n), y.1.1 layout n m)

  step_weighs : (y : Option A_terms) (layout : Layout) (n m : ℕ) → step_cost (step_from (coded_held layout y) n) + keeps (held_inside y) m ≤ 4 * held_size y + 4
  step_weighs None layout n m = omega (arith, keeps_none m)
  step_weighs (Some y) layout n m = omega (arith, step_by (number_of (out-Term y.0)) (code_of layout y.0 n), y.1 layout n m)

  test_weighs : (y : Option A_test) (layout : Layout) (n m : ℕ) → test_cost (second_from (coded_test layout y) n) + keeps (test_inside y) m ≤ 4 * test_size y
  test_weighs None layout n m = omega (arith, keeps_none m)
  test_weighs (Some y) layout n m = omega (arith, y.1.1 layout n m)

  counts_weigh : (s : A_terms) (y : Option A_limit) (t : Option A_terms) (layout : Layout) (n m : ℕ)
      → W (code_of layout s.0 n) + (1 + (limit_cost (limit_from (coded_limit layout y) (n + length (lambdas_in s.0))) + step_cost (step_from (coded_held layout t) (behind_second (coded_limit layout y) (n + length (lambdas_in s.0))))))
      + keeps (lambdas_in s.0 ++ limit_inside y ++ held_inside t) m ≤ 4 * (1 + (nodes_of s.0 + (limit_size y + held_size t)))
  counts_weigh s y t layout n m =
      let a = lambdas_in s.0 in
      let b = limit_inside y in
      let c = held_inside t in
      let k = n + length a in
      omega (
        arith,
        keeps_join (a ++ b) c m,
        keeps_join a b m,
        s.1 layout n m,
        limit_weighs y layout k (m + length a),
        step_weighs t layout (behind_second (coded_limit layout y) k) (m + length (a ++ b)),
      )

  clause_weighs : (y : ForClause-F A_clauses An_items A_terms A_blocks A_fors A_lambdas) → C keeps (clause_of (C keeps) (I keeps) (T keeps) (K keeps) (F keeps) (L keeps) y)
  clause_weighs (ForClause-F.Then local type s t) = clause_by _ (λ layout n m.
      let a = lambdas_in s.0 in
      omega (arith, keeps_join a (lambdas_in t.0) m, s.1 layout n m, t.1 layout (n + length a) (m + length a)))
  clause_weighs (ForClause-F.In local type c) = clause_by _ (λ layout n m. omega (arith, c.1 layout n m))
  clause_weighs (ForClause-F.From local type s None None) = clause_by _ (λ layout n m. counts_weigh s None None layout n m)
  clause_weighs (ForClause-F.From local type s None (Some t)) = clause_by _ (λ layout n m. counts_weigh s None (Some t) layout n m)
  clause_weighs (ForClause-F.From local type s (Some y) None) = clause_by _ (λ layout n m. counts_weigh s (Some y) None layout n m)
  clause_weighs (ForClause-F.From local type s (Some y) (Some t)) = clause_by _ (λ layout n m. counts_weigh s (Some y) (Some t) layout n m)

  turns_weigh : (cs : List A_clauses) (t : Option A_test) (b : A_terms) (f : Option A_terms) (layout : Layout) (n m : ℕ)
      → W (for_loop (clauses_from (coded_clauses layout cs) n) (second_from (coded_test layout t) (behind_clauses (coded_clauses layout cs) n)) (code_of layout b.0 (behind_second (coded_test layout t) (behind_clauses (coded_clauses layout cs) n)))
      (held_from (coded_held layout f) (behind_second (coded_test layout t) (behind_clauses (coded_clauses layout cs) n) + length (lambdas_in b.0))))
      + (keeps (clauses_inside cs ++ test_inside t ++ lambdas_in b.0 ++ held_inside f) m + 3) ≤ 4 * (1 + (clauses_size cs + (test_size t + (nodes_of b.0 + held_size f))))
  turns_weigh cs t b f layout n m =
      let a = clauses_inside cs in
      let c = test_inside t in
      let d = lambdas_in b.0 in
      let g = held_inside f in
      let j = behind_clauses (coded_clauses layout cs) n in
      let k = behind_second (coded_test layout t) j in
      let i = k + length d in
      omega (
        arith,
        for_names (clauses_from (coded_clauses layout cs) n) (second_from (coded_test layout t) j) (code_of layout b.0 k) (held_from (coded_held layout f) i),
        keeps_join (a ++ c ++ d) g m,
        keeps_join (a ++ c) d m,
        keeps_join a c m,
        clauses_weigh cs layout n m,
        test_weighs t layout j (m + length a),
        b.1 layout k (m + length (a ++ c)),
        held_weighs f layout i (m + length (a ++ c ++ d)),
      )

  abbrev a_for : List A_clauses → Option A_test → A_terms → Option A_terms → ForRow-F A_clauses An_items A_terms A_blocks A_fors A_lambdas
  a_for cs t b f = record { clauses = cs; test = t; body = b; finally = f }

  for_row_weighs : (cs : List A_clauses) (t : Option A_test) (b : A_terms) (f : Option A_terms) → F keeps (for_of (C keeps) (I keeps) (T keeps) (K keeps) (F keeps) (L keeps) (a_for cs t b f))
  for_row_weighs cs None b None = for_by _ (λ layout n m. turns_weigh cs None b None layout n m)
  for_row_weighs cs None b (Some f) = for_by _ (λ layout n m. turns_weigh cs None b (Some f) layout n m)
  for_row_weighs cs (Some t) b None = for_by _ (λ layout n m. turns_weigh cs (Some t) b None layout n m)
  for_row_weighs cs (Some t) b (Some f) = for_by _ (λ layout n m. turns_weigh cs (Some t) b (Some f) layout n m)

  -- blocks have no code yet
  abbrev A_catch : Type 0
  A_catch = Option ℕ × DyType × A_terms

  abbrev catch_terms : List A_catch → List (Option ℕ × DyType × Term)
  catch_terms ys = map (λ (y : A_catch). (y.0, y.1, y.2.0)) ys

  abbrev catches_inside : List A_catch → List Lambda
  catches_inside ys = flat_map (λ (c : Option ℕ × DyType × Inside Term). c.2.1) (map (λ (c : Option ℕ × DyType × Term). (c.0, c.1, beside lambdas_in c.2)) (catch_terms ys))

  abbrev catches_size : List A_catch → ℕ
  catches_size ys = total (map (λ (c : Option ℕ × DyType × ℕ). 1 + c.2) (map (λ (c : Option ℕ × DyType × Term). (c.0, c.1, nodes_of c.2)) (catch_terms ys)))

  catches_weigh : (ys : List A_catch) (layout : Layout) (m : ℕ) → keeps (catches_inside ys) m ≤ 4 * catches_size ys
  catches_weigh [] layout m = omega (arith, keeps_none m)
  catches_weigh (y ∷ ys) layout m =
      let a = lambdas_in y.2.0 in
      omega (arith, keeps_join a (catches_inside ys) m, y.2.1 layout 0 m, catches_weigh ys layout (m + length a))

  abbrev a_block : Option ℕ → A_terms → Option A_terms → Option A_terms → List A_catch → BlockRow-F A_clauses An_items A_terms A_blocks A_fors A_lambdas
  a_block x b a c ys = record { exit = x; body = b; afterwards = a; cleanup = c; clauses = ys }

  block_weighs : (b : A_terms) (a c : Option A_terms) (ys : List A_catch) (layout : Layout) (m : ℕ)
      → 0 + (keeps (lambdas_in b.0 ++ held_inside a ++ held_inside c ++ catches_inside ys) m + 3) ≤ 4 * (1 + (nodes_of b.0 + (held_size a + (held_size c + catches_size ys))))
  block_weighs b a c ys layout m =
      let i = lambdas_in b.0 in
      let j = held_inside a in
      let k = held_inside c in
      let g = catches_inside ys in
      omega (
        arith,
        keeps_join (i ++ j ++ k) g m,
        keeps_join (i ++ j) k m,
        keeps_join i j m,
        b.1 layout 0 m,
        held_weighs a layout 0 (m + length i),
        held_weighs c layout 0 (m + length (i ++ j)),
        catches_weigh ys layout (m + length (i ++ j ++ k)),
      )

  block_row_weighs : (x : Option ℕ) (b : A_terms) (a c : Option A_terms) (ys : List A_catch) → K keeps (block_of (C keeps) (I keeps) (T keeps) (K keeps) (F keeps) (L keeps) (a_block x b a c ys))
  block_row_weighs x b None None ys = block_by _ (λ layout n m. block_weighs b None None ys layout m)
  block_row_weighs x b None (Some c) ys = block_by _ (λ layout n m. block_weighs b None (Some c) ys layout m)
  block_row_weighs x b (Some a) None ys = block_by _ (λ layout n m. block_weighs b (Some a) None ys layout m)
  block_row_weighs x b (Some a) (Some c) ys = block_by _ (λ layout n m. block_weighs b (Some a) (Some c) ys layout m)

  -- local methods
  abbrev A_method : Type 0
  A_method = ℕ × A_lambdas

  abbrev method_rows : List A_method → List (ℕ × Lambda)
  method_rows ys = map (λ (y : A_method). (y.0, y.1.0)) ys

  abbrev coded_methods : List A_method → List (ℕ × (Lambda × Unit {0}))
  coded_methods ys = map (λ (m : ℕ × Lambda). (m.0, (m.1, tt))) (method_rows ys)

  abbrev methods_inside : List A_method → List Lambda
  methods_inside ys = flat_map (λ (m : ℕ × Inside Lambda). itself_and m.1) (map (λ (m : ℕ × Lambda). (m.0, beside lambdas_within m.1)) (method_rows ys))

  abbrev methods_size : List A_method → ℕ
  methods_size ys = total (map (λ (n : ℕ × ℕ). 1 + n.1) (map (λ (m : ℕ × Lambda). (m.0, nodes_of_lambda m.1)) (method_rows ys)))

  methods_weigh : (ys : List A_method) (layout : Layout) (n m : ℕ) → methods_of naming naming_light (methods_from layout (coded_methods ys) n) + keeps (methods_inside ys) m ≤ 4 * methods_size ys
  methods_weigh [] layout n m = omega (arith, keeps_none m)
  methods_weigh (y ∷ ys) layout n m =
      let a = y.1.0 ∷ lambdas_within y.1.0 in
      omega (arith, keeps_join a (methods_inside ys) m, y.1.1 layout n m, methods_weigh ys layout (n + length a) (m + length a))

  item_weighs : (y : Item-F A_clauses An_items A_terms A_blocks A_fors A_lambdas) → I keeps (item_of (C keeps) (I keeps) (T keeps) (K keeps) (F keeps) (L keeps) y)
  item_weighs (Item-F.Run y) = item_by _ (λ layout n m. omega (arith, y.1 layout n m))
  item_weighs (Item-F.Let all None y) = item_by _ (λ layout n m.
      let places = map (λ (local : ℕ × DyType). place_of layout local.0) all in
      omega (arith, letting_weighs naming naming_light places None (code_of layout y.0 n), length-map all (λ (local : ℕ × DyType). place_of layout local.0), y.1 layout n m))
  item_weighs (Item-F.Let all (Some rest) y) = item_by _ (λ layout n m.
      let places = map (λ (local : ℕ × DyType). place_of layout local.0) all in
      omega (arith, letting_weighs naming naming_light places (Some (place_of layout rest)) (code_of layout y.0 n), length-map all (λ (local : ℕ × DyType). place_of layout local.0), y.1 layout n m))
  item_weighs (Item-F.LetMethods ys) = item_by _ (λ layout n m. omega (arith, local_methods_weigh naming naming_light (methods_from layout (coded_methods ys) n), methods_weigh ys layout n m))
  item_weighs (Item-F.Handler type y) = item_by _ (λ layout n m. omega (arith, handler_weighs naming naming_light type (code_of layout y.0 n), y.1 layout n m))

  -- one instruction
  one_weighs : (code : Code) (m : ℕ) → length code ≡ 1 → W code + (keeps [] m + 3) ≤ 4 * 1
  one_weighs code m e = omega (arith, by_count naming naming_light code 1 e, keeps_none m)

  two_weigh : (a b : A_terms) (layout : Layout) (n m : ℕ) → W (code_of layout a.0 n) + (W (code_of layout b.0 (n + length (lambdas_in a.0))) + (keeps (lambdas_in a.0 ++ lambdas_in b.0) m + 6)) ≤ 4 * nodes_of a.0 + 4 * nodes_of b.0
  two_weigh a b layout n m =
      let i = lambdas_in a.0 in
      omega (arith, keeps_join i (lambdas_in b.0) m, a.1 layout n m, b.1 layout (n + length i) (m + length i))

  select_weigh : (v : A_terms) (t : Option A_terms) (ys : List An_arm) (o : Option A_terms) (layout : Layout) (n m : ℕ)
      → W (select (code_of layout v.0 n) (held_from (coded_held layout t) (n + length (lambdas_in v.0))) (arms_from (coded_arms layout ys) (behind_held (coded_held layout t) (n + length (lambdas_in v.0))))
      (held_from (coded_held layout o) (behind_arms (coded_arms layout ys) (behind_held (coded_held layout t) (n + length (lambdas_in v.0))))))
      + (keeps (lambdas_in v.0 ++ held_inside t ++ arms_inside ys ++ held_inside o) m + 3) ≤ 4 * (1 + (nodes_of v.0 + (held_size t + (arms_size ys + held_size o))))
  select_weigh v t ys o layout n m =
      let a = lambdas_in v.0 in
      let b = held_inside t in
      let c = arms_inside ys in
      let d = held_inside o in
      let i = n + length a in
      let j = behind_held (coded_held layout t) i in
      let k = behind_arms (coded_arms layout ys) j in
      omega (
        arith,
        select_names (code_of layout v.0 n) (held_from (coded_held layout t) i) (arms_from (coded_arms layout ys) j) (held_from (coded_held layout o) k),
        keeps_join (a ++ b ++ c) d m,
        keeps_join (a ++ b) c m,
        keeps_join a b m,
        v.1 layout n m,
        held_weighs t layout i (m + length a),
        arms_weigh ys layout j (m + length (a ++ b)),
        held_weighs o layout k (m + length (a ++ b ++ c)),
      )

  term_weighs : (y : Term-F A_clauses An_items A_terms A_blocks A_fors A_lambdas) → T keeps (term_of (C keeps) (I keeps) (T keeps) (K keeps) (F keeps) (L keeps) y)
  term_weighs (Term-F.Lit value) = term_by _ (λ layout n m. one_weighs (one (instr.Const value)) m refl)
  term_weighs (Term-F.Local local) = term_by _ (λ layout n m. omega (arith, read_weighs naming naming_light (place_of layout local), keeps_none m))
  term_weighs (Term-F.Global binding) = term_by _ (λ layout n m. one_weighs (one (instr.Global binding)) m refl)
  term_weighs (Term-F.ClassName class) = term_by _ (λ layout n m. one_weighs (one (instr.Global (class_named class))) m refl)
  term_weighs (Term-F.GenericName generic) = term_by _ (λ layout n m. one_weighs (one (instr.Global (generic_named generic))) m refl)
  term_weighs (Term-F.SetLocal local y) = term_by _ (λ layout n m. omega (arith, assigning_weighs naming naming_light (place_of layout local) (code_of layout y.0 n), y.1 layout n m))
  term_weighs (Term-F.SetGlobal binding y) = term_by _ (λ layout n m. omega (arith, join (code_of layout y.0 n) (one (instr.SetGlobal binding)), y.1 layout n m))
  term_weighs (Term-F.Call f ys) = term_by _ (λ layout n m.
      let a = lambdas_in f.0 in
      omega (arith, calling_weighs naming naming_light (function_named f.0) (code_of layout f.0 n) (terms_from (coded layout ys) (n + length a)), keeps_join a (inside ys) m, f.1 layout n m, terms_weigh ys layout (n + length a) (m + length a)))
  term_weighs (Term-F.Site generic ys) = term_by _ (λ layout n m. omega (arith, with_weighs naming naming_light (terms_from (coded layout ys) n) (instr.Search generic (length (coded layout ys))), terms_weigh ys layout n m))
  term_weighs (Term-F.Cond ys y) = term_by _ (λ layout n m.
      let a = pairs_inside ys in
      let k = behind_branches (coded_pairs layout ys) n in
      omega (arith, branching_weighs naming naming_light (branches_from (coded_pairs layout ys) n) (code_of layout y.0 k), keeps_join a (lambdas_in y.0) m, pairs_weigh ys layout n m, y.1 layout k (m + length a)))
  term_weighs (Term-F.And a b) = term_by _ (λ layout n m. omega (arith, both_weigh naming naming_light (code_of layout a.0 n) (code_of layout b.0 (n + length (lambdas_in a.0))), two_weigh a b layout n m))
  term_weighs (Term-F.Or a b) = term_by _ (λ layout n m. omega (arith, either_weighs naming naming_light (code_of layout a.0 n) (code_of layout b.0 (n + length (lambdas_in a.0))), two_weigh a b layout n m))
  term_weighs (Term-F.Select v None ys None) = term_by _ (λ layout n m. select_weigh v None ys None layout n m)
  term_weighs (Term-F.Select v None ys (Some o)) = term_by _ (λ layout n m. select_weigh v None ys (Some o) layout n m)
  term_weighs (Term-F.Select v (Some t) ys None) = term_by _ (λ layout n m. select_weigh v (Some t) ys None layout n m)
  term_weighs (Term-F.Select v (Some t) ys (Some o)) = term_by _ (λ layout n m. select_weigh v (Some t) ys (Some o) layout n m)
  term_weighs (Term-F.Body ys) = term_by _ (λ layout n m. omega (arith, body_names (items_from (coded_items layout ys) n), items_weigh ys layout n m))
  term_weighs (Term-F.Loop a b) = term_by _ (λ layout n m. omega (arith, loop_weighs naming naming_light (code_of layout a.0 n) (code_of layout b.0 (n + length (lambdas_in a.0))), two_weigh a b layout n m))
  term_weighs (Term-F.For y) = term_by _ (λ layout n m. y.1 layout n m)
  term_weighs (Term-F.Method y) = term_by _ (λ layout n m. y.1 layout n m)
  term_weighs (Term-F.Block y) = term_by _ (λ layout n m. y.1 layout n m)
  term_weighs (Term-F.Op operation ys) = term_by _ (λ layout n m. omega (arith, with_weighs naming naming_light (terms_from (coded layout ys) n) (instr.Op operation (length (coded layout ys))), terms_weigh ys layout n m))
  term_weighs (Term-F.Next None) = term_by _ (λ layout n m. omega (arith, keeps_none m))
  term_weighs (Term-F.Next (Some ys)) = term_by _ (λ layout n m. omega (arith, terms_weigh ys layout n m))

  pub all_weigh : (term : Term) → T keeps term
  all_weigh = by_terms (C keeps) (I keeps) (T keeps) (K keeps) (F keeps) (L keeps) clause_weighs item_weighs term_weighs (λ y. block_row_weighs y.exit y.body y.afterwards y.cleanup y.clauses)
      (λ y. for_row_weighs y.clauses y.test y.body y.finally) close

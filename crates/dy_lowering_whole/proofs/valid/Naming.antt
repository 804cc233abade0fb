-- The code of a term that is in scope names what is there.
use Rattle.std.proofs.Common.{◌≡◌, ℤ, ℕ, zero, suc, ◌+◌, ◌<◌, ◌≤◌, Bool, true, false, ◌&&◌, ◌||◌, List, [], ◌∷◌, ◌++◌, length, map, Option, Some, None, slice_get, refl, sym, ap, ◌∙◌, subst, arith, length-append}
use Rattle.std.specs.Prelude.{flat_map, nat_eq, nat_le, nat_lt}
use Rattle.std.specs.List.{list_all}
use Rattle.std.specs.Option.{option_map}
use Rattle.std.proofs.lemmas.List.{length-map}
use Rattle.dy_term.specs.declared.types.DyType.{DyType}
use Rattle.dy_term.specs.declared.term.Limit.{Limit}
use Rattle.dy_term.specs.declared.term.ForClause.{ForClause, ForClause-F, roll-ForClause, map-ForClause, fold-roll-ForClause}
use Rattle.dy_term.specs.declared.term.Item.{Item, Item-F, roll-Item, map-Item, fold-roll-Item}
use Rattle.dy_term.specs.declared.term.Term.{Term, Term-F, out-Term, roll-Term, map-Term, fold-roll-Term}
use Rattle.dy_term.specs.declared.term.BlockRow.{BlockRow, BlockRow-F}
use Rattle.dy_term.specs.declared.term.ForRow.{ForRow, ForRow-F, roll-ForRow, map-ForRow, fold-roll-ForRow}
use Rattle.dy_term.specs.declared.term.Lambda.{Lambda, out-Lambda}
use Rattle.dy_captures.specs.Marks.{Marks, join, join_all, join_some, join_branches, join_arms, join_limit, join_methods, clause_marks, item_marks, term_marks, for_marks, marks_of_clause, marks_of_item, marks_of, marks_of_block, marks_of_for, marks_of_lambda, is_captured_by}
use Rattle.dy_outcome.specs.declared.place.Place.{Place}
use Rattle.dy_code.specs.Fetching as instr
use Rattle.dy_code.specs.Validity.{Every}
use Rattle.dy_meaning.specs.Lambdas.{of_all, of_held, of_pairs, of_arms, of_second, with_inner, lambdas_in, lambdas_in_clause, lambdas_in_item, lambdas_in_for, lambdas_within}
use Rattle.dy_meaning.specs.Layouts.{Layout, with_last, all_below, captured_by, place_of}
use Rattle.dy_meaning.specs.Numbering.{Numbered, terms_from, behind_terms, items_from, branches_from, behind_branches, arms_from, behind_arms, held_from, behind_held, clauses_from, behind_clauses, second_from, behind_second}
use Rattle.dy_meaning.proofs.Induction.{by_terms, Clauses_with, Items_with, Terms_with, Blocks_with, Fors_with, Lambdas_with, clause_of, item_of, term_of, block_of, for_of}
use Rattle.dy_lowered.specs.Bodies.{FlatBody}
use Rattle.dy_lowered.specs.Flat.{Code, one}
use Rattle.dy_lowered.specs.Parts.{truth, assigned, first_alone, select, Part}
use Rattle.dy_lowered.specs.Turns.{Clause, for_loop}
use Rattle.dy_lowered.specs.Readiness.{is_own, is_set, with_rest}
use Rattle.dy_lowered.specs.Terms.{function_named, number_of, known_or, limit_from, step_from, methods_from, code_of, item_code, clause_code, for_code, block_code, lambda_code}
use Rattle.dy_lowering_whole.specs.valid.Scoped.{all_scoped, held_scoped, second_scoped, pairs_scoped, arms_scoped, methods_scoped, are_own, is_clause_scoped, is_item_scoped, is_scoped, is_for_scoped, is_lambda_scoped}
use Rattle.dy_lowering_whole.specs.valid.Writing.{IsBody}
use Rattle.dy_lowering_whole.proofs.valid.Evenness.{beside, clause_layer, term_layer, item_layer, for_layer, clause_is, term_is, item_is, for_is, block_is}
use Rattle.dy_lowering_whole.proofs.valid.Fitting.{Fit, There, PairsFit, ArmsFit, HeldFit, PartFits, RestFits, fit_join, fit_truth, fit_read, fit_assigned, fit_with, fit_calling, fit_choice, fit_branching, fit_first_alone, fit_select, fit_letting, fit_body, fit_loop, fit_closing, MethodFits, fit_local_methods, named_of, function_is, less_of}
use Rattle.dy_lowering_whole.proofs.valid.Positions.{get_before, get_behind}
use Rattle.dy_lowering_whole.proofs.valid.Sameness.{both_true, eq_is}
use Rattle.dy_lowering_whole.proofs.valid.Scopes.{clause_held, item_held, term_held, for_held, clause_held_is, item_held_is, term_held_is, for_held_is, clause_scope, item_scope, term_scope, for_scope, clause_scope_is, item_scope_is, term_scope_is, for_scope_is, at_layer, good_lambda}
use Rattle.dy_lowering_whole.proofs.valid.Walking.{AmountFits, LimitFits, ClauseFits, TestFits, fit_for}

or_left : (a b : Bool) → a ≡ true → (a || b) ≡ true
or_left a b e = ap (λ x. x || b) e

pub or_right : (a b : Bool) → b ≡ true → (a || b) ≡ true
or_right true b e = refl
or_right false b e = e

-- numbers below a bound for which a test holds
every_last : (P : ℕ → Type 0) (b : Bool) (number : ℕ) (numbers : List ℕ) → Every P numbers → (b ≡ true → P number) → Every P (with_last b number numbers)
every_last P true number numbers all one = every_more numbers all
  where
    every_more : (xs : List ℕ) → Every P xs → Every P (xs ++ number ∷ [])
    every_more [] all = (one refl, tt)
    every_more (x ∷ xs) all = (all.0, every_more xs all.1)
every_last P false number numbers all one = all

every_below : (P : ℕ → Type 0) (test : ℕ → Bool) (bound : ℕ) → ((j : ℕ) → j < bound → test j ≡ true → P j) → Every P (all_below test bound)
every_below P test zero each = tt
every_below P test (suc bound) each = every_last P (test bound) bound (all_below test bound) (every_below P test bound (λ j low e. each j (omega (arith, low)) e)) (λ e. each bound (omega arith) e)

every_mapped : {A B : Type 0} (P : B → Type 0) (f : A → B) (xs : List A) → Every (λ x. P (f x)) xs → Every P (map f xs)
every_mapped P f [] all = tt
every_mapped P f (x ∷ xs) all = (all.0, every_mapped P f xs all.1)

le_of : (n m : ℕ) → nat_le n m ≡ true → n ≤ m
le_of n m e = grind (arith, e)

same_number : (n : ℕ) → nat_eq n n ≡ true
same_number n = eq_is n

not_less : (n m : ℕ) → nat_lt n m ≡ false → m ≤ n
not_less n m e = grind (arith, e)

module _ (made : ℕ → ℕ → Type 0) (bodies : List FlatBody) (locals captures last : ℕ) (layout : Layout) (own : (k : ℕ) → layout.first ≤ k → k < last → There made bodies locals captures (place_of layout k)) where
  abbrev Fits : Code → Type 0
  Fits code = Fit made bodies locals captures code

  abbrev Here : Place → Type 0
  Here place = There made bodies locals captures place

  abbrev first : ℕ
  first = layout.first

  -- a closure of a body that is there
  abbrev Known : ℕ → ℕ → Type 0
  Known body count = IsBody bodies body count × made body count

  -- the bodies of lambdas stand one after the other
  abbrev pub Row : ℕ → List Lambda → Type 0
  Row n lambdas = (i : ℕ) (l : Lambda) → slice_get lambdas i ≡ Some l → Known (n + i) (length (captured_by l))

  row_front : (n : ℕ) (a b : List Lambda) → Row n (a ++ b) → Row n a
  row_front n a b row i l e = row i l (get_before a b i l e)

  row_back : (n m : ℕ) (a b : List Lambda) → m ≡ n + length a → Row n (a ++ b) → Row m b
  row_back n m a b same row i l e =
      let next : n + (length a + i) ≡ m + i = omega (arith, same) in
      subst (λ (k : ℕ). Known k (length (captured_by l))) next (row (length a + i) l (get_behind a b (length a) i refl ∙ e))

  -- what is mentioned of the locals around the body is captured
  abbrev pub Says : (ℕ → Marks) → Type 0
  Says marks = (k : ℕ) → (marks k).mentioned ≡ true → k < first → Here (place_of layout k)

  left : (a b : ℕ → Marks) → Says (λ k. join (a k) (b k)) → Says a
  left a b says k e low = says k (or_left (a k).mentioned (b k).mentioned e) low

  right : (a b : ℕ → Marks) → Says (λ k. join (a k) (b k)) → Says b
  right a b says k e low = says k (or_right (a k).mentioned (b k).mentioned e) low

  there_of : (k : ℕ) → k < last → (k < first → Here (place_of layout k)) → Here (place_of layout k)
  there_of k low around = step (nat_lt k first) refl
    where
      step : (b : Bool) → nat_lt k first ≡ b → Here (place_of layout k)
      step true e = around (less_of made bodies locals captures k first e)
      step false e = own k (not_less k first e) low

  own_there : (k : ℕ) → is_own first last k ≡ true → Here (place_of layout k)
  own_there k e = let p = both_true (nat_le first k) (nat_lt k last) e in own k (le_of first k p.0) (less_of made bodies locals captures k last p.1)

  abbrev C : ForClause → Type 0
  C x = (n : ℕ) → is_clause_scoped x first last ≡ true → Says (λ k. marks_of_clause k x) → Row n (lambdas_in_clause x) → ClauseFits made bodies locals captures (clause_code layout x n)

  abbrev I : Item → Type 0
  I x = (n : ℕ) → is_item_scoped x first last ≡ true → Says (λ k. marks_of_item k x) → Row n (lambdas_in_item x) → PartFits made bodies locals captures (item_code layout x n)

  abbrev T : Term → Type 0
  T x = (n : ℕ) → is_scoped x first last ≡ true → Says (λ k. marks_of k x) → Row n (lambdas_in x) → Fits (code_of layout x n)

  abbrev K : BlockRow → Type 0
  K x = (n : ℕ) → Fits (block_code layout x n)

  abbrev F : ForRow → Type 0
  F x = (n : ℕ) → is_for_scoped x first last ≡ true → Says (λ k. marks_of_for k x) → Row n (lambdas_in_for x) → Fits (for_code layout x n)

  abbrev L : Lambda → Type 0
  L x = Unit {0}

  abbrev marks : ℕ → Term-F ForClause Item Term BlockRow ForRow Lambda → Marks
  marks k x = term_marks k (map-Term _ _ _ _ _ _ _ _ _ _ _ _ (marks_of_clause k) (marks_of_item k) (marks_of k) (marks_of_block k) (marks_of_for k) (marks_of_lambda k) x)

  abbrev marks_item : ℕ → Item-F ForClause Item Term BlockRow ForRow Lambda → Marks
  marks_item k x = item_marks k (map-Item _ _ _ _ _ _ _ _ _ _ _ _ (marks_of_clause k) (marks_of_item k) (marks_of k) (marks_of_block k) (marks_of_for k) (marks_of_lambda k) x)

  abbrev marks_clause : ℕ → ForClause-F ForClause Item Term BlockRow ForRow Lambda → Marks
  marks_clause k x = clause_marks k (map-ForClause _ _ _ _ _ _ _ _ _ _ _ _ (marks_of_clause k) (marks_of_item k) (marks_of k) (marks_of_block k) (marks_of_for k) (marks_of_lambda k) x)

  abbrev marks_for : ℕ → ForRow-F ForClause Item Term BlockRow ForRow Lambda → Marks
  marks_for k x = for_marks k (map-ForRow _ _ _ _ _ _ _ _ _ _ _ _ (marks_of_clause k) (marks_of_item k) (marks_of k) (marks_of_block k) (marks_of_for k) (marks_of_lambda k) x)

  marks_clause_is : (k : ℕ) (x : ForClause-F ForClause Item Term BlockRow ForRow Lambda) → marks_of_clause k (roll-ForClause x) ≡ marks_clause k x
  marks_clause_is k = fold-roll-ForClause _ _ _ _ _ _ _ _ _ _ _ _

  marks_for_is : (k : ℕ) (x : ForRow-F ForClause Item Term BlockRow ForRow Lambda) → marks_of_for k (roll-ForRow x) ≡ marks_for k x
  marks_for_is k = fold-roll-ForRow _ _ _ _ _ _ _ _ _ _ _ _

  marks_is : (k : ℕ) (x : Term-F ForClause Item Term BlockRow ForRow Lambda) → marks_of k (roll-Term x) ≡ marks k x
  marks_is k = fold-roll-Term _ _ _ _ _ _ _ _ _ _ _ _

  marks_item_is : (k : ℕ) (x : Item-F ForClause Item Term BlockRow ForRow Lambda) → marks_of_item k (roll-Item x) ≡ marks_item k x
  marks_item_is k = fold-roll-Item _ _ _ _ _ _ _ _ _ _ _ _

  name_term : (x : Term-F ForClause Item Term BlockRow ForRow Lambda) → ((n : ℕ) → term_scope x first last ≡ true → Says (λ k. marks k x) → Row n (term_held x) → Fits (term_layer layout x n)) → T (roll-Term x)
  name_term x h n e says row =
      subst (λ (make : ℕ → Code). Fits (make n)) (sym (term_is layout x))
      (h n (at_layer (is_scoped (roll-Term x)) (term_scope x) first last (term_scope_is x) e) (λ k f low. says k (ap (λ (m : Marks). m.mentioned) (marks_is k x) ∙ f) low) (subst (Row n) (term_held_is x) row))

  name_item : (x : Item-F ForClause Item Term BlockRow ForRow Lambda) → ((n : ℕ) → item_scope x first last ≡ true → Says (λ k. marks_item k x) → Row n (item_held x) → PartFits made bodies locals captures (item_layer layout x n)) → I (roll-Item x)
  name_item x h n e says row =
      subst (λ (make : ℕ → Part). PartFits made bodies locals captures (make n)) (sym (item_is layout x))
      (h n (at_layer (is_item_scoped (roll-Item x)) (item_scope x) first last (item_scope_is x) e) (λ k f low. says k (ap (λ (m : Marks). m.mentioned) (marks_item_is k x) ∙ f) low) (subst (Row n) (item_held_is x) row))

  name_clause : (x : ForClause-F ForClause Item Term BlockRow ForRow Lambda)
      → ((n : ℕ) → clause_scope x first last ≡ true → Says (λ k. marks_clause k x) → Row n (clause_held x) → ClauseFits made bodies locals captures (clause_layer layout x n)) → C (roll-ForClause x)
  name_clause x h n e says row =
      subst (λ (make : ℕ → Clause). ClauseFits made bodies locals captures (make n)) (sym (clause_is layout x))
      (h n (at_layer (is_clause_scoped (roll-ForClause x)) (clause_scope x) first last (clause_scope_is x) e) (λ k f low. says k (ap (λ (m : Marks). m.mentioned) (marks_clause_is k x) ∙ f) low) (subst (Row n) (clause_held_is x) row))

  name_for : (x : ForRow-F ForClause Item Term BlockRow ForRow Lambda) → ((n : ℕ) → for_scope x first last ≡ true → Says (λ k. marks_for k x) → Row n (for_held x) → Fits (for_layer layout x n)) → F (roll-ForRow x)
  name_for x h n e says row =
      subst (λ (make : ℕ → Code). Fits (make n)) (sym (for_is layout x))
      (h n (at_layer (is_for_scoped (roll-ForRow x)) (for_scope x) first last (for_scope_is x) e) (λ k f low. says k (ap (λ (m : Marks). m.mentioned) (marks_for_is k x) ∙ f) low) (subst (Row n) (for_held_is x) row))

  abbrev A_term : Type 0
  A_term = Terms_with C I T K F L

  abbrev An_item : Type 0
  An_item = Items_with C I T K F L

  abbrev A_lambda : Type 0
  A_lambda = Lambdas_with C I T K F L

  abbrev coded : List A_term → List (Numbered Term Code)
  coded ys = map (beside (code_of layout)) (map (λ y. y.0) ys)

  abbrev inside : List A_term → List Lambda
  inside ys = of_all (map (beside lambdas_in) (map (λ y. y.0) ys))

  abbrev marked : List A_term → ℕ → Marks
  marked ys k = join_all (map (marks_of k) (map (λ y. y.0) ys))

  abbrev scopes : List A_term → Bool
  scopes ys = all_scoped (map is_scoped (map (λ y. y.0) ys)) first last

  terms_fit : (ys : List A_term) (n : ℕ) → scopes ys ≡ true → Says (marked ys) → Row n (inside ys) → Every Fits (terms_from (coded ys) n)
  terms_fit [] n e says row = tt
  terms_fit (y ∷ ys) n e says row =
      let p = both_true (is_scoped y.0 first last) (scopes ys) e in
      let next = n + length (lambdas_in y.0) in
      (y.1 n p.0 (left (λ k. marks_of k y.0) (marked ys) says) (row_front n (lambdas_in y.0) (inside ys) row), terms_fit ys next p.1 (right (λ k. marks_of k y.0) (marked ys) says) (row_back n next (lambdas_in y.0) (inside ys) refl row))

  terms_behind : (ys : List A_term) (n : ℕ) → behind_terms (coded ys) n ≡ n + length (inside ys)
  terms_behind [] n = omega arith
  terms_behind (y ∷ ys) n = terms_behind ys (n + length (lambdas_in y.0)) ∙ omega (arith, length-append (lambdas_in y.0) (inside ys))

  abbrev coded_items : List An_item → List (Numbered Item Part)
  coded_items ys = map (beside (item_code layout)) (map (λ y. y.0) ys)

  abbrev items_inside : List An_item → List Lambda
  items_inside ys = of_all (map (beside lambdas_in_item) (map (λ y. y.0) ys))

  abbrev items_marked : List An_item → ℕ → Marks
  items_marked ys k = join_all (map (marks_of_item k) (map (λ y. y.0) ys))

  abbrev items_scopes : List An_item → Bool
  items_scopes ys = all_scoped (map is_item_scoped (map (λ y. y.0) ys)) first last

  items_fit : (ys : List An_item) (n : ℕ) → items_scopes ys ≡ true → Says (items_marked ys) → Row n (items_inside ys) → Every (PartFits made bodies locals captures) (items_from (coded_items ys) n)
  items_fit [] n e says row = tt
  items_fit (y ∷ ys) n e says row =
      let p = both_true (is_item_scoped y.0 first last) (items_scopes ys) e in
      let next = n + length (lambdas_in_item y.0) in
      (y.1 n p.0 (left (λ k. marks_of_item k y.0) (items_marked ys) says) (row_front n (lambdas_in_item y.0) (items_inside ys) row), items_fit ys next p.1 (right (λ k. marks_of_item k y.0) (items_marked ys) says) (row_back n next (lambdas_in_item y.0) (items_inside ys) refl row))

  abbrev A_pair : Type 0
  A_pair = A_term × A_term

  abbrev coded_pairs : List A_pair → List (Numbered Term Code × Numbered Term Code)
  coded_pairs ys = map (λ (p : Term × Term). (beside (code_of layout) p.0, beside (code_of layout) p.1)) (map (λ (y : A_pair). (y.0.0, y.1.0)) ys)

  abbrev pairs_inside : List A_pair → List Lambda
  pairs_inside ys = of_pairs (map (λ (p : Term × Term). (beside lambdas_in p.0, beside lambdas_in p.1)) (map (λ (y : A_pair). (y.0.0, y.1.0)) ys))

  abbrev pairs_marked : List A_pair → ℕ → Marks
  pairs_marked ys k = join_branches (map (λ (p : Term × Term). (marks_of k p.0, marks_of k p.1)) (map (λ (y : A_pair). (y.0.0, y.1.0)) ys))

  abbrev pairs_scopes : List A_pair → Bool
  pairs_scopes ys = pairs_scoped (map (λ (p : Term × Term). (is_scoped p.0, is_scoped p.1)) (map (λ (y : A_pair). (y.0.0, y.1.0)) ys)) first last

  pairs_fit : (ys : List A_pair) (n : ℕ) → pairs_scopes ys ≡ true → Says (pairs_marked ys) → Row n (pairs_inside ys) → PairsFit made bodies locals captures (branches_from (coded_pairs ys) n)
  pairs_fit [] n e says row = tt
  pairs_fit (y ∷ ys) n e says row =
      let a = lambdas_in y.0.0 in
      let b = lambdas_in y.1.0 in
      let p = both_true (is_scoped y.0.0 first last && is_scoped y.1.0 first last) (pairs_scopes ys) e in
      let q = both_true (is_scoped y.0.0 first last) (is_scoped y.1.0 first last) p.0 in
      let rest : ℕ → Marks = λ k. join (marks_of k y.1.0) (pairs_marked ys k) in
      let others = right (λ k. marks_of k y.0.0) rest says in
      let both = row_front n (a ++ b) (pairs_inside ys) row in
      let next = n + length a + length b in (
        y.0.1 n q.0 (left (λ k. marks_of k y.0.0) rest says) (row_front n a b both),
        y.1.1 (n + length a) q.1 (left (λ k. marks_of k y.1.0) (pairs_marked ys) others) (row_back n (n + length a) a b refl both),
        pairs_fit ys next p.1 (right (λ k. marks_of k y.1.0) (pairs_marked ys) others) (row_back n next (a ++ b) (pairs_inside ys) (omega (arith, length-append a b)) row),
      )

  pairs_behind : (ys : List A_pair) (n : ℕ) → behind_branches (coded_pairs ys) n ≡ n + length (pairs_inside ys)
  pairs_behind [] n = omega arith
  pairs_behind (y ∷ ys) n =
      pairs_behind ys (n + length (lambdas_in y.0.0) + length (lambdas_in y.1.0)) ∙ omega (arith, length-append (lambdas_in y.0.0) (lambdas_in y.1.0), length-append (lambdas_in y.0.0 ++ lambdas_in y.1.0) (pairs_inside ys))

  abbrev An_arm : Type 0
  An_arm = List A_term × A_term

  abbrev coded_arms : List An_arm → List (List (Numbered Term Code) × Numbered Term Code)
  coded_arms ys = map (λ (p : List Term × Term). (map (beside (code_of layout)) p.0, beside (code_of layout) p.1)) (map (λ (y : An_arm). (map (λ z. z.0) y.0, y.1.0)) ys)

  abbrev arms_inside : List An_arm → List Lambda
  arms_inside ys = of_arms (map (λ (p : List Term × Term). (map (beside lambdas_in) p.0, beside lambdas_in p.1)) (map (λ (y : An_arm). (map (λ z. z.0) y.0, y.1.0)) ys))

  abbrev arms_marked : List An_arm → ℕ → Marks
  arms_marked ys k = join_arms (map (λ (p : List Term × Term). (map (marks_of k) p.0, marks_of k p.1)) (map (λ (y : An_arm). (map (λ z. z.0) y.0, y.1.0)) ys))

  abbrev arms_scopes : List An_arm → Bool
  arms_scopes ys = arms_scoped (map (λ (p : List Term × Term). (map is_scoped p.0, is_scoped p.1)) (map (λ (y : An_arm). (map (λ z. z.0) y.0, y.1.0)) ys)) first last

  arms_fit : (ys : List An_arm) (n : ℕ) → arms_scopes ys ≡ true → Says (arms_marked ys) → Row n (arms_inside ys) → ArmsFit made bodies locals captures (arms_from (coded_arms ys) n)
  arms_fit [] n e says row = tt
  arms_fit (y ∷ ys) n e says row =
      let a = inside y.0 in
      let b = lambdas_in y.1.0 in
      let p = both_true (scopes y.0 && is_scoped y.1.0 first last) (arms_scopes ys) e in
      let q = both_true (scopes y.0) (is_scoped y.1.0 first last) p.0 in
      let rest : ℕ → Marks = λ k. join (marks_of k y.1.0) (arms_marked ys k) in
      let others = right (marked y.0) rest says in
      let both = row_front n (a ++ b) (arms_inside ys) row in
      let m = behind_terms (coded y.0) n in
      let m_is = terms_behind y.0 n in
      let next = m + length b in (
        terms_fit y.0 n q.0 (left (marked y.0) rest says) (row_front n a b both),
        y.1.1 m q.1 (left (λ k. marks_of k y.1.0) (arms_marked ys) others) (row_back n m a b m_is both),
        arms_fit ys next p.1 (right (λ k. marks_of k y.1.0) (arms_marked ys) others) (row_back n next (a ++ b) (arms_inside ys) (omega (arith, m_is, length-append a b)) row),
      )

  arms_behind : (ys : List An_arm) (n : ℕ) → behind_arms (coded_arms ys) n ≡ n + length (arms_inside ys)
  arms_behind [] n = omega arith
  arms_behind (y ∷ ys) n =
      arms_behind ys (behind_terms (coded y.0) n + length (lambdas_in y.1.0))
      ∙ omega (arith, terms_behind y.0 n, length-append (inside y.0) (lambdas_in y.1.0), length-append (inside y.0 ++ lambdas_in y.1.0) (arms_inside ys))

  abbrev coded_held : Option A_term → Option (Numbered Term Code)
  coded_held y = option_map (beside (code_of layout)) (option_map (λ y. y.0) y)

  abbrev held_inside : Option A_term → List Lambda
  held_inside y = of_held (option_map (beside lambdas_in) (option_map (λ y. y.0) y))

  abbrev held_marked : Option A_term → ℕ → Marks
  held_marked y k = join_some (option_map (marks_of k) (option_map (λ y. y.0) y))

  abbrev held_scopes : Option A_term → Bool
  held_scopes y = held_scoped (option_map is_scoped (option_map (λ y. y.0) y)) first last

  held_fit : (y : Option A_term) (n : ℕ) → held_scopes y ≡ true → Says (held_marked y) → Row n (held_inside y) → HeldFit made bodies locals captures (held_from (coded_held y) n)
  held_fit None n e says row = tt
  held_fit (Some y) n e says row = y.1 n e says row

  held_behind : (y : Option A_term) (n : ℕ) → behind_held (coded_held y) n ≡ n + length (held_inside y)
  held_behind None n = omega arith
  held_behind (Some y) n = refl

  -- closures
  captured_there : (lambda : Lambda) → is_lambda_scoped lambda first last ≡ true → Says (λ k. marks_of_lambda k lambda) → Every Here (map (place_of layout) (captured_by lambda))
  captured_there lambda e says =
      let good = good_lambda lambda first last e in
      let below = good.below in
      every_mapped Here (place_of layout) (captured_by lambda) (every_below (λ k. Here (place_of layout k)) (λ k. is_captured_by k lambda) (out-Lambda lambda).first (λ j low is. there_of j (omega (arith, low, below)) (says j is)))

  known_here : (n : ℕ) (lambda : Lambda) (lambdas : List Lambda) → Row n (lambda ∷ lambdas) → Known n (length (map (place_of layout) (captured_by lambda)))
  known_here n lambda lambdas row =
      let none : n + 0 ≡ n = omega arith in
      subst (λ (count : ℕ). Known n count) (sym (length-map (captured_by lambda) (place_of layout))) (subst (λ (k : ℕ). Known k (length (captured_by lambda))) none (row 0 lambda refl))

  abbrev A_method : Type 0
  A_method = ℕ × A_lambda

  abbrev coded_methods : List A_method → List (ℕ × (Lambda × Unit {0}))
  coded_methods ys = map (λ (m : ℕ × Lambda). (m.0, beside (lambda_code layout) m.1)) (map (λ (y : A_method). (y.0, y.1.0)) ys)

  abbrev methods_inside : List A_method → List Lambda
  methods_inside ys = flat_map (λ (m : ℕ × (Lambda × List Lambda)). m.1.0 ∷ m.1.1) (map (λ (m : ℕ × Lambda). (m.0, beside lambdas_within m.1)) (map (λ (y : A_method). (y.0, y.1.0)) ys))

  abbrev methods_marked : List A_method → ℕ → Marks
  methods_marked ys k = join_methods k (map (λ (m : ℕ × Lambda). (m.0, marks_of_lambda k m.1)) (map (λ (y : A_method). (y.0, y.1.0)) ys))

  abbrev methods_scopes : List A_method → Bool
  methods_scopes ys = methods_scoped (map (λ (m : ℕ × Lambda). (m.0, is_lambda_scoped m.1)) (map (λ (y : A_method). (y.0, y.1.0)) ys)) first last

  methods_fit : (ys : List A_method) (n : ℕ) → methods_scopes ys ≡ true → Says (methods_marked ys) → Row n (methods_inside ys) → Every (MethodFits made bodies locals captures) (methods_from layout (coded_methods ys) n)
  methods_fit [] n e says row = tt
  methods_fit (y ∷ ys) n e says row =
      let lambda = y.1.0 in
      let a = with_inner lambda in
      let p = both_true (is_own first last y.0 && is_lambda_scoped lambda first last) (methods_scopes ys) e in
      let q = both_true (is_own first last y.0) (is_lambda_scoped lambda first last) p.0 in
      let next = n + length a in (
        (own_there y.0 q.0, captured_there lambda q.1 (λ k f low. says k (or_left (marks_of_lambda k lambda).mentioned (methods_marked ys k).mentioned f) low), known_here n lambda (lambdas_within lambda) (row_front n a (methods_inside ys) row)),
        methods_fit ys next p.1 (λ k f low. says k (or_right (marks_of_lambda k lambda).mentioned (methods_marked ys k).mentioned f) low) (row_back n next a (methods_inside ys) refl row),
      )

  abbrev numbers_of : List (ℕ × DyType) → List ℕ
  numbers_of all = map (λ (local : ℕ × DyType). local.0) all

  record BoundFit (all : List (ℕ × DyType)) (rest : Option ℕ) : Type 0 where
    pub locals_there : Every Here (map (λ (local : ℕ × DyType). place_of layout local.0) all)
    pub rest_there : RestFits made bodies locals captures (option_map (place_of layout) rest)

  bound_fit : (all : List (ℕ × DyType)) (rest : Option ℕ) → list_all (is_own first last) (with_rest (numbers_of all) rest) ≡ true → BoundFit all rest
  bound_fit [] None e = record { locals_there = tt; rest_there = tt }
  bound_fit [] (Some r) e = record { locals_there = tt; rest_there = own_there r (both_true (is_own first last r) true e).0 }
  bound_fit (l ∷ all) None e =
      let p = both_true (is_own first last l.0) (list_all (is_own first last) (numbers_of all)) e in
      let rest = bound_fit all None p.1 in
      record { locals_there = (own_there l.0 p.0, rest.locals_there); rest_there = tt }
  bound_fit (l ∷ all) (Some r) e =
      let p = both_true (is_own first last l.0) (list_all (is_own first last) (numbers_of all ++ r ∷ [])) e in
      let rest = bound_fit all (Some r) p.1 in
      record { locals_there = (own_there l.0 p.0, rest.locals_there); rest_there = rest.rest_there }

  two_fit : (a b : A_term) (n : ℕ) → (is_scoped a.0 first last && is_scoped b.0 first last) ≡ true → Says (λ k. join (marks_of k a.0) (marks_of k b.0)) → Row n (lambdas_in a.0 ++ lambdas_in b.0)
      → Fits (code_of layout a.0 n) × Fits (code_of layout b.0 (n + length (lambdas_in a.0)))
  two_fit a b n e says row =
      let p = both_true (is_scoped a.0 first last) (is_scoped b.0 first last) e in
      let m = n + length (lambdas_in a.0) in (
        a.1 n p.0 (left (λ k. marks_of k a.0) (λ k. marks_of k b.0) says) (row_front n (lambdas_in a.0) (lambdas_in b.0) row),
        b.1 m p.1 (right (λ k. marks_of k a.0) (λ k. marks_of k b.0) says) (row_back n m (lambdas_in a.0) (lambdas_in b.0) refl row),
      )

  abbrev behind_test : A_term → Option A_term → ℕ → ℕ
  behind_test v t n = behind_held (coded_held t) (n + length (lambdas_in v.0))

  select_fit : (v : A_term) (t : Option A_term) (ys : List An_arm) (o : Option A_term) (n : ℕ) → (is_scoped v.0 first last && (held_scopes t && (arms_scopes ys && held_scopes o))) ≡ true
      → Says (λ k. join (marks_of k v.0) (join (held_marked t k) (join (arms_marked ys k) (held_marked o k)))) → Row n (lambdas_in v.0 ++ held_inside t ++ arms_inside ys ++ held_inside o)
      → Fits (select (code_of layout v.0 n) (held_from (coded_held t) (n + length (lambdas_in v.0))) (arms_from (coded_arms ys) (behind_test v t n)) (held_from (coded_held o) (behind_arms (coded_arms ys) (behind_test v t n))))
  select_fit v t ys o n e says row =
      let a = lambdas_in v.0 in
      let b = held_inside t in
      let c = arms_inside ys in
      let d = held_inside o in
      let p = both_true (is_scoped v.0 first last) (held_scopes t && (arms_scopes ys && held_scopes o)) e in
      let q = both_true (held_scopes t) (arms_scopes ys && held_scopes o) p.1 in
      let r = both_true (arms_scopes ys) (held_scopes o) q.1 in
      let of_v : ℕ → Marks = λ k. marks_of k v.0 in
      let of_last : ℕ → Marks = λ k. join (arms_marked ys k) (held_marked o k) in
      let of_rest : ℕ → Marks = λ k. join (held_marked t k) (of_last k) in
      let says_rest = right of_v of_rest says in
      let says_last = right (held_marked t) of_last says_rest in
      let m = n + length a in
      let k = behind_test v t n in
      let j = behind_arms (coded_arms ys) k in
      let k_is = held_behind t m in
      let j_is = arms_behind ys k in
      let three = row_front n (a ++ b ++ c) d row in
      let two = row_front n (a ++ b) c three in
      fit_select made bodies locals captures (code_of layout v.0 n) (held_from (coded_held t) m) (arms_from (coded_arms ys) k) (held_from (coded_held o) j)
      (v.1 n p.0 (left of_v of_rest says) (row_front n a b two))
      (held_fit t m q.0 (left (held_marked t) of_last says_rest) (row_back n m a b refl two))
      (arms_fit ys k r.0 (left (arms_marked ys) (held_marked o) says_last) (row_back n k (a ++ b) c (omega (arith, k_is, length-append a b)) three))
      (held_fit o j r.1 (right (arms_marked ys) (held_marked o) says_last) (row_back n j (a ++ b ++ c) d (omega (arith, k_is, j_is, length-append a b, length-append (a ++ b) c)) row))

  term_fit : (y : Term-F (Clauses_with C I T K F L) An_item A_term (Blocks_with C I T K F L) (Fors_with C I T K F L) A_lambda) → T (term_of C I T K F L y)
  term_fit (Term-F.Lit value) = name_term _ (λ n e says row. ((tt, tt), tt))
  term_fit (Term-F.Local local) = name_term _ (λ n e says row. fit_read made bodies locals captures (place_of layout local) (there_of local (less_of made bodies locals captures local last e) (says local (same_number local))))
  term_fit (Term-F.Global binding) = name_term _ (λ n e says row. ((named_of made bodies locals captures binding.what e, tt), tt))
  term_fit (Term-F.ClassName class) = name_term _ (λ n e says row. ((tt, tt), tt))
  term_fit (Term-F.GenericName generic) = name_term _ (λ n e says row. ((tt, tt), tt))
  term_fit (Term-F.SetLocal local y) = name_term _ (λ n e says row.
      let p = both_true (nat_lt local last) (is_scoped y.0 first last) e in
      fit_join made bodies locals captures (code_of layout y.0 n) (assigned (place_of layout local))
      (y.1 n p.1 (λ k f low. says k (or_right (nat_eq local k) (marks_of k y.0).mentioned f) low) row)
      (fit_assigned made bodies locals captures (place_of layout local) (there_of local (less_of made bodies locals captures local last p.0) (says local (or_left (nat_eq local local) (marks_of local y.0).mentioned (same_number local))))))
  term_fit (Term-F.SetGlobal binding y) = name_term _ (λ n e says row.
      let p = both_true (is_set binding.what) (is_scoped y.0 first last) e in
      fit_join made bodies locals captures (code_of layout y.0 n) (one (instr.SetGlobal binding)) (y.1 n p.1 says row) ((p.0, tt), tt))
  term_fit (Term-F.Call f ys) = name_term _ (λ n e says row.
      let m = n + length (lambdas_in f.0) in
      let p = both_true (is_scoped f.0 first last) (scopes ys) e in
      fit_calling made bodies locals captures (function_named f.0) (code_of layout f.0 n) (terms_from (coded ys) m) (function_is made bodies locals captures (out-Term f.0))
      (f.1 n p.0 (left (λ k. marks_of k f.0) (marked ys) says) (row_front n (lambdas_in f.0) (inside ys) row))
      (terms_fit ys m p.1 (right (λ k. marks_of k f.0) (marked ys) says) (row_back n m (lambdas_in f.0) (inside ys) refl row)))
  term_fit (Term-F.Site generic ys) = name_term _ (λ n e says row. fit_with made bodies locals captures (terms_from (coded ys) n) (instr.Search generic (length (coded ys))) (terms_fit ys n e says row) (tt, tt))
  term_fit (Term-F.Cond ys y) = name_term _ (λ n e says row.
      let p = both_true (pairs_scopes ys) (is_scoped y.0 first last) e in
      let m = behind_branches (coded_pairs ys) n in
      fit_branching made bodies locals captures (branches_from (coded_pairs ys) n) (code_of layout y.0 m)
      (pairs_fit ys n p.0 (left (pairs_marked ys) (λ k. marks_of k y.0) says) (row_front n (pairs_inside ys) (lambdas_in y.0) row))
      (y.1 m p.1 (right (pairs_marked ys) (λ k. marks_of k y.0) says) (row_back n m (pairs_inside ys) (lambdas_in y.0) (pairs_behind ys n) row)))
  term_fit (Term-F.And a b) = name_term _ (λ n e says row.
      let both = two_fit a b n e says row in
      fit_choice made bodies locals captures (code_of layout a.0 n) (code_of layout b.0 (n + length (lambdas_in a.0))) (truth false) both.0 both.1 (fit_truth made bodies locals captures false))
  term_fit (Term-F.Or a b) = name_term _ (λ n e says row.
      let both = two_fit a b n e says row in
      fit_choice made bodies locals captures (code_of layout a.0 n) first_alone (code_of layout b.0 (n + length (lambdas_in a.0))) both.0 (fit_first_alone made bodies locals captures) both.1)
  term_fit (Term-F.Select v None ys None) = name_term _ (λ n e says row. select_fit v None ys None n e says row)
  term_fit (Term-F.Select v None ys (Some o)) = name_term _ (λ n e says row. select_fit v None ys (Some o) n e says row)
  term_fit (Term-F.Select v (Some t) ys None) = name_term _ (λ n e says row. select_fit v (Some t) ys None n e says row)
  term_fit (Term-F.Select v (Some t) ys (Some o)) = name_term _ (λ n e says row. select_fit v (Some t) ys (Some o) n e says row)
  term_fit (Term-F.Body ys) = name_term _ (λ n e says row. fit_body made bodies locals captures (items_from (coded_items ys) n) (items_fit ys n e says row))
  term_fit (Term-F.Loop a b) = name_term _ (λ n e says row.
      let both = two_fit a b n e says row in
      fit_loop made bodies locals captures (code_of layout a.0 n) (code_of layout b.0 (n + length (lambdas_in a.0))) both.0 both.1)
  term_fit (Term-F.For y) = name_term _ (λ n e says row. y.1 n e says row)
  term_fit (Term-F.Method y) = name_term _ (λ n e says row.
      let known = known_here n y.0 (lambdas_within y.0) row in
      fit_closing made bodies locals captures n (map (place_of layout) (captured_by y.0)) (captured_there y.0 e says) known)
  term_fit (Term-F.Block y) = name_term _ (λ n e says row. y.1 n)
  term_fit (Term-F.Op operation ys) = name_term _ (λ n e says row. fit_with made bodies locals captures (terms_from (coded ys) n) (instr.Op operation (length (coded ys))) (terms_fit ys n e says row) (tt, tt))
  term_fit (Term-F.Next ys) = name_term _ (λ n e says row. tt)

  item_fit : (y : Item-F (Clauses_with C I T K F L) An_item A_term (Blocks_with C I T K F L) (Fors_with C I T K F L) A_lambda) → I (item_of C I T K F L y)
  item_fit (Item-F.Run y) = name_item _ (λ n e says row. y.1 n e says row)
  item_fit (Item-F.Let all rest y) = name_item _ (λ n e says row.
      let p = both_true (are_own (with_rest (numbers_of all) rest) first last) (is_scoped y.0 first last) e in
      let b = bound_fit all rest p.0 in
      fit_letting made bodies locals captures (map (λ (local : ℕ × DyType). place_of layout local.0) all) (option_map (place_of layout) rest) (code_of layout y.0 n) b.locals_there b.rest_there (y.1 n p.1 says row))
  item_fit (Item-F.LetMethods methods) = name_item _ (λ n e says row. fit_local_methods made bodies locals captures (methods_from layout (coded_methods methods) n) (methods_fit methods n e says row))
  item_fit (Item-F.Handler type y) = name_item _ (λ n e says row. y.1 n e says row)

  block_fit : (y : BlockRow-F (Clauses_with C I T K F L) An_item A_term (Blocks_with C I T K F L) (Fors_with C I T K F L) A_lambda) → K (block_of C I T K F L y)
  block_fit y n = subst (λ (make : ℕ → Code). Fits (make n)) (sym (block_is layout _)) tt

  -- `for`
  abbrev A_clause : Type 0
  A_clause = Clauses_with C I T K F L

  abbrev A_limit : Type 0
  A_limit = Limit × A_term

  abbrev A_test : Type 0
  A_test = Bool × A_term

  abbrev coded_limit : Option A_limit → Option (Limit × Numbered Term Code)
  coded_limit y = option_map (λ (p : Limit × Term). (p.0, beside (code_of layout) p.1)) (option_map (λ (p : A_limit). (p.0, p.1.0)) y)

  abbrev coded_test : Option A_test → Option (Bool × Numbered Term Code)
  coded_test y = option_map (λ (p : Bool × Term). (p.0, beside (code_of layout) p.1)) (option_map (λ (p : A_test). (p.0, p.1.0)) y)

  abbrev coded_clauses : List A_clause → List (Numbered ForClause Clause)
  coded_clauses ys = map (beside (clause_code layout)) (map (λ y. y.0) ys)

  abbrev limit_inside : Option A_limit → List Lambda
  limit_inside y = of_second (option_map (λ (p : Limit × Term). (p.0, beside lambdas_in p.1)) (option_map (λ (p : A_limit). (p.0, p.1.0)) y))

  abbrev test_inside : Option A_test → List Lambda
  test_inside y = of_second (option_map (λ (p : Bool × Term). (p.0, beside lambdas_in p.1)) (option_map (λ (p : A_test). (p.0, p.1.0)) y))

  abbrev clauses_inside : List A_clause → List Lambda
  clauses_inside ys = of_all (map (beside lambdas_in_clause) (map (λ y. y.0) ys))

  abbrev limit_marked : Option A_limit → ℕ → Marks
  limit_marked y k = join_limit (option_map (λ (p : Limit × Term). (p.0, marks_of k p.1)) (option_map (λ (p : A_limit). (p.0, p.1.0)) y))

  abbrev test_marked : Option A_test → ℕ → Marks
  test_marked y k = join_limit (option_map (λ (p : Bool × Term). (p.0, marks_of k p.1)) (option_map (λ (p : A_test). (p.0, p.1.0)) y))

  abbrev clauses_marked : List A_clause → ℕ → Marks
  clauses_marked ys k = join_all (map (marks_of_clause k) (map (λ y. y.0) ys))

  abbrev limit_scopes : Option A_limit → Bool
  limit_scopes y = second_scoped (option_map (λ (p : Limit × Term). (p.0, is_scoped p.1)) (option_map (λ (p : A_limit). (p.0, p.1.0)) y)) first last

  abbrev test_scopes : Option A_test → Bool
  test_scopes y = second_scoped (option_map (λ (p : Bool × Term). (p.0, is_scoped p.1)) (option_map (λ (p : A_test). (p.0, p.1.0)) y)) first last

  abbrev clauses_scopes : List A_clause → Bool
  clauses_scopes ys = all_scoped (map is_clause_scoped (map (λ y. y.0) ys)) first last

  amount_fit : (known : Option ℤ) (code : Code) → Fits code → AmountFits made bodies locals captures (known_or known code)
  amount_fit None code h = h
  amount_fit (Some number) code h = tt

  limit_fit : (y : Option A_limit) (n : ℕ) → limit_scopes y ≡ true → Says (limit_marked y) → Row n (limit_inside y) → LimitFits made bodies locals captures (limit_from (coded_limit y) n)
  limit_fit None n e says row = tt
  limit_fit (Some y) n e says row = amount_fit (number_of (out-Term y.1.0)) (code_of layout y.1.0 n) (y.1.1 n e says row)

  limit_behind : (y : Option A_limit) (n : ℕ) → behind_second (coded_limit y) n ≡ n + length (limit_inside y)
  limit_behind None n = omega arith
  limit_behind (Some y) n = refl

  step_fit : (y : Option A_term) (n : ℕ) → held_scopes y ≡ true → Says (held_marked y) → Row n (held_inside y) → AmountFits made bodies locals captures (step_from (coded_held y) n)
  step_fit None n e says row = tt
  step_fit (Some y) n e says row = amount_fit (number_of (out-Term y.0)) (code_of layout y.0 n) (y.1 n e says row)

  test_fit : (y : Option A_test) (n : ℕ) → test_scopes y ≡ true → Says (test_marked y) → Row n (test_inside y) → TestFits made bodies locals captures (second_from (coded_test y) n)
  test_fit None n e says row = tt
  test_fit (Some y) n e says row = y.1.1 n e says row

  test_behind : (y : Option A_test) (n : ℕ) → behind_second (coded_test y) n ≡ n + length (test_inside y)
  test_behind None n = omega arith
  test_behind (Some y) n = refl

  clauses_fit : (ys : List A_clause) (n : ℕ) → clauses_scopes ys ≡ true → Says (clauses_marked ys) → Row n (clauses_inside ys) → Every (ClauseFits made bodies locals captures) (clauses_from (coded_clauses ys) n)
  clauses_fit [] n e says row = tt
  clauses_fit (y ∷ ys) n e says row =
      let p = both_true (is_clause_scoped y.0 first last) (clauses_scopes ys) e in
      let next = n + length (lambdas_in_clause y.0) in (
        y.1 n p.0 (left (λ k. marks_of_clause k y.0) (clauses_marked ys) says) (row_front n (lambdas_in_clause y.0) (clauses_inside ys) row),
        clauses_fit ys next p.1 (right (λ k. marks_of_clause k y.0) (clauses_marked ys) says) (row_back n next (lambdas_in_clause y.0) (clauses_inside ys) refl row),
      )

  clauses_behind : (ys : List A_clause) (n : ℕ) → behind_clauses (coded_clauses ys) n ≡ n + length (clauses_inside ys)
  clauses_behind [] n = omega arith
  clauses_behind (y ∷ ys) n = clauses_behind ys (n + length (lambdas_in_clause y.0)) ∙ omega (arith, length-append (lambdas_in_clause y.0) (clauses_inside ys))

  counts_fit : (local : ℕ) (s : A_term) (y : Option A_limit) (t : Option A_term) (n : ℕ) → (is_own first last local && (is_scoped s.0 first last && (limit_scopes y && held_scopes t))) ≡ true
      → Says (λ k. join (marks_of k s.0) (join (limit_marked y k) (held_marked t k))) → Row n (lambdas_in s.0 ++ limit_inside y ++ held_inside t)
      → Here (place_of layout local) × Fits (code_of layout s.0 n) × LimitFits made bodies locals captures (limit_from (coded_limit y) (n + length (lambdas_in s.0)))
      × AmountFits made bodies locals captures (step_from (coded_held t) (behind_second (coded_limit y) (n + length (lambdas_in s.0))))
  counts_fit local s y t n e says row =
      let a = lambdas_in s.0 in
      let b = limit_inside y in
      let c = held_inside t in
      let p = both_true (is_own first last local) (is_scoped s.0 first last && (limit_scopes y && held_scopes t)) e in
      let q = both_true (is_scoped s.0 first last) (limit_scopes y && held_scopes t) p.1 in
      let r = both_true (limit_scopes y) (held_scopes t) q.1 in
      let of_s : ℕ → Marks = λ k. marks_of k s.0 in
      let of_rest : ℕ → Marks = λ k. join (limit_marked y k) (held_marked t k) in
      let says_rest = right of_s of_rest says in
      let m = n + length a in
      let k = behind_second (coded_limit y) m in
      let k_is = limit_behind y m in
      let two = row_front n (a ++ b) c row in (
        own_there local p.0,
        s.1 n q.0 (left of_s of_rest says) (row_front n a b two),
        limit_fit y m r.0 (left (limit_marked y) (held_marked t) says_rest) (row_back n m a b refl two),
        step_fit t k r.1 (right (limit_marked y) (held_marked t) says_rest) (row_back n k (a ++ b) c (omega (arith, k_is, length-append a b)) row),
      )

  clause_fit : (y : ForClause-F A_clause An_item A_term (Blocks_with C I T K F L) (Fors_with C I T K F L) A_lambda) → C (clause_of C I T K F L y)
  clause_fit (ForClause-F.Then local type s t) = name_clause _ (λ n e says row.
      let p = both_true (is_own first last local) (is_scoped s.0 first last && is_scoped t.0 first last) e in
      let both = two_fit s t n p.1 says row in
      (own_there local p.0, both.0, both.1))
  clause_fit (ForClause-F.In local type c) = name_clause _ (λ n e says row.
      let p = both_true (is_own first last local) (is_scoped c.0 first last) e in
      (own_there local p.0, tt, tt))
  clause_fit (ForClause-F.From local type s None None) = name_clause _ (λ n e says row. counts_fit local s None None n e says row)
  clause_fit (ForClause-F.From local type s None (Some t)) = name_clause _ (λ n e says row. counts_fit local s None (Some t) n e says row)
  clause_fit (ForClause-F.From local type s (Some y) None) = name_clause _ (λ n e says row. counts_fit local s (Some y) None n e says row)
  clause_fit (ForClause-F.From local type s (Some y) (Some t)) = name_clause _ (λ n e says row. counts_fit local s (Some y) (Some t) n e says row)

  turns_fit : (ys : List A_clause) (t : Option A_test) (b : A_term) (f : Option A_term) (n : ℕ) → (clauses_scopes ys && (test_scopes t && (is_scoped b.0 first last && held_scopes f))) ≡ true
      → Says (λ k. join (clauses_marked ys k) (join (test_marked t k) (join (marks_of k b.0) (held_marked f k)))) → Row n (clauses_inside ys ++ test_inside t ++ lambdas_in b.0 ++ held_inside f)
      → Fits (for_loop (clauses_from (coded_clauses ys) n) (second_from (coded_test t) (behind_clauses (coded_clauses ys) n)) (code_of layout b.0 (behind_second (coded_test t) (behind_clauses (coded_clauses ys) n)))
      (held_from (coded_held f) (behind_second (coded_test t) (behind_clauses (coded_clauses ys) n) + length (lambdas_in b.0))))
  turns_fit ys t b f n e says row =
      let a = clauses_inside ys in
      let c = test_inside t in
      let d = lambdas_in b.0 in
      let g = held_inside f in
      let p = both_true (clauses_scopes ys) (test_scopes t && (is_scoped b.0 first last && held_scopes f)) e in
      let q = both_true (test_scopes t) (is_scoped b.0 first last && held_scopes f) p.1 in
      let r = both_true (is_scoped b.0 first last) (held_scopes f) q.1 in
      let of_b : ℕ → Marks = λ k. marks_of k b.0 in
      let of_last : ℕ → Marks = λ k. join (marks_of k b.0) (held_marked f k) in
      let of_rest : ℕ → Marks = λ k. join (test_marked t k) (of_last k) in
      let says_rest = right (clauses_marked ys) of_rest says in
      let says_last = right (test_marked t) of_last says_rest in
      let m = behind_clauses (coded_clauses ys) n in
      let k = behind_second (coded_test t) m in
      let j = k + length d in
      let m_is = clauses_behind ys n in
      let k_is = test_behind t m in
      let three = row_front n (a ++ c ++ d) g row in
      let two = row_front n (a ++ c) d three in
      fit_for made bodies locals captures (clauses_from (coded_clauses ys) n) (second_from (coded_test t) m) (code_of layout b.0 k) (held_from (coded_held f) j)
      (clauses_fit ys n p.0 (left (clauses_marked ys) of_rest says) (row_front n a c two))
      (test_fit t m q.0 (left (test_marked t) of_last says_rest) (row_back n m a c m_is two))
      (b.1 k r.0 (left of_b (held_marked f) says_last) (row_back n k (a ++ c) d (omega (arith, m_is, k_is, length-append a c)) three))
      (held_fit f j r.1 (right of_b (held_marked f) says_last) (row_back n j (a ++ c ++ d) g (omega (arith, m_is, k_is, length-append a c, length-append (a ++ c) d)) row))

  abbrev a_for : List A_clause → Option A_test → A_term → Option A_term → ForRow-F A_clause An_item A_term (Blocks_with C I T K F L) (Fors_with C I T K F L) A_lambda
  a_for cs t b f = record { clauses = cs; test = t; body = b; finally = f }

  for_by : (cs : List A_clause) (t : Option A_test) (b : A_term) (f : Option A_term) → F (for_of C I T K F L (a_for cs t b f))
  for_by cs None b None = name_for _ (λ n e says row. turns_fit cs None b None n e says row)
  for_by cs None b (Some f) = name_for _ (λ n e says row. turns_fit cs None b (Some f) n e says row)
  for_by cs (Some t) b None = name_for _ (λ n e says row. turns_fit cs (Some t) b None n e says row)
  for_by cs (Some t) b (Some f) = name_for _ (λ n e says row. turns_fit cs (Some t) b (Some f) n e says row)

  pub names_there : (term : Term) → T term
  names_there = by_terms C I T K F L clause_fit item_fit term_fit block_fit (λ y. for_by y.clauses y.test y.body y.finally) (λ y. tt)

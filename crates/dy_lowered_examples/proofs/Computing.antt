-- Terms, one layer at a time: how many closures are inside, what they do with a local, and their
-- code.
use Rattle.std.proofs.Common.{◌≡◌, ℕ, ◌+◌, ◌-◌, Bool, false, List, [], ◌∷◌, ◌++◌, map, length}
use Rattle.std.proofs.Common.{ap}
use Rattle.std.proofs.Common.{◌∙◌, sym}
use Rattle.std.specs.Prelude.{nat_lt}
use Rattle.dy_term.specs.declared.term.ForClause.{ForClause, roll-ForClause}
use Rattle.dy_term.specs.declared.term.ForClause.{map-ForClause, para-roll-ForClause}
use Rattle.dy_term.specs.declared.term.ForClause.{fold-roll-ForClause}
use Rattle.dy_term.specs.declared.term.Item.{Item, roll-Item, map-Item, para-roll-Item}
use Rattle.dy_term.specs.declared.term.Item.{fold-roll-Item}
use Rattle.dy_term.specs.declared.term.Term.{Term, roll-Term, map-Term, para-roll-Term}
use Rattle.dy_term.specs.declared.term.Term.{fold-roll-Term}
use Rattle.dy_term.specs.declared.term.ForRow.{ForRow, roll-ForRow, map-ForRow}
use Rattle.dy_term.specs.declared.term.ForRow.{para-roll-ForRow, fold-roll-ForRow}
use Rattle.dy_term.specs.declared.term.Lambda.{Lambda, out-Lambda, roll-Lambda}
use Rattle.dy_term.specs.declared.term.Lambda.{out-roll-Lambda, map-Lambda, para-roll-Lambda}
use Rattle.dy_term.specs.declared.term.Lambda.{fold-roll-Lambda}
use Rattle.dy_captures.specs.Marks.{Marks, clause_marks, item_marks, term_marks, for_marks}
use Rattle.dy_captures.specs.Marks.{lambda_marks, marks_of_clause, marks_of_item, marks_of}
use Rattle.dy_captures.specs.Marks.{marks_of_block, marks_of_for, marks_of_lambda}
use Rattle.dy_outcome.specs.declared.place.Place.{Place}
use Rattle.dy_outcome.specs.declared.place.Place.TheVariants.{Own}
use Rattle.dy_code.specs.Fetching.{Tick, Args, CheckResults, Return}
use Rattle.dy_meaning.specs.Lambdas.{of_defaults, item_lambdas, term_lambdas, lambda_lambdas}
use Rattle.dy_meaning.specs.Lambdas.{lambdas_in_clause, lambdas_in_item, lambdas_in}
use Rattle.dy_meaning.specs.Lambdas.{lambdas_in_block, lambdas_in_for, lambdas_within}
use Rattle.dy_meaning.specs.Layouts.{Layout, place_of, layout_of, captured_by, own_or_captured}
use Rattle.dy_meaning.specs.Layouts.{lives_in_cell, from}
use Rattle.dy_lowered.specs.Flat.{Plain, Code, one}
use Rattle.dy_lowered.specs.Parts.{Part, cells}
use Rattle.dy_lowered.specs.Bodies.{FlatBody, rest_place, lambda_body}
use Rattle.dy_lowered.specs.Turns.{Clause}
use Rattle.dy_lowered.specs.Terms.{clause_coded, item_coded, term_coded, for_coded, code_of}
use Rattle.dy_lowered.specs.Terms.{item_code, clause_code, block_code, for_code, lambda_code}
use Rattle.dy_lowered_examples.specs.Building.{A_term, An_item, A_clause, A_loop, A_lambda}

abbrev beside : {A B : Type 0} → (A → B) → A → A × B
beside make part = (part, make part)

-- the lambdas inside
pub inside : (x : A_term)
    → lambdas_in (roll-Term x)
    ≡ term_lambdas (map-Term _ _ _ _ _ _ _ _ _ _ _ _ (beside lambdas_in_clause)
    (beside lambdas_in_item) (beside lambdas_in) (beside lambdas_in_block) (beside lambdas_in_for)
    (beside lambdas_within) x)
inside = para-roll-Term _ _ _ _ _ _ _ _ _ _ _ _

pub inside_item : (x : An_item)
    → lambdas_in_item (roll-Item x)
    ≡ item_lambdas (map-Item _ _ _ _ _ _ _ _ _ _ _ _ (beside lambdas_in_clause)
    (beside lambdas_in_item) (beside lambdas_in) (beside lambdas_in_block) (beside lambdas_in_for)
    (beside lambdas_within) x)
inside_item = para-roll-Item _ _ _ _ _ _ _ _ _ _ _ _

-- what is done with a local
module _ (k : ℕ) where
  pub marks : (x : A_term) → marks_of k (roll-Term x)
      ≡ term_marks k (map-Term _ _ _ _ _ _ _ _ _ _ _ _ (marks_of_clause k) (marks_of_item k)
      (marks_of k) (marks_of_block k) (marks_of_for k) (marks_of_lambda k) x)
  marks = fold-roll-Term _ _ _ _ _ _ _ _ _ _ _ _

  pub item : (x : An_item) → marks_of_item k (roll-Item x)
      ≡ item_marks k (map-Item _ _ _ _ _ _ _ _ _ _ _ _ (marks_of_clause k) (marks_of_item k)
      (marks_of k) (marks_of_block k) (marks_of_for k) (marks_of_lambda k) x)
  item = fold-roll-Item _ _ _ _ _ _ _ _ _ _ _ _

  pub clause : (x : A_clause)
      → marks_of_clause k (roll-ForClause x)
      ≡ clause_marks k (map-ForClause _ _ _ _ _ _ _ _ _ _ _ _ (marks_of_clause k) (marks_of_item k)
      (marks_of k) (marks_of_block k) (marks_of_for k) (marks_of_lambda k) x)
  clause = fold-roll-ForClause _ _ _ _ _ _ _ _ _ _ _ _

  pub turns : (x : A_loop) → marks_of_for k (roll-ForRow x)
      ≡ for_marks k (map-ForRow _ _ _ _ _ _ _ _ _ _ _ _ (marks_of_clause k) (marks_of_item k)
      (marks_of k) (marks_of_block k) (marks_of_for k) (marks_of_lambda k) x)
  turns = fold-roll-ForRow _ _ _ _ _ _ _ _ _ _ _ _

  pub lambda : (x : A_lambda)
      → marks_of_lambda k (roll-Lambda x)
      ≡ lambda_marks k (map-Lambda _ _ _ _ _ _ _ _ _ _ _ _ (marks_of_clause k) (marks_of_item k)
      (marks_of k) (marks_of_block k) (marks_of_for k) (marks_of_lambda k) x)
  lambda = fold-roll-Lambda _ _ _ _ _ _ _ _ _ _ _ _

-- the code
module _ (layout : Layout) where
  abbrev term_layer : A_term → ℕ → Code
  term_layer x = term_coded layout
      (map-Term _ _ _ _ _ _ _ _ _ _ _ _ (beside (clause_code layout)) (beside (item_code layout))
      (beside (code_of layout)) (beside (block_code layout)) (beside (for_code layout))
      (beside (lambda_code layout)) x)

  pub code : (x : A_term) (n : ℕ) → code_of layout (roll-Term x) n ≡ term_layer x n
  code x n = ap (λ (make : ℕ → Code). make n) (para-roll-Term _ _ _ _ _ _ _ _ _ _ _ _ x)

  abbrev item_layer : An_item → ℕ → Part
  item_layer x = item_coded layout
      (map-Item _ _ _ _ _ _ _ _ _ _ _ _ (beside (clause_code layout)) (beside (item_code layout))
      (beside (code_of layout)) (beside (block_code layout)) (beside (for_code layout))
      (beside (lambda_code layout)) x)

  pub part : (x : An_item) (n : ℕ) → item_code layout (roll-Item x) n ≡ item_layer x n
  part x n = ap (λ (make : ℕ → Part). make n) (para-roll-Item _ _ _ _ _ _ _ _ _ _ _ _ x)

  abbrev clause_layer : A_clause → ℕ → Clause
  clause_layer x = clause_coded layout
      (map-ForClause _ _ _ _ _ _ _ _ _ _ _ _ (beside (clause_code layout))
      (beside (item_code layout)) (beside (code_of layout)) (beside (block_code layout))
      (beside (for_code layout)) (beside (lambda_code layout)) x)

  pub counting : (x : A_clause) (n : ℕ) → clause_code layout (roll-ForClause x) n ≡ clause_layer x n
  counting x n = ap (λ (make : ℕ → Clause). make n) (para-roll-ForClause _ _ _ _ _ _ _ _ _ _ _ _ x)

  abbrev for_layer : A_loop → ℕ → Code
  for_layer x = for_coded layout
      (map-ForRow _ _ _ _ _ _ _ _ _ _ _ _ (beside (clause_code layout)) (beside (item_code layout))
      (beside (code_of layout)) (beside (block_code layout)) (beside (for_code layout))
      (beside (lambda_code layout)) x)

  pub loop : (x : A_loop) (n : ℕ) → for_code layout (roll-ForRow x) n ≡ for_layer x n
  loop x n = ap (λ (make : ℕ → Code). make n) (para-roll-ForRow _ _ _ _ _ _ _ _ _ _ _ _ x)

-- the body of a lambda, from its row
abbrev pub made : A_lambda → Layout → ℕ → ℕ → FlatBody
made row layout captures number = record {
  locals = row.locals - row.first;
  captures = captures;
  code = (Plain Tick ∷ Plain (Args row.params)
      ∷ cells (map (place_of layout) (from row.first (length row.params.required))
      ++ rest_place row.params.rest (place_of layout (row.first + length row.params.required))))
      ++ (code_of layout row.body (number + length (of_defaults row.keywords))
      ++ (Plain (CheckResults row.results) ∷ one Return));
}

pub body_made : (row : A_lambda) (number : ℕ) → let lambda = roll-Lambda row in
    lambda_body lambda number ≡ made row (layout_of lambda) (length (captured_by lambda)) number
body_made row number =
    let lambda = roll-Lambda row in
    ap (λ (r : A_lambda). made r (layout_of lambda) (length (captured_by lambda)) number)
    (out-roll-Lambda row)

-- where a local of its own stands
pub own_place : (row : A_lambda) (k : ℕ) (in_cell : Bool) → nat_lt k row.first ≡ false
    → k - row.first ≡ k
    → lives_in_cell (marks_of_lambda k (roll-Lambda row)) ≡ in_cell
    → place_of (layout_of (roll-Lambda row)) k ≡ Own k in_cell
own_place row k in_cell own same cell =
    let layout = layout_of (roll-Lambda row) in
    let first = ap (λ (r : A_lambda). r.first) (out-roll-Lambda row) in
    (λ i. own_or_captured (nat_lt k (first i)) layout k)
    ∙ (λ i. own_or_captured (own i) layout k)
    ∙ (λ i. Own (k - first i) (cell i))
    ∙ (λ i. Own (same i) in_cell)

-- the number of the next closure behind a term
abbrev pub next : Term → ℕ → ℕ
next term number = number + length (lambdas_in term)

-- How many locals a term binds, what it does with a local, and so where the locals of a body stand, do
-- not see references.
use Rattle.std.proofs.Common.{◌≡◌, ℕ, ◌+◌, Bool, List, [], ◌∷◌, map, Option, refl, sym, ap, ◌∙◌}
use Rattle.std.specs.Prelude.{max}
use Rattle.std.proofs.Math.Path.{fun_ext}
use Rattle.dy_term.specs.declared.types.DyType.{DyType}
use Rattle.dy_term.specs.declared.term.ForClause.{ForClause, ForClause-F}
use Rattle.dy_term.specs.declared.term.Item.{Item, Item-F}
use Rattle.dy_term.specs.declared.term.Term.{Term, Term-F}
use Rattle.dy_term.specs.declared.term.BlockRow.{BlockRow, BlockRow-F}
use Rattle.dy_term.specs.declared.term.ForRow.{ForRow, ForRow-F}
use Rattle.dy_term.specs.declared.term.Lambda.{Lambda, Lambda-F, out-Lambda, roll-Lambda, roll-out-Lambda, out-roll-Lambda, fold-roll-Lambda}
use Rattle.dy_captures.specs.Marks.{Marks, join, join_clauses, join_typed, outside, join_all, join_some, clause_marks, item_marks, term_marks, block_marks, for_marks, lambda_marks, marks_of, marks_of_lambda, is_captured_by}
use Rattle.dy_meaning.specs.Layouts.{Layout, lives_in_cell, all_below, captured_by, layout_of, layout_of_term}
use Rattle.dy_meaning.specs.Numbers.{greatest, held, behind, clause_numbers, item_numbers, term_numbers, block_numbers, for_numbers, lambda_numbers, numbers_in}
use Rattle.dy_lowered.specs.Linking.{linked_type, linked_params, linked_results}
use Rattle.dy_linked_rows.specs.Terms.{typed, clause_linked, item_linked, term_linked, block_linked, for_linked, lambda_linked, linked_clause, linked_item, linked_term, linked_block, linked_for, linked_lambda}
use Rattle.dy_linked_rows.proofs.Lists.{map_twice}
use Rattle.dy_linked_rows.proofs.Layers.{over_lambda}
use Rattle.dy_linked_rows.proofs.Folding.{IsBlind, blind_term, blind_lambda}

-- the row of a linked lambda
module _ (places : ℕ → ℕ) where
  abbrev pub inside_lambda : Lambda-F ForClause Item Term BlockRow ForRow Lambda → Lambda-F ForClause Item Term BlockRow ForRow Lambda
  inside_lambda = over_lambda (linked_clause places) (linked_item places) (linked_term places) (linked_block places) (linked_for places) (linked_lambda places)

  pub row_of_lambda : (lambda : Lambda) → out-Lambda (linked_lambda places lambda) ≡ lambda_linked places (inside_lambda (out-Lambda lambda))
  row_of_lambda lambda =
      ap (λ (x : Lambda). out-Lambda (linked_lambda places x)) (sym (roll-out-Lambda lambda))
      ∙ (ap out-Lambda (fold-roll-Lambda _ _ _ _ _ _ _ _ _ _ _ _ (out-Lambda lambda))
      ∙ out-roll-Lambda (lambda_linked places (inside_lambda (out-Lambda lambda))))

-- how many locals it binds
locals_same : (places : ℕ → ℕ) (locals : List (ℕ × DyType)) → map (λ (local : ℕ × DyType). local.0 + 1) (map (λ (local : ℕ × DyType). (local.0, linked_type places local.1)) locals) ≡ map (λ (local : ℕ × DyType). local.0 + 1) locals
locals_same places [] = refl
locals_same places (local ∷ locals) = ap (λ (ns : List ℕ). (local.0 + 1) ∷ ns) (locals_same places locals)

caught_numbers : (places : ℕ → ℕ) (clauses : List (Option ℕ × DyType × ℕ)) → map (λ (clause : Option ℕ × DyType × ℕ). max (behind clause.0) clause.2) (map (λ (clause : Option ℕ × DyType × ℕ). (clause.0, linked_type places clause.1, clause.2)) clauses) ≡ map (λ (clause : Option ℕ × DyType × ℕ). max (behind clause.0) clause.2) clauses
caught_numbers places [] = refl
caught_numbers places (clause ∷ clauses) = ap (λ (ns : List ℕ). max (behind clause.0) clause.2 ∷ ns) (caught_numbers places clauses)

module _ (places : ℕ → ℕ) where
  clause_numbers_same : (x : ForClause-F ℕ ℕ ℕ ℕ ℕ ℕ) → clause_numbers (clause_linked places x) ≡ clause_numbers x
  clause_numbers_same (ForClause-F.Then local type start next) = refl
  clause_numbers_same (ForClause-F.In local type collection) = refl
  clause_numbers_same (ForClause-F.From local type start limit step) = refl

  item_numbers_same : (x : Item-F ℕ ℕ ℕ ℕ ℕ ℕ) → item_numbers (item_linked places x) ≡ item_numbers x
  item_numbers_same (Item-F.Run term) = refl
  item_numbers_same (Item-F.Let locals rest term) = ap (λ ns. max (greatest ns) (max (behind rest) term)) (locals_same places locals)
  item_numbers_same (Item-F.LetMethods methods) = refl
  item_numbers_same (Item-F.Handler type function) = refl

  term_numbers_same : (x : Term-F ℕ ℕ ℕ ℕ ℕ ℕ) → term_numbers (term_linked places x) ≡ term_numbers x
  term_numbers_same (Term-F.Lit value) = refl
  term_numbers_same (Term-F.Local local) = refl
  term_numbers_same (Term-F.Global binding) = refl
  term_numbers_same (Term-F.ClassName class) = refl
  term_numbers_same (Term-F.GenericName generic) = refl
  term_numbers_same (Term-F.SetLocal local term) = refl
  term_numbers_same (Term-F.SetGlobal binding term) = refl
  term_numbers_same (Term-F.Call function terms) = refl
  term_numbers_same (Term-F.Site generic terms) = refl
  term_numbers_same (Term-F.Cond branches other) = refl
  term_numbers_same (Term-F.And left right) = refl
  term_numbers_same (Term-F.Or left right) = refl
  term_numbers_same (Term-F.Select value test arms last) = refl
  term_numbers_same (Term-F.Body items) = refl
  term_numbers_same (Term-F.Loop test inner) = refl
  term_numbers_same (Term-F.For row) = refl
  term_numbers_same (Term-F.Method lambda) = refl
  term_numbers_same (Term-F.Block row) = refl
  term_numbers_same (Term-F.Op operation terms) = refl
  term_numbers_same (Term-F.Next terms) = refl

  block_numbers_same : (x : BlockRow-F ℕ ℕ ℕ ℕ ℕ ℕ) → block_numbers (block_linked places x) ≡ block_numbers x
  block_numbers_same x = ap (λ ns. max (behind x.exit) (max x.body (max (held x.afterwards) (max (held x.cleanup) (greatest ns))))) (caught_numbers places x.clauses)

  blind_numbers : IsBlind places clause_numbers item_numbers term_numbers block_numbers for_numbers lambda_numbers
  blind_numbers = record {
    clause = clause_numbers_same;
    item = item_numbers_same;
    term = term_numbers_same;
    block = block_numbers_same;
    for = λ x. refl;
    lambda = λ x. refl;
  }

  pub numbers_same : (term : Term) → numbers_in (linked_term places term) ≡ numbers_in term
  numbers_same = blind_term places clause_numbers item_numbers term_numbers block_numbers for_numbers lambda_numbers blind_numbers

-- what it does with a local
module _ (places : ℕ → ℕ) (n : ℕ) where
  caught_marks : (clauses : List (Option ℕ × DyType × Marks)) → join_clauses (map (λ (clause : Option ℕ × DyType × Marks). (clause.0, linked_type places clause.1, clause.2)) clauses) ≡ join_clauses clauses
  caught_marks [] = refl
  caught_marks (clause ∷ clauses) = ap (join clause.2) (caught_marks clauses)

  typed_marks : (keywords : List (DyType × Marks)) → join_typed (map (typed places) keywords) ≡ join_typed keywords
  typed_marks [] = refl
  typed_marks (keyword ∷ keywords) = ap (join keyword.1) (typed_marks keywords)

  clause_marks_same : (x : ForClause-F Marks Marks Marks Marks Marks Marks) → clause_marks n (clause_linked places x) ≡ clause_marks n x
  clause_marks_same (ForClause-F.Then local type start next) = refl
  clause_marks_same (ForClause-F.In local type collection) = refl
  clause_marks_same (ForClause-F.From local type start limit step) = refl

  item_marks_same : (x : Item-F Marks Marks Marks Marks Marks Marks) → item_marks n (item_linked places x) ≡ item_marks n x
  item_marks_same (Item-F.Run term) = refl
  item_marks_same (Item-F.Let locals rest term) = refl
  item_marks_same (Item-F.LetMethods methods) = refl
  item_marks_same (Item-F.Handler type function) = refl

  term_marks_same : (x : Term-F Marks Marks Marks Marks Marks Marks) → term_marks n (term_linked places x) ≡ term_marks n x
  term_marks_same (Term-F.Lit value) = refl
  term_marks_same (Term-F.Local local) = refl
  term_marks_same (Term-F.Global binding) = refl
  term_marks_same (Term-F.ClassName class) = refl
  term_marks_same (Term-F.GenericName generic) = refl
  term_marks_same (Term-F.SetLocal local term) = refl
  term_marks_same (Term-F.SetGlobal binding term) = refl
  term_marks_same (Term-F.Call function terms) = refl
  term_marks_same (Term-F.Site generic terms) = refl
  term_marks_same (Term-F.Cond branches other) = refl
  term_marks_same (Term-F.And left right) = refl
  term_marks_same (Term-F.Or left right) = refl
  term_marks_same (Term-F.Select value test arms last) = refl
  term_marks_same (Term-F.Body items) = refl
  term_marks_same (Term-F.Loop test inner) = refl
  term_marks_same (Term-F.For row) = refl
  term_marks_same (Term-F.Method lambda) = refl
  term_marks_same (Term-F.Block row) = refl
  term_marks_same (Term-F.Op operation terms) = refl
  term_marks_same (Term-F.Next terms) = refl

  block_marks_same : (x : BlockRow-F Marks Marks Marks Marks Marks Marks) → block_marks n (block_linked places x) ≡ block_marks n x
  block_marks_same x = ap (λ m. join x.body (join (join_some x.afterwards) (join (join_some x.cleanup) m))) (caught_marks x.clauses)

  lambda_marks_same : (x : Lambda-F Marks Marks Marks Marks Marks Marks) → lambda_marks n (lambda_linked places x) ≡ lambda_marks n x
  lambda_marks_same x = ap (λ m. outside n x.first (join m x.body)) (typed_marks x.keywords)

  blind_marks : IsBlind places (clause_marks n) (item_marks n) (term_marks n) (block_marks n) (for_marks n) (lambda_marks n)
  blind_marks = record {
    clause = clause_marks_same;
    item = item_marks_same;
    term = term_marks_same;
    block = block_marks_same;
    for = λ x. refl;
    lambda = lambda_marks_same;
  }

  pub marks_same : (term : Term) → marks_of n (linked_term places term) ≡ marks_of n term
  marks_same = blind_term places (clause_marks n) (item_marks n) (term_marks n) (block_marks n) (for_marks n) (lambda_marks n) blind_marks

  pub lambda_marked : (lambda : Lambda) → marks_of_lambda n (linked_lambda places lambda) ≡ marks_of_lambda n lambda
  lambda_marked = blind_lambda places (clause_marks n) (item_marks n) (term_marks n) (block_marks n) (for_marks n) (lambda_marks n) blind_marks

-- where its locals stand
module _ (places : ℕ → ℕ) where
  pub first_same : (lambda : Lambda) → (out-Lambda (linked_lambda places lambda)).first ≡ (out-Lambda lambda).first
  first_same lambda = ap (λ (row : Lambda-F ForClause Item Term BlockRow ForRow Lambda). row.first) (row_of_lambda places lambda)

  pub captured_same : (lambda : Lambda) → captured_by (linked_lambda places lambda) ≡ captured_by lambda
  captured_same lambda = λ j. all_below (λ number. (lambda_marked places number lambda j).mentioned) (first_same lambda j)

  pub layout_same : (lambda : Lambda) → layout_of (linked_lambda places lambda) ≡ layout_of lambda
  layout_same lambda = λ j. record {
    first = first_same lambda j;
    captured = captured_same lambda j;
    in_cell = λ number. lives_in_cell (lambda_marked places number lambda j);
  }

  pub term_layout_same : (term : Term) → layout_of_term (linked_term places term) ≡ layout_of_term term
  term_layout_same term = λ j. record {
    first = 0;
    captured = [];
    in_cell = λ number. lives_in_cell (marks_same places number term j);
  }

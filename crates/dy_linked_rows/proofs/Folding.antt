-- Folds over linked terms. One whose layers see no reference gives what it gives of the terms, and one
-- whose layers carry references along gives the linked result.
use Rattle.std.proofs.Common.{◌≡◌, ℕ, refl, sym, ap, ◌∙◌, subst}
use Rattle.dy_term.specs.declared.term.ForClause.{ForClause, ForClause-F, roll-ForClause, fold-ForClause, para-ForClause, fold-roll-ForClause, para-roll-ForClause, ind-ForClause}
use Rattle.dy_term.specs.declared.term.Item.{Item, Item-F, roll-Item, fold-Item, para-Item, fold-roll-Item, para-roll-Item, ind-Item}
use Rattle.dy_term.specs.declared.term.Term.{Term, Term-F, roll-Term, fold-Term, para-Term, fold-roll-Term, para-roll-Term, ind-Term}
use Rattle.dy_term.specs.declared.term.BlockRow.{BlockRow, BlockRow-F, roll-BlockRow, fold-BlockRow, para-BlockRow, fold-roll-BlockRow, para-roll-BlockRow, ind-BlockRow}
use Rattle.dy_term.specs.declared.term.ForRow.{ForRow, ForRow-F, roll-ForRow, fold-ForRow, para-ForRow, fold-roll-ForRow, para-roll-ForRow, ind-ForRow}
use Rattle.dy_term.specs.declared.term.Lambda.{Lambda, Lambda-F, roll-Lambda, fold-Lambda, para-Lambda, fold-roll-Lambda, para-roll-Lambda, ind-Lambda}
use Rattle.dy_meaning.proofs.Induction.{Clauses_with, Items_with, Terms_with, Blocks_with, Fors_with, Lambdas_with, clause_of, item_of, term_of, block_of, for_of, lambda_of}
use Rattle.dy_linked_rows.specs.Terms.{clause_linked, item_linked, term_linked, block_linked, for_linked, lambda_linked, linked_clause, linked_item, linked_term, linked_block, linked_for, linked_lambda}
use Rattle.dy_linked_rows.proofs.Layers.{over_clause, over_item, over_term, over_block, over_for, over_lambda, clause_twice, item_twice, term_twice, block_twice, for_twice, lambda_twice, clause_over, item_over, term_over, block_over, for_over, lambda_over}

-- induction on all kinds of terms: a step gets one layer, in which each child stands with what holds of it
module _ (C : ForClause → Type 0) (I : Item → Type 0) (T : Term → Type 0) (K : BlockRow → Type 0) (F : ForRow → Type 0) (L : Lambda → Type 0)
    (c : (y : ForClause-F (Clauses_with C I T K F L) (Items_with C I T K F L) (Terms_with C I T K F L) (Blocks_with C I T K F L) (Fors_with C I T K F L) (Lambdas_with C I T K F L)) → C (clause_of C I T K F L y)) (i : (y : Item-F (Clauses_with C I T K F L) (Items_with C I T K F L) (Terms_with C I T K F L) (Blocks_with C I T K F L) (Fors_with C I T K F L) (Lambdas_with C I T K F L)) → I (item_of C I T K F L y)) (t : (y : Term-F (Clauses_with C I T K F L) (Items_with C I T K F L) (Terms_with C I T K F L) (Blocks_with C I T K F L) (Fors_with C I T K F L) (Lambdas_with C I T K F L)) → T (term_of C I T K F L y)) (k : (y : BlockRow-F (Clauses_with C I T K F L) (Items_with C I T K F L) (Terms_with C I T K F L) (Blocks_with C I T K F L) (Fors_with C I T K F L) (Lambdas_with C I T K F L)) → K (block_of C I T K F L y)) (f : (y : ForRow-F (Clauses_with C I T K F L) (Items_with C I T K F L) (Terms_with C I T K F L) (Blocks_with C I T K F L) (Fors_with C I T K F L) (Lambdas_with C I T K F L)) → F (for_of C I T K F L y)) (l : (y : Lambda-F (Clauses_with C I T K F L) (Items_with C I T K F L) (Terms_with C I T K F L) (Blocks_with C I T K F L) (Fors_with C I T K F L) (Lambdas_with C I T K F L)) → L (lambda_of C I T K F L y)) where
  pub by_clause : (x : ForClause) → C x
  by_clause = ind-ForClause C I T K F L (λ x y q. subst (λ z. C (roll-ForClause z)) q (c y)) (λ x y q. subst (λ z. I (roll-Item z)) q (i y)) (λ x y q. subst (λ z. T (roll-Term z)) q (t y)) (λ x y q. subst (λ z. K (roll-BlockRow z)) q (k y)) (λ x y q. subst (λ z. F (roll-ForRow z)) q (f y)) (λ x y q. subst (λ z. L (roll-Lambda z)) q (l y))

  pub by_item : (x : Item) → I x
  by_item = ind-Item C I T K F L (λ x y q. subst (λ z. C (roll-ForClause z)) q (c y)) (λ x y q. subst (λ z. I (roll-Item z)) q (i y)) (λ x y q. subst (λ z. T (roll-Term z)) q (t y)) (λ x y q. subst (λ z. K (roll-BlockRow z)) q (k y)) (λ x y q. subst (λ z. F (roll-ForRow z)) q (f y)) (λ x y q. subst (λ z. L (roll-Lambda z)) q (l y))

  pub by_term : (x : Term) → T x
  by_term = ind-Term C I T K F L (λ x y q. subst (λ z. C (roll-ForClause z)) q (c y)) (λ x y q. subst (λ z. I (roll-Item z)) q (i y)) (λ x y q. subst (λ z. T (roll-Term z)) q (t y)) (λ x y q. subst (λ z. K (roll-BlockRow z)) q (k y)) (λ x y q. subst (λ z. F (roll-ForRow z)) q (f y)) (λ x y q. subst (λ z. L (roll-Lambda z)) q (l y))

  pub by_block : (x : BlockRow) → K x
  by_block = ind-BlockRow C I T K F L (λ x y q. subst (λ z. C (roll-ForClause z)) q (c y)) (λ x y q. subst (λ z. I (roll-Item z)) q (i y)) (λ x y q. subst (λ z. T (roll-Term z)) q (t y)) (λ x y q. subst (λ z. K (roll-BlockRow z)) q (k y)) (λ x y q. subst (λ z. F (roll-ForRow z)) q (f y)) (λ x y q. subst (λ z. L (roll-Lambda z)) q (l y))

  pub by_for : (x : ForRow) → F x
  by_for = ind-ForRow C I T K F L (λ x y q. subst (λ z. C (roll-ForClause z)) q (c y)) (λ x y q. subst (λ z. I (roll-Item z)) q (i y)) (λ x y q. subst (λ z. T (roll-Term z)) q (t y)) (λ x y q. subst (λ z. K (roll-BlockRow z)) q (k y)) (λ x y q. subst (λ z. F (roll-ForRow z)) q (f y)) (λ x y q. subst (λ z. L (roll-Lambda z)) q (l y))

  pub by_lambda : (x : Lambda) → L x
  by_lambda = ind-Lambda C I T K F L (λ x y q. subst (λ z. C (roll-ForClause z)) q (c y)) (λ x y q. subst (λ z. I (roll-Item z)) q (i y)) (λ x y q. subst (λ z. T (roll-Term z)) q (t y)) (λ x y q. subst (λ z. K (roll-BlockRow z)) q (k y)) (λ x y q. subst (λ z. F (roll-ForRow z)) q (f y)) (λ x y q. subst (λ z. L (roll-Lambda z)) q (l y))

-- folds whose layers see no reference
module _ (places : ℕ → ℕ) {A B D E G H : Type 0}
    (clause_step : ForClause-F A B D E G H → A) (item_step : Item-F A B D E G H → B) (term_step : Term-F A B D E G H → D) (block_step : BlockRow-F A B D E G H → E) (for_step : ForRow-F A B D E G H → G) (lambda_step : Lambda-F A B D E G H → H) where
  abbrev folded_clause : ForClause → A
  folded_clause = fold-ForClause A B D E G H clause_step item_step term_step block_step for_step lambda_step

  abbrev folded_item : Item → B
  folded_item = fold-Item A B D E G H clause_step item_step term_step block_step for_step lambda_step

  abbrev folded_term : Term → D
  folded_term = fold-Term A B D E G H clause_step item_step term_step block_step for_step lambda_step

  abbrev folded_block : BlockRow → E
  folded_block = fold-BlockRow A B D E G H clause_step item_step term_step block_step for_step lambda_step

  abbrev folded_for : ForRow → G
  folded_for = fold-ForRow A B D E G H clause_step item_step term_step block_step for_step lambda_step

  abbrev folded_lambda : Lambda → H
  folded_lambda = fold-Lambda A B D E G H clause_step item_step term_step block_step for_step lambda_step

  pub record IsBlind : Type 0 where
    pub clause : (x : ForClause-F A B D E G H) → clause_step (clause_linked places x) ≡ clause_step x
    pub item : (x : Item-F A B D E G H) → item_step (item_linked places x) ≡ item_step x
    pub term : (x : Term-F A B D E G H) → term_step (term_linked places x) ≡ term_step x
    pub block : (x : BlockRow-F A B D E G H) → block_step (block_linked places x) ≡ block_step x
    pub for : (x : ForRow-F A B D E G H) → for_step (for_linked places x) ≡ for_step x
    pub lambda : (x : Lambda-F A B D E G H) → lambda_step (lambda_linked places x) ≡ lambda_step x

  abbrev C : ForClause → Type 0
  C x = folded_clause (linked_clause places x) ≡ folded_clause x

  abbrev I : Item → Type 0
  I x = folded_item (linked_item places x) ≡ folded_item x

  abbrev T : Term → Type 0
  T x = folded_term (linked_term places x) ≡ folded_term x

  abbrev K : BlockRow → Type 0
  K x = folded_block (linked_block places x) ≡ folded_block x

  abbrev F : ForRow → Type 0
  F x = folded_for (linked_for places x) ≡ folded_for x

  abbrev L : Lambda → Type 0
  L x = folded_lambda (linked_lambda places x) ≡ folded_lambda x

  module _ (blind : IsBlind) where
    clause_same : (y : ForClause-F (Clauses_with C I T K F L) (Items_with C I T K F L) (Terms_with C I T K F L) (Blocks_with C I T K F L) (Fors_with C I T K F L) (Lambdas_with C I T K F L)) → C (clause_of C I T K F L y)
    clause_same y =
        let inner : ForClause-F ForClause Item Term BlockRow ForRow Lambda = over_clause (λ (e : Clauses_with C I T K F L). e.0) (λ (e : Items_with C I T K F L). e.0) (λ (e : Terms_with C I T K F L). e.0) (λ (e : Blocks_with C I T K F L). e.0) (λ (e : Fors_with C I T K F L). e.0) (λ (e : Lambdas_with C I T K F L). e.0) y in
        ap folded_clause (fold-roll-ForClause _ _ _ _ _ _ _ _ _ _ _ _ inner)
        ∙ (fold-roll-ForClause _ _ _ _ _ _ _ _ _ _ _ _ (clause_linked places (over_clause (linked_clause places) (linked_item places) (linked_term places) (linked_block places) (linked_for places) (linked_lambda places) inner))
        ∙ (ap clause_step (clause_over places folded_clause folded_item folded_term folded_block folded_for folded_lambda (over_clause (linked_clause places) (linked_item places) (linked_term places) (linked_block places) (linked_for places) (linked_lambda places) inner))
        ∙ (ap (λ z. clause_step (clause_linked places z)) (clause_twice folded_clause folded_item folded_term folded_block folded_for folded_lambda (linked_clause places) (linked_item places) (linked_term places) (linked_block places) (linked_for places) (linked_lambda places) inner ∙ clause_twice (λ (x : ForClause). folded_clause (linked_clause places x)) (λ (x : Item). folded_item (linked_item places x)) (λ (x : Term). folded_term (linked_term places x)) (λ (x : BlockRow). folded_block (linked_block places x)) (λ (x : ForRow). folded_for (linked_for places x)) (λ (x : Lambda). folded_lambda (linked_lambda places x)) (λ (e : Clauses_with C I T K F L). e.0) (λ (e : Items_with C I T K F L). e.0) (λ (e : Terms_with C I T K F L). e.0) (λ (e : Blocks_with C I T K F L). e.0) (λ (e : Fors_with C I T K F L). e.0) (λ (e : Lambdas_with C I T K F L). e.0) y)
        ∙ ((λ j. clause_step (clause_linked places (over_clause (λ (e : Clauses_with C I T K F L). e.1 j) (λ (e : Items_with C I T K F L). e.1 j) (λ (e : Terms_with C I T K F L). e.1 j) (λ (e : Blocks_with C I T K F L). e.1 j) (λ (e : Fors_with C I T K F L). e.1 j) (λ (e : Lambdas_with C I T K F L). e.1 j) y)))
        ∙ (blind.clause (over_clause (λ (e : Clauses_with C I T K F L). folded_clause e.0) (λ (e : Items_with C I T K F L). folded_item e.0) (λ (e : Terms_with C I T K F L). folded_term e.0) (λ (e : Blocks_with C I T K F L). folded_block e.0) (λ (e : Fors_with C I T K F L). folded_for e.0) (λ (e : Lambdas_with C I T K F L). folded_lambda e.0) y)
        ∙ (ap clause_step (sym (clause_twice folded_clause folded_item folded_term folded_block folded_for folded_lambda (λ (e : Clauses_with C I T K F L). e.0) (λ (e : Items_with C I T K F L). e.0) (λ (e : Terms_with C I T K F L). e.0) (λ (e : Blocks_with C I T K F L). e.0) (λ (e : Fors_with C I T K F L). e.0) (λ (e : Lambdas_with C I T K F L). e.0) y))
        ∙ sym (fold-roll-ForClause _ _ _ _ _ _ _ _ _ _ _ _ inner)))))))

    item_same : (y : Item-F (Clauses_with C I T K F L) (Items_with C I T K F L) (Terms_with C I T K F L) (Blocks_with C I T K F L) (Fors_with C I T K F L) (Lambdas_with C I T K F L)) → I (item_of C I T K F L y)
    item_same y =
        let inner : Item-F ForClause Item Term BlockRow ForRow Lambda = over_item (λ (e : Clauses_with C I T K F L). e.0) (λ (e : Items_with C I T K F L). e.0) (λ (e : Terms_with C I T K F L). e.0) (λ (e : Blocks_with C I T K F L). e.0) (λ (e : Fors_with C I T K F L). e.0) (λ (e : Lambdas_with C I T K F L). e.0) y in
        ap folded_item (fold-roll-Item _ _ _ _ _ _ _ _ _ _ _ _ inner)
        ∙ (fold-roll-Item _ _ _ _ _ _ _ _ _ _ _ _ (item_linked places (over_item (linked_clause places) (linked_item places) (linked_term places) (linked_block places) (linked_for places) (linked_lambda places) inner))
        ∙ (ap item_step (item_over places folded_clause folded_item folded_term folded_block folded_for folded_lambda (over_item (linked_clause places) (linked_item places) (linked_term places) (linked_block places) (linked_for places) (linked_lambda places) inner))
        ∙ (ap (λ z. item_step (item_linked places z)) (item_twice folded_clause folded_item folded_term folded_block folded_for folded_lambda (linked_clause places) (linked_item places) (linked_term places) (linked_block places) (linked_for places) (linked_lambda places) inner ∙ item_twice (λ (x : ForClause). folded_clause (linked_clause places x)) (λ (x : Item). folded_item (linked_item places x)) (λ (x : Term). folded_term (linked_term places x)) (λ (x : BlockRow). folded_block (linked_block places x)) (λ (x : ForRow). folded_for (linked_for places x)) (λ (x : Lambda). folded_lambda (linked_lambda places x)) (λ (e : Clauses_with C I T K F L). e.0) (λ (e : Items_with C I T K F L). e.0) (λ (e : Terms_with C I T K F L). e.0) (λ (e : Blocks_with C I T K F L). e.0) (λ (e : Fors_with C I T K F L). e.0) (λ (e : Lambdas_with C I T K F L). e.0) y)
        ∙ ((λ j. item_step (item_linked places (over_item (λ (e : Clauses_with C I T K F L). e.1 j) (λ (e : Items_with C I T K F L). e.1 j) (λ (e : Terms_with C I T K F L). e.1 j) (λ (e : Blocks_with C I T K F L). e.1 j) (λ (e : Fors_with C I T K F L). e.1 j) (λ (e : Lambdas_with C I T K F L). e.1 j) y)))
        ∙ (blind.item (over_item (λ (e : Clauses_with C I T K F L). folded_clause e.0) (λ (e : Items_with C I T K F L). folded_item e.0) (λ (e : Terms_with C I T K F L). folded_term e.0) (λ (e : Blocks_with C I T K F L). folded_block e.0) (λ (e : Fors_with C I T K F L). folded_for e.0) (λ (e : Lambdas_with C I T K F L). folded_lambda e.0) y)
        ∙ (ap item_step (sym (item_twice folded_clause folded_item folded_term folded_block folded_for folded_lambda (λ (e : Clauses_with C I T K F L). e.0) (λ (e : Items_with C I T K F L). e.0) (λ (e : Terms_with C I T K F L). e.0) (λ (e : Blocks_with C I T K F L). e.0) (λ (e : Fors_with C I T K F L). e.0) (λ (e : Lambdas_with C I T K F L). e.0) y))
        ∙ sym (fold-roll-Item _ _ _ _ _ _ _ _ _ _ _ _ inner)))))))

    term_same : (y : Term-F (Clauses_with C I T K F L) (Items_with C I T K F L) (Terms_with C I T K F L) (Blocks_with C I T K F L) (Fors_with C I T K F L) (Lambdas_with C I T K F L)) → T (term_of C I T K F L y)
    term_same y =
        let inner : Term-F ForClause Item Term BlockRow ForRow Lambda = over_term (λ (e : Clauses_with C I T K F L). e.0) (λ (e : Items_with C I T K F L). e.0) (λ (e : Terms_with C I T K F L). e.0) (λ (e : Blocks_with C I T K F L). e.0) (λ (e : Fors_with C I T K F L). e.0) (λ (e : Lambdas_with C I T K F L). e.0) y in
        ap folded_term (fold-roll-Term _ _ _ _ _ _ _ _ _ _ _ _ inner)
        ∙ (fold-roll-Term _ _ _ _ _ _ _ _ _ _ _ _ (term_linked places (over_term (linked_clause places) (linked_item places) (linked_term places) (linked_block places) (linked_for places) (linked_lambda places) inner))
        ∙ (ap term_step (term_over places folded_clause folded_item folded_term folded_block folded_for folded_lambda (over_term (linked_clause places) (linked_item places) (linked_term places) (linked_block places) (linked_for places) (linked_lambda places) inner))
        ∙ (ap (λ z. term_step (term_linked places z)) (term_twice folded_clause folded_item folded_term folded_block folded_for folded_lambda (linked_clause places) (linked_item places) (linked_term places) (linked_block places) (linked_for places) (linked_lambda places) inner ∙ term_twice (λ (x : ForClause). folded_clause (linked_clause places x)) (λ (x : Item). folded_item (linked_item places x)) (λ (x : Term). folded_term (linked_term places x)) (λ (x : BlockRow). folded_block (linked_block places x)) (λ (x : ForRow). folded_for (linked_for places x)) (λ (x : Lambda). folded_lambda (linked_lambda places x)) (λ (e : Clauses_with C I T K F L). e.0) (λ (e : Items_with C I T K F L). e.0) (λ (e : Terms_with C I T K F L). e.0) (λ (e : Blocks_with C I T K F L). e.0) (λ (e : Fors_with C I T K F L). e.0) (λ (e : Lambdas_with C I T K F L). e.0) y)
        ∙ ((λ j. term_step (term_linked places (over_term (λ (e : Clauses_with C I T K F L). e.1 j) (λ (e : Items_with C I T K F L). e.1 j) (λ (e : Terms_with C I T K F L). e.1 j) (λ (e : Blocks_with C I T K F L). e.1 j) (λ (e : Fors_with C I T K F L). e.1 j) (λ (e : Lambdas_with C I T K F L). e.1 j) y)))
        ∙ (blind.term (over_term (λ (e : Clauses_with C I T K F L). folded_clause e.0) (λ (e : Items_with C I T K F L). folded_item e.0) (λ (e : Terms_with C I T K F L). folded_term e.0) (λ (e : Blocks_with C I T K F L). folded_block e.0) (λ (e : Fors_with C I T K F L). folded_for e.0) (λ (e : Lambdas_with C I T K F L). folded_lambda e.0) y)
        ∙ (ap term_step (sym (term_twice folded_clause folded_item folded_term folded_block folded_for folded_lambda (λ (e : Clauses_with C I T K F L). e.0) (λ (e : Items_with C I T K F L). e.0) (λ (e : Terms_with C I T K F L). e.0) (λ (e : Blocks_with C I T K F L). e.0) (λ (e : Fors_with C I T K F L). e.0) (λ (e : Lambdas_with C I T K F L). e.0) y))
        ∙ sym (fold-roll-Term _ _ _ _ _ _ _ _ _ _ _ _ inner)))))))

    block_same : (y : BlockRow-F (Clauses_with C I T K F L) (Items_with C I T K F L) (Terms_with C I T K F L) (Blocks_with C I T K F L) (Fors_with C I T K F L) (Lambdas_with C I T K F L)) → K (block_of C I T K F L y)
    block_same y =
        let inner : BlockRow-F ForClause Item Term BlockRow ForRow Lambda = over_block (λ (e : Clauses_with C I T K F L). e.0) (λ (e : Items_with C I T K F L). e.0) (λ (e : Terms_with C I T K F L). e.0) (λ (e : Blocks_with C I T K F L). e.0) (λ (e : Fors_with C I T K F L). e.0) (λ (e : Lambdas_with C I T K F L). e.0) y in
        ap folded_block (fold-roll-BlockRow _ _ _ _ _ _ _ _ _ _ _ _ inner)
        ∙ (fold-roll-BlockRow _ _ _ _ _ _ _ _ _ _ _ _ (block_linked places (over_block (linked_clause places) (linked_item places) (linked_term places) (linked_block places) (linked_for places) (linked_lambda places) inner))
        ∙ (ap block_step (block_over places folded_clause folded_item folded_term folded_block folded_for folded_lambda (over_block (linked_clause places) (linked_item places) (linked_term places) (linked_block places) (linked_for places) (linked_lambda places) inner))
        ∙ (ap (λ z. block_step (block_linked places z)) (block_twice folded_clause folded_item folded_term folded_block folded_for folded_lambda (linked_clause places) (linked_item places) (linked_term places) (linked_block places) (linked_for places) (linked_lambda places) inner ∙ block_twice (λ (x : ForClause). folded_clause (linked_clause places x)) (λ (x : Item). folded_item (linked_item places x)) (λ (x : Term). folded_term (linked_term places x)) (λ (x : BlockRow). folded_block (linked_block places x)) (λ (x : ForRow). folded_for (linked_for places x)) (λ (x : Lambda). folded_lambda (linked_lambda places x)) (λ (e : Clauses_with C I T K F L). e.0) (λ (e : Items_with C I T K F L). e.0) (λ (e : Terms_with C I T K F L). e.0) (λ (e : Blocks_with C I T K F L). e.0) (λ (e : Fors_with C I T K F L). e.0) (λ (e : Lambdas_with C I T K F L). e.0) y)
        ∙ ((λ j. block_step (block_linked places (over_block (λ (e : Clauses_with C I T K F L). e.1 j) (λ (e : Items_with C I T K F L). e.1 j) (λ (e : Terms_with C I T K F L). e.1 j) (λ (e : Blocks_with C I T K F L). e.1 j) (λ (e : Fors_with C I T K F L). e.1 j) (λ (e : Lambdas_with C I T K F L). e.1 j) y)))
        ∙ (blind.block (over_block (λ (e : Clauses_with C I T K F L). folded_clause e.0) (λ (e : Items_with C I T K F L). folded_item e.0) (λ (e : Terms_with C I T K F L). folded_term e.0) (λ (e : Blocks_with C I T K F L). folded_block e.0) (λ (e : Fors_with C I T K F L). folded_for e.0) (λ (e : Lambdas_with C I T K F L). folded_lambda e.0) y)
        ∙ (ap block_step (sym (block_twice folded_clause folded_item folded_term folded_block folded_for folded_lambda (λ (e : Clauses_with C I T K F L). e.0) (λ (e : Items_with C I T K F L). e.0) (λ (e : Terms_with C I T K F L). e.0) (λ (e : Blocks_with C I T K F L). e.0) (λ (e : Fors_with C I T K F L). e.0) (λ (e : Lambdas_with C I T K F L). e.0) y))
        ∙ sym (fold-roll-BlockRow _ _ _ _ _ _ _ _ _ _ _ _ inner)))))))

    for_same : (y : ForRow-F (Clauses_with C I T K F L) (Items_with C I T K F L) (Terms_with C I T K F L) (Blocks_with C I T K F L) (Fors_with C I T K F L) (Lambdas_with C I T K F L)) → F (for_of C I T K F L y)
    for_same y =
        let inner : ForRow-F ForClause Item Term BlockRow ForRow Lambda = over_for (λ (e : Clauses_with C I T K F L). e.0) (λ (e : Items_with C I T K F L). e.0) (λ (e : Terms_with C I T K F L). e.0) (λ (e : Blocks_with C I T K F L). e.0) (λ (e : Fors_with C I T K F L). e.0) (λ (e : Lambdas_with C I T K F L). e.0) y in
        ap folded_for (fold-roll-ForRow _ _ _ _ _ _ _ _ _ _ _ _ inner)
        ∙ (fold-roll-ForRow _ _ _ _ _ _ _ _ _ _ _ _ (for_linked places (over_for (linked_clause places) (linked_item places) (linked_term places) (linked_block places) (linked_for places) (linked_lambda places) inner))
        ∙ (ap for_step (for_over places folded_clause folded_item folded_term folded_block folded_for folded_lambda (over_for (linked_clause places) (linked_item places) (linked_term places) (linked_block places) (linked_for places) (linked_lambda places) inner))
        ∙ (ap (λ z. for_step (for_linked places z)) (for_twice folded_clause folded_item folded_term folded_block folded_for folded_lambda (linked_clause places) (linked_item places) (linked_term places) (linked_block places) (linked_for places) (linked_lambda places) inner ∙ for_twice (λ (x : ForClause). folded_clause (linked_clause places x)) (λ (x : Item). folded_item (linked_item places x)) (λ (x : Term). folded_term (linked_term places x)) (λ (x : BlockRow). folded_block (linked_block places x)) (λ (x : ForRow). folded_for (linked_for places x)) (λ (x : Lambda). folded_lambda (linked_lambda places x)) (λ (e : Clauses_with C I T K F L). e.0) (λ (e : Items_with C I T K F L). e.0) (λ (e : Terms_with C I T K F L). e.0) (λ (e : Blocks_with C I T K F L). e.0) (λ (e : Fors_with C I T K F L). e.0) (λ (e : Lambdas_with C I T K F L). e.0) y)
        ∙ ((λ j. for_step (for_linked places (over_for (λ (e : Clauses_with C I T K F L). e.1 j) (λ (e : Items_with C I T K F L). e.1 j) (λ (e : Terms_with C I T K F L). e.1 j) (λ (e : Blocks_with C I T K F L). e.1 j) (λ (e : Fors_with C I T K F L). e.1 j) (λ (e : Lambdas_with C I T K F L). e.1 j) y)))
        ∙ (blind.for (over_for (λ (e : Clauses_with C I T K F L). folded_clause e.0) (λ (e : Items_with C I T K F L). folded_item e.0) (λ (e : Terms_with C I T K F L). folded_term e.0) (λ (e : Blocks_with C I T K F L). folded_block e.0) (λ (e : Fors_with C I T K F L). folded_for e.0) (λ (e : Lambdas_with C I T K F L). folded_lambda e.0) y)
        ∙ (ap for_step (sym (for_twice folded_clause folded_item folded_term folded_block folded_for folded_lambda (λ (e : Clauses_with C I T K F L). e.0) (λ (e : Items_with C I T K F L). e.0) (λ (e : Terms_with C I T K F L). e.0) (λ (e : Blocks_with C I T K F L). e.0) (λ (e : Fors_with C I T K F L). e.0) (λ (e : Lambdas_with C I T K F L). e.0) y))
        ∙ sym (fold-roll-ForRow _ _ _ _ _ _ _ _ _ _ _ _ inner)))))))

    lambda_same : (y : Lambda-F (Clauses_with C I T K F L) (Items_with C I T K F L) (Terms_with C I T K F L) (Blocks_with C I T K F L) (Fors_with C I T K F L) (Lambdas_with C I T K F L)) → L (lambda_of C I T K F L y)
    lambda_same y =
        let inner : Lambda-F ForClause Item Term BlockRow ForRow Lambda = over_lambda (λ (e : Clauses_with C I T K F L). e.0) (λ (e : Items_with C I T K F L). e.0) (λ (e : Terms_with C I T K F L). e.0) (λ (e : Blocks_with C I T K F L). e.0) (λ (e : Fors_with C I T K F L). e.0) (λ (e : Lambdas_with C I T K F L). e.0) y in
        ap folded_lambda (fold-roll-Lambda _ _ _ _ _ _ _ _ _ _ _ _ inner)
        ∙ (fold-roll-Lambda _ _ _ _ _ _ _ _ _ _ _ _ (lambda_linked places (over_lambda (linked_clause places) (linked_item places) (linked_term places) (linked_block places) (linked_for places) (linked_lambda places) inner))
        ∙ (ap lambda_step (lambda_over places folded_clause folded_item folded_term folded_block folded_for folded_lambda (over_lambda (linked_clause places) (linked_item places) (linked_term places) (linked_block places) (linked_for places) (linked_lambda places) inner))
        ∙ (ap (λ z. lambda_step (lambda_linked places z)) (lambda_twice folded_clause folded_item folded_term folded_block folded_for folded_lambda (linked_clause places) (linked_item places) (linked_term places) (linked_block places) (linked_for places) (linked_lambda places) inner ∙ lambda_twice (λ (x : ForClause). folded_clause (linked_clause places x)) (λ (x : Item). folded_item (linked_item places x)) (λ (x : Term). folded_term (linked_term places x)) (λ (x : BlockRow). folded_block (linked_block places x)) (λ (x : ForRow). folded_for (linked_for places x)) (λ (x : Lambda). folded_lambda (linked_lambda places x)) (λ (e : Clauses_with C I T K F L). e.0) (λ (e : Items_with C I T K F L). e.0) (λ (e : Terms_with C I T K F L). e.0) (λ (e : Blocks_with C I T K F L). e.0) (λ (e : Fors_with C I T K F L). e.0) (λ (e : Lambdas_with C I T K F L). e.0) y)
        ∙ ((λ j. lambda_step (lambda_linked places (over_lambda (λ (e : Clauses_with C I T K F L). e.1 j) (λ (e : Items_with C I T K F L). e.1 j) (λ (e : Terms_with C I T K F L). e.1 j) (λ (e : Blocks_with C I T K F L). e.1 j) (λ (e : Fors_with C I T K F L). e.1 j) (λ (e : Lambdas_with C I T K F L). e.1 j) y)))
        ∙ (blind.lambda (over_lambda (λ (e : Clauses_with C I T K F L). folded_clause e.0) (λ (e : Items_with C I T K F L). folded_item e.0) (λ (e : Terms_with C I T K F L). folded_term e.0) (λ (e : Blocks_with C I T K F L). folded_block e.0) (λ (e : Fors_with C I T K F L). folded_for e.0) (λ (e : Lambdas_with C I T K F L). folded_lambda e.0) y)
        ∙ (ap lambda_step (sym (lambda_twice folded_clause folded_item folded_term folded_block folded_for folded_lambda (λ (e : Clauses_with C I T K F L). e.0) (λ (e : Items_with C I T K F L). e.0) (λ (e : Terms_with C I T K F L). e.0) (λ (e : Blocks_with C I T K F L). e.0) (λ (e : Fors_with C I T K F L). e.0) (λ (e : Lambdas_with C I T K F L). e.0) y))
        ∙ sym (fold-roll-Lambda _ _ _ _ _ _ _ _ _ _ _ _ inner)))))))

    pub blind_clause : (x : ForClause) → C x
    blind_clause = by_clause C I T K F L clause_same item_same term_same block_same for_same lambda_same

    pub blind_item : (x : Item) → I x
    blind_item = by_item C I T K F L clause_same item_same term_same block_same for_same lambda_same

    pub blind_term : (x : Term) → T x
    blind_term = by_term C I T K F L clause_same item_same term_same block_same for_same lambda_same

    pub blind_block : (x : BlockRow) → K x
    blind_block = by_block C I T K F L clause_same item_same term_same block_same for_same lambda_same

    pub blind_for : (x : ForRow) → F x
    blind_for = by_for C I T K F L clause_same item_same term_same block_same for_same lambda_same

    pub blind_lambda : (x : Lambda) → L x
    blind_lambda = by_lambda C I T K F L clause_same item_same term_same block_same for_same lambda_same

abbrev pub beside : {A B : Type 0} → (A → B) → A → A × B
beside of part = (part, of part)

-- folds whose layers see the parts themselves, and carry references along
module _ (places : ℕ → ℕ) {A B D E G H A' B' D' E' G' H' : Type 0}
    (clause_step : ForClause-F (ForClause × A) (Item × B) (Term × D) (BlockRow × E) (ForRow × G) (Lambda × H) → A) (item_step : Item-F (ForClause × A) (Item × B) (Term × D) (BlockRow × E) (ForRow × G) (Lambda × H) → B) (term_step : Term-F (ForClause × A) (Item × B) (Term × D) (BlockRow × E) (ForRow × G) (Lambda × H) → D) (block_step : BlockRow-F (ForClause × A) (Item × B) (Term × D) (BlockRow × E) (ForRow × G) (Lambda × H) → E) (for_step : ForRow-F (ForClause × A) (Item × B) (Term × D) (BlockRow × E) (ForRow × G) (Lambda × H) → G) (lambda_step : Lambda-F (ForClause × A) (Item × B) (Term × D) (BlockRow × E) (ForRow × G) (Lambda × H) → H)
    (clause_other : ForClause-F (ForClause × A') (Item × B') (Term × D') (BlockRow × E') (ForRow × G') (Lambda × H') → A') (item_other : Item-F (ForClause × A') (Item × B') (Term × D') (BlockRow × E') (ForRow × G') (Lambda × H') → B') (term_other : Term-F (ForClause × A') (Item × B') (Term × D') (BlockRow × E') (ForRow × G') (Lambda × H') → D') (block_other : BlockRow-F (ForClause × A') (Item × B') (Term × D') (BlockRow × E') (ForRow × G') (Lambda × H') → E') (for_other : ForRow-F (ForClause × A') (Item × B') (Term × D') (BlockRow × E') (ForRow × G') (Lambda × H') → G') (lambda_other : Lambda-F (ForClause × A') (Item × B') (Term × D') (BlockRow × E') (ForRow × G') (Lambda × H') → H')
    (clause_carry : A → A') (item_carry : B → B') (term_carry : D → D') (block_carry : E → E') (for_carry : G → G') (lambda_carry : H → H') where
  abbrev first_clause : ForClause → A
  first_clause = para-ForClause A B D E G H clause_step item_step term_step block_step for_step lambda_step

  abbrev first_item : Item → B
  first_item = para-Item A B D E G H clause_step item_step term_step block_step for_step lambda_step

  abbrev first_term : Term → D
  first_term = para-Term A B D E G H clause_step item_step term_step block_step for_step lambda_step

  abbrev first_block : BlockRow → E
  first_block = para-BlockRow A B D E G H clause_step item_step term_step block_step for_step lambda_step

  abbrev first_for : ForRow → G
  first_for = para-ForRow A B D E G H clause_step item_step term_step block_step for_step lambda_step

  abbrev first_lambda : Lambda → H
  first_lambda = para-Lambda A B D E G H clause_step item_step term_step block_step for_step lambda_step

  abbrev second_clause : ForClause → A'
  second_clause = para-ForClause A' B' D' E' G' H' clause_other item_other term_other block_other for_other lambda_other

  abbrev second_item : Item → B'
  second_item = para-Item A' B' D' E' G' H' clause_other item_other term_other block_other for_other lambda_other

  abbrev second_term : Term → D'
  second_term = para-Term A' B' D' E' G' H' clause_other item_other term_other block_other for_other lambda_other

  abbrev second_block : BlockRow → E'
  second_block = para-BlockRow A' B' D' E' G' H' clause_other item_other term_other block_other for_other lambda_other

  abbrev second_for : ForRow → G'
  second_for = para-ForRow A' B' D' E' G' H' clause_other item_other term_other block_other for_other lambda_other

  abbrev second_lambda : Lambda → H'
  second_lambda = para-Lambda A' B' D' E' G' H' clause_other item_other term_other block_other for_other lambda_other

  abbrev pub carried_clause : ForClause × A → ForClause × A'
  carried_clause p = (linked_clause places p.0, clause_carry p.1)

  abbrev pub carried_item : Item × B → Item × B'
  carried_item p = (linked_item places p.0, item_carry p.1)

  abbrev pub carried_term : Term × D → Term × D'
  carried_term p = (linked_term places p.0, term_carry p.1)

  abbrev pub carried_block : BlockRow × E → BlockRow × E'
  carried_block p = (linked_block places p.0, block_carry p.1)

  abbrev pub carried_for : ForRow × G → ForRow × G'
  carried_for p = (linked_for places p.0, for_carry p.1)

  abbrev pub carried_lambda : Lambda × H → Lambda × H'
  carried_lambda p = (linked_lambda places p.0, lambda_carry p.1)

  pub record Carries : Type 0 where
    pub clause : (x : ForClause-F (ForClause × A) (Item × B) (Term × D) (BlockRow × E) (ForRow × G) (Lambda × H)) → clause_other (clause_linked places (over_clause carried_clause carried_item carried_term carried_block carried_for carried_lambda x)) ≡ clause_carry (clause_step x)
    pub item : (x : Item-F (ForClause × A) (Item × B) (Term × D) (BlockRow × E) (ForRow × G) (Lambda × H)) → item_other (item_linked places (over_item carried_clause carried_item carried_term carried_block carried_for carried_lambda x)) ≡ item_carry (item_step x)
    pub term : (x : Term-F (ForClause × A) (Item × B) (Term × D) (BlockRow × E) (ForRow × G) (Lambda × H)) → term_other (term_linked places (over_term carried_clause carried_item carried_term carried_block carried_for carried_lambda x)) ≡ term_carry (term_step x)
    pub block : (x : BlockRow-F (ForClause × A) (Item × B) (Term × D) (BlockRow × E) (ForRow × G) (Lambda × H)) → block_other (block_linked places (over_block carried_clause carried_item carried_term carried_block carried_for carried_lambda x)) ≡ block_carry (block_step x)
    pub for : (x : ForRow-F (ForClause × A) (Item × B) (Term × D) (BlockRow × E) (ForRow × G) (Lambda × H)) → for_other (for_linked places (over_for carried_clause carried_item carried_term carried_block carried_for carried_lambda x)) ≡ for_carry (for_step x)
    pub lambda : (x : Lambda-F (ForClause × A) (Item × B) (Term × D) (BlockRow × E) (ForRow × G) (Lambda × H)) → lambda_other (lambda_linked places (over_lambda carried_clause carried_item carried_term carried_block carried_for carried_lambda x)) ≡ lambda_carry (lambda_step x)

  abbrev CC : ForClause → Type 0
  CC x = second_clause (linked_clause places x) ≡ clause_carry (first_clause x)

  abbrev II : Item → Type 0
  II x = second_item (linked_item places x) ≡ item_carry (first_item x)

  abbrev TT : Term → Type 0
  TT x = second_term (linked_term places x) ≡ term_carry (first_term x)

  abbrev KK : BlockRow → Type 0
  KK x = second_block (linked_block places x) ≡ block_carry (first_block x)

  abbrev FF : ForRow → Type 0
  FF x = second_for (linked_for places x) ≡ for_carry (first_for x)

  abbrev LL : Lambda → Type 0
  LL x = second_lambda (linked_lambda places x) ≡ lambda_carry (first_lambda x)

  module _ (carries : Carries) where
    clause_through : (y : ForClause-F (Clauses_with CC II TT KK FF LL) (Items_with CC II TT KK FF LL) (Terms_with CC II TT KK FF LL) (Blocks_with CC II TT KK FF LL) (Fors_with CC II TT KK FF LL) (Lambdas_with CC II TT KK FF LL)) → CC (clause_of CC II TT KK FF LL y)
    clause_through y =
        let inner : ForClause-F ForClause Item Term BlockRow ForRow Lambda = over_clause (λ (e : Clauses_with CC II TT KK FF LL). e.0) (λ (e : Items_with CC II TT KK FF LL). e.0) (λ (e : Terms_with CC II TT KK FF LL). e.0) (λ (e : Blocks_with CC II TT KK FF LL). e.0) (λ (e : Fors_with CC II TT KK FF LL). e.0) (λ (e : Lambdas_with CC II TT KK FF LL). e.0) y in
        ap second_clause (fold-roll-ForClause _ _ _ _ _ _ _ _ _ _ _ _ inner)
        ∙ (para-roll-ForClause _ _ _ _ _ _ _ _ _ _ _ _ (clause_linked places (over_clause (linked_clause places) (linked_item places) (linked_term places) (linked_block places) (linked_for places) (linked_lambda places) inner))
        ∙ (ap clause_other (clause_over places (beside second_clause) (beside second_item) (beside second_term) (beside second_block) (beside second_for) (beside second_lambda) (over_clause (linked_clause places) (linked_item places) (linked_term places) (linked_block places) (linked_for places) (linked_lambda places) inner))
        ∙ (ap (λ z. clause_other (clause_linked places z)) (clause_twice (beside second_clause) (beside second_item) (beside second_term) (beside second_block) (beside second_for) (beside second_lambda) (linked_clause places) (linked_item places) (linked_term places) (linked_block places) (linked_for places) (linked_lambda places) inner ∙ clause_twice (λ (x : ForClause). beside second_clause (linked_clause places x)) (λ (x : Item). beside second_item (linked_item places x)) (λ (x : Term). beside second_term (linked_term places x)) (λ (x : BlockRow). beside second_block (linked_block places x)) (λ (x : ForRow). beside second_for (linked_for places x)) (λ (x : Lambda). beside second_lambda (linked_lambda places x)) (λ (e : Clauses_with CC II TT KK FF LL). e.0) (λ (e : Items_with CC II TT KK FF LL). e.0) (λ (e : Terms_with CC II TT KK FF LL). e.0) (λ (e : Blocks_with CC II TT KK FF LL). e.0) (λ (e : Fors_with CC II TT KK FF LL). e.0) (λ (e : Lambdas_with CC II TT KK FF LL). e.0) y)
        ∙ ((λ j. clause_other (clause_linked places (over_clause (λ (e : Clauses_with CC II TT KK FF LL). (linked_clause places e.0, e.1 j)) (λ (e : Items_with CC II TT KK FF LL). (linked_item places e.0, e.1 j)) (λ (e : Terms_with CC II TT KK FF LL). (linked_term places e.0, e.1 j)) (λ (e : Blocks_with CC II TT KK FF LL). (linked_block places e.0, e.1 j)) (λ (e : Fors_with CC II TT KK FF LL). (linked_for places e.0, e.1 j)) (λ (e : Lambdas_with CC II TT KK FF LL). (linked_lambda places e.0, e.1 j)) y)))
        ∙ (ap (λ z. clause_other (clause_linked places z)) (sym (clause_twice carried_clause carried_item carried_term carried_block carried_for carried_lambda (λ (e : Clauses_with CC II TT KK FF LL). (e.0, first_clause e.0)) (λ (e : Items_with CC II TT KK FF LL). (e.0, first_item e.0)) (λ (e : Terms_with CC II TT KK FF LL). (e.0, first_term e.0)) (λ (e : Blocks_with CC II TT KK FF LL). (e.0, first_block e.0)) (λ (e : Fors_with CC II TT KK FF LL). (e.0, first_for e.0)) (λ (e : Lambdas_with CC II TT KK FF LL). (e.0, first_lambda e.0)) y))
        ∙ (carries.clause (over_clause (λ (e : Clauses_with CC II TT KK FF LL). (e.0, first_clause e.0)) (λ (e : Items_with CC II TT KK FF LL). (e.0, first_item e.0)) (λ (e : Terms_with CC II TT KK FF LL). (e.0, first_term e.0)) (λ (e : Blocks_with CC II TT KK FF LL). (e.0, first_block e.0)) (λ (e : Fors_with CC II TT KK FF LL). (e.0, first_for e.0)) (λ (e : Lambdas_with CC II TT KK FF LL). (e.0, first_lambda e.0)) y)
        ∙ (ap (λ z. clause_carry (clause_step z)) (sym (clause_twice (beside first_clause) (beside first_item) (beside first_term) (beside first_block) (beside first_for) (beside first_lambda) (λ (e : Clauses_with CC II TT KK FF LL). e.0) (λ (e : Items_with CC II TT KK FF LL). e.0) (λ (e : Terms_with CC II TT KK FF LL). e.0) (λ (e : Blocks_with CC II TT KK FF LL). e.0) (λ (e : Fors_with CC II TT KK FF LL). e.0) (λ (e : Lambdas_with CC II TT KK FF LL). e.0) y))
        ∙ ap clause_carry (sym (para-roll-ForClause _ _ _ _ _ _ _ _ _ _ _ _ inner)))))))))

    item_through : (y : Item-F (Clauses_with CC II TT KK FF LL) (Items_with CC II TT KK FF LL) (Terms_with CC II TT KK FF LL) (Blocks_with CC II TT KK FF LL) (Fors_with CC II TT KK FF LL) (Lambdas_with CC II TT KK FF LL)) → II (item_of CC II TT KK FF LL y)
    item_through y =
        let inner : Item-F ForClause Item Term BlockRow ForRow Lambda = over_item (λ (e : Clauses_with CC II TT KK FF LL). e.0) (λ (e : Items_with CC II TT KK FF LL). e.0) (λ (e : Terms_with CC II TT KK FF LL). e.0) (λ (e : Blocks_with CC II TT KK FF LL). e.0) (λ (e : Fors_with CC II TT KK FF LL). e.0) (λ (e : Lambdas_with CC II TT KK FF LL). e.0) y in
        ap second_item (fold-roll-Item _ _ _ _ _ _ _ _ _ _ _ _ inner)
        ∙ (para-roll-Item _ _ _ _ _ _ _ _ _ _ _ _ (item_linked places (over_item (linked_clause places) (linked_item places) (linked_term places) (linked_block places) (linked_for places) (linked_lambda places) inner))
        ∙ (ap item_other (item_over places (beside second_clause) (beside second_item) (beside second_term) (beside second_block) (beside second_for) (beside second_lambda) (over_item (linked_clause places) (linked_item places) (linked_term places) (linked_block places) (linked_for places) (linked_lambda places) inner))
        ∙ (ap (λ z. item_other (item_linked places z)) (item_twice (beside second_clause) (beside second_item) (beside second_term) (beside second_block) (beside second_for) (beside second_lambda) (linked_clause places) (linked_item places) (linked_term places) (linked_block places) (linked_for places) (linked_lambda places) inner ∙ item_twice (λ (x : ForClause). beside second_clause (linked_clause places x)) (λ (x : Item). beside second_item (linked_item places x)) (λ (x : Term). beside second_term (linked_term places x)) (λ (x : BlockRow). beside second_block (linked_block places x)) (λ (x : ForRow). beside second_for (linked_for places x)) (λ (x : Lambda). beside second_lambda (linked_lambda places x)) (λ (e : Clauses_with CC II TT KK FF LL). e.0) (λ (e : Items_with CC II TT KK FF LL). e.0) (λ (e : Terms_with CC II TT KK FF LL). e.0) (λ (e : Blocks_with CC II TT KK FF LL). e.0) (λ (e : Fors_with CC II TT KK FF LL). e.0) (λ (e : Lambdas_with CC II TT KK FF LL). e.0) y)
        ∙ ((λ j. item_other (item_linked places (over_item (λ (e : Clauses_with CC II TT KK FF LL). (linked_clause places e.0, e.1 j)) (λ (e : Items_with CC II TT KK FF LL). (linked_item places e.0, e.1 j)) (λ (e : Terms_with CC II TT KK FF LL). (linked_term places e.0, e.1 j)) (λ (e : Blocks_with CC II TT KK FF LL). (linked_block places e.0, e.1 j)) (λ (e : Fors_with CC II TT KK FF LL). (linked_for places e.0, e.1 j)) (λ (e : Lambdas_with CC II TT KK FF LL). (linked_lambda places e.0, e.1 j)) y)))
        ∙ (ap (λ z. item_other (item_linked places z)) (sym (item_twice carried_clause carried_item carried_term carried_block carried_for carried_lambda (λ (e : Clauses_with CC II TT KK FF LL). (e.0, first_clause e.0)) (λ (e : Items_with CC II TT KK FF LL). (e.0, first_item e.0)) (λ (e : Terms_with CC II TT KK FF LL). (e.0, first_term e.0)) (λ (e : Blocks_with CC II TT KK FF LL). (e.0, first_block e.0)) (λ (e : Fors_with CC II TT KK FF LL). (e.0, first_for e.0)) (λ (e : Lambdas_with CC II TT KK FF LL). (e.0, first_lambda e.0)) y))
        ∙ (carries.item (over_item (λ (e : Clauses_with CC II TT KK FF LL). (e.0, first_clause e.0)) (λ (e : Items_with CC II TT KK FF LL). (e.0, first_item e.0)) (λ (e : Terms_with CC II TT KK FF LL). (e.0, first_term e.0)) (λ (e : Blocks_with CC II TT KK FF LL). (e.0, first_block e.0)) (λ (e : Fors_with CC II TT KK FF LL). (e.0, first_for e.0)) (λ (e : Lambdas_with CC II TT KK FF LL). (e.0, first_lambda e.0)) y)
        ∙ (ap (λ z. item_carry (item_step z)) (sym (item_twice (beside first_clause) (beside first_item) (beside first_term) (beside first_block) (beside first_for) (beside first_lambda) (λ (e : Clauses_with CC II TT KK FF LL). e.0) (λ (e : Items_with CC II TT KK FF LL). e.0) (λ (e : Terms_with CC II TT KK FF LL). e.0) (λ (e : Blocks_with CC II TT KK FF LL). e.0) (λ (e : Fors_with CC II TT KK FF LL). e.0) (λ (e : Lambdas_with CC II TT KK FF LL). e.0) y))
        ∙ ap item_carry (sym (para-roll-Item _ _ _ _ _ _ _ _ _ _ _ _ inner)))))))))

    term_through : (y : Term-F (Clauses_with CC II TT KK FF LL) (Items_with CC II TT KK FF LL) (Terms_with CC II TT KK FF LL) (Blocks_with CC II TT KK FF LL) (Fors_with CC II TT KK FF LL) (Lambdas_with CC II TT KK FF LL)) → TT (term_of CC II TT KK FF LL y)
    term_through y =
        let inner : Term-F ForClause Item Term BlockRow ForRow Lambda = over_term (λ (e : Clauses_with CC II TT KK FF LL). e.0) (λ (e : Items_with CC II TT KK FF LL). e.0) (λ (e : Terms_with CC II TT KK FF LL). e.0) (λ (e : Blocks_with CC II TT KK FF LL). e.0) (λ (e : Fors_with CC II TT KK FF LL). e.0) (λ (e : Lambdas_with CC II TT KK FF LL). e.0) y in
        ap second_term (fold-roll-Term _ _ _ _ _ _ _ _ _ _ _ _ inner)
        ∙ (para-roll-Term _ _ _ _ _ _ _ _ _ _ _ _ (term_linked places (over_term (linked_clause places) (linked_item places) (linked_term places) (linked_block places) (linked_for places) (linked_lambda places) inner))
        ∙ (ap term_other (term_over places (beside second_clause) (beside second_item) (beside second_term) (beside second_block) (beside second_for) (beside second_lambda) (over_term (linked_clause places) (linked_item places) (linked_term places) (linked_block places) (linked_for places) (linked_lambda places) inner))
        ∙ (ap (λ z. term_other (term_linked places z)) (term_twice (beside second_clause) (beside second_item) (beside second_term) (beside second_block) (beside second_for) (beside second_lambda) (linked_clause places) (linked_item places) (linked_term places) (linked_block places) (linked_for places) (linked_lambda places) inner ∙ term_twice (λ (x : ForClause). beside second_clause (linked_clause places x)) (λ (x : Item). beside second_item (linked_item places x)) (λ (x : Term). beside second_term (linked_term places x)) (λ (x : BlockRow). beside second_block (linked_block places x)) (λ (x : ForRow). beside second_for (linked_for places x)) (λ (x : Lambda). beside second_lambda (linked_lambda places x)) (λ (e : Clauses_with CC II TT KK FF LL). e.0) (λ (e : Items_with CC II TT KK FF LL). e.0) (λ (e : Terms_with CC II TT KK FF LL). e.0) (λ (e : Blocks_with CC II TT KK FF LL). e.0) (λ (e : Fors_with CC II TT KK FF LL). e.0) (λ (e : Lambdas_with CC II TT KK FF LL). e.0) y)
        ∙ ((λ j. term_other (term_linked places (over_term (λ (e : Clauses_with CC II TT KK FF LL). (linked_clause places e.0, e.1 j)) (λ (e : Items_with CC II TT KK FF LL). (linked_item places e.0, e.1 j)) (λ (e : Terms_with CC II TT KK FF LL). (linked_term places e.0, e.1 j)) (λ (e : Blocks_with CC II TT KK FF LL). (linked_block places e.0, e.1 j)) (λ (e : Fors_with CC II TT KK FF LL). (linked_for places e.0, e.1 j)) (λ (e : Lambdas_with CC II TT KK FF LL). (linked_lambda places e.0, e.1 j)) y)))
        ∙ (ap (λ z. term_other (term_linked places z)) (sym (term_twice carried_clause carried_item carried_term carried_block carried_for carried_lambda (λ (e : Clauses_with CC II TT KK FF LL). (e.0, first_clause e.0)) (λ (e : Items_with CC II TT KK FF LL). (e.0, first_item e.0)) (λ (e : Terms_with CC II TT KK FF LL). (e.0, first_term e.0)) (λ (e : Blocks_with CC II TT KK FF LL). (e.0, first_block e.0)) (λ (e : Fors_with CC II TT KK FF LL). (e.0, first_for e.0)) (λ (e : Lambdas_with CC II TT KK FF LL). (e.0, first_lambda e.0)) y))
        ∙ (carries.term (over_term (λ (e : Clauses_with CC II TT KK FF LL). (e.0, first_clause e.0)) (λ (e : Items_with CC II TT KK FF LL). (e.0, first_item e.0)) (λ (e : Terms_with CC II TT KK FF LL). (e.0, first_term e.0)) (λ (e : Blocks_with CC II TT KK FF LL). (e.0, first_block e.0)) (λ (e : Fors_with CC II TT KK FF LL). (e.0, first_for e.0)) (λ (e : Lambdas_with CC II TT KK FF LL). (e.0, first_lambda e.0)) y)
        ∙ (ap (λ z. term_carry (term_step z)) (sym (term_twice (beside first_clause) (beside first_item) (beside first_term) (beside first_block) (beside first_for) (beside first_lambda) (λ (e : Clauses_with CC II TT KK FF LL). e.0) (λ (e : Items_with CC II TT KK FF LL). e.0) (λ (e : Terms_with CC II TT KK FF LL). e.0) (λ (e : Blocks_with CC II TT KK FF LL). e.0) (λ (e : Fors_with CC II TT KK FF LL). e.0) (λ (e : Lambdas_with CC II TT KK FF LL). e.0) y))
        ∙ ap term_carry (sym (para-roll-Term _ _ _ _ _ _ _ _ _ _ _ _ inner)))))))))

    block_through : (y : BlockRow-F (Clauses_with CC II TT KK FF LL) (Items_with CC II TT KK FF LL) (Terms_with CC II TT KK FF LL) (Blocks_with CC II TT KK FF LL) (Fors_with CC II TT KK FF LL) (Lambdas_with CC II TT KK FF LL)) → KK (block_of CC II TT KK FF LL y)
    block_through y =
        let inner : BlockRow-F ForClause Item Term BlockRow ForRow Lambda = over_block (λ (e : Clauses_with CC II TT KK FF LL). e.0) (λ (e : Items_with CC II TT KK FF LL). e.0) (λ (e : Terms_with CC II TT KK FF LL). e.0) (λ (e : Blocks_with CC II TT KK FF LL). e.0) (λ (e : Fors_with CC II TT KK FF LL). e.0) (λ (e : Lambdas_with CC II TT KK FF LL). e.0) y in
        ap second_block (fold-roll-BlockRow _ _ _ _ _ _ _ _ _ _ _ _ inner)
        ∙ (para-roll-BlockRow _ _ _ _ _ _ _ _ _ _ _ _ (block_linked places (over_block (linked_clause places) (linked_item places) (linked_term places) (linked_block places) (linked_for places) (linked_lambda places) inner))
        ∙ (ap block_other (block_over places (beside second_clause) (beside second_item) (beside second_term) (beside second_block) (beside second_for) (beside second_lambda) (over_block (linked_clause places) (linked_item places) (linked_term places) (linked_block places) (linked_for places) (linked_lambda places) inner))
        ∙ (ap (λ z. block_other (block_linked places z)) (block_twice (beside second_clause) (beside second_item) (beside second_term) (beside second_block) (beside second_for) (beside second_lambda) (linked_clause places) (linked_item places) (linked_term places) (linked_block places) (linked_for places) (linked_lambda places) inner ∙ block_twice (λ (x : ForClause). beside second_clause (linked_clause places x)) (λ (x : Item). beside second_item (linked_item places x)) (λ (x : Term). beside second_term (linked_term places x)) (λ (x : BlockRow). beside second_block (linked_block places x)) (λ (x : ForRow). beside second_for (linked_for places x)) (λ (x : Lambda). beside second_lambda (linked_lambda places x)) (λ (e : Clauses_with CC II TT KK FF LL). e.0) (λ (e : Items_with CC II TT KK FF LL). e.0) (λ (e : Terms_with CC II TT KK FF LL). e.0) (λ (e : Blocks_with CC II TT KK FF LL). e.0) (λ (e : Fors_with CC II TT KK FF LL). e.0) (λ (e : Lambdas_with CC II TT KK FF LL). e.0) y)
        ∙ ((λ j. block_other (block_linked places (over_block (λ (e : Clauses_with CC II TT KK FF LL). (linked_clause places e.0, e.1 j)) (λ (e : Items_with CC II TT KK FF LL). (linked_item places e.0, e.1 j)) (λ (e : Terms_with CC II TT KK FF LL). (linked_term places e.0, e.1 j)) (λ (e : Blocks_with CC II TT KK FF LL). (linked_block places e.0, e.1 j)) (λ (e : Fors_with CC II TT KK FF LL). (linked_for places e.0, e.1 j)) (λ (e : Lambdas_with CC II TT KK FF LL). (linked_lambda places e.0, e.1 j)) y)))
        ∙ (ap (λ z. block_other (block_linked places z)) (sym (block_twice carried_clause carried_item carried_term carried_block carried_for carried_lambda (λ (e : Clauses_with CC II TT KK FF LL). (e.0, first_clause e.0)) (λ (e : Items_with CC II TT KK FF LL). (e.0, first_item e.0)) (λ (e : Terms_with CC II TT KK FF LL). (e.0, first_term e.0)) (λ (e : Blocks_with CC II TT KK FF LL). (e.0, first_block e.0)) (λ (e : Fors_with CC II TT KK FF LL). (e.0, first_for e.0)) (λ (e : Lambdas_with CC II TT KK FF LL). (e.0, first_lambda e.0)) y))
        ∙ (carries.block (over_block (λ (e : Clauses_with CC II TT KK FF LL). (e.0, first_clause e.0)) (λ (e : Items_with CC II TT KK FF LL). (e.0, first_item e.0)) (λ (e : Terms_with CC II TT KK FF LL). (e.0, first_term e.0)) (λ (e : Blocks_with CC II TT KK FF LL). (e.0, first_block e.0)) (λ (e : Fors_with CC II TT KK FF LL). (e.0, first_for e.0)) (λ (e : Lambdas_with CC II TT KK FF LL). (e.0, first_lambda e.0)) y)
        ∙ (ap (λ z. block_carry (block_step z)) (sym (block_twice (beside first_clause) (beside first_item) (beside first_term) (beside first_block) (beside first_for) (beside first_lambda) (λ (e : Clauses_with CC II TT KK FF LL). e.0) (λ (e : Items_with CC II TT KK FF LL). e.0) (λ (e : Terms_with CC II TT KK FF LL). e.0) (λ (e : Blocks_with CC II TT KK FF LL). e.0) (λ (e : Fors_with CC II TT KK FF LL). e.0) (λ (e : Lambdas_with CC II TT KK FF LL). e.0) y))
        ∙ ap block_carry (sym (para-roll-BlockRow _ _ _ _ _ _ _ _ _ _ _ _ inner)))))))))

    for_through : (y : ForRow-F (Clauses_with CC II TT KK FF LL) (Items_with CC II TT KK FF LL) (Terms_with CC II TT KK FF LL) (Blocks_with CC II TT KK FF LL) (Fors_with CC II TT KK FF LL) (Lambdas_with CC II TT KK FF LL)) → FF (for_of CC II TT KK FF LL y)
    for_through y =
        let inner : ForRow-F ForClause Item Term BlockRow ForRow Lambda = over_for (λ (e : Clauses_with CC II TT KK FF LL). e.0) (λ (e : Items_with CC II TT KK FF LL). e.0) (λ (e : Terms_with CC II TT KK FF LL). e.0) (λ (e : Blocks_with CC II TT KK FF LL). e.0) (λ (e : Fors_with CC II TT KK FF LL). e.0) (λ (e : Lambdas_with CC II TT KK FF LL). e.0) y in
        ap second_for (fold-roll-ForRow _ _ _ _ _ _ _ _ _ _ _ _ inner)
        ∙ (para-roll-ForRow _ _ _ _ _ _ _ _ _ _ _ _ (for_linked places (over_for (linked_clause places) (linked_item places) (linked_term places) (linked_block places) (linked_for places) (linked_lambda places) inner))
        ∙ (ap for_other (for_over places (beside second_clause) (beside second_item) (beside second_term) (beside second_block) (beside second_for) (beside second_lambda) (over_for (linked_clause places) (linked_item places) (linked_term places) (linked_block places) (linked_for places) (linked_lambda places) inner))
        ∙ (ap (λ z. for_other (for_linked places z)) (for_twice (beside second_clause) (beside second_item) (beside second_term) (beside second_block) (beside second_for) (beside second_lambda) (linked_clause places) (linked_item places) (linked_term places) (linked_block places) (linked_for places) (linked_lambda places) inner ∙ for_twice (λ (x : ForClause). beside second_clause (linked_clause places x)) (λ (x : Item). beside second_item (linked_item places x)) (λ (x : Term). beside second_term (linked_term places x)) (λ (x : BlockRow). beside second_block (linked_block places x)) (λ (x : ForRow). beside second_for (linked_for places x)) (λ (x : Lambda). beside second_lambda (linked_lambda places x)) (λ (e : Clauses_with CC II TT KK FF LL). e.0) (λ (e : Items_with CC II TT KK FF LL). e.0) (λ (e : Terms_with CC II TT KK FF LL). e.0) (λ (e : Blocks_with CC II TT KK FF LL). e.0) (λ (e : Fors_with CC II TT KK FF LL). e.0) (λ (e : Lambdas_with CC II TT KK FF LL). e.0) y)
        ∙ ((λ j. for_other (for_linked places (over_for (λ (e : Clauses_with CC II TT KK FF LL). (linked_clause places e.0, e.1 j)) (λ (e : Items_with CC II TT KK FF LL). (linked_item places e.0, e.1 j)) (λ (e : Terms_with CC II TT KK FF LL). (linked_term places e.0, e.1 j)) (λ (e : Blocks_with CC II TT KK FF LL). (linked_block places e.0, e.1 j)) (λ (e : Fors_with CC II TT KK FF LL). (linked_for places e.0, e.1 j)) (λ (e : Lambdas_with CC II TT KK FF LL). (linked_lambda places e.0, e.1 j)) y)))
        ∙ (ap (λ z. for_other (for_linked places z)) (sym (for_twice carried_clause carried_item carried_term carried_block carried_for carried_lambda (λ (e : Clauses_with CC II TT KK FF LL). (e.0, first_clause e.0)) (λ (e : Items_with CC II TT KK FF LL). (e.0, first_item e.0)) (λ (e : Terms_with CC II TT KK FF LL). (e.0, first_term e.0)) (λ (e : Blocks_with CC II TT KK FF LL). (e.0, first_block e.0)) (λ (e : Fors_with CC II TT KK FF LL). (e.0, first_for e.0)) (λ (e : Lambdas_with CC II TT KK FF LL). (e.0, first_lambda e.0)) y))
        ∙ (carries.for (over_for (λ (e : Clauses_with CC II TT KK FF LL). (e.0, first_clause e.0)) (λ (e : Items_with CC II TT KK FF LL). (e.0, first_item e.0)) (λ (e : Terms_with CC II TT KK FF LL). (e.0, first_term e.0)) (λ (e : Blocks_with CC II TT KK FF LL). (e.0, first_block e.0)) (λ (e : Fors_with CC II TT KK FF LL). (e.0, first_for e.0)) (λ (e : Lambdas_with CC II TT KK FF LL). (e.0, first_lambda e.0)) y)
        ∙ (ap (λ z. for_carry (for_step z)) (sym (for_twice (beside first_clause) (beside first_item) (beside first_term) (beside first_block) (beside first_for) (beside first_lambda) (λ (e : Clauses_with CC II TT KK FF LL). e.0) (λ (e : Items_with CC II TT KK FF LL). e.0) (λ (e : Terms_with CC II TT KK FF LL). e.0) (λ (e : Blocks_with CC II TT KK FF LL). e.0) (λ (e : Fors_with CC II TT KK FF LL). e.0) (λ (e : Lambdas_with CC II TT KK FF LL). e.0) y))
        ∙ ap for_carry (sym (para-roll-ForRow _ _ _ _ _ _ _ _ _ _ _ _ inner)))))))))

    lambda_through : (y : Lambda-F (Clauses_with CC II TT KK FF LL) (Items_with CC II TT KK FF LL) (Terms_with CC II TT KK FF LL) (Blocks_with CC II TT KK FF LL) (Fors_with CC II TT KK FF LL) (Lambdas_with CC II TT KK FF LL)) → LL (lambda_of CC II TT KK FF LL y)
    lambda_through y =
        let inner : Lambda-F ForClause Item Term BlockRow ForRow Lambda = over_lambda (λ (e : Clauses_with CC II TT KK FF LL). e.0) (λ (e : Items_with CC II TT KK FF LL). e.0) (λ (e : Terms_with CC II TT KK FF LL). e.0) (λ (e : Blocks_with CC II TT KK FF LL). e.0) (λ (e : Fors_with CC II TT KK FF LL). e.0) (λ (e : Lambdas_with CC II TT KK FF LL). e.0) y in
        ap second_lambda (fold-roll-Lambda _ _ _ _ _ _ _ _ _ _ _ _ inner)
        ∙ (para-roll-Lambda _ _ _ _ _ _ _ _ _ _ _ _ (lambda_linked places (over_lambda (linked_clause places) (linked_item places) (linked_term places) (linked_block places) (linked_for places) (linked_lambda places) inner))
        ∙ (ap lambda_other (lambda_over places (beside second_clause) (beside second_item) (beside second_term) (beside second_block) (beside second_for) (beside second_lambda) (over_lambda (linked_clause places) (linked_item places) (linked_term places) (linked_block places) (linked_for places) (linked_lambda places) inner))
        ∙ (ap (λ z. lambda_other (lambda_linked places z)) (lambda_twice (beside second_clause) (beside second_item) (beside second_term) (beside second_block) (beside second_for) (beside second_lambda) (linked_clause places) (linked_item places) (linked_term places) (linked_block places) (linked_for places) (linked_lambda places) inner ∙ lambda_twice (λ (x : ForClause). beside second_clause (linked_clause places x)) (λ (x : Item). beside second_item (linked_item places x)) (λ (x : Term). beside second_term (linked_term places x)) (λ (x : BlockRow). beside second_block (linked_block places x)) (λ (x : ForRow). beside second_for (linked_for places x)) (λ (x : Lambda). beside second_lambda (linked_lambda places x)) (λ (e : Clauses_with CC II TT KK FF LL). e.0) (λ (e : Items_with CC II TT KK FF LL). e.0) (λ (e : Terms_with CC II TT KK FF LL). e.0) (λ (e : Blocks_with CC II TT KK FF LL). e.0) (λ (e : Fors_with CC II TT KK FF LL). e.0) (λ (e : Lambdas_with CC II TT KK FF LL). e.0) y)
        ∙ ((λ j. lambda_other (lambda_linked places (over_lambda (λ (e : Clauses_with CC II TT KK FF LL). (linked_clause places e.0, e.1 j)) (λ (e : Items_with CC II TT KK FF LL). (linked_item places e.0, e.1 j)) (λ (e : Terms_with CC II TT KK FF LL). (linked_term places e.0, e.1 j)) (λ (e : Blocks_with CC II TT KK FF LL). (linked_block places e.0, e.1 j)) (λ (e : Fors_with CC II TT KK FF LL). (linked_for places e.0, e.1 j)) (λ (e : Lambdas_with CC II TT KK FF LL). (linked_lambda places e.0, e.1 j)) y)))
        ∙ (ap (λ z. lambda_other (lambda_linked places z)) (sym (lambda_twice carried_clause carried_item carried_term carried_block carried_for carried_lambda (λ (e : Clauses_with CC II TT KK FF LL). (e.0, first_clause e.0)) (λ (e : Items_with CC II TT KK FF LL). (e.0, first_item e.0)) (λ (e : Terms_with CC II TT KK FF LL). (e.0, first_term e.0)) (λ (e : Blocks_with CC II TT KK FF LL). (e.0, first_block e.0)) (λ (e : Fors_with CC II TT KK FF LL). (e.0, first_for e.0)) (λ (e : Lambdas_with CC II TT KK FF LL). (e.0, first_lambda e.0)) y))
        ∙ (carries.lambda (over_lambda (λ (e : Clauses_with CC II TT KK FF LL). (e.0, first_clause e.0)) (λ (e : Items_with CC II TT KK FF LL). (e.0, first_item e.0)) (λ (e : Terms_with CC II TT KK FF LL). (e.0, first_term e.0)) (λ (e : Blocks_with CC II TT KK FF LL). (e.0, first_block e.0)) (λ (e : Fors_with CC II TT KK FF LL). (e.0, first_for e.0)) (λ (e : Lambdas_with CC II TT KK FF LL). (e.0, first_lambda e.0)) y)
        ∙ (ap (λ z. lambda_carry (lambda_step z)) (sym (lambda_twice (beside first_clause) (beside first_item) (beside first_term) (beside first_block) (beside first_for) (beside first_lambda) (λ (e : Clauses_with CC II TT KK FF LL). e.0) (λ (e : Items_with CC II TT KK FF LL). e.0) (λ (e : Terms_with CC II TT KK FF LL). e.0) (λ (e : Blocks_with CC II TT KK FF LL). e.0) (λ (e : Fors_with CC II TT KK FF LL). e.0) (λ (e : Lambdas_with CC II TT KK FF LL). e.0) y))
        ∙ ap lambda_carry (sym (para-roll-Lambda _ _ _ _ _ _ _ _ _ _ _ _ inner)))))))))

    pub carried_through_clause : (x : ForClause) → CC x
    carried_through_clause = by_clause CC II TT KK FF LL clause_through item_through term_through block_through for_through lambda_through

    pub carried_through_item : (x : Item) → II x
    carried_through_item = by_item CC II TT KK FF LL clause_through item_through term_through block_through for_through lambda_through

    pub carried_through_term : (x : Term) → TT x
    carried_through_term = by_term CC II TT KK FF LL clause_through item_through term_through block_through for_through lambda_through

    pub carried_through_block : (x : BlockRow) → KK x
    carried_through_block = by_block CC II TT KK FF LL clause_through item_through term_through block_through for_through lambda_through

    pub carried_through_for : (x : ForRow) → FF x
    carried_through_for = by_for CC II TT KK FF LL clause_through item_through term_through block_through for_through lambda_through

    pub carried_through_lambda : (x : Lambda) → LL x
    carried_through_lambda = by_lambda CC II TT KK FF LL clause_through item_through term_through block_through for_through lambda_through

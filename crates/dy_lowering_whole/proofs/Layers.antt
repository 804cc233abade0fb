-- What a layer of a term means, and whether it is lowered yet, from that of its parts.
use Rattle.std.proofs.Common.{◌≡◌, ℕ, Bool}
use Rattle.dy_term.specs.declared.term.ForClause.{ForClause, ForClause-F, roll-ForClause, map-ForClause, para-roll-ForClause, fold-ForClause}
use Rattle.dy_term.specs.declared.term.Item.{Item, Item-F, roll-Item, map-Item, para-roll-Item, fold-roll-Item}
use Rattle.dy_term.specs.declared.term.Term.{Term, Term-F, roll-Term, map-Term, para-roll-Term, fold-roll-Term}
use Rattle.dy_term.specs.declared.term.BlockRow.{BlockRow, BlockRow-F, roll-BlockRow, map-BlockRow, para-roll-BlockRow, fold-BlockRow}
use Rattle.dy_term.specs.declared.term.ForRow.{ForRow, ForRow-F, roll-ForRow, map-ForRow, para-roll-ForRow, fold-ForRow}
use Rattle.dy_term.specs.declared.term.Lambda.{Lambda, fold-Lambda}
use Rattle.dy_term.specs.declared.rows.Program.{Program}
use Rattle.dy_outcome.specs.States.{Does}
use Rattle.dy_outcome.specs.Parts.{Part}
use Rattle.dy_outcome.specs.Turns.{Clause}
use Rattle.dy_outcome.specs.Calls.{Calls}
use Rattle.dy_meaning.specs.Layouts.{Layout}
use Rattle.dy_meaning.specs.Meaning.{clause_does, item_does, term_does, block_does, for_does, clause_meaning, item_meaning, meaning, block_meaning, for_meaning, lambda_meaning}
use Rattle.dy_lowered.specs.Readiness.{clause_ready, item_ready, term_ready, block_ready, for_ready, lambda_ready, is_ready, is_item_ready}
use Rattle.dy_lowering_whole.proofs.valid.Evenness.{beside}

module _ (program : Program) (calls : Calls) (layout : Layout) where
  abbrev pub clause_meant_layer : ForClause-F ForClause Item Term BlockRow ForRow Lambda → ℕ → Clause
  clause_meant_layer x = clause_does program calls layout (map-ForClause _ _ _ _ _ _ _ _ _ _ _ _ (beside (clause_meaning program calls layout)) (beside (item_meaning program calls layout)) (beside (meaning program calls layout)) (beside (block_meaning program calls layout)) (beside (for_meaning program calls layout)) (beside (lambda_meaning program calls layout)) x)

  abbrev pub item_meant_layer : Item-F ForClause Item Term BlockRow ForRow Lambda → ℕ → Part
  item_meant_layer x = item_does program calls layout (map-Item _ _ _ _ _ _ _ _ _ _ _ _ (beside (clause_meaning program calls layout)) (beside (item_meaning program calls layout)) (beside (meaning program calls layout)) (beside (block_meaning program calls layout)) (beside (for_meaning program calls layout)) (beside (lambda_meaning program calls layout)) x)

  abbrev pub term_meant_layer : Term-F ForClause Item Term BlockRow ForRow Lambda → ℕ → Does
  term_meant_layer x = term_does program calls layout (map-Term _ _ _ _ _ _ _ _ _ _ _ _ (beside (clause_meaning program calls layout)) (beside (item_meaning program calls layout)) (beside (meaning program calls layout)) (beside (block_meaning program calls layout)) (beside (for_meaning program calls layout)) (beside (lambda_meaning program calls layout)) x)

  abbrev pub block_meant_layer : BlockRow-F ForClause Item Term BlockRow ForRow Lambda → ℕ → Does
  block_meant_layer x = block_does program calls layout (map-BlockRow _ _ _ _ _ _ _ _ _ _ _ _ (beside (clause_meaning program calls layout)) (beside (item_meaning program calls layout)) (beside (meaning program calls layout)) (beside (block_meaning program calls layout)) (beside (for_meaning program calls layout)) (beside (lambda_meaning program calls layout)) x)

  abbrev pub for_meant_layer : ForRow-F ForClause Item Term BlockRow ForRow Lambda → ℕ → Does
  for_meant_layer x = for_does program calls layout (map-ForRow _ _ _ _ _ _ _ _ _ _ _ _ (beside (clause_meaning program calls layout)) (beside (item_meaning program calls layout)) (beside (meaning program calls layout)) (beside (block_meaning program calls layout)) (beside (for_meaning program calls layout)) (beside (lambda_meaning program calls layout)) x)

  pub clause_meant : (x : ForClause-F ForClause Item Term BlockRow ForRow Lambda) → clause_meaning program calls layout (roll-ForClause x) ≡ clause_meant_layer x
  clause_meant = para-roll-ForClause _ _ _ _ _ _ _ _ _ _ _ _

  pub item_meant : (x : Item-F ForClause Item Term BlockRow ForRow Lambda) → item_meaning program calls layout (roll-Item x) ≡ item_meant_layer x
  item_meant = para-roll-Item _ _ _ _ _ _ _ _ _ _ _ _

  pub term_meant : (x : Term-F ForClause Item Term BlockRow ForRow Lambda) → meaning program calls layout (roll-Term x) ≡ term_meant_layer x
  term_meant = para-roll-Term _ _ _ _ _ _ _ _ _ _ _ _

  pub block_meant : (x : BlockRow-F ForClause Item Term BlockRow ForRow Lambda) → block_meaning program calls layout (roll-BlockRow x) ≡ block_meant_layer x
  block_meant = para-roll-BlockRow _ _ _ _ _ _ _ _ _ _ _ _

  pub for_meant : (x : ForRow-F ForClause Item Term BlockRow ForRow Lambda) → for_meaning program calls layout (roll-ForRow x) ≡ for_meant_layer x
  for_meant = para-roll-ForRow _ _ _ _ _ _ _ _ _ _ _ _

module _ (first last : ℕ) where
  abbrev pub clause_is_ready : ForClause → Bool
  clause_is_ready = fold-ForClause Bool Bool Bool Bool Bool Bool (clause_ready first last) (item_ready first last) (term_ready first last) (block_ready first last) (for_ready first last) (lambda_ready first last)

  abbrev pub block_is_ready : BlockRow → Bool
  block_is_ready = fold-BlockRow Bool Bool Bool Bool Bool Bool (clause_ready first last) (item_ready first last) (term_ready first last) (block_ready first last) (for_ready first last) (lambda_ready first last)

  abbrev pub for_is_ready : ForRow → Bool
  for_is_ready = fold-ForRow Bool Bool Bool Bool Bool Bool (clause_ready first last) (item_ready first last) (term_ready first last) (block_ready first last) (for_ready first last) (lambda_ready first last)

  abbrev pub lambda_is_ready : Lambda → Bool
  lambda_is_ready = fold-Lambda Bool Bool Bool Bool Bool Bool (clause_ready first last) (item_ready first last) (term_ready first last) (block_ready first last) (for_ready first last) (lambda_ready first last)

  abbrev pub ready_layer : Term-F ForClause Item Term BlockRow ForRow Lambda → Bool
  ready_layer x = term_ready first last (map-Term _ _ _ _ _ _ _ _ _ _ _ _ clause_is_ready (is_item_ready first last) (is_ready first last) block_is_ready for_is_ready lambda_is_ready x)

  abbrev pub item_ready_layer : Item-F ForClause Item Term BlockRow ForRow Lambda → Bool
  item_ready_layer x = item_ready first last (map-Item _ _ _ _ _ _ _ _ _ _ _ _ clause_is_ready (is_item_ready first last) (is_ready first last) block_is_ready for_is_ready lambda_is_ready x)

  pub ready_is : (x : Term-F ForClause Item Term BlockRow ForRow Lambda) → is_ready first last (roll-Term x) ≡ ready_layer x
  ready_is = fold-roll-Term _ _ _ _ _ _ _ _ _ _ _ _

  pub item_ready_is : (x : Item-F ForClause Item Term BlockRow ForRow Lambda) → is_item_ready first last (roll-Item x) ≡ item_ready_layer x
  item_ready_is = fold-roll-Item _ _ _ _ _ _ _ _ _ _ _ _

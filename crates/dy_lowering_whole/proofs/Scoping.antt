-- Whether a layer of a term is in scope and lowered yet, and the lambdas inside of it, from its
-- parts.
use Rattle.std.proofs.Common.{◌≡◌, Bool, List}
use Rattle.dy_term.specs.declared.term.ForClause.{ForClause, ForClause-F, roll-ForClause, map-ForClause, fold-ForClause, fold-roll-ForClause}
use Rattle.dy_term.specs.declared.term.Item.{Item, Item-F, roll-Item, map-Item, para-roll-Item, fold-roll-Item}
use Rattle.dy_term.specs.declared.term.Term.{Term, Term-F, roll-Term, map-Term, para-roll-Term, fold-roll-Term}
use Rattle.dy_term.specs.declared.term.BlockRow.{BlockRow, fold-BlockRow}
use Rattle.dy_term.specs.declared.term.ForRow.{ForRow, ForRow-F, roll-ForRow, map-ForRow, fold-ForRow, fold-roll-ForRow}
use Rattle.dy_term.specs.declared.term.Lambda.{Lambda, Lambda-F, roll-Lambda, map-Lambda, para-roll-Lambda, fold-roll-Lambda}
use Rattle.dy_meaning.specs.Lambdas.{item_lambdas, term_lambdas, lambda_lambdas, lambdas_in_clause, lambdas_in_item, lambdas_in, lambdas_in_block, lambdas_in_for, lambdas_within}
use Rattle.dy_lowering_whole.specs.valid.Scoped.{Scoping, item_scoped, term_scoped, is_clause_scoped, is_item_scoped, is_scoped, is_block_scoped, is_for_scoped, is_lambda_scoped}
use Rattle.dy_lowering_whole.proofs.valid.Evenness.{beside}
use Rattle.dy_lowering_whole.specs.Lowered.{clause_lowered, item_lowered, term_lowered, block_lowered, for_lowered, lambda_lowered, is_lowered, is_item_lowered, is_lambda_lowered}

abbrev pub scope_layer : Term-F ForClause Item Term BlockRow ForRow Lambda → Scoping
scope_layer x = term_scoped (map-Term _ _ _ _ _ _ _ _ _ _ _ _ is_clause_scoped is_item_scoped is_scoped is_block_scoped is_for_scoped is_lambda_scoped x)

abbrev pub item_scope_layer : Item-F ForClause Item Term BlockRow ForRow Lambda → Scoping
item_scope_layer x = item_scoped (map-Item _ _ _ _ _ _ _ _ _ _ _ _ is_clause_scoped is_item_scoped is_scoped is_block_scoped is_for_scoped is_lambda_scoped x)

pub scope_is : (x : Term-F ForClause Item Term BlockRow ForRow Lambda) → is_scoped (roll-Term x) ≡ scope_layer x
scope_is = fold-roll-Term _ _ _ _ _ _ _ _ _ _ _ _

pub item_scope_is : (x : Item-F ForClause Item Term BlockRow ForRow Lambda) → is_item_scoped (roll-Item x) ≡ item_scope_layer x
item_scope_is = fold-roll-Item _ _ _ _ _ _ _ _ _ _ _ _

abbrev pub is_clause_lowered : ForClause → Bool
is_clause_lowered = fold-ForClause Bool Bool Bool Bool Bool Bool clause_lowered item_lowered term_lowered block_lowered for_lowered lambda_lowered

abbrev pub is_block_lowered : BlockRow → Bool
is_block_lowered = fold-BlockRow Bool Bool Bool Bool Bool Bool clause_lowered item_lowered term_lowered block_lowered for_lowered lambda_lowered

abbrev pub is_for_lowered : ForRow → Bool
is_for_lowered = fold-ForRow Bool Bool Bool Bool Bool Bool clause_lowered item_lowered term_lowered block_lowered for_lowered lambda_lowered

abbrev pub lowered_layer : Term-F ForClause Item Term BlockRow ForRow Lambda → Bool
lowered_layer x = term_lowered (map-Term _ _ _ _ _ _ _ _ _ _ _ _ is_clause_lowered is_item_lowered is_lowered is_block_lowered is_for_lowered is_lambda_lowered x)

abbrev pub item_lowered_layer : Item-F ForClause Item Term BlockRow ForRow Lambda → Bool
item_lowered_layer x = item_lowered (map-Item _ _ _ _ _ _ _ _ _ _ _ _ is_clause_lowered is_item_lowered is_lowered is_block_lowered is_for_lowered is_lambda_lowered x)

abbrev pub clause_lowered_layer : ForClause-F ForClause Item Term BlockRow ForRow Lambda → Bool
clause_lowered_layer x = clause_lowered (map-ForClause _ _ _ _ _ _ _ _ _ _ _ _ is_clause_lowered is_item_lowered is_lowered is_block_lowered is_for_lowered is_lambda_lowered x)

abbrev pub for_lowered_layer : ForRow-F ForClause Item Term BlockRow ForRow Lambda → Bool
for_lowered_layer x = for_lowered (map-ForRow _ _ _ _ _ _ _ _ _ _ _ _ is_clause_lowered is_item_lowered is_lowered is_block_lowered is_for_lowered is_lambda_lowered x)

pub clause_lowered_is : (x : ForClause-F ForClause Item Term BlockRow ForRow Lambda) → is_clause_lowered (roll-ForClause x) ≡ clause_lowered_layer x
clause_lowered_is = fold-roll-ForClause _ _ _ _ _ _ _ _ _ _ _ _

pub for_lowered_is : (x : ForRow-F ForClause Item Term BlockRow ForRow Lambda) → is_for_lowered (roll-ForRow x) ≡ for_lowered_layer x
for_lowered_is = fold-roll-ForRow _ _ _ _ _ _ _ _ _ _ _ _

abbrev pub lambda_lowered_layer : Lambda-F ForClause Item Term BlockRow ForRow Lambda → Bool
lambda_lowered_layer x = lambda_lowered (map-Lambda _ _ _ _ _ _ _ _ _ _ _ _ is_clause_lowered is_item_lowered is_lowered is_block_lowered is_for_lowered is_lambda_lowered x)

pub lowered_is : (x : Term-F ForClause Item Term BlockRow ForRow Lambda) → is_lowered (roll-Term x) ≡ lowered_layer x
lowered_is = fold-roll-Term _ _ _ _ _ _ _ _ _ _ _ _

pub item_lowered_is : (x : Item-F ForClause Item Term BlockRow ForRow Lambda) → is_item_lowered (roll-Item x) ≡ item_lowered_layer x
item_lowered_is = fold-roll-Item _ _ _ _ _ _ _ _ _ _ _ _

pub lambda_lowered_is : (x : Lambda-F ForClause Item Term BlockRow ForRow Lambda) → is_lambda_lowered (roll-Lambda x) ≡ lambda_lowered_layer x
lambda_lowered_is = fold-roll-Lambda _ _ _ _ _ _ _ _ _ _ _ _

abbrev pub held_layer : Term-F ForClause Item Term BlockRow ForRow Lambda → List Lambda
held_layer x = term_lambdas (map-Term _ _ _ _ _ _ _ _ _ _ _ _ (beside lambdas_in_clause) (beside lambdas_in_item) (beside lambdas_in) (beside lambdas_in_block) (beside lambdas_in_for) (beside lambdas_within) x)

abbrev pub item_held_layer : Item-F ForClause Item Term BlockRow ForRow Lambda → List Lambda
item_held_layer x = item_lambdas (map-Item _ _ _ _ _ _ _ _ _ _ _ _ (beside lambdas_in_clause) (beside lambdas_in_item) (beside lambdas_in) (beside lambdas_in_block) (beside lambdas_in_for) (beside lambdas_within) x)

abbrev pub lambda_held_layer : Lambda-F ForClause Item Term BlockRow ForRow Lambda → List Lambda
lambda_held_layer x = lambda_lambdas (map-Lambda _ _ _ _ _ _ _ _ _ _ _ _ (beside lambdas_in_clause) (beside lambdas_in_item) (beside lambdas_in) (beside lambdas_in_block) (beside lambdas_in_for) (beside lambdas_within) x)

pub held_is : (x : Term-F ForClause Item Term BlockRow ForRow Lambda) → lambdas_in (roll-Term x) ≡ held_layer x
held_is = para-roll-Term _ _ _ _ _ _ _ _ _ _ _ _

pub item_held_is : (x : Item-F ForClause Item Term BlockRow ForRow Lambda) → lambdas_in_item (roll-Item x) ≡ item_held_layer x
item_held_is = para-roll-Item _ _ _ _ _ _ _ _ _ _ _ _

pub lambda_held_is : (x : Lambda-F ForClause Item Term BlockRow ForRow Lambda) → lambdas_within (roll-Lambda x) ≡ lambda_held_layer x
lambda_held_is = para-roll-Lambda _ _ _ _ _ _ _ _ _ _ _ _

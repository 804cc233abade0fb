use Rattle.std.proofs.Common.{rules, ◌∙◌}
use Rattle.dy_term.specs.declared.draft.DraftForClause.TheViews.{the_lemmas}
use Rattle.dy_term.proofs.Made.{block_row}
use Rattle.dy_term.proofs.statements.block_draft.Goals as goal

pub returns : goal.returns
returns c = block_row c.in_ok-row.row.value ∙ rw c.in_ok-row.ensures.ok (search (rules, the_lemmas))

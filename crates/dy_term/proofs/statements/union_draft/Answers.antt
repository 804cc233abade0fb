use Rattle.dy_term.proofs.Made.{seen_union}
use Rattle.dy_term.proofs.statements.union_draft.Goals as goal

pub returns : goal.returns
returns c = seen_union c.args.word c.args.types

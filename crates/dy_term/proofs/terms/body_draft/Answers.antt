use Rattle.dy_term.proofs.Parts.{seen_body}
use Rattle.dy_term.proofs.terms.body_draft.Goals as goal

pub returns : goal.returns
returns c = seen_body c.args.items

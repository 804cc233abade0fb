use Rattle.dy_base.proofs.Letters.{same_text-law, folded-twice}
use Rattle.dy_base.proofs.name.fold.Goals as goal

pub invariant_of-result : goal.invariant_of-result
invariant_of-result c = rw c.in_ok-lower_case.ensures (folded-twice c.args.bytes.now)

pub returns-in_err-lower_case-clause-same : goal.returns-in_err-lower_case-clause-same
returns-in_err-lower_case-clause-same c = same_text-law c.args.bytes.now

pub returns-clause-same : goal.returns-clause-same
returns-clause-same c = same_text-law c.args.bytes.now

use Rattle.dy_read_parts.proofs.Trims.{end_cut, end_kept, end_nesting}
use Rattle.dy_read_parts.proofs.trim.without_end.Goals as goal

pub returns-in-Some-clause-items : goal.returns-in-Some-clause-items
returns-in-Some-clause-items c = end_cut c.args.fragments.now c.in-Some.rest.now c.in-Some.last.now c.in-Some.ensures.cases.0 c.if-separates.ensures

pub returns-in-Some-clause-nested : goal.returns-in-Some-clause-nested
returns-in-Some-clause-nested c = end_nesting c.args.fragments.now c.in-Some.rest.now c.in-Some.last.now c.in-Some.ensures.cases.0

pub returns-in_default-clause-items : goal.returns-in_default-clause-items
returns-in_default-clause-items c = end_kept c.args.fragments.now c.in-Some.rest.now c.in-Some.last.now c.in-Some.ensures.cases.0 c.if-separates.ensures

use Rattle.dy_order.proofs.Decided.{precedes_then, precedes_else}
use Rattle.dy_order.proofs.precedence.precedes.Goals as goal

pub returns-then-all_as_specific : goal.returns-then-all_as_specific
returns-then-all_as_specific c =
    precedes_then c.args.program.now c.args.args.now c.args.a c.args.b c.specializers_of-types.result.now c.specializers_of-others.result.now c.specializers_of-types.ensures c.specializers_of-others.ensures
    c.all_as_specific.result c.some_more_specific.result c.if-all_as_specific.true c.all_as_specific.ensures c.some_more_specific.ensures

pub returns-else-all_as_specific : goal.returns-else-all_as_specific
returns-else-all_as_specific c =
    precedes_else c.args.program.now c.args.args.now c.args.a c.args.b c.specializers_of-types.result.now c.specializers_of-others.result.now c.specializers_of-types.ensures c.specializers_of-others.ensures
    c.all_as_specific.result c.if-all_as_specific.false c.all_as_specific.ensures

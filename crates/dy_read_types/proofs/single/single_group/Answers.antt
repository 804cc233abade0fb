use Rattle.dy_rules.specs.Roles.{bracket_of}
use Rattle.dy_read_types.proofs.Singles.{group_filled}
use Rattle.dy_read_types.proofs.single.single_group.Goals as goal

pub returns-else-is_empty : goal.returns-else-is_empty
returns-else-is_empty c = group_filled (bracket_of c.args.opener.now c.args.closer.now) c.args.inner.now c.args.opener.now c.if-is_empty.ensures

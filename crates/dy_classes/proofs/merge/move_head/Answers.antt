use Rattle.std.proofs.Common.{arith}
use Rattle.dy_classes.proofs.Tables.{next_counted}
use Rattle.dy_classes.proofs.merge.move_head.Goals as goal

pub lower-requires-clause-there : goal.lower-requires-clause-there
lower-requires-clause-there c = next_counted c.args.list.now c.args.head _ c.args.counts.now.rows.items (omega arith) c.requires.enough

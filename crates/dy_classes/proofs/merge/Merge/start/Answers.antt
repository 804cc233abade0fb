use Rattle.std.proofs.Common.{rules}
use Rattle.dy_classes.specs.Rows.{supers_at, order_at}
use Rattle.dy_classes.proofs.Tables.{counted_start}
use Rattle.dy_classes.proofs.merge.Merge.start.Goals as goal

pub returns-clause-counted : goal.returns-clause-counted
returns-clause-counted c =
    counted_start (supers_at c.args.program.now) (order_at c.args.program.now) c.args.class c.supers_of-supers.result.now c.loop-above.above-index c.in_ok-heads.heads.items c.loop-above.counts.rows.items
    c.supers_of-supers.ensures c.loop-above-test.false (c.in_ok-heads.ensures.items_if_clones_equal (λ y q. search rules)) c.loop-above.invariant

use Rattle.std.proofs.Common.{[], inl}
use Rattle.dy_classes.specs.Rows.{supers_at, lists_at}
use Rattle.dy_classes.proofs.Turns.{not_free}
use Rattle.dy_classes.proofs.merge.merge_orders.Goals as goal

pub returns-then-get-ne0 : goal.returns-then-get-ne0
returns-then-get-ne0 c =
    inl (not_free (supers_at c.args.program.now) (lists_at c.args.program.now c.args.class) [] c.in_ok-merge.merge.heads.items c.in_ok-merge.merge.counts.rows.items c.in_ok-merge.ensures.counted
    c.args.class c.get.result c.get.ensures c.if-get-ne0.true)

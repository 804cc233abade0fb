use Rattle.std.proofs.Common.{◌≡◌, ◌+◌, drop, map}
use Rattle.dy_base.specs.declared.ids.ClassId.{ClassId}
use Rattle.dy_classes.specs.Rows.{lists_at, order_at}
use Rattle.dy_classes.specs.Counters.{count_at}
use Rattle.dy_classes.proofs.Counters.{behind}
use Rattle.dy_classes.proofs.merge.Merge.start.Given as goal

abbrev pub invariant-loop-above : goal.invariant-loop-above
invariant-loop-above l =
    (y : ClassId) → count_at l.counts.rows.items y + behind y (map (order_at l.program) (drop l.above-index l.supers)) ≡ behind y (lists_at l.program l.fn.class)

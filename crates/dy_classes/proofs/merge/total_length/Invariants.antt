use Rattle.std.proofs.Common.{◌≡◌, ◌+◌, drop, map}
use Rattle.dy_classes.specs.Rows.{order_at, lists_at}
use Rattle.dy_classes.specs.Merge.{total}
use Rattle.dy_classes.proofs.merge.total_length.Given as goal

abbrev pub invariant-loop-above : goal.invariant-loop-above
invariant-loop-above l = l.length + total (map (order_at l.program) (drop l.above-index l.supers)) ≡ total (lists_at l.program l.fn.class)

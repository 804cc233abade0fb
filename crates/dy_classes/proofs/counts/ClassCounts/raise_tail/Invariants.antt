use Rattle.std.proofs.Common.{◌≡◌, ◌+◌, drop}
use Rattle.dy_base.specs.declared.ids.ClassId.{ClassId}
use Rattle.dy_classes.specs.Counters.{count_at, occurs}
use Rattle.dy_classes.proofs.counts.ClassCounts.raise_tail.Given as goal

abbrev pub invariant-loop-class : goal.invariant-loop-class
invariant-loop-class l =
    (other : ClassId) → count_at l.self.rows.items other + occurs other (drop l.class-index l.rest) ≡ occurs other l.rest + count_at l.fn.self.rows.items other

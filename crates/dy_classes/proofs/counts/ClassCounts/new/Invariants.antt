use Rattle.std.proofs.Common.{◌≡◌}
use Rattle.dy_base.specs.declared.ids.ClassId.{ClassId}
use Rattle.dy_classes.specs.Counters.{count_at}
use Rattle.dy_classes.proofs.counts.ClassCounts.new.Given as goal

abbrev pub invariant-loop-library : goal.invariant-loop-library
invariant-loop-library l = (class : ClassId) → count_at l.rows.items class ≡ 0

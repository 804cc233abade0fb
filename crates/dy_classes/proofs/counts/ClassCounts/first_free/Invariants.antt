use Rattle.std.proofs.Common.{◌≡◌, drop}
use Rattle.dy_classes.specs.Merge.{find}
use Rattle.dy_classes.specs.Counters.{free}
use Rattle.dy_classes.proofs.counts.ClassCounts.first_free.Given as goal

abbrev pub invariant-loop-class : goal.invariant-loop-class
invariant-loop-class l = find (free l.self.rows.items) l.classes ≡ find (free l.self.rows.items) (drop l.class-index l.classes)

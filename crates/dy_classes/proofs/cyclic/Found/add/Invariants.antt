use Rattle.std.proofs.Common.{◌≡◌, drop}
use Rattle.dy_classes.specs.Merge.{added}
use Rattle.dy_classes.specs.Counters.{AreMarked}
use Rattle.dy_classes.proofs.cyclic.Found.add.Given as goal

abbrev pub invariant-loop-class : goal.invariant-loop-class
invariant-loop-class l =
    record {
      same : added l.fn.self.classes.items l.classes ≡ added l.self.classes.items (drop l.class-index l.classes);
      marked : AreMarked l.self.classes.items l.self.marks.rows.items;
    }

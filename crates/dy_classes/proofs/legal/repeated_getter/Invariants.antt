use Rattle.std.proofs.Common.{◌≡◌, ◌≤◌, length, drop}
use Rattle.dy_classes.specs.Lists.{Once}
use Rattle.dy_classes.specs.Legal.{getters}
use Rattle.dy_classes.proofs.legal.repeated_getter.Given as goal

abbrev pub invariant-loop-place : goal.invariant-loop-place
invariant-loop-place l =
    record {
      upto : l.place ≤ length l.classes;
      same : l.seen.items ≡ getters l.program (drop l.place l.classes);
      once : Once l.seen.items;
    }

abbrev pub decreases-loop-place : goal.decreases-loop-place
decreases-loop-place l = l.place

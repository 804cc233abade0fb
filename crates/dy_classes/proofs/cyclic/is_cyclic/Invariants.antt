use Rattle.std.proofs.Common.{◌+◌, ◌-◌, ◌≤◌, length}
use Rattle.dy_classes.specs.Counters.{AreMarked}
use Rattle.dy_classes.proofs.Runs.{left}
use Rattle.dy_classes.proofs.Found.{Walked, all_supers}
use Rattle.dy_classes.proofs.cyclic.is_cyclic.Given as goal

abbrev pub invariant-loop-place : goal.invariant-loop-place
invariant-loop-place l =
    record {
      marked : AreMarked l.found.classes.items l.found.marks.rows.items;
      walked : Walked l.program l.class l.place l.found.classes.items;
      upto : l.place ≤ length l.found.classes.items;
    }

abbrev pub decreases-loop-place : goal.decreases-loop-place
decreases-loop-place l = (left l.found.classes.items (all_supers l.program.libraries) + length l.found.classes.items) - l.place

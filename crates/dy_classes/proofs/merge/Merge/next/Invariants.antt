use Rattle.std.proofs.Common.{◌≡◌, ◌≤◌, length, take}
use Rattle.dy_classes.specs.Rows.{supers_at}
use Rattle.dy_classes.specs.Merge.{next_of, newest}
use Rattle.dy_classes.specs.Counters.{free}
use Rattle.dy_classes.proofs.merge.Merge.next.Given as goal

abbrev pub invariant-loop-place : goal.invariant-loop-place
invariant-loop-place l =
    record {
      upto : l.place ≤ length l.self.listed.items;
      same : next_of (supers_at l.program) (free l.self.counts.rows.items) (newest l.self.listed.items)
          ≡ next_of (supers_at l.program) (free l.self.counts.rows.items) (newest (take l.place l.self.listed.items));
    }

abbrev pub decreases-loop-place : goal.decreases-loop-place
decreases-loop-place l = l.place

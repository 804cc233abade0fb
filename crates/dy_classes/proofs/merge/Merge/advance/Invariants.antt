use Rattle.std.proofs.Common.{◌≡◌}
use Rattle.dy_classes.specs.Rows.{lists_at}
use Rattle.dy_classes.specs.Merge.{newest}
use Rattle.dy_classes.specs.Counters.{Moving}
use Rattle.dy_classes.proofs.merge.Merge.advance.Given as goal

abbrev pub invariant-loop-place : goal.invariant-loop-place
invariant-loop-place l =
    record {
      listed : l.self.listed.items ≡ l.initial.self.listed.items;
      moving : Moving (lists_at l.program l.class) (newest l.fn.self.listed.items) l.next l.place l.self.heads.items l.self.counts.rows.items;
    }

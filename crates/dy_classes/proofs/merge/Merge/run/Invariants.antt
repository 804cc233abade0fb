use Rattle.std.proofs.Common.{◌≡◌, ◌-◌}
use Rattle.dy_classes.specs.Rows.{supers_at, lists_at}
use Rattle.dy_classes.specs.Merge.{newest, run}
use Rattle.dy_classes.specs.Counters.{Counted}
use Rattle.dy_classes.proofs.merge.Merge.run.Given as goal

abbrev pub invariant-loop-turn : goal.invariant-loop-turn
invariant-loop-turn l =
    let lists = lists_at l.program l.class in
    record {
      counted : Counted lists (newest l.self.listed.items) l.self.heads.items l.self.counts.rows.items;
      same : run (supers_at l.program) lists l.turns (newest l.fn.self.listed.items) ≡ run (supers_at l.program) lists (l.turns - l._turn) (newest l.self.listed.items);
    }

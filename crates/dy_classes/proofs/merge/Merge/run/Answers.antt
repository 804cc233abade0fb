use Rattle.std.proofs.Common.{List, ◌-◌, sym, subst, ◌∙◌}
use Rattle.dy_base.specs.declared.ids.ClassId.{ClassId}
use Rattle.dy_classes.specs.Rows.{supers_at, lists_at}
use Rattle.dy_classes.specs.Merge.{newest, run}
use Rattle.dy_classes.specs.Counters.{Counted}
use Rattle.dy_classes.proofs.Turns.{next_free, goes_on, stops}
use Rattle.dy_classes.proofs.merge.Merge.run.Goals as goal

pub advance-requires-clause-free : goal.advance-requires-clause-free
advance-requires-clause-free c =
    next_free (supers_at c.args.program.now) (lists_at c.args.program.now c.args.class) (newest c.loop-turn.self.listed.items) c.loop-turn.self.heads.items c.loop-turn.self.counts.rows.items
    c.loop-turn.invariant.counted c.in-Some.next (sym c.next.ensures ∙ c.in-Some.is)

pub returns-in-None-clause-listed : goal.returns-in-None-clause-listed
returns-in-None-clause-listed c =
    let lists = lists_at c.args.program.now c.args.class in
    stops (supers_at c.args.program.now) lists (newest c.loop-turn.self.listed.items) c.loop-turn.self.heads.items c.loop-turn.self.counts.rows.items c.loop-turn.invariant.counted
    (run (supers_at c.args.program.now) lists c.args.turns (newest c.args.self.now.listed.items)) (c.args.turns - c.loop-turn._turn) (sym c.next.ensures ∙ c.in-None.is) c.loop-turn.invariant.same

pub loop-turn-preserved : goal.loop-turn-preserved
loop-turn-preserved c =
    let lists = lists_at c.args.program.now c.args.class in
    let new = c.advance.new.self in
    record {
      counted = subst (λ (v : List ClassId). Counted lists v new.heads.items new.counts.rows.items) (sym c.in_ok-advance-in-Some.ensures.listed) c.in_ok-advance-in-Some.ensures.counted;
      same = goes_on (supers_at c.args.program.now) lists (newest c.loop-turn.self.listed.items) c.loop-turn.self.heads.items c.loop-turn.self.counts.rows.items c.loop-turn.invariant.counted
          (run (supers_at c.args.program.now) lists c.args.turns (newest c.args.self.now.listed.items)) (newest new.listed.items) c.args.turns c.loop-turn._turn c.in-Some.next c.loop-turn-test.true
          (sym c.next.ensures ∙ c.in-Some.is) c.loop-turn.invariant.same c.in_ok-advance-in-Some.ensures.listed;
    }

use Rattle.std.proofs.Common.{sym, ◌∙◌}
use Rattle.dy_classes.specs.Rows.{lists_at}
use Rattle.dy_classes.specs.Merge.{newest}
use Rattle.dy_classes.proofs.Steps.{whole_stops, whole_goes}
use Rattle.dy_classes.proofs.merge.Merge.is_whole.Goals as goal

pub returns-then-head-list_at : goal.returns-then-head-list_at
returns-then-head-list_at c =
    sym (c.loop-place.invariant
    ∙ whole_stops (lists_at c.args.program.now c.args.class) (newest c.args.self.now.listed.items) c.args.self.now.heads.items c.args.self.now.counts.rows.items c.requires
    c.deref-head-items.result.now c.deref-head-items.ensures.value c.loop-place.place c.loop-place-test.true c.list_at.result.now c.list_at.ensures c.if-head-list_at.true)

pub loop-place-preserved : goal.loop-place-preserved
loop-place-preserved c =
    c.loop-place.invariant
    ∙ whole_goes (lists_at c.args.program.now c.args.class) (newest c.args.self.now.listed.items) c.args.self.now.heads.items c.args.self.now.counts.rows.items c.requires
    c.deref-head-items.result.now c.deref-head-items.ensures.value c.loop-place.place c.loop-place-test.true c.list_at.result.now c.list_at.ensures c.if-head-list_at.false

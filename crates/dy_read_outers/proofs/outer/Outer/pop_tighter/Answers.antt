use Rattle.std.proofs.Common.{◌∙◌, sym}
use Rattle.dy_read_outers.proofs.Stacks.{none_left, tighter_popped, tighter_none}
use Rattle.dy_read_outers.proofs.outer.Outer.pop_tighter.Goals as goal

pub returns-then-ends_tighter-clause-entry : goal.returns-then-ends_tighter-clause-entry
returns-then-ends_tighter-clause-entry c =
    tighter_popped c.args.height c.args.self.now.entries.items c.pop.new.self.items c.pop.result c.pop.ensures.items (none_left c.args.self.now.entries.items c.pop.new.self.items c.pop.result c.args.self.now.entries.len _ _ c.pop.ensures.rest c.pop.ensures.cases) (sym c.ends_tighter.ensures ∙ c.if-ends_tighter.true)

pub returns-else-ends_tighter-clause-entry : goal.returns-else-ends_tighter-clause-entry
returns-else-ends_tighter-clause-entry c = tighter_none c.args.height c.args.self.now.entries.items (sym c.ends_tighter.ensures ∙ c.if-ends_tighter.false)

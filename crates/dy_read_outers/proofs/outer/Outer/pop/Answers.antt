use Rattle.dy_read_outers.proofs.Stacks.{none_left, popped}
use Rattle.dy_read_outers.proofs.outer.Outer.pop.Goals as goal

pub returns-clause-entry : goal.returns-clause-entry
returns-clause-entry c = popped c.args.self.now.entries.items c.pop.new.self.items c.pop.result c.pop.ensures.items (none_left c.args.self.now.entries.items c.pop.new.self.items c.pop.result c.args.self.now.entries.len _ _ c.pop.ensures.rest c.pop.ensures.cases)

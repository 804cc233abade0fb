use Rattle.dy_read_outers.specs.Grown.{read_grown}
use Rattle.dy_read_outers.specs.Outers.{seen_outer}
use Rattle.dy_read_outers.proofs.Stacks.{reduce_step, reduce_end}
use Rattle.dy_read_outers.proofs.outer.reduce.Goals as goal

pub loop-entry-preserved : goal.loop-entry-preserved
loop-entry-preserved c =
    reduce_step c.args.height (read_grown c.args.tree) (seen_outer c.args.outer.now) (read_grown c.loop-entry.grown) (read_grown c.in_ok-grown.grown) (seen_outer c.loop-entry.outer) (seen_outer c.pop_tighter.new.self) c.in-Some.entry c.loop-entry.invariant
    c.in-Some.ensures.entry.0 c.in-Some.ensures.entry.1 c.in_ok-grown.ensures

pub returns : goal.returns
returns c =
    reduce_end c.args.height c.loop-entry.grown (read_grown c.args.tree) (seen_outer c.args.outer.now) c.loop-entry.outer.entries.items c.pop_tighter.new.self.entries.items c.loop-entry.invariant c.in_default.ensures.entry

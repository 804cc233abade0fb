use Rattle.dy_read_outers.specs.Grown.{read_grown}
use Rattle.dy_read_outers.specs.Outers.{seen_outer}
use Rattle.dy_read_outers.proofs.Stacks.{finish_step, finish_end}
use Rattle.dy_read_outers.proofs.outer.finish.Goals as goal

pub loop-entry-preserved : goal.loop-entry-preserved
loop-entry-preserved c =
    finish_step (read_grown c.args.tree) (seen_outer c.args.outer) (read_grown c.loop-entry.grown) (read_grown c.in_ok-grown.grown) (seen_outer c.loop-entry.outer) (seen_outer c.pop.new.self) c.in-Some.entry c.loop-entry.invariant c.in-Some.ensures.entry c.in_ok-grown.ensures

pub returns : goal.returns
returns c = finish_end c.loop-entry.grown _ (seen_outer c.loop-entry.outer) c.loop-entry.invariant c.in_default.ensures.entry.0

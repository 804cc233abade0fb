use Rattle.dy_read_outers.specs.Grown.{read_grown}
use Rattle.dy_read_outers.specs.Outers.{seen_outer, left}
use Rattle.dy_read_outers.proofs.Stacks.{Reduces}
use Rattle.dy_read_outers.proofs.outer.reduce.Given as goal

abbrev pub invariant-loop-entry : goal.invariant-loop-entry
invariant-loop-entry l = Reduces l.height (read_grown l.fn.tree) (seen_outer l.fn.outer) (read_grown l.grown) (seen_outer l.outer)

abbrev pub decreases-loop-entry : goal.decreases-loop-entry
decreases-loop-entry l = left l.outer

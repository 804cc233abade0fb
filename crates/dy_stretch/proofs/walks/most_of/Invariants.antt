use Rattle.dy_stretch.specs.Walks.{IsMostTo}
use Rattle.dy_stretch.proofs.walks.most_of.Given as goal

abbrev pub invariant-loop-place : goal.invariant-loop-place
invariant-loop-place l = IsMostTo l.longs l.marks l.place l.most

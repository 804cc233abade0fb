use Rattle.dy_rings.specs.Walks.{progress}
use Rattle.dy_rings.proofs.Weights.{work}
use Rattle.dy_rings.proofs.UnderWay.{IsUnderWay}
use Rattle.dy_rings.proofs.ring.find_rings.Given as goal

abbrev pub invariant-loop-group : goal.invariant-loop-group
invariant-loop-group l = IsUnderWay l.uses (progress l.walk)

abbrev pub decreases-loop-group : goal.decreases-loop-group
decreases-loop-group l = work l.uses (progress l.walk)

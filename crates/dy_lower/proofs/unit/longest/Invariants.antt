use Rattle.std.proofs.Common.{◌≡◌, take}
use Rattle.dy_lower.proofs.Bodies.{longest}
use Rattle.dy_lower.proofs.unit.longest.Given as goal

abbrev pub invariant-loop-body : goal.invariant-loop-body
invariant-loop-body l = l.most ≡ longest (take l.body-index l.bodies)

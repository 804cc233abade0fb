use Rattle.std.proofs.Common.{◌≡◌, ◌<◌, ◌++◌, List, length}
use Rattle.dy_rings.specs.declared.ring.Group.{Group}
use Rattle.dy_rings.specs.Rings.{In}
use Rattle.dy_rings.proofs.ring.join.Given as goal

-- those that were taken out begin behind the place
abbrev pub invariant-loop-group : goal.invariant-loop-group
invariant-loop-group l = (above : List Group) × (l.fn.groups.items ≡ l.groups.items ++ above) × ((other : Group) → In other above → l.place < other.first)

abbrev pub decreases-loop-group : goal.decreases-loop-group
decreases-loop-group l = length l.groups.items

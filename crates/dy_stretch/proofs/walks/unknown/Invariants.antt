use Rattle.dy_stretch.proofs.Walking.{Blank}
use Rattle.dy_stretch.proofs.walks.unknown.Given as goal

abbrev pub invariant-loop-place : goal.invariant-loop-place
invariant-loop-place l = Blank l.longs.items l._place

use Rattle.dy_stretch.proofs.Fresh.{Fresh}
use Rattle.dy_stretch.proofs.reached.unmarked.Given as goal

abbrev pub invariant-loop-place : goal.invariant-loop-place
invariant-loop-place l = Fresh l.marks.items l.place

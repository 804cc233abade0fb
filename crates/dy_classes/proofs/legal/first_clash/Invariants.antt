use Rattle.std.proofs.Common.{◌≡◌, drop}
use Rattle.dy_classes.specs.Search.{clashes, first_pair}
use Rattle.dy_classes.proofs.legal.first_clash.Given as goal

abbrev pub invariant-loop-place : goal.invariant-loop-place
invariant-loop-place l = first_pair (clashes l.program) l.classes ≡ first_pair (clashes l.program) (drop l.place l.classes)

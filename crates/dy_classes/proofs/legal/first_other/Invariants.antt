use Rattle.std.proofs.Common.{◌≡◌, drop}
use Rattle.dy_classes.specs.Merge.{find}
use Rattle.dy_classes.specs.Search.{clashes}
use Rattle.dy_classes.proofs.legal.first_other.Given as goal

abbrev pub invariant-loop-other : goal.invariant-loop-other
invariant-loop-other l = find (clashes l.program l.class) l.others ≡ find (clashes l.program l.class) (drop l.other-index l.others)

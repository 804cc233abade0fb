use Rattle.std.proofs.Common.{◌≡◌, drop}
use Rattle.dy_classes.specs.Search.{has_generic}
use Rattle.dy_classes.proofs.legal.is_among.Given as goal

abbrev pub invariant-loop-other : goal.invariant-loop-other
invariant-loop-other l = has_generic l.getter l.getters ≡ has_generic l.getter (drop l.other-index l.getters)

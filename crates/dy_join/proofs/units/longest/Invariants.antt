use Rattle.std.proofs.Common.{◌≡◌, take}
use Rattle.dy_join.proofs.Numbered.{longest}
use Rattle.dy_join.proofs.units.longest.Given as goal

abbrev pub invariant-loop-unit : goal.invariant-loop-unit
invariant-loop-unit l = l.most ≡ longest (take l.unit-index l.units)

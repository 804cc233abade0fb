use Rattle.std.proofs.Common.{◌≡◌, map}
use Rattle.dy_join.specs.Numbering.{placed}
use Rattle.dy_join.proofs.references.link_uses.Given as goal

abbrev pub invariant-loop-library : goal.invariant-loop-library
invariant-loop-library l = l.linked ≡ map (placed l.places) l.yielded

use Rattle.std.proofs.Common.{◌≡◌, map}
use Rattle.dy_lowered.specs.Linking.{linked_top}
use Rattle.dy_join.specs.Numbering.{placed}
use Rattle.dy_join.proofs.units.link_tops.Given as goal

abbrev pub invariant-loop-top : goal.invariant-loop-top
invariant-loop-top l = l.linked ≡ map (linked_top (placed l.places)) l.yielded

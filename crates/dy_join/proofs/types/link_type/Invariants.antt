use Rattle.std.proofs.Common.{◌≡◌, map}
use Rattle.dy_lowered.specs.Linking.{linked_member}
use Rattle.dy_join.specs.Numbering.{placed}
use Rattle.dy_join.proofs.types.link_type.Given as goal

abbrev pub invariant-loop-member : goal.invariant-loop-member
invariant-loop-member l = l.members ≡ map (linked_member (placed l.places)) l.yielded

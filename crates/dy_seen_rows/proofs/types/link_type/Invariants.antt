use Rattle.std.proofs.Common.{◌≡◌, map, take}
use Rattle.dy_lowered.specs.Linking.{linked_member}
use Rattle.dy_seen_rows.specs.Places.{placed}
use Rattle.dy_seen_rows.proofs.types.link_type.Given as goal

abbrev pub invariant-loop-member : goal.invariant-loop-member
invariant-loop-member l = l.members ≡ map (linked_member (placed l.places)) (take l.member-index l.member-items)

use Rattle.std.proofs.Common.{◌≡◌, take}
use Rattle.dy_lower_lists.proofs.copies.copy_type.Given as goal

abbrev pub invariant-loop-member : goal.invariant-loop-member
invariant-loop-member l = l.members ≡ take l.member-index l.member-items

use Rattle.std.proofs.Common.{◌≡◌, length, take}
use Rattle.dy_keys.proofs.types.are_same_members.Given as goal

abbrev pub invariant-loop-member : goal.invariant-loop-member
invariant-loop-member l = take (length l.yielded) l.members ≡ take (length l.yielded) l.others

use Rattle.std.proofs.Common.{◌≡◌, length, take}
use Rattle.dy_keys.proofs.literals.+same.Given as goal

abbrev pub invariant-are_same-loop-item : goal.invariant-are_same-loop-item
invariant-are_same-loop-item l = take (length l.yielded) l.items ≡ take (length l.yielded) l.others

use Rattle.std.proofs.Common.{◌≡◌, length, take}
use Rattle.dy_keys.proofs.types.are_same_names.Given as goal

abbrev pub invariant-loop-name : goal.invariant-loop-name
invariant-loop-name l = take (length l.yielded) l.names ≡ take (length l.yielded) l.others

use Rattle.std.proofs.Common.{◌≡◌, length, take}
use Rattle.dy_keys.proofs.types.are_same_types.Given as goal

abbrev pub invariant-loop-declared : goal.invariant-loop-declared
invariant-loop-declared l = take (length l.yielded) l.types ≡ take (length l.yielded) l.others

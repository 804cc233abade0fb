use Rattle.std.proofs.Common.{◌≡◌, false, replicate}
use Rattle.dy_module_numbers.proofs.ring.marks.Given as goal

abbrev pub invariant-loop-number : goal.invariant-loop-number
invariant-loop-number l = l.marks.items ≡ replicate l._number false

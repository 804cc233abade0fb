use Rattle.std.proofs.Common.{◌≡◌, ◌+◌, ◌++◌, [], drop, take, map, length, replicate}
use Rattle.dy_module_numbers.specs.Numbers.{same_given}
use Rattle.dy_module_numbers.proofs.naming.same_given.Given as goal

abbrev pub invariant-loop-place : goal.invariant-loop-place
invariant-loop-place l = same_given (drop l.place l.left) (drop l.place l.right) ≡ same_given l.fn.left l.fn.right

use Rattle.std.proofs.Common.{◌≡◌, take}
use Rattle.dy_binding.proofs.literals.+copies.Given as goal

abbrev pub invariant-copy_literals-loop-literal : goal.invariant-copy_literals-loop-literal
invariant-copy_literals-loop-literal l = l.copies ≡ take l.literal-index l.literal-items

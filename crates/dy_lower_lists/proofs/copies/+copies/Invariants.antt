use Rattle.std.proofs.Common.{◌≡◌, take}
use Rattle.dy_lower_lists.proofs.copies.+copies.Given as goal

abbrev pub invariant-copy_items-loop-literal : goal.invariant-copy_items-loop-literal
invariant-copy_items-loop-literal l = l.copies ≡ take l.literal-index l.literal-items

use Rattle.std.proofs.Common.{◌≡◌, take}
use Rattle.dy_lower_lists.proofs.copies.copy_types.Given as goal

abbrev pub invariant-loop-found : goal.invariant-loop-found
invariant-loop-found l = l.copies ≡ take l.found-index l.found-items

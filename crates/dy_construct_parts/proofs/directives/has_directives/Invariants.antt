use Rattle.std.proofs.Common.{◌≡◌, length}
use Rattle.dy_construct_parts.specs.Directives.{has_directives}
use Rattle.dy_construct_parts.proofs.directives.has_directives.Given as goal

-- what is left of the text decides, with the values that are left
abbrev pub invariant-loop-byte : goal.invariant-loop-byte
invariant-loop-byte l = has_directives l.rest l.left ≡ has_directives l.fn.text l.fn.count

abbrev pub decreases-loop-byte : goal.decreases-loop-byte
decreases-loop-byte l = length l.rest

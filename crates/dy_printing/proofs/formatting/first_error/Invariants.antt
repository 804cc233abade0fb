use Rattle.std.proofs.Common.{◌≡◌, length}
use Rattle.dy_printing.specs.Formatting.{parts_of, first_error}
use Rattle.dy_printing.proofs.formatting.first_error.Given as goal

abbrev pub invariant-loop-part : goal.invariant-loop-part
invariant-loop-part l = first_error (parts_of l.text) l.arguments ≡ first_error (parts_of l.rest) l.left

abbrev pub decreases-loop-part : goal.decreases-loop-part
decreases-loop-part l = length l.rest

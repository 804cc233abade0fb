use Rattle.std.proofs.Common.{◌≡◌, length}
use Rattle.dy_library_form.specs.Told.{first_with, first}
use Rattle.dy_library_form.proofs.found.first.Given as goal

-- what is first of the rest and the best behind it
abbrev pub invariant-loop-found : goal.invariant-loop-found
invariant-loop-found l = first_with l.list.items l.best ≡ first l.fn.list

abbrev pub decreases-loop-found : goal.decreases-loop-found
decreases-loop-found l = length l.list.items

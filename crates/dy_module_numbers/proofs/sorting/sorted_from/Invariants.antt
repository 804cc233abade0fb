use Rattle.std.proofs.Common.{◌≡◌, length, reverse}
use Rattle.dy_module_numbers.specs.Sorting.{after_forms, nothing_sorted}
use Rattle.dy_module_numbers.proofs.sorting.sorted_from.Given as goal

abbrev pub invariant-loop-form : goal.invariant-loop-form
invariant-loop-form l = after_forms l.sorted (reverse l.rest.items) ≡ after_forms nothing_sorted l.fn.forms

abbrev pub decreases-loop-form : goal.decreases-loop-form
decreases-loop-form l = length l.rest.items

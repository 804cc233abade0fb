use Rattle.std.proofs.Common.{◌≡◌, ◌+◌, ◌++◌, [], drop, take, map, length, replicate}
use Rattle.dy_module_numbers.specs.Numbers.{given_form}
use Rattle.dy_module_numbers.proofs.outside.empty_forms.Given as goal

abbrev pub invariant-loop-number : goal.invariant-loop-number
invariant-loop-number l = l.forms.items ≡ replicate l._number (given_form [])

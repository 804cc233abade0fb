use Rattle.std.proofs.Common.{◌≡◌, ◌+◌, ◌++◌, [], drop, take, map, length, replicate}
use Rattle.dy_module_numbers.specs.Numbers.{with_outside}
use Rattle.dy_module_numbers.proofs.outside.outside_form.Given as goal

abbrev pub invariant-loop-name : goal.invariant-loop-name
invariant-loop-name l = with_outside l.given (drop l.name-index l.rows) ≡ with_outside [] l.rows

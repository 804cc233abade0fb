use Rattle.std.proofs.Common.{◌≡◌, ◌++◌, [], drop, map, length}
use Rattle.dy_module_numbers.specs.Numbers.{outside_form, numbered_after}
use Rattle.dy_module_numbers.proofs.outside.add_modules.Given as goal

abbrev pub invariant-loop-name : goal.invariant-loop-name
invariant-loop-name l = record {
  forms : l.forms.items ++ map outside_form (drop l.name-index l.rows) ≡ l.fn.forms.items ++ map outside_form l.rows;
  numbers : numbered_after l.numbers (length l.forms.items) (drop l.name-index l.rows) ≡ numbered_after [] (length l.fn.forms.items) l.rows;
}

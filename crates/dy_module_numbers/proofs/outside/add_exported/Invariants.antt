use Rattle.std.proofs.Common.{◌≡◌, ◌++◌, drop, length}
use Rattle.dy_module_numbers.specs.Numbers.{after_exported, library_numbers}
use Rattle.dy_module_numbers.proofs.outside.add_exported.Given as goal

abbrev pub invariant-loop-library : goal.invariant-loop-library
invariant-loop-library l = record {
  forms : after_exported l.forms.items (drop l.library-index l.used) ≡ after_exported l.fn.forms.items l.used;
  numbers : l.libraries.items ++ library_numbers (length l.forms.items) (drop l.library-index l.used) ≡ library_numbers (length l.fn.forms.items) l.used;
}

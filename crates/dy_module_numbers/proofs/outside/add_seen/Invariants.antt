use Rattle.std.proofs.Common.{◌≡◌, drop}
use Rattle.dy_module_numbers.specs.Numbers.{after_seen}
use Rattle.dy_module_numbers.proofs.outside.add_seen.Given as goal

abbrev pub invariant-loop-library : goal.invariant-loop-library
invariant-loop-library l = after_seen l.forms.items (drop l.library-index l.used) ≡ after_seen l.fn.forms.items l.used

use Rattle.std.proofs.Common.{◌≡◌, ◌+◌, ◌++◌, [], drop, take, map, length, replicate}
use Rattle.dy_module_numbers.specs.Numbers.{with_modules}
use Rattle.dy_module_numbers.proofs.naming.add_modules.Given as goal

abbrev pub invariant-loop-name : goal.invariant-loop-name
invariant-loop-name l = with_modules l.modules (drop l.name-index l.pairs) ≡ with_modules l.fn.modules l.pairs

use Rattle.std.proofs.Common.{◌≡◌, ◌+◌, ◌++◌, [], drop, take, map, length, replicate}
use Rattle.dy_module_numbers.specs.Numbers.{brought_modules}
use Rattle.dy_module_numbers.proofs.naming.brought_modules.Given as goal

abbrev pub invariant-loop-place : goal.invariant-loop-place
invariant-loop-place l = l.pairs ++ brought_modules l.u (drop l.place l.modules) ≡ brought_modules l.fn.u l.fn.modules

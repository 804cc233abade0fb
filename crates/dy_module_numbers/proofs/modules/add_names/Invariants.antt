use Rattle.std.proofs.Common.{◌≡◌, ◌+◌, ◌++◌, [], drop, take, map, length, replicate}
use Rattle.dy_module_numbers.specs.Options.{with_names}
use Rattle.dy_module_numbers.proofs.modules.add_names.Given as goal

abbrev pub invariant-loop-name : goal.invariant-loop-name
invariant-loop-name l = with_names l.set (drop l.name-index l.names) ≡ with_names l.fn.set l.names

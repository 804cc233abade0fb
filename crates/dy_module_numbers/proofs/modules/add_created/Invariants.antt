use Rattle.std.proofs.Common.{◌≡◌, ◌+◌, ◌++◌, [], drop, take, map, length, replicate}
use Rattle.dy_module_numbers.specs.Modules.{with_created}
use Rattle.dy_module_numbers.proofs.modules.add_created.Given as goal

abbrev pub invariant-loop-name : goal.invariant-loop-name
invariant-loop-name l = with_created l.m l.given (drop l.name-index l.names) ≡ with_created l.m l.fn.given l.names

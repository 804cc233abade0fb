use Rattle.std.proofs.Common.{◌≡◌, ◌+◌, ◌++◌, [], drop, take, map, length, replicate}
use Rattle.dy_module_numbers.specs.Modules.{created}
use Rattle.dy_module_numbers.proofs.modules.created.Given as goal

abbrev pub invariant-loop-placed : goal.invariant-loop-placed
invariant-loop-placed l = created l.m l.given (drop l.placed-index l.clauses) ≡ created l.m [] l.clauses

use Rattle.std.proofs.Common.{◌≡◌, ◌+◌, ◌++◌, [], drop, take, map, length, replicate}
use Rattle.dy_module_numbers.specs.Modules.{listed}
use Rattle.dy_module_numbers.proofs.modules.listed.Given as goal

abbrev pub invariant-loop-placed : goal.invariant-loop-placed
invariant-loop-placed l = listed l.set (drop l.placed-index l.clauses) ≡ listed [] l.clauses

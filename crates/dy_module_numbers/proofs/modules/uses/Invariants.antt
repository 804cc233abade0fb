use Rattle.std.proofs.Common.{◌≡◌, ◌+◌, ◌++◌, [], drop, take, map, length, replicate}
use Rattle.dy_module_numbers.specs.Modules.{uses}
use Rattle.dy_module_numbers.proofs.modules.uses.Given as goal

abbrev pub invariant-loop-placed : goal.invariant-loop-placed
invariant-loop-placed l = l.list ++ uses l.naming.own l.naming.imported l.naming.nothing (drop l.placed-index l.clauses) ≡ uses l.naming.own l.naming.imported l.naming.nothing l.clauses

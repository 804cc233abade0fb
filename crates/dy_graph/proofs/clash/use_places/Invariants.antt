use Rattle.std.proofs.Common.{◌≡◌, ◌++◌, drop}
use Rattle.dy_graph.specs.Faults.{use_places}
use Rattle.dy_graph.proofs.clash.use_places.Given as goal

abbrev pub invariant-loop-placed : goal.invariant-loop-placed
invariant-loop-placed l = l.places ++ use_places (drop l.placed-index l.clauses) ≡ use_places l.clauses

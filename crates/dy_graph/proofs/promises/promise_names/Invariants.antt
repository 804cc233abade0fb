use Rattle.std.proofs.Common.{◌≡◌, ◌++◌, drop, map as list_map}
use Rattle.dy_graph.specs.Judged.{promise_of}
use Rattle.dy_graph.proofs.promises.promise_names.Given as goal

abbrev pub invariant-loop-name : goal.invariant-loop-name
invariant-loop-name l = l.promises ++ list_map (promise_of l.number l.place) (drop l.name-index l.names) ≡ l.fn.promises ++ list_map (promise_of l.number l.place) l.names

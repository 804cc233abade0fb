use Rattle.dy_graph.proofs.Promised.{Coming}
use Rattle.dy_graph.proofs.promises.promises.Given as goal

abbrev pub invariant-loop-number : goal.invariant-loop-number
invariant-loop-number l = Coming l.naming.own l.naming.imported l.naming.nothing l.made.modules.now l.forms l.promises l.number

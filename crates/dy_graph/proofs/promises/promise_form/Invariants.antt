use Rattle.dy_graph.proofs.Promised.{Going}
use Rattle.dy_graph.proofs.promises.promise_form.Given as goal

abbrev pub invariant-loop-placed : goal.invariant-loop-placed
invariant-loop-placed l = Going l.naming.own l.naming.imported l.naming.nothing l.made.modules.now l.number l.form.clauses l.fn.promises l.promises l.placed-index

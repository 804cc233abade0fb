use Rattle.std.proofs.Common.{subst}
use Rattle.std.proofs.Common.{Option}
use Rattle.dy_tree.specs.declared.expression.ForClause.{ForClause}
use Rattle.dy_read_statements.specs.ReadLoops.{ForDepth}
use Rattle.dy_read_statements.proofs.LoopHeads.{fors_deeper, clauses_head}
use Rattle.dy_read_statements.proofs.loop_head.with_clause.Goals as goal

pub returns-in_ok-push-in-Some-clause-depth : goal.returns-in_ok-push-in-Some-clause-depth
returns-in_ok-push-in-Some-clause-depth c outer old new e f =
    clauses_head outer new c.push.new.self.items
    (fors_deeper outer old new c.args.clauses.items c.push.new.self.items c.in-Some.clause c.in_ok-push-in-Some.ensures.items e (subst (λ (clause : Option ForClause). ForDepth old new clause) c.in-Some.is f))

use Rattle.std.proofs.Common.{Option, Some, subst}
use Rattle.dy_tree.specs.declared.variables.Variable.{Variable}
use Rattle.dy_read_types.specs.VariableFronts.{VariableDepth}
use Rattle.dy_read_types.proofs.VariableParts.{deeper}
use Rattle.dy_read_types.proofs.targets.last_bound.Goals as goal

pub returns-in_ok-push-in-Some-2-clause-depth : goal.returns-in_ok-push-in-Some-2-clause-depth
returns-in_ok-push-in-Some-2-clause-depth c outer e =
    let more : VariableDepth c.args.depth.now c.variable_items.new.depth (Some c.in-Some-2.variable) = subst (λ (found : Option Variable). VariableDepth c.args.depth.now c.variable_items.new.depth found) c.in-Some-2.is c.in_ok-variable.ensures.depth in
    deeper outer c.args.depth.now c.variable_items.new.depth c.args.variables.items c.push.new.self.items c.in-Some-2.variable c.in_ok-push-in-Some-2.ensures.items e more

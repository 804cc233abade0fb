use Rattle.std.proofs.Common.{max, sym, ap, ◌∙◌}
use Rattle.dy_tree.specs.declared.expression.Expression.{Expression}
use Rattle.dy_rules.specs.Depth.{depth, variable_depth}
use Rattle.dy_read_outers.specs.ReadTrees.{read_tree}
use Rattle.dy_read_types.specs.VariableFronts.{read_variable}
use Rattle.dy_read_arms.proofs.Maxima.{three_deep}
use Rattle.dy_read_statements.proofs.clause_nodes.then_whole.Goals as goal

pub returns-clause-depth : goal.returns-clause-depth
returns-clause-depth c outer e =
    three_deep outer (variable_depth (read_variable c.args.variable)) (depth (read_tree c.into_inner.result)) (depth (read_tree c.into_inner-2.result)) _ _ _ e
    (c.deepen.ensures ∙ ap (max _) (c.args.first.depth_is ∙ ap (λ (tree : Expression). depth (read_tree tree)) (sym c.into_inner.ensures)))
    (c.deepen-2.ensures ∙ ap (max _) (c.args.next.depth_is ∙ ap (λ (tree : Expression). depth (read_tree tree)) (sym c.into_inner-2.ensures)))

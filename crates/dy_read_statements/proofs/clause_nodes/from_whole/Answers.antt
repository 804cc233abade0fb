use Rattle.std.proofs.Common.{max, sym, ap, ◌∙◌}
use Rattle.dy_rules.specs.Depth.{depth, variable_depth, for_clause_depth, limit_depth, maybe_depth}
use Rattle.dy_rules.specs.Trees as trees
use Rattle.dy_rules_depth.specs.Changes.{changed_for}
use Rattle.dy_rules_depth.specs.Capping.{filling}
use Rattle.dy_read_outers.specs.Grown.{read_grown}
use Rattle.dy_read_types.specs.VariableFronts.{read_variable}
use Rattle.dy_read_statements.specs.ReadLoops.{read_bounded, read_step}
use Rattle.dy_read_arms.proofs.Maxima.{four_deep}
use Rattle.dy_read_statements.proofs.clause_nodes.from_whole.Goals as goal

pub returns-clause-found : goal.returns-clause-found
returns-clause-found c = ap (changed_for filling) c.from_form.ensures ∙ cc (c.limit_form-limit.ensures.read, c.step_form-step.ensures.read)

pub returns-clause-depth : goal.returns-clause-depth
returns-clause-depth c outer e =
    four_deep outer (variable_depth (read_variable c.args.variable)) (depth (read_grown c.args.start)) (limit_depth (read_bounded c.args.range.limit)) (maybe_depth (read_step c.args.range.step)) _ _ _ _ e
    (c.deepen.ensures ∙ ap (max _) c.args.start.depth_is) c.limit_form-limit.ensures.depth c.step_form-step.ensures.depth
    ∙ ap (λ (form : trees.ForClause). max outer (for_clause_depth form)) (sym (returns-clause-found c))

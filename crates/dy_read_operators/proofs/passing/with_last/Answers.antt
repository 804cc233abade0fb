use Rattle.std.proofs.Common.{◌≡◌, ap, ◌∙◌}
use Rattle.dy_tree.specs.declared.expression.Expression.{Expression}
use Rattle.dy_rules.specs.SeenForms.{seen_tree}
use Rattle.dy_rules.specs.Reading.{with_last}
use Rattle.dy_read_outers.specs.ReadTrees.{seen_list}
use Rattle.dy_read_operators.proofs.PassingSteps.{last_seen, last_deepest, last_within}
use Rattle.dy_read_operators.proofs.passing.with_last.Goals as goal

pub invariant_of-result : goal.invariant_of-result
invariant_of-result c =
    let pushed : seen_list c.push.new.self.items ≡ with_last (seen_list c.args.passed.arguments.items) c.args.keyword (seen_tree c.args.tree.tree.value) = ap seen_list c.in_ok-push.ensures.items ∙ last_seen c.args.passed.arguments.items c.argument_of-argument.result c.args.keyword _ c.argument_of-argument.ensures ∙ ap (λ (form : Expression). with_last (seen_list c.args.passed.arguments.items) c.args.keyword (seen_tree form)) c.into_inner.ensures in
    record {
      depth_is = last_deepest (seen_list c.args.passed.arguments.items) _ c.args.keyword (seen_tree c.args.tree.tree.value) c.args.passed.depth c.args.tree.depth _ pushed c.args.passed.depth_is c.args.tree.depth_is c.deepest-depth.ensures;
      within = last_within (seen_list c.args.passed.arguments.items) _ c.args.keyword (seen_tree c.args.tree.tree.value) pushed c.args.passed.within c.args.tree.within;
    }

use Rattle.std.proofs.Common.{◌≡◌, max, refl, sym, ap, ◌∙◌}
use Rattle.dy_rules.specs.Depth.{depth, maybe_depth, arms_depth, otherwise_depth}
use Rattle.dy_rules.specs.SeenForms.{seen_statement}
use Rattle.dy_rules.specs.StatementReading.{select_of}
use Rattle.dy_rules.specs.Trees.{maybe_of, arms_of}
use Rattle.dy_rules_depth.specs.Capping.{capped}
use Rattle.dy_read_arms.specs.Arms.{read_choices}
use Rattle.dy_read_statements.specs.Heads.{read_head}
use Rattle.dy_read_outers.specs.Grown.{read_grown}
use Rattle.dy_read_statements.specs.FilledInside.{filled_inside}
use Rattle.dy_read_statements.proofs.Arms.{select_filled, select_deep}
use Rattle.dy_read_arms.proofs.Maxima.{max_zero}
use Rattle.dy_read_arms.proofs.Results.{read_as}
use Rattle.dy_read_statements.proofs.arm_nodes.select_within.Goals as goal

pub statement_within-requires : goal.statement_within-requires
statement_within-requires c =
    let made : filled_inside (seen_statement c.select_tree-tree.result) ≡ select_of c.args.word.now (read_head c.args.head) (read_choices c.args.choices) =
    select_filled (seen_statement c.select_tree-tree.result) c.args.word.now _ _ c.boxed_test-test.result (read_head c.args.head) c.args.choices.arms c.args.choices.last c.select_tree-tree.ensures c.in_ok-copy.ensures refl c.boxed_test-test.ensures.test
    in
    let head = read_head c.args.head in
    let found = read_choices c.args.choices in
    let rest = max (arms_depth (arms_of found.arms)) (otherwise_depth found.last) in
    let deep : c.args.choices.depth ≡ rest = c.args.choices.depth_is ∙ sym (max_zero rest) in
    select_deep (depth head.selected) (maybe_depth (maybe_of head.test)) rest _ _ _ (ap depth made) (c.deepest-inside.ensures ∙ cc (c.args.head.selected.depth_is, deep)) c.boxed_test-test.ensures.depth

pub returns : goal.returns
returns c =
    let made : filled_inside (seen_statement c.select_tree-tree.result) ≡ select_of c.args.word.now (read_head c.args.head) (read_choices c.args.choices) =
    select_filled (seen_statement c.select_tree-tree.result) c.args.word.now _ _ c.boxed_test-test.result (read_head c.args.head) c.args.choices.arms c.args.choices.last c.select_tree-tree.ensures c.in_ok-copy.ensures refl c.boxed_test-test.ensures.test
    in
    read_as read_grown c.statement_within.result _ _ (ap capped made) c.statement_within.ensures

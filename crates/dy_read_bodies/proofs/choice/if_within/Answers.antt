use Rattle.std.proofs.Common.{◌≡◌, max, refl, ap, ◌∙◌}
use Rattle.dy_rules.specs.Depth.{depth, body_depth}
use Rattle.dy_rules.specs.SeenForms.{seen_statement, seen_tree}
use Rattle.dy_rules.specs.StatementReading.{if_of}
use Rattle.dy_rules.specs.Trees.{body_of}
use Rattle.dy_read_statements.specs.ReadBranches.{others_depth}
use Rattle.dy_rules_depth.specs.Capping.{capped}
use Rattle.dy_read_statements.specs.Branches.{read_others}
use Rattle.dy_read_outers.specs.Grown.{read_grown}
use Rattle.dy_read_statements.specs.FilledInside.{filled_inside}
use Rattle.dy_read_arms.specs.ReadBodies.{read_items}
use Rattle.dy_read_statements.proofs.Branches.{if_filled, if_deep}
use Rattle.dy_read_arms.proofs.Results.{read_as}
use Rattle.dy_read_bodies.proofs.choice.if_within.Goals as goal

pub statement_within-requires : goal.statement_within-requires
statement_within-requires c =
    let made : filled_inside (seen_statement c.if_tree-tree.result) ≡ if_of c.args.word.now (read_grown c.args.test) (read_items c.args.body) (read_others c.args.others) =
    if_filled (seen_statement c.if_tree-tree.result) c.args.word.now _ _ (seen_tree c.args.test.tree.value) c.args.body.items c.args.others.alternatives.items c.args.others.otherwise c.if_tree-tree.ensures c.in_ok-copy.ensures refl
    in
    if_deep (depth (read_grown c.args.test)) (body_depth (body_of (read_items c.args.body))) (others_depth (read_others c.args.others)) _ _ _ (ap depth made)
    (c.deepest.ensures ∙ cc (c.args.test.depth_is, c.requires)) (c.deepest-inside.ensures ∙ ap (max _) c.args.others.depth_is)

pub returns : goal.returns
returns c =
    let made : filled_inside (seen_statement c.if_tree-tree.result) ≡ if_of c.args.word.now (read_grown c.args.test) (read_items c.args.body) (read_others c.args.others) =
    if_filled (seen_statement c.if_tree-tree.result) c.args.word.now _ _ (seen_tree c.args.test.tree.value) c.args.body.items c.args.others.alternatives.items c.args.others.otherwise c.if_tree-tree.ensures c.in_ok-copy.ensures refl
    in
    read_as read_grown c.statement_within.result _ _ (ap capped made) c.statement_within.ensures

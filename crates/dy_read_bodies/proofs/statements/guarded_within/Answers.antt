use Rattle.std.proofs.Common.{◌≡◌, ◌+◌, refl, ap, arith}
use Rattle.dy_rules.specs.Depth.{depth}
use Rattle.dy_rules.specs.SeenForms.{seen_statement, seen_tree}
use Rattle.dy_rules.specs.StatementReading.{guarded_of}
use Rattle.dy_rules_depth.specs.Capping.{capped}
use Rattle.dy_read_outers.specs.Grown.{read_grown}
use Rattle.dy_read_statements.specs.FilledInside.{filled_inside}
use Rattle.dy_read_arms.specs.ReadBodies.{read_items}
use Rattle.dy_read_statements.proofs.Statements.{guarded_filled}
use Rattle.dy_read_arms.proofs.Results.{read_as}
use Rattle.dy_read_bodies.proofs.statements.guarded_within.Goals as goal

pub statement_within-requires : goal.statement_within-requires
statement_within-requires c =
    let made : filled_inside (seen_statement c.guarded_tree-tree.result) ≡ guarded_of c.args.guard c.args.word.now (read_grown c.args.test) (read_items c.args.body) =
    guarded_filled (seen_statement c.guarded_tree-tree.result) c.args.guard c.args.word.now _ _ (seen_tree c.args.test.tree.value) c.args.body.items c.guarded_tree-tree.ensures c.in_ok-copy.ensures refl
    in
    let deep = ap depth made in
    omega (arith, c.requires, c.args.test.depth_is, c.deepest-inside.ensures)

pub returns : goal.returns
returns c =
    let made : filled_inside (seen_statement c.guarded_tree-tree.result) ≡ guarded_of c.args.guard c.args.word.now (read_grown c.args.test) (read_items c.args.body) =
    guarded_filled (seen_statement c.guarded_tree-tree.result) c.args.guard c.args.word.now _ _ (seen_tree c.args.test.tree.value) c.args.body.items c.guarded_tree-tree.ensures c.in_ok-copy.ensures refl
    in
    read_as read_grown c.statement_within.result _ _ (ap capped made) c.statement_within.ensures

use Rattle.std.proofs.Common.{◌≡◌, ◌+◌, ap, arith}
use Rattle.dy_rules.specs.Depth.{depth}
use Rattle.dy_rules.specs.SeenForms.{seen_statement}
use Rattle.dy_rules.specs.StatementReading.{begin_of}
use Rattle.dy_rules_depth.specs.Capping.{capped}
use Rattle.dy_read_outers.specs.Grown.{read_grown}
use Rattle.dy_read_statements.specs.FilledInside.{filled_inside}
use Rattle.dy_read_arms.specs.ReadBodies.{read_items}
use Rattle.dy_read_statements.proofs.Statements.{begin_filled}
use Rattle.dy_read_arms.proofs.Results.{read_as}
use Rattle.dy_read_bodies.proofs.statements.begin_within.Goals as goal

pub statement_within-requires : goal.statement_within-requires
statement_within-requires c =
    let made : filled_inside (seen_statement c.begin_tree-tree.result) ≡ begin_of c.args.word.now (read_items c.args.body) = begin_filled (seen_statement c.begin_tree-tree.result) c.args.word.now _ c.args.body.items c.begin_tree-tree.ensures c.in_ok-copy.ensures in
    let deep = ap depth made in
    omega (arith, c.requires)

pub returns : goal.returns
returns c =
    let made : filled_inside (seen_statement c.begin_tree-tree.result) ≡ begin_of c.args.word.now (read_items c.args.body) = begin_filled (seen_statement c.begin_tree-tree.result) c.args.word.now _ c.args.body.items c.begin_tree-tree.ensures c.in_ok-copy.ensures in
    read_as read_grown c.statement_within.result _ _ (ap capped made) c.statement_within.ensures

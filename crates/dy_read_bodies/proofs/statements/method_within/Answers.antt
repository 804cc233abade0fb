use Rattle.std.proofs.Common.{◌≡◌, ◌+◌, ap, arith}
use Rattle.dy_rules.specs.Depth.{depth}
use Rattle.dy_rules.specs.SeenForms.{seen_parameters, seen_statement}
use Rattle.dy_rules_depth.specs.Capping.{capped}
use Rattle.dy_read_outers.specs.Grown.{read_grown}
use Rattle.dy_read_statements.specs.FilledInside.{filled_inside}
use Rattle.dy_read_statements.specs.ReadMethods.{read_parts}
use Rattle.dy_read_statements.specs.ReadStatements.{method_of}
use Rattle.dy_read_statements.proofs.Statements.{method_filled}
use Rattle.dy_read_arms.proofs.Results.{read_as}
use Rattle.dy_read_bodies.proofs.statements.method_within.Goals as goal

pub statement_within-requires : goal.statement_within-requires
statement_within-requires c =
    let made : filled_inside (seen_statement c.method_tree-tree.result) ≡ method_of c.args.word.now (read_parts c.args.method) =
    method_filled (seen_statement c.method_tree-tree.result) c.args.word.now _ _ (seen_parameters c.args.method.parameters) c.args.method.body.items c.method_tree-tree.ensures c.in_ok-copy.ensures (ap seen_parameters c.in_ok-parameters.ensures.ok)
    in
    let deep = ap depth made in
    omega (arith, c.requires)

pub returns : goal.returns
returns c =
    let made : filled_inside (seen_statement c.method_tree-tree.result) ≡ method_of c.args.word.now (read_parts c.args.method) =
    method_filled (seen_statement c.method_tree-tree.result) c.args.word.now _ _ (seen_parameters c.args.method.parameters) c.args.method.body.items c.method_tree-tree.ensures c.in_ok-copy.ensures (ap seen_parameters c.in_ok-parameters.ensures.ok)
    in
    read_as read_grown c.statement_within.result _ _ (ap capped made) c.statement_within.ensures

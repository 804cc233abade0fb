use Rattle.std.proofs.Common.{◌≡◌, ◌+◌, map, ap, ◌∙◌, arith}
use Rattle.std.proofs.lemmas.Result.{IfOk-weaker}
use Rattle.dy_rules.specs.Blocks.{block_of}
use Rattle.dy_rules.specs.Depth.{depth}
use Rattle.dy_rules.specs.SeenForms.{seen_clause, seen_item, seen_statement}
use Rattle.dy_rules_depth.specs.Capping.{capped}
use Rattle.dy_read_statements.specs.FilledInside.{filled_inside}
use Rattle.dy_read_outers.specs.Grown.{read_grown}
use Rattle.dy_read_arms.specs.ReadBodies.{read_items, read_clauses}
use Rattle.dy_read_outers.specs.declared.grown.Grown.{Grown}
use Rattle.dy_read_statements.proofs.Blocks.{block_filled}
use Rattle.dy_read_bodies.proofs.blocks.block_within.Goals as goal

pub statement_within-requires : goal.statement_within-requires
statement_within-requires c =
    let made : filled_inside (seen_statement c.block_tree-tree.result) ≡ block_of c.args.word.now c.args.exit (read_items c.args.body) (read_clauses c.args.clauses) =
    block_filled c.args.word.now _ c.args.exit (map seen_item c.args.body.items) (map seen_clause c.args.clauses.items) (seen_statement c.block_tree-tree.result) c.block_tree-tree.ensures c.in_ok-copy.ensures
    in
    let deep = ap depth made in
    omega (arith, c.requires)

pub returns : goal.returns
returns c =
    let made : filled_inside (seen_statement c.block_tree-tree.result) ≡ block_of c.args.word.now c.args.exit (read_items c.args.body) (read_clauses c.args.clauses) =
    block_filled c.args.word.now _ c.args.exit (map seen_item c.args.body.items) (map seen_clause c.args.clauses.items) (seen_statement c.block_tree-tree.result) c.block_tree-tree.ensures c.in_ok-copy.ensures
    in
    IfOk-weaker c.statement_within.result _ (λ (grown : Grown). read_grown grown ≡ capped (block_of c.args.word.now c.args.exit (read_items c.args.body) (read_clauses c.args.clauses))) (λ grown e. e ∙ ap capped made) c.statement_within.ensures

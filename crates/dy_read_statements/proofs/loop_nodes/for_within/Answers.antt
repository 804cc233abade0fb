use Rattle.std.proofs.Common.{◌≡◌, ◌+◌, ℕ, sym, ap, ◌∙◌}
use Rattle.std.proofs.lemmas.Result.{IfOk-weaker}
use Rattle.dy_rules.specs.Depth.{depth}
use Rattle.dy_rules.specs.Loops.{for_of}
use Rattle.dy_rules.specs.SeenForms.{seen_statement}
use Rattle.dy_rules_depth.specs.Capping.{capped}
use Rattle.dy_read_statements.specs.FilledInside.{filled_inside}
use Rattle.dy_read_outers.specs.Grown.{read_grown}
use Rattle.dy_rules.specs.Held.{held_stop}
use Rattle.dy_read_statements.specs.LoopHeads.{read_head}
use Rattle.dy_read_statements.specs.Loops.{read_last}
use Rattle.dy_read_arms.specs.ReadBodies.{read_items}
use Rattle.dy_read_outers.specs.declared.grown.Grown.{Grown}
use Rattle.dy_read_statements.proofs.Loops.{loop_within}
use Rattle.dy_read_statements.proofs.loop_nodes.for_within.Goals as goal

pub statement_within-requires : goal.statement_within-requires
statement_within-requires c =
    let made : filled_inside (seen_statement c.for_tree-tree.result) ≡ for_of c.args.word.now (read_head c.args.head) (read_items c.args.body) (read_last c.args.last) =
    loop_within (seen_statement c.for_tree-tree.result) c.args.word.now _ c.args.head (held_stop c.in_ok-stop.stop) c.args.body c.args.last c.for_tree-tree.ensures c.in_ok-copy.ensures c.in_ok-stop.ensures
    in
    ap depth made ∙ ap (λ (n : ℕ). 1 + n) (sym c.requires)

pub returns : goal.returns
returns c =
    let made : filled_inside (seen_statement c.for_tree-tree.result) ≡ for_of c.args.word.now (read_head c.args.head) (read_items c.args.body) (read_last c.args.last) =
    loop_within (seen_statement c.for_tree-tree.result) c.args.word.now _ c.args.head (held_stop c.in_ok-stop.stop) c.args.body c.args.last c.for_tree-tree.ensures c.in_ok-copy.ensures c.in_ok-stop.ensures
    in
    IfOk-weaker c.statement_within.result _ (λ (grown : Grown). read_grown grown ≡ capped (for_of c.args.word.now (read_head c.args.head) (read_items c.args.body) (read_last c.args.last))) (λ grown e. e ∙ ap capped made) c.statement_within.ensures

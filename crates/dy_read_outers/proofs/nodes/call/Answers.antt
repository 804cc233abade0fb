use Rattle.std.proofs.Common.{◌≡◌, sym, ◌∙◌}
use Rattle.std.proofs.lemmas.Result.{IfOk-weaker}
use Rattle.dy_rules.specs.SeenForms.{seen_tree}
use Rattle.dy_rules.specs.Trees as trees
use Rattle.dy_rules_depth.specs.Capping.{capped}
use Rattle.dy_read_outers.specs.declared.grown.Grown.{Grown}
use Rattle.dy_read_outers.specs.Grown.{read_grown}
use Rattle.dy_read_outers.specs.Passed.{read_passed}
use Rattle.dy_read_outers.specs.ReadTrees.{seen_list}
use Rattle.dy_read_outers.proofs.GrownNodes.{call_made, call_beyond}
use Rattle.dy_read_outers.proofs.nodes.call.Goals as goal

pub grown-requires : goal.grown-requires
grown-requires c =
    let made = call_made (seen_tree c.args.function.tree.value) (seen_list c.args.passed.arguments.items) (seen_tree c.call_of-tree.result) c.args.function.depth c.args.passed.depth c.deepest-inside.result c.call_of-tree.ensures c.args.function.depth_is c.args.passed.depth_is c.deepest-inside.ensures c.if-inside-lt-DEPTH_LIMIT.true in
    record { depth_is = made.depth_is; within = made.within }

pub returns-then-inside-lt-DEPTH_LIMIT : goal.returns-then-inside-lt-DEPTH_LIMIT
returns-then-inside-lt-DEPTH_LIMIT c =
    let made = call_made (seen_tree c.args.function.tree.value) (seen_list c.args.passed.arguments.items) (seen_tree c.call_of-tree.result) c.args.function.depth c.args.passed.depth c.deepest-inside.result c.call_of-tree.ensures c.args.function.depth_is c.args.passed.depth_is c.deepest-inside.ensures c.if-inside-lt-DEPTH_LIMIT.true in
    IfOk-weaker c.grown.result _ (λ (grown : Grown). read_grown grown ≡ capped (trees.call (read_grown c.args.function) (trees.arguments_of (read_passed c.args.passed)))) (λ grown e. e ∙ made.whole) c.grown.ensures

pub returns-else-inside-lt-DEPTH_LIMIT : goal.returns-else-inside-lt-DEPTH_LIMIT
returns-else-inside-lt-DEPTH_LIMIT c =
    IfOk-weaker c.too_deep.result _ (λ (grown : Grown). read_grown grown ≡ capped (trees.call (read_grown c.args.function) (trees.arguments_of (read_passed c.args.passed)))) (λ grown e. e ∙ sym (call_beyond (read_grown c.args.function) (read_passed c.args.passed) c.args.function.depth c.args.passed.depth c.deepest-inside.result c.args.function.depth_is c.args.passed.depth_is c.deepest-inside.ensures c.if-inside-lt-DEPTH_LIMIT.false)) c.too_deep.ensures

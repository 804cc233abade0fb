use Rattle.std.proofs.Common.{◌≡◌, refl, sym, ◌∙◌}
use Rattle.std.proofs.lemmas.Result.{IfOk-weaker}
use Rattle.dy_rules.specs.SeenForms.{seen_tree}
use Rattle.dy_rules.specs.Trees as trees
use Rattle.dy_rules_depth.specs.Capping.{capped}
use Rattle.dy_read_outers.specs.declared.grown.Grown.{Grown}
use Rattle.dy_read_outers.specs.Grown.{read_grown}
use Rattle.dy_read_outers.proofs.GrownNodes.{operation_made, operation_beyond}
use Rattle.dy_read_outers.proofs.nodes.operation.Goals as goal

pub grown-requires : goal.grown-requires
grown-requires c =
    let made = operation_made c.args.precedence (seen_tree c.args.left.tree.value) c.args.sign (seen_tree c.args.right.tree.value) (trees.operation c.args.precedence (seen_tree c.args.left.tree.value) c.args.sign (seen_tree c.args.right.tree.value)) c.args.left.depth c.args.right.depth c.deepest-inside.result refl c.args.left.depth_is c.args.right.depth_is c.deepest-inside.ensures c.if-inside-lt-DEPTH_LIMIT.true in
    record { depth_is = made.depth_is; within = made.within }

pub returns-then-inside-lt-DEPTH_LIMIT : goal.returns-then-inside-lt-DEPTH_LIMIT
returns-then-inside-lt-DEPTH_LIMIT c =
    let made = operation_made c.args.precedence (seen_tree c.args.left.tree.value) c.args.sign (seen_tree c.args.right.tree.value) (trees.operation c.args.precedence (seen_tree c.args.left.tree.value) c.args.sign (seen_tree c.args.right.tree.value)) c.args.left.depth c.args.right.depth c.deepest-inside.result refl c.args.left.depth_is c.args.right.depth_is c.deepest-inside.ensures c.if-inside-lt-DEPTH_LIMIT.true in
    IfOk-weaker c.grown.result _ (λ (grown : Grown). read_grown grown ≡ capped (trees.operation c.args.precedence (read_grown c.args.left) c.args.sign (read_grown c.args.right))) (λ grown e. e ∙ made.whole) c.grown.ensures

pub returns-else-inside-lt-DEPTH_LIMIT : goal.returns-else-inside-lt-DEPTH_LIMIT
returns-else-inside-lt-DEPTH_LIMIT c =
    IfOk-weaker c.too_deep.result _ (λ (grown : Grown). read_grown grown ≡ capped (trees.operation c.args.precedence (read_grown c.args.left) c.args.sign (read_grown c.args.right))) (λ grown e. e ∙ sym (operation_beyond c.args.precedence (read_grown c.args.left) c.args.sign (read_grown c.args.right) c.args.left.depth c.args.right.depth c.deepest-inside.result c.args.left.depth_is c.args.right.depth_is c.deepest-inside.ensures c.if-inside-lt-DEPTH_LIMIT.false)) c.too_deep.ensures

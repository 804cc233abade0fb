use Rattle.std.proofs.Common.{◌≡◌, refl, sym, ◌∙◌}
use Rattle.std.proofs.lemmas.Result.{IfOk-weaker}
use Rattle.dy_rules.specs.SeenForms.{seen_tree}
use Rattle.dy_rules.specs.Trees as trees
use Rattle.dy_rules_depth.specs.Capping.{capped}
use Rattle.dy_read_outers.specs.declared.grown.Grown.{Grown}
use Rattle.dy_read_outers.specs.Grown.{read_grown}
use Rattle.dy_read_outers.proofs.GrownNodes.{unary_made, unary_beyond}
use Rattle.dy_read_outers.proofs.nodes.unary.Goals as goal

pub grown-requires : goal.grown-requires
grown-requires c =
    let made = unary_made c.args.sign (seen_tree c.args.operand.tree.value) (trees.unary c.args.sign (seen_tree c.args.operand.tree.value)) c.args.operand.depth c.args.operand.depth refl c.args.operand.depth_is refl c.if-inside-lt-DEPTH_LIMIT.true in
    record { depth_is = made.depth_is; within = made.within }

pub returns-then-inside-lt-DEPTH_LIMIT : goal.returns-then-inside-lt-DEPTH_LIMIT
returns-then-inside-lt-DEPTH_LIMIT c =
    let made = unary_made c.args.sign (seen_tree c.args.operand.tree.value) (trees.unary c.args.sign (seen_tree c.args.operand.tree.value)) c.args.operand.depth c.args.operand.depth refl c.args.operand.depth_is refl c.if-inside-lt-DEPTH_LIMIT.true in
    IfOk-weaker c.grown.result _ (λ (grown : Grown). read_grown grown ≡ capped (trees.unary c.args.sign (read_grown c.args.operand))) (λ grown e. e ∙ made.whole) c.grown.ensures

pub returns-else-inside-lt-DEPTH_LIMIT : goal.returns-else-inside-lt-DEPTH_LIMIT
returns-else-inside-lt-DEPTH_LIMIT c =
    IfOk-weaker c.too_deep.result _ (λ (grown : Grown). read_grown grown ≡ capped (trees.unary c.args.sign (read_grown c.args.operand))) (λ grown e. e ∙ sym (unary_beyond c.args.sign (read_grown c.args.operand) c.args.operand.depth c.args.operand.depth c.args.operand.depth_is refl c.if-inside-lt-DEPTH_LIMIT.false)) c.too_deep.ensures

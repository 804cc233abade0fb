use Rattle.std.proofs.Common.{◌≡◌, sym, ap, ◌∙◌}
use Rattle.std.proofs.lemmas.Result.{IfOk-weaker}
use Rattle.dy_tree.specs.declared.token.Token.{Token}
use Rattle.dy_rules.specs.SeenForms.{seen_tree}
use Rattle.dy_rules.specs.Trees as trees
use Rattle.dy_rules_depth.specs.Capping.{capped}
use Rattle.dy_read_outers.specs.declared.grown.Grown.{Grown}
use Rattle.dy_read_outers.specs.Grown.{read_grown}
use Rattle.dy_read_outers.proofs.GrownNodes.{element_made, element_beyond}
use Rattle.dy_read_outers.proofs.nodes.element.Goals as goal

pub grown-requires : goal.grown-requires
grown-requires c =
    let made = element_made (seen_tree c.args.object.tree.value) c.args.opener.now (seen_tree c.args.index.tree.value) (trees.element (seen_tree c.args.object.tree.value) c.in_ok-opener.opener (seen_tree c.args.index.tree.value)) c.args.object.depth c.args.index.depth c.deepest-inside.result (ap (λ (token : Token). trees.element (seen_tree c.args.object.tree.value) token (seen_tree c.args.index.tree.value)) c.in_ok-opener.ensures) c.args.object.depth_is c.args.index.depth_is c.deepest-inside.ensures c.if-inside-lt-DEPTH_LIMIT.true in
    record { depth_is = made.depth_is; within = made.within }

pub returns-in_ok-opener : goal.returns-in_ok-opener
returns-in_ok-opener c =
    let made = element_made (seen_tree c.args.object.tree.value) c.args.opener.now (seen_tree c.args.index.tree.value) (trees.element (seen_tree c.args.object.tree.value) c.in_ok-opener.opener (seen_tree c.args.index.tree.value)) c.args.object.depth c.args.index.depth c.deepest-inside.result (ap (λ (token : Token). trees.element (seen_tree c.args.object.tree.value) token (seen_tree c.args.index.tree.value)) c.in_ok-opener.ensures) c.args.object.depth_is c.args.index.depth_is c.deepest-inside.ensures c.if-inside-lt-DEPTH_LIMIT.true in
    IfOk-weaker c.grown.result _ (λ (grown : Grown). read_grown grown ≡ capped (trees.element (read_grown c.args.object) c.args.opener.now (read_grown c.args.index))) (λ grown e. e ∙ made.whole) c.grown.ensures

pub returns-else-inside-lt-DEPTH_LIMIT : goal.returns-else-inside-lt-DEPTH_LIMIT
returns-else-inside-lt-DEPTH_LIMIT c =
    IfOk-weaker c.too_deep.result _ (λ (grown : Grown). read_grown grown ≡ capped (trees.element (read_grown c.args.object) c.args.opener.now (read_grown c.args.index))) (λ grown e. e ∙ sym (element_beyond (read_grown c.args.object) c.args.opener.now (read_grown c.args.index) c.args.object.depth c.args.index.depth c.deepest-inside.result c.args.object.depth_is c.args.index.depth_is c.deepest-inside.ensures c.if-inside-lt-DEPTH_LIMIT.false)) c.too_deep.ensures

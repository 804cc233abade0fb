use Rattle.std.proofs.Common.{◌≡◌, refl, sym, ap, ◌∙◌}
use Rattle.std.proofs.lemmas.Result.{IfOk-weaker}
use Rattle.dy_rules.specs.SeenForms.{seen_tree}
use Rattle.dy_rules.specs.Trees as trees
use Rattle.dy_rules_depth.specs.Capping.{capped}
use Rattle.dy_read_outers.specs.declared.grown.Grown.{Grown}
use Rattle.dy_read_outers.specs.Grown.{read_grown}
use Rattle.dy_read_outers.proofs.GrownNodes.{member_made, member_beyond}
use Rattle.dy_read_outers.proofs.nodes.member.Goals as goal

pub grown-requires : goal.grown-requires
grown-requires c =
    let made = member_made (seen_tree c.args.object.tree.value) c.args.token.now (trees.member (seen_tree c.args.object.tree.value) c.in_ok-name.name) c.args.object.depth c.args.object.depth (ap (trees.member (seen_tree c.args.object.tree.value)) c.in_ok-name.ensures) c.args.object.depth_is refl c.if-inside-lt-DEPTH_LIMIT.true in
    record { depth_is = made.depth_is; within = made.within }

pub returns-in_ok-name : goal.returns-in_ok-name
returns-in_ok-name c =
    let made = member_made (seen_tree c.args.object.tree.value) c.args.token.now (trees.member (seen_tree c.args.object.tree.value) c.in_ok-name.name) c.args.object.depth c.args.object.depth (ap (trees.member (seen_tree c.args.object.tree.value)) c.in_ok-name.ensures) c.args.object.depth_is refl c.if-inside-lt-DEPTH_LIMIT.true in
    IfOk-weaker c.grown.result _ (λ (grown : Grown). read_grown grown ≡ capped (trees.member (read_grown c.args.object) c.args.token.now)) (λ grown e. e ∙ made.whole) c.grown.ensures

pub returns-else-inside-lt-DEPTH_LIMIT : goal.returns-else-inside-lt-DEPTH_LIMIT
returns-else-inside-lt-DEPTH_LIMIT c =
    IfOk-weaker c.too_deep.result _ (λ (grown : Grown). read_grown grown ≡ capped (trees.member (read_grown c.args.object) c.args.token.now)) (λ grown e. e ∙ sym (member_beyond (read_grown c.args.object) c.args.token.now c.args.object.depth c.args.object.depth c.args.object.depth_is refl c.if-inside-lt-DEPTH_LIMIT.false)) c.too_deep.ensures

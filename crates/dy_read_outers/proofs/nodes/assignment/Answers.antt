use Rattle.std.proofs.Common.{◌≡◌, refl, sym, ◌∙◌}
use Rattle.std.proofs.lemmas.Result.{IfOk-weaker}
use Rattle.dy_rules.specs.SeenForms.{seen_tree}
use Rattle.dy_rules.specs.Trees as trees
use Rattle.dy_rules_depth.specs.Capping.{capped}
use Rattle.dy_read_outers.specs.declared.grown.Grown.{Grown}
use Rattle.dy_read_outers.specs.Grown.{read_grown}
use Rattle.dy_read_outers.proofs.GrownNodes.{assignment_made, assignment_beyond}
use Rattle.dy_read_outers.proofs.nodes.assignment.Goals as goal

pub grown-requires : goal.grown-requires
grown-requires c =
    let made = assignment_made (seen_tree c.args.place.tree.value) (seen_tree c.args.value.tree.value) (trees.assignment (seen_tree c.args.place.tree.value) (seen_tree c.args.value.tree.value)) c.args.place.depth c.args.value.depth c.deepest-inside.result refl c.args.place.depth_is c.args.value.depth_is c.deepest-inside.ensures c.if-inside-lt-DEPTH_LIMIT.true in
    record { depth_is = made.depth_is; within = made.within }

pub returns-then-inside-lt-DEPTH_LIMIT : goal.returns-then-inside-lt-DEPTH_LIMIT
returns-then-inside-lt-DEPTH_LIMIT c =
    let made = assignment_made (seen_tree c.args.place.tree.value) (seen_tree c.args.value.tree.value) (trees.assignment (seen_tree c.args.place.tree.value) (seen_tree c.args.value.tree.value)) c.args.place.depth c.args.value.depth c.deepest-inside.result refl c.args.place.depth_is c.args.value.depth_is c.deepest-inside.ensures c.if-inside-lt-DEPTH_LIMIT.true in
    IfOk-weaker c.grown.result _ (λ (grown : Grown). read_grown grown ≡ capped (trees.assignment (read_grown c.args.place) (read_grown c.args.value))) (λ grown e. e ∙ made.whole) c.grown.ensures

pub returns-else-inside-lt-DEPTH_LIMIT : goal.returns-else-inside-lt-DEPTH_LIMIT
returns-else-inside-lt-DEPTH_LIMIT c =
    IfOk-weaker c.too_deep.result _ (λ (grown : Grown). read_grown grown ≡ capped (trees.assignment (read_grown c.args.place) (read_grown c.args.value))) (λ grown e. e ∙ sym (assignment_beyond (read_grown c.args.place) (read_grown c.args.value) c.args.place.depth c.args.value.depth c.deepest-inside.result c.args.place.depth_is c.args.value.depth_is c.deepest-inside.ensures c.if-inside-lt-DEPTH_LIMIT.false)) c.too_deep.ensures

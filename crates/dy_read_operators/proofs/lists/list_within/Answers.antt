use Rattle.std.proofs.Common.{◌≡◌, ◌+◌, sym, ◌∙◌, arith}
use Rattle.std.proofs.lemmas.Result.{IfOk-weaker}
use Rattle.dy_rules.specs.Fragments.{list_tree}
use Rattle.dy_rules.specs.SeenForms.{seen_tree}
use Rattle.dy_rules_depth.specs.Capping.{deep_tree}
use Rattle.dy_read_constants.specs.ConstantFronts.{read_inside}
use Rattle.dy_read_outers.specs.Grown.{read_grown}
use Rattle.dy_read_outers.specs.ReadTrees.{read_tree}
use Rattle.dy_read_outers.proofs.Fills.{Made}
use Rattle.dy_read_operators.specs.ListTrees.{capped_list}
use Rattle.dy_read_operators.proofs.ListTrees.{list_made, list_beyond}
use Rattle.dy_read_operators.proofs.lists.list_within.Goals as goal

pub grown-requires : goal.grown-requires
grown-requires c =
    let made : Made (seen_tree c.in_ok-tree.tree) (list_tree c.args.opener.now (read_inside c.args.found)) (c.args.inside + 1) = list_made c.args.opener.now c.args.found (seen_tree c.in_ok-tree.tree) c.args.inside c.in_ok-tree.ensures c.requires (omega arith) in
    record { depth_is = made.depth_is; within = made.within }

pub returns-in_ok-tree : goal.returns-in_ok-tree
returns-in_ok-tree c =
    let made : Made (seen_tree c.in_ok-tree.tree) (list_tree c.args.opener.now (read_inside c.args.found)) (c.args.inside + 1) = list_made c.args.opener.now c.args.found (seen_tree c.in_ok-tree.tree) c.args.inside c.in_ok-tree.ensures c.requires (omega arith) in
    IfOk-weaker c.grown.result (λ grown. read_grown grown ≡ read_tree c.in_ok-tree.tree) (λ grown. read_grown grown ≡ capped_list c.args.opener.now (read_inside c.args.found)) (λ grown e. e ∙ made.whole) c.grown.ensures

pub returns-else-inside-lt-DEPTH_LIMIT : goal.returns-else-inside-lt-DEPTH_LIMIT
returns-else-inside-lt-DEPTH_LIMIT c =
    let deep = list_beyond c.args.opener.now (read_inside c.args.found) c.args.inside c.requires (omega arith) in
    IfOk-weaker c.too_deep.result (λ grown. read_grown grown ≡ deep_tree) (λ grown. read_grown grown ≡ capped_list c.args.opener.now (read_inside c.args.found)) (λ grown e. e ∙ sym deep) c.too_deep.ensures

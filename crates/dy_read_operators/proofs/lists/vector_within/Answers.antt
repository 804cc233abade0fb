use Rattle.std.proofs.Common.{◌≡◌, ◌+◌, sym, ◌∙◌, arith}
use Rattle.std.proofs.lemmas.Result.{IfOk-weaker}
use Rattle.dy_rules.specs.Fragments.{vector_tree}
use Rattle.dy_rules.specs.SeenForms.{seen_tree}
use Rattle.dy_rules_depth.specs.Capping.{deep_tree}
use Rattle.dy_read_constants.specs.ConstantFronts.{read_vector}
use Rattle.dy_read_outers.specs.Grown.{read_grown}
use Rattle.dy_read_outers.specs.ReadTrees.{read_tree}
use Rattle.dy_read_outers.proofs.Fills.{Made}
use Rattle.dy_read_operators.specs.ListTrees.{capped_vector}
use Rattle.dy_read_operators.proofs.ListTrees.{vector_made, vector_beyond}
use Rattle.dy_read_operators.proofs.lists.vector_within.Goals as goal

pub grown-requires : goal.grown-requires
grown-requires c =
    let made : Made (seen_tree c.in_ok-tree.tree) (vector_tree c.args.opener.now (read_vector c.args.items)) (c.args.inside + 1) = vector_made c.args.opener.now c.args.items.items (seen_tree c.in_ok-tree.tree) c.args.inside c.in_ok-tree.ensures c.requires (omega arith) in
    record { depth_is = made.depth_is; within = made.within }

pub returns-in_ok-tree : goal.returns-in_ok-tree
returns-in_ok-tree c =
    let made : Made (seen_tree c.in_ok-tree.tree) (vector_tree c.args.opener.now (read_vector c.args.items)) (c.args.inside + 1) = vector_made c.args.opener.now c.args.items.items (seen_tree c.in_ok-tree.tree) c.args.inside c.in_ok-tree.ensures c.requires (omega arith) in
    IfOk-weaker c.grown.result (λ grown. read_grown grown ≡ read_tree c.in_ok-tree.tree) (λ grown. read_grown grown ≡ capped_vector c.args.opener.now (read_vector c.args.items)) (λ grown e. e ∙ made.whole) c.grown.ensures

pub returns-else-inside-lt-DEPTH_LIMIT : goal.returns-else-inside-lt-DEPTH_LIMIT
returns-else-inside-lt-DEPTH_LIMIT c =
    let deep = vector_beyond c.args.opener.now (read_vector c.args.items) c.args.inside c.requires (omega arith) in
    IfOk-weaker c.too_deep.result (λ grown. read_grown grown ≡ deep_tree) (λ grown. read_grown grown ≡ capped_vector c.args.opener.now (read_vector c.args.items)) (λ grown e. e ∙ sym deep) c.too_deep.ensures

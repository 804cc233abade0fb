use Rattle.std.proofs.Common.{◌≡◌, ◌<◌, max, map, refl, sym, ◌∙◌, arith}
use Rattle.std.proofs.lemmas.Result.{IfOk-weaker}
use Rattle.dy_rules.specs.Depth.{constant_depth}
use Rattle.dy_rules.specs.SeenTypes.{seen_constant}
use Rattle.dy_rules_depth.specs.Capping.{deep_constant}
use Rattle.dy_rules_depth.proofs.DeepTrees.{deep_constant_depth, constant_beyond}
use Rattle.dy_read_constants.specs.ConstantCaps.{read_constant}
use Rattle.dy_read_constants.specs.ConstantFronts.{read_vector, capped_vector, items_depth}
use Rattle.dy_read_constants.specs.ConstantShapes.{vector_of}
use Rattle.dy_read_constants.proofs.ConstantCaps.{vector_made, vector_deep}
use Rattle.dy_read_constants.proofs.constant_nodes.vector_within.Goals as goal

pub returns-then-inside-lt-DEPTH_LIMIT-clause-made : goal.returns-then-inside-lt-DEPTH_LIMIT-clause-made
returns-then-inside-lt-DEPTH_LIMIT-clause-made c =
    let inside : items_depth (read_vector c.args.items) < 200 = rw (sym c.requires) (omega arith) in
    IfOk-weaker c.vector_form.result (λ made. seen_constant made ≡ vector_of c.args.opener.now (map seen_constant c.args.items.items)) (λ made. read_constant made ≡ capped_vector c.args.opener.now (read_vector c.args.items))
    (λ made e. vector_made c.args.opener.now c.args.items.items made e inside) c.vector_form.ensures

pub returns-then-inside-lt-DEPTH_LIMIT-clause-depth : goal.returns-then-inside-lt-DEPTH_LIMIT-clause-depth
returns-then-inside-lt-DEPTH_LIMIT-clause-depth c =
    let is = c.requires in
    let inside : items_depth (read_vector c.args.items) < 200 = rw (sym is) (omega arith) in
    let more = c.deepen.ensures in
    IfOk-weaker c.vector_form.result (λ made. seen_constant made ≡ vector_of c.args.opener.now (map seen_constant c.args.items.items)) (λ made. c.deepen.new.depth ≡ max c.args.depth.now (constant_depth (read_constant made)))
    (λ made e. let deep = vector_deep c.args.opener.now c.args.items.items made e inside in omega arith) c.vector_form.ensures

pub returns-else-inside-lt-DEPTH_LIMIT-clause-made : goal.returns-else-inside-lt-DEPTH_LIMIT-clause-made
returns-else-inside-lt-DEPTH_LIMIT-clause-made c =
    let deep : deep_constant ≡ capped_vector c.args.opener.now (read_vector c.args.items) = sym (constant_beyond (vector_of c.args.opener.now (read_vector c.args.items)) (rw (sym c.requires) (omega arith))) in
    IfOk-weaker c.absent_constant.result (λ made. read_constant made ≡ deep_constant) (λ made. read_constant made ≡ capped_vector c.args.opener.now (read_vector c.args.items)) (λ made e. e ∙ deep) c.absent_constant.ensures

pub returns-else-inside-lt-DEPTH_LIMIT-clause-depth : goal.returns-else-inside-lt-DEPTH_LIMIT-clause-depth
returns-else-inside-lt-DEPTH_LIMIT-clause-depth c = IfOk-weaker c.absent_constant.result (λ made. read_constant made ≡ deep_constant) (λ made. c.deepen-else-inside-lt-DEPTH_LIMIT.new.depth ≡ max c.args.depth.now (constant_depth (read_constant made))) (λ made e. rw (c.deepen-else-inside-lt-DEPTH_LIMIT.ensures, e, deep_constant_depth) refl) c.absent_constant.ensures

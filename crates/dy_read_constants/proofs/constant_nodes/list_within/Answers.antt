use Rattle.std.proofs.Common.{◌≡◌, ◌<◌, max, refl, sym, ◌∙◌, arith}
use Rattle.std.proofs.lemmas.Result.{IfOk-weaker}
use Rattle.dy_rules.specs.Depth.{constant_depth}
use Rattle.dy_rules.specs.SeenTypes.{seen_constant}
use Rattle.dy_rules_depth.specs.Capping.{deep_constant}
use Rattle.dy_rules_depth.proofs.DeepTrees.{deep_constant_depth, constant_beyond}
use Rattle.dy_read_constants.specs.ConstantCaps.{read_constant}
use Rattle.dy_read_constants.specs.ConstantFronts.{read_inside, seen_inside, capped_list, inside_depth}
use Rattle.dy_read_constants.specs.ConstantShapes.{list_of}
use Rattle.dy_read_constants.proofs.ConstantCaps.{list_made, list_deep}
use Rattle.dy_read_constants.proofs.constant_nodes.list_within.Goals as goal

pub returns-then-inside-lt-DEPTH_LIMIT-clause-made : goal.returns-then-inside-lt-DEPTH_LIMIT-clause-made
returns-then-inside-lt-DEPTH_LIMIT-clause-made c =
    let inside : inside_depth (read_inside c.args.found) < 200 = rw (sym c.requires) (omega arith) in
    IfOk-weaker c.list_form.result (λ made. seen_constant made ≡ list_of c.args.opener.now (seen_inside c.args.found)) (λ made. read_constant made ≡ capped_list c.args.opener.now (read_inside c.args.found))
    (λ made e. list_made c.args.opener.now c.args.found made e inside) c.list_form.ensures

pub returns-then-inside-lt-DEPTH_LIMIT-clause-depth : goal.returns-then-inside-lt-DEPTH_LIMIT-clause-depth
returns-then-inside-lt-DEPTH_LIMIT-clause-depth c =
    let is = c.requires in
    let inside : inside_depth (read_inside c.args.found) < 200 = rw (sym is) (omega arith) in
    let more = c.deepen.ensures in
    IfOk-weaker c.list_form.result (λ made. seen_constant made ≡ list_of c.args.opener.now (seen_inside c.args.found)) (λ made. c.deepen.new.depth ≡ max c.args.depth.now (constant_depth (read_constant made)))
    (λ made e. let deep = list_deep c.args.opener.now c.args.found made e inside in omega arith) c.list_form.ensures

pub returns-else-inside-lt-DEPTH_LIMIT-clause-made : goal.returns-else-inside-lt-DEPTH_LIMIT-clause-made
returns-else-inside-lt-DEPTH_LIMIT-clause-made c =
    let deep : deep_constant ≡ capped_list c.args.opener.now (read_inside c.args.found) = sym (constant_beyond (list_of c.args.opener.now (read_inside c.args.found)) (rw (sym c.requires) (omega arith))) in
    IfOk-weaker c.absent_constant.result (λ made. read_constant made ≡ deep_constant) (λ made. read_constant made ≡ capped_list c.args.opener.now (read_inside c.args.found)) (λ made e. e ∙ deep) c.absent_constant.ensures

pub returns-else-inside-lt-DEPTH_LIMIT-clause-depth : goal.returns-else-inside-lt-DEPTH_LIMIT-clause-depth
returns-else-inside-lt-DEPTH_LIMIT-clause-depth c = IfOk-weaker c.absent_constant.result (λ made. read_constant made ≡ deep_constant) (λ made. c.deepen-else-inside-lt-DEPTH_LIMIT.new.depth ≡ max c.args.depth.now (constant_depth (read_constant made))) (λ made e. rw (c.deepen-else-inside-lt-DEPTH_LIMIT.ensures, e, deep_constant_depth) refl) c.absent_constant.ensures

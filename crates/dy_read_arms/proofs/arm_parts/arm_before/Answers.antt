use Rattle.std.proofs.Common.{◌≡◌, List, [], Some, reverse, option_map, sym, ap, ◌∙◌}
use Rattle.dy_tree.specs.declared.expression.Arm.{Arm}
use Rattle.dy_read_arms.specs.ReadArms.{body_before, read_first, choices_depth, choices_behind}
use Rattle.dy_read_arms.specs.ReadBodies.{read_items, read_list}
use Rattle.dy_read_arms.proofs.ArmsBehind.{arm_deep}
use Rattle.dy_read_arms.proofs.arm_parts.arm_before.Goals as goal

pub invariant_of-result : goal.invariant_of-result
invariant_of-result c =
    let lead = c.args.behind.lead.items in
    let some : Some (read_items c.in-Some.body) ≡ body_before (read_list (reverse lead)) (read_first c.args.first) = ap (option_map read_items) (sym c.in-Some.is) ∙ c.in_ok-body.ensures in
    let deep =
    arm_deep lead c.args.behind.arms.items c.args.behind.last _ (read_first c.args.first) c.args.behind.depth c.args.inside c.deepest-depth.result some c.args.behind.depth_is c.requires c.deepest-depth.ensures
    ∙ ap (λ (list : List Arm). choices_depth (choices_behind [] list c.args.behind.last)) (sym c.in_ok-push-in-Some.ensures.items)
    in
    record { depth_is = rw c.new.ensures.items deep }

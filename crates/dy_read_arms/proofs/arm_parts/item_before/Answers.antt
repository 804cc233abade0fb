use Rattle.std.proofs.Common.{List, sym, ap, ◌∙◌}
use Rattle.dy_tree.specs.declared.expression.Item.{Item}
use Rattle.dy_read_arms.specs.ReadArms.{choices_depth, choices_behind}
use Rattle.dy_read_arms.proofs.ArmsBehind.{lead_deep, lead_put}
use Rattle.dy_read_arms.proofs.arm_parts.item_before.Goals as goal

pub invariant_of-result : goal.invariant_of-result
invariant_of-result c =
    record {
      depth_is =
          lead_deep c.args.behind.lead.items c.args.behind.arms.items c.args.behind.last c.args.item c.args.behind.depth c.args.inside c.deepest-depth.result c.args.behind.depth_is c.requires c.deepest-depth.ensures
          ∙ ap (λ (list : List Item). choices_depth (choices_behind list c.args.behind.arms.items c.args.behind.last)) (sym c.in_ok-push.ensures.items);
    }

pub returns : goal.returns
returns c =
    ap (λ (list : List Item). choices_behind list c.args.behind.arms.items c.args.behind.last) c.in_ok-push.ensures.items
    ∙ lead_put c.args.behind.lead.items c.args.behind.arms.items c.args.behind.last c.args.item

use Rattle.std.proofs.Common.{◌≡◌, ◌==◌, true, false, length, List, Some, sym, ap, ◌∙◌}
use Rattle.dy_tree.specs.declared.expression.Arm.{Arm}
use Rattle.dy_read_arms.specs.ReadArms.{choices_depth, choices_in}
use Rattle.dy_read_arms.proofs.ArmParts.{lead_left, all_finished, all_deep}
use Rattle.dy_read_arms.proofs.arm_parts.all_before.Goals as goal

pub returns-then-not-is_empty : goal.returns-then-not-is_empty
returns-then-not-is_empty c =
    let some : (length c.args.behind.lead.items == 0) ≡ false = sym (ap (λ n. n == 0) c.args.behind.lead.ok.0) ∙ (sym c.is_empty.ensures ∙ c.if-not-is_empty.true) in
    lead_left c.args.behind.lead.items c.args.behind.arms.items c.args.behind.last some

pub invariant_of-result : goal.invariant_of-result
invariant_of-result c =
    let none : (length c.args.behind.lead.items == 0) ≡ true = sym (ap (λ n. n == 0) c.args.behind.lead.ok.0) ∙ (sym c.is_empty.ensures ∙ c.if-not-is_empty.false) in
    record {
      depth_is =
          c.args.behind.depth_is ∙ all_deep c.args.behind.lead.items c.args.behind.arms.items c.args.behind.last none
          ∙ ap (λ (list : List Arm). choices_depth (choices_in list c.args.behind.last)) (sym c.reverse.ensures.items);
    }

pub returns : goal.returns
returns c =
    let none : (length c.args.behind.lead.items == 0) ≡ true = sym (ap (λ n. n == 0) c.args.behind.lead.ok.0) ∙ (sym c.is_empty.ensures ∙ c.if-not-is_empty.false) in
    ap (λ (list : List Arm). Some (choices_in list c.args.behind.last)) c.reverse.ensures.items ∙ sym (all_finished c.args.behind.lead.items c.args.behind.arms.items c.args.behind.last none)

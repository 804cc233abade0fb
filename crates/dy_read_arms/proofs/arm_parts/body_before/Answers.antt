use Rattle.std.proofs.Common.{◌≡◌, ◌==◌, true, false, length, reverse, Option, sym, ap, ◌∙◌}
use Rattle.dy_tree.specs.declared.expression.Item.{Item}
use Rattle.dy_read_arms.specs.ReadArms.{body_before, read_first}
use Rattle.dy_read_arms.specs.ReadBodies.{read_list}
use Rattle.dy_read_arms.proofs.ArmParts.{without_none, without_some}
use Rattle.dy_read_arms.proofs.arm_parts.body_before.Goals as goal

pub returns-then-is_empty : goal.returns-then-is_empty
returns-then-is_empty c =
    let none : (length c.args.lead.items == 0) ≡ true = sym (ap (λ n. n == 0) c.args.lead.ok.0) ∙ (sym c.is_empty.ensures ∙ c.if-is_empty.true) in
    without_none c.args.lead.items none ∙ ap (λ (first : Option Item). body_before (read_list (reverse c.args.lead.items)) (read_first first)) (sym c.in-None.is)

pub returns-else-is_empty : goal.returns-else-is_empty
returns-else-is_empty c =
    let some : (length c.args.lead.items == 0) ≡ false = sym (ap (λ n. n == 0) c.args.lead.ok.0) ∙ (sym c.is_empty.ensures ∙ c.if-is_empty.false) in
    without_some c.args.lead.items some ∙ ap (λ (first : Option Item). body_before (read_list (reverse c.args.lead.items)) (read_first first)) (sym c.in-None.is)

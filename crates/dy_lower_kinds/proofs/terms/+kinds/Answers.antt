use Rattle.std.proofs.Common.{arith, ◌≡◌, ◌&&◌, sym, ap, ◌∙◌}
use Rattle.std.specs.Option.{option_map}
use Rattle.dy_lowered.specs.Readiness.{held_ready}
use Rattle.dy_lower_kinds.specs.Kinds.{has_code, item_has_code}
use Rattle.dy_lower_kinds.proofs.Selecting.{kind_cond, kind_select, kind_methods, kind_lambda}
use Rattle.dy_local_counts.proofs.Measures.{element, left_part, falls_by}
use Rattle.dy_lower_kinds.proofs.terms.+kinds.Goals as goal

pub arms_have_code-arm_has_code-requires : goal.arms_have_code-arm_has_code-requires
arms_have_code-arm_has_code-requires t c = (
  falls_by 4 2 3 _ _ t (omega arith)
      (element _ c.args.arms.now c.as_slice-arm-items.result.now c.loop-arm.arm-index
      c.arm-item.result c.loop-arm-test.true c.arm-item.is c.as_slice-arm-items.ensures)
      c.decreases,
  tt,
)

pub arm_has_code-have_code-requires : goal.arm_has_code-have_code-requires
arm_has_code-have_code-requires t c =
    (falls_by 4 1 2 _ _ t (omega arith) (left_part _ _) c.decreases, tt)

pub item_has_code-returns-in-LetMethods : goal.item_has_code-returns-in-LetMethods
item_has_code-returns-in-LetMethods t c =
    c.methods_have_code.ensures ∙ sym (ap item_has_code c.in-LetMethods.is ∙ kind_methods c.in-LetMethods.methods)

pub has_code-returns-in-Cond : goal.has_code-returns-in-Cond
has_code-returns-in-Cond t c =
    let last : c.has_code-in-Cond.result ≡ has_code c.in-Cond.last = c.has_code-in-Cond.ensures ∙ ap has_code c.deref-in-Cond.ensures in
    c.both-in-Cond.ensures ∙ (λ i. c.branches_have_code.ensures i && last i)
    ∙ sym (ap has_code c.in-Cond.is ∙ kind_cond c.in-Cond.branches c.in-Cond.last)

pub has_code-returns-in-Select : goal.has_code-returns-in-Select
has_code-returns-in-Select t c =
    let value : c.has_code-in-Select.result ≡ has_code c.in-Select.value = c.has_code-in-Select.ensures ∙ ap has_code c.deref-in-Select.ensures in
    c.both-in-Select-2.ensures ∙ (λ i. value i && c.both-in-Select.ensures i) ∙ (λ i. has_code c.in-Select.value && (c.boxed_has_code-in-Select.ensures i && c.both-behind.ensures i))
    ∙ (λ i. has_code c.in-Select.value && (held_ready (option_map has_code c.in-Select.test) && (c.arms_have_code.ensures i && c.boxed_has_code.ensures i)))
    ∙ sym (ap has_code c.in-Select.is ∙ kind_select c.in-Select.value c.in-Select.test c.in-Select.arms c.in-Select.last)

pub lambda_has_code-returns : goal.lambda_has_code-returns
lambda_has_code-returns t c =
    c.both.ensures ∙ (λ i. c.is_empty.ensures i && c.has_code.ensures i) ∙ sym (kind_lambda c.args.lambda.now)

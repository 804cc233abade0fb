use Rattle.std.proofs.Common.{arith, rules, ◌≡◌, ℕ, max, sym, ap, ◌∙◌}
use Rattle.std.specs.Option.{option_map}
use Rattle.dy_term.specs.declared.term.BlockRow.{out-BlockRow}
use Rattle.dy_meaning.specs.Numbers.{held, behind, numbers_in, numbers_in_item}
use Rattle.dy_local_counts.proofs.Selecting.{numbers_cond, numbers_select, numbers_methods, numbers_block}
use Rattle.dy_local_counts.proofs.Measures.{element, left_part, falls_by}
use Rattle.dy_local_counts.proofs.counts.+counts.Goals as goal

pub in_arms-in_arm-requires : goal.in_arms-in_arm-requires
in_arms-in_arm-requires t c = (
  falls_by 4 2 3 _ _ t (omega arith)
      (element _ c.args.arms.now c.as_slice-arm-items.result.now c.loop-arm.arm-index
      c.arm-item.result c.loop-arm-test.true c.arm-item.is c.as_slice-arm-items.ensures)
      c.decreases,
  tt,
)

pub in_arm-greatest-requires : goal.in_arm-greatest-requires
in_arm-greatest-requires t c =
    (falls_by 4 1 2 _ _ t (omega arith) (left_part _ _) c.decreases, tt)

pub in_item-returns-in-LetMethods : goal.in_item-returns-in-LetMethods
in_item-returns-in-LetMethods t c =
    c.in_methods.ensures ∙ sym (ap numbers_in_item c.in-LetMethods.is ∙ numbers_methods c.in-LetMethods.methods)

pub numbers_in-returns-in-Cond : goal.numbers_in-returns-in-Cond
numbers_in-returns-in-Cond t c =
    let top : c.max-in-Cond.result ≡ max c.in_branches.result c.numbers_in-in-Cond.result = search rules in
    let last : c.numbers_in-in-Cond.result ≡ numbers_in c.in-Cond.last = c.numbers_in-in-Cond.ensures ∙ ap numbers_in c.deref-in-Cond.ensures in
    top ∙ (λ i. max (c.in_branches.ensures i) (last i))
    ∙ sym (ap numbers_in c.in-Cond.is ∙ numbers_cond c.in-Cond.branches c.in-Cond.last)

pub numbers_in-returns-in-Select : goal.numbers_in-returns-in-Select
numbers_in-returns-in-Select t c =
    let ends : c.max-behind.result ≡ max c.in_arms.result c.in_boxed.result = search rules in
    let inner : c.max-in-Select.result ≡ max c.in_boxed-in-Select.result c.max-behind.result = search rules in
    let top : c.max-in-Select-2.result ≡ max c.numbers_in-in-Select.result c.max-in-Select.result = search rules in
    let value : c.numbers_in-in-Select.result ≡ numbers_in c.in-Select.value = c.numbers_in-in-Select.ensures ∙ ap numbers_in c.deref-in-Select.ensures in
    top ∙ (λ i. max (value i) (inner i)) ∙ (λ i. max (numbers_in c.in-Select.value) (max (c.in_boxed-in-Select.ensures i) (ends i)))
    ∙ (λ i. max (numbers_in c.in-Select.value) (max (held (option_map numbers_in c.in-Select.test)) (max (c.in_arms.ensures i) (c.in_boxed.ensures i))))
    ∙ sym (ap numbers_in c.in-Select.is ∙ numbers_select c.in-Select.value c.in-Select.test c.in-Select.arms c.in-Select.last)

pub in_block-returns : goal.in_block-returns
in_block-returns t c =
    let row = out-BlockRow c.args.row.now in
    let a : c.max.result ≡ max c.in_option-2.result c.in_catches-clauses.result = search rules in
    let b : c.max-ends.result ≡ max c.in_option.result c.max.result = search rules in
    let d : c.max-2.result ≡ max c.numbers_in.result c.max-ends.result = search rules in
    let e : c.max-3.result ≡ max c.next_of.result c.max-2.result = search rules in
    e ∙ (λ i. max (c.next_of.ensures i) (d i)) ∙ (λ i. max (behind row.exit) (max (c.numbers_in.ensures i) (b i)))
    ∙ (λ i. max (behind row.exit) (max (numbers_in row.body) (max (c.in_option.ensures i) (a i))))
    ∙ (λ i. max (behind row.exit) (max (numbers_in row.body) (max (held (option_map numbers_in row.afterwards)) (max (c.in_option-2.ensures i) (c.in_catches-clauses.ensures i)))))
    ∙ sym (numbers_block row.exit row.body row.afterwards row.cleanup row.clauses)

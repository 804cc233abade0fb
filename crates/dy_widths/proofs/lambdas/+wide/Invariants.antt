use Rattle.std.proofs.Common.{◌≡◌, ◌+◌, ◌*◌, map, drop}
use Rattle.dy_widths.specs.Wide.{any_of, any_branch, any_arm, any_behind, any_clause}
use Rattle.dy_widths.specs.Wide.{is_wide_clause, is_wide_item, is_wide_term, is_wide_lambda}
use Rattle.dy_widths.proofs.lambdas.+wide.Given as goal

-- A part is less deep than the term that holds it. Where a call passes on all that it was given, the
-- added number falls.
abbrev pub decreases-is_wide_term : goal.decreases-is_wide_term
decreases-is_wide_term l = 4 * goal.size-is_wide_term l + 0

abbrev pub decreases-is_wide_item : goal.decreases-is_wide_item
decreases-is_wide_item l = 4 * goal.size-is_wide_item l + 0

abbrev pub decreases-is_wide_lambda : goal.decreases-is_wide_lambda
decreases-is_wide_lambda l = 4 * goal.size-is_wide_lambda l + 0

abbrev pub decreases-is_wide_clause : goal.decreases-is_wide_clause
decreases-is_wide_clause l = 4 * goal.size-is_wide_clause l + 0

abbrev pub decreases-is_wide_for : goal.decreases-is_wide_for
decreases-is_wide_for l = 4 * goal.size-is_wide_for l + 0

abbrev pub decreases-is_wide_block : goal.decreases-is_wide_block
decreases-is_wide_block l = 4 * goal.size-is_wide_block l + 0

abbrev pub decreases-any_term : goal.decreases-any_term
decreases-any_term l = 4 * goal.size-any_term l + 1

abbrev pub decreases-some_boxed : goal.decreases-some_boxed
decreases-some_boxed l = 4 * goal.size-some_boxed l + 1

abbrev pub decreases-some_term : goal.decreases-some_term
decreases-some_term l = 4 * goal.size-some_term l + 1

abbrev pub decreases-some_test : goal.decreases-some_test
decreases-some_test l = 4 * goal.size-some_test l + 1

abbrev pub decreases-some_limit : goal.decreases-some_limit
decreases-some_limit l = 4 * goal.size-some_limit l + 1

abbrev pub decreases-any_branch : goal.decreases-any_branch
decreases-any_branch l = 4 * goal.size-any_branch l + 1

abbrev pub decreases-any_item : goal.decreases-any_item
decreases-any_item l = 4 * goal.size-any_item l + 1

abbrev pub decreases-any_method : goal.decreases-any_method
decreases-any_method l = 4 * goal.size-any_method l + 1

abbrev pub decreases-any_clause : goal.decreases-any_clause
decreases-any_clause l = 4 * goal.size-any_clause l + 1

abbrev pub decreases-any_catch : goal.decreases-any_catch
decreases-any_catch l = 4 * goal.size-any_catch l + 1

abbrev pub decreases-any_default : goal.decreases-any_default
decreases-any_default l = 4 * goal.size-any_default l + 1

abbrev pub decreases-is_wide_arm : goal.decreases-is_wide_arm
decreases-is_wide_arm l = 4 * goal.size-is_wide_arm l + 2

abbrev pub decreases-any_arm : goal.decreases-any_arm
decreases-any_arm l = 4 * goal.size-any_arm l + 3

abbrev pub invariant-any_term-loop-term : goal.invariant-any_term-loop-term
invariant-any_term-loop-term l =
    (any_of (map is_wide_term l.term-items))
    ≡ (any_of (map is_wide_term (drop l.term-index l.term-items)))

abbrev pub invariant-any_branch-loop-test : goal.invariant-any_branch-loop-test
invariant-any_branch-loop-test l =
    (any_branch (map (λ b. (is_wide_term b.0, is_wide_term b.1)) l.test-items))
    ≡ (any_branch (map (λ b. (is_wide_term b.0, is_wide_term b.1))
    (drop l.test-index l.test-items)))

abbrev pub invariant-any_arm-loop-arm : goal.invariant-any_arm-loop-arm
invariant-any_arm-loop-arm l =
    (any_arm (map (λ a. (map is_wide_term a.0, is_wide_term a.1)) l.arm-items))
    ≡ (any_arm (map (λ a. (map is_wide_term a.0, is_wide_term a.1))
    (drop l.arm-index l.arm-items)))

abbrev pub invariant-any_item-loop-item : goal.invariant-any_item-loop-item
invariant-any_item-loop-item l =
    (any_of (map is_wide_item l.item-items))
    ≡ (any_of (map is_wide_item (drop l.item-index l.item-items)))

abbrev pub invariant-any_method-loop-lambda : goal.invariant-any_method-loop-lambda
invariant-any_method-loop-lambda l =
    (any_behind (map (λ m. (m.0, is_wide_lambda m.1)) l.lambda-items))
    ≡ (any_behind (map (λ m. (m.0, is_wide_lambda m.1)) (drop l.lambda-index l.lambda-items)))

abbrev pub invariant-any_clause-loop-clause : goal.invariant-any_clause-loop-clause
invariant-any_clause-loop-clause l =
    (any_of (map is_wide_clause l.clause-items))
    ≡ (any_of (map is_wide_clause (drop l.clause-index l.clause-items)))

abbrev pub invariant-any_catch-loop-body : goal.invariant-any_catch-loop-body
invariant-any_catch-loop-body l =
    (any_clause (map (λ c. (c.0, c.1, is_wide_term c.2)) l.body-items))
    ≡ (any_clause (map (λ c. (c.0, c.1, is_wide_term c.2)) (drop l.body-index l.body-items)))

abbrev pub invariant-any_default-loop-default : goal.invariant-any_default-loop-default
invariant-any_default-loop-default l =
    (any_behind (map (λ k. (k.0, is_wide_term k.1)) l.default-items))
    ≡ (any_behind (map (λ k. (k.0, is_wide_term k.1)) (drop l.default-index l.default-items)))

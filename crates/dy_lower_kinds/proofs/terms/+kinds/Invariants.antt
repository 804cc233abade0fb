use Rattle.std.proofs.Common.{◌≡◌, ◌+◌, ◌*◌, ◌&&◌, map, drop}
use Rattle.dy_lowered.specs.Readiness.{all_ready}
use Rattle.dy_lower_kinds.specs.Kinds.{has_code, item_has_code, clause_has_code, lambda_has_code}
use Rattle.dy_lower_kinds.proofs.terms.+kinds.Given as goal

abbrev pub decreases-has_code : goal.decreases-has_code
decreases-has_code l = 4 * goal.size-has_code l + 0

abbrev pub decreases-have_code : goal.decreases-have_code
decreases-have_code l = 4 * goal.size-have_code l + 1

abbrev pub decreases-boxed_has_code : goal.decreases-boxed_has_code
decreases-boxed_has_code l = 4 * goal.size-boxed_has_code l + 1

abbrev pub decreases-option_has_code : goal.decreases-option_has_code
decreases-option_has_code l = 4 * goal.size-option_has_code l + 1

abbrev pub decreases-branches_have_code : goal.decreases-branches_have_code
decreases-branches_have_code l = 4 * goal.size-branches_have_code l + 1

abbrev pub decreases-arms_have_code : goal.decreases-arms_have_code
decreases-arms_have_code l = 4 * goal.size-arms_have_code l + 3

abbrev pub decreases-arm_has_code : goal.decreases-arm_has_code
decreases-arm_has_code l = 4 * goal.size-arm_has_code l + 2

abbrev pub decreases-items_have_code : goal.decreases-items_have_code
decreases-items_have_code l = 4 * goal.size-items_have_code l + 1

abbrev pub decreases-item_has_code : goal.decreases-item_has_code
decreases-item_has_code l = 4 * goal.size-item_has_code l + 0

abbrev pub decreases-methods_have_code : goal.decreases-methods_have_code
decreases-methods_have_code l = 4 * goal.size-methods_have_code l + 1

abbrev pub decreases-for_has_code : goal.decreases-for_has_code
decreases-for_has_code l = 4 * goal.size-for_has_code l + 0

abbrev pub decreases-test_has_code : goal.decreases-test_has_code
decreases-test_has_code l = 4 * goal.size-test_has_code l + 1

abbrev pub decreases-limit_has_code : goal.decreases-limit_has_code
decreases-limit_has_code l = 4 * goal.size-limit_has_code l + 1

abbrev pub decreases-clauses_have_code : goal.decreases-clauses_have_code
decreases-clauses_have_code l = 4 * goal.size-clauses_have_code l + 1

abbrev pub decreases-clause_has_code : goal.decreases-clause_has_code
decreases-clause_has_code l = 4 * goal.size-clause_has_code l + 0

abbrev pub decreases-lambda_has_code : goal.decreases-lambda_has_code
decreases-lambda_has_code l = 4 * goal.size-lambda_has_code l + 0

abbrev pub invariant-have_code-loop-term : goal.invariant-have_code-loop-term
invariant-have_code-loop-term l =
    all_ready (map has_code l.term-items)
    ≡ (l.all && all_ready (map has_code (drop l.term-index l.term-items)))

abbrev pub invariant-branches_have_code-loop-test : goal.invariant-branches_have_code-loop-test
invariant-branches_have_code-loop-test l =
    all_ready (map (λ b. has_code b.0 && has_code b.1) l.test-items)
    ≡ (l.all && all_ready (map (λ b. has_code b.0 && has_code b.1) (drop l.test-index l.test-items)))

abbrev pub invariant-arms_have_code-loop-arm : goal.invariant-arms_have_code-loop-arm
invariant-arms_have_code-loop-arm l =
    all_ready (map (λ a. all_ready (map has_code a.0) && has_code a.1) l.arm-items)
    ≡ (l.all && all_ready (map (λ a. all_ready (map has_code a.0) && has_code a.1) (drop l.arm-index l.arm-items)))

abbrev pub invariant-items_have_code-loop-item : goal.invariant-items_have_code-loop-item
invariant-items_have_code-loop-item l =
    all_ready (map item_has_code l.item-items)
    ≡ (l.all && all_ready (map item_has_code (drop l.item-index l.item-items)))

abbrev pub invariant-methods_have_code-loop-lambda : goal.invariant-methods_have_code-loop-lambda
invariant-methods_have_code-loop-lambda l =
    all_ready (map (λ m. lambda_has_code m.1) l.lambda-items)
    ≡ (l.all && all_ready (map (λ m. lambda_has_code m.1) (drop l.lambda-index l.lambda-items)))

abbrev pub invariant-clauses_have_code-loop-clause : goal.invariant-clauses_have_code-loop-clause
invariant-clauses_have_code-loop-clause l =
    all_ready (map clause_has_code l.clause-items)
    ≡ (l.all && all_ready (map clause_has_code (drop l.clause-index l.clause-items)))

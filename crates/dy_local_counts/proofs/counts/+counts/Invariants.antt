use Rattle.std.proofs.Common.{◌≡◌, ℕ, ◌+◌, ◌*◌, max, map, drop}
use Rattle.dy_meaning.specs.Numbers.{greatest, behind, numbers_in, numbers_in_item}
use Rattle.dy_meaning.specs.Numbers.{numbers_in_clause}
use Rattle.dy_local_counts.proofs.counts.+counts.Given as goal

abbrev pub decreases-numbers_in : goal.decreases-numbers_in
decreases-numbers_in l = 4 * goal.size-numbers_in l + 0

abbrev pub decreases-greatest : goal.decreases-greatest
decreases-greatest l = 4 * goal.size-greatest l + 1

abbrev pub decreases-in_boxed : goal.decreases-in_boxed
decreases-in_boxed l = 4 * goal.size-in_boxed l + 1

abbrev pub decreases-in_option : goal.decreases-in_option
decreases-in_option l = 4 * goal.size-in_option l + 1

abbrev pub decreases-in_branches : goal.decreases-in_branches
decreases-in_branches l = 4 * goal.size-in_branches l + 1

abbrev pub decreases-in_arms : goal.decreases-in_arms
decreases-in_arms l = 4 * goal.size-in_arms l + 3

abbrev pub decreases-in_arm : goal.decreases-in_arm
decreases-in_arm l = 4 * goal.size-in_arm l + 2

abbrev pub decreases-in_items : goal.decreases-in_items
decreases-in_items l = 4 * goal.size-in_items l + 1

abbrev pub decreases-in_item : goal.decreases-in_item
decreases-in_item l = 4 * goal.size-in_item l + 0

abbrev pub decreases-in_for : goal.decreases-in_for
decreases-in_for l = 4 * goal.size-in_for l + 0

abbrev pub decreases-in_test : goal.decreases-in_test
decreases-in_test l = 4 * goal.size-in_test l + 1

abbrev pub decreases-in_limit : goal.decreases-in_limit
decreases-in_limit l = 4 * goal.size-in_limit l + 1

abbrev pub decreases-in_clauses : goal.decreases-in_clauses
decreases-in_clauses l = 4 * goal.size-in_clauses l + 1

abbrev pub decreases-in_clause : goal.decreases-in_clause
decreases-in_clause l = 4 * goal.size-in_clause l + 0

abbrev pub decreases-in_block : goal.decreases-in_block
decreases-in_block l = 4 * goal.size-in_block l + 0

abbrev pub decreases-in_catches : goal.decreases-in_catches
decreases-in_catches l = 4 * goal.size-in_catches l + 1

abbrev pub invariant-greatest-loop-term : goal.invariant-greatest-loop-term
invariant-greatest-loop-term l =
    greatest (map numbers_in l.term-items)
    ≡ max l.most (greatest (map numbers_in (drop l.term-index l.term-items)))

abbrev pub invariant-in_branches-loop-test : goal.invariant-in_branches-loop-test
invariant-in_branches-loop-test l =
    greatest (map (λ b. max (numbers_in b.0) (numbers_in b.1)) l.test-items)
    ≡ max l.most (greatest (map (λ b. max (numbers_in b.0) (numbers_in b.1)) (drop l.test-index l.test-items)))

abbrev pub invariant-in_arms-loop-arm : goal.invariant-in_arms-loop-arm
invariant-in_arms-loop-arm l =
    greatest (map (λ a. max (greatest (map numbers_in a.0)) (numbers_in a.1)) l.arm-items)
    ≡ max l.most (greatest (map (λ a. max (greatest (map numbers_in a.0)) (numbers_in a.1)) (drop l.arm-index l.arm-items)))

abbrev pub invariant-in_items-loop-item : goal.invariant-in_items-loop-item
invariant-in_items-loop-item l =
    greatest (map numbers_in_item l.item-items)
    ≡ max l.most (greatest (map numbers_in_item (drop l.item-index l.item-items)))

abbrev pub invariant-in_clauses-loop-clause : goal.invariant-in_clauses-loop-clause
invariant-in_clauses-loop-clause l =
    greatest (map numbers_in_clause l.clause-items)
    ≡ max l.most (greatest (map numbers_in_clause (drop l.clause-index l.clause-items)))

abbrev pub invariant-in_catches-loop-local : goal.invariant-in_catches-loop-local
invariant-in_catches-loop-local l =
    greatest (map (λ c. max (behind c.0) (numbers_in c.2)) l.local-items)
    ≡ max l.most (greatest (map (λ c. max (behind c.0) (numbers_in c.2)) (drop l.local-index l.local-items)))

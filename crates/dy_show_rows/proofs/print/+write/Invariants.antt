use Rattle.std.proofs.Common.{◌+◌, ◌*◌}
use Rattle.dy_show_rows.proofs.print.+write.Given as goal

-- A part is less deep than the term that holds it. Where a call passes on all that it was given,
-- the added number falls.
abbrev pub decreases-write_term : goal.decreases-write_term
decreases-write_term l = 4 * goal.size-write_term l + 0

abbrev pub decreases-write_item : goal.decreases-write_item
decreases-write_item l = 4 * goal.size-write_item l + 0

abbrev pub decreases-write_lambda : goal.decreases-write_lambda
decreases-write_lambda l = 4 * goal.size-write_lambda l + 0

abbrev pub decreases-write_clause : goal.decreases-write_clause
decreases-write_clause l = 4 * goal.size-write_clause l + 0

abbrev pub decreases-write_for : goal.decreases-write_for
decreases-write_for l = 4 * goal.size-write_for l + 0

abbrev pub decreases-write_block : goal.decreases-write_block
decreases-write_block l = 4 * goal.size-write_block l + 0

abbrev pub decreases-write_all : goal.decreases-write_all
decreases-write_all l = 4 * goal.size-write_all l + 1

abbrev pub decreases-write_boxed : goal.decreases-write_boxed
decreases-write_boxed l = 4 * goal.size-write_boxed l + 1

abbrev pub decreases-write_some : goal.decreases-write_some
decreases-write_some l = 4 * goal.size-write_some l + 1

abbrev pub decreases-write_test : goal.decreases-write_test
decreases-write_test l = 4 * goal.size-write_test l + 1

abbrev pub decreases-write_limit : goal.decreases-write_limit
decreases-write_limit l = 4 * goal.size-write_limit l + 1

abbrev pub decreases-write_branches : goal.decreases-write_branches
decreases-write_branches l = 4 * goal.size-write_branches l + 1

abbrev pub decreases-write_items : goal.decreases-write_items
decreases-write_items l = 4 * goal.size-write_items l + 1

abbrev pub decreases-write_methods : goal.decreases-write_methods
decreases-write_methods l = 4 * goal.size-write_methods l + 1

abbrev pub decreases-write_clauses : goal.decreases-write_clauses
decreases-write_clauses l = 4 * goal.size-write_clauses l + 1

abbrev pub decreases-write_catches : goal.decreases-write_catches
decreases-write_catches l = 4 * goal.size-write_catches l + 1

abbrev pub decreases-write_defaults : goal.decreases-write_defaults
decreases-write_defaults l = 4 * goal.size-write_defaults l + 1

abbrev pub decreases-write_arm : goal.decreases-write_arm
decreases-write_arm l = 4 * goal.size-write_arm l + 2

abbrev pub decreases-write_arms : goal.decreases-write_arms
decreases-write_arms l = 4 * goal.size-write_arms l + 3

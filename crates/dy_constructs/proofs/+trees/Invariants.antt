use Rattle.std.proofs.Common.{◌≡◌, ◌+◌, ◌*◌, flat_map, take}
use Rattle.dy_construct_parts.specs.Table.{first_absent}
use Rattle.dy_constructs.specs.Held.{held_value, held_argument, held_item, held_method, held_alternative, held_arm, held_clause, held_loop_clause, held_key}
use Rattle.dy_constructs.proofs.+trees.Given as goal

-- A part is smaller than the tree that holds it. Where a call passes on all that it was given, the added number falls.
abbrev pub decreases-expressions::in_tree : goal.decreases-expressions::in_tree
decreases-expressions::in_tree l = 5 * goal.size-expressions::in_tree l + 2

abbrev pub decreases-statements::in_statement : goal.decreases-statements::in_statement
decreases-statements::in_statement l = 5 * goal.size-statements::in_statement l + 1

abbrev pub decreases-expressions::in_value : goal.decreases-expressions::in_value
decreases-expressions::in_value l = 5 * goal.size-expressions::in_value l + 3

abbrev pub decreases-expressions::in_called : goal.decreases-expressions::in_called
decreases-expressions::in_called l = 5 * goal.size-expressions::in_called l + 3

abbrev pub decreases-expressions::in_test : goal.decreases-expressions::in_test
decreases-expressions::in_test l = 5 * goal.size-expressions::in_test l + 3

abbrev pub decreases-expressions::in_maybe : goal.decreases-expressions::in_maybe
decreases-expressions::in_maybe l = 5 * goal.size-expressions::in_maybe l + 4

abbrev pub decreases-choices::in_selector : goal.decreases-choices::in_selector
decreases-choices::in_selector l = 5 * goal.size-choices::in_selector l + 4

abbrev pub decreases-expressions::in_arguments : goal.decreases-expressions::in_arguments
decreases-expressions::in_arguments l = 5 * goal.size-expressions::in_arguments l + 2

abbrev pub decreases-expressions::in_each_argument : goal.decreases-expressions::in_each_argument
decreases-expressions::in_each_argument l = 5 * goal.size-expressions::in_each_argument l + 1

abbrev pub decreases-expressions::in_argument : goal.decreases-expressions::in_argument
decreases-expressions::in_argument l = 5 * goal.size-expressions::in_argument l + 0

abbrev pub decreases-bodies::in_body : goal.decreases-bodies::in_body
decreases-bodies::in_body l = 5 * goal.size-bodies::in_body l + 3

abbrev pub decreases-bodies::in_items : goal.decreases-bodies::in_items
decreases-bodies::in_items l = 5 * goal.size-bodies::in_items l + 2

abbrev pub decreases-bodies::in_item : goal.decreases-bodies::in_item
decreases-bodies::in_item l = 5 * goal.size-bodies::in_item l + 1

abbrev pub decreases-bodies::in_last : goal.decreases-bodies::in_last
decreases-bodies::in_last l = 5 * goal.size-bodies::in_last l + 4

abbrev pub decreases-bodies::in_else : goal.decreases-bodies::in_else
decreases-bodies::in_else l = 5 * goal.size-bodies::in_else l + 4

abbrev pub decreases-parameters::in_methods : goal.decreases-parameters::in_methods
decreases-parameters::in_methods l = 5 * goal.size-parameters::in_methods l + 1

abbrev pub decreases-parameters::in_method : goal.decreases-parameters::in_method
decreases-parameters::in_method l = 5 * goal.size-parameters::in_method l + 0

abbrev pub decreases-parameters::in_parameters : goal.decreases-parameters::in_parameters
decreases-parameters::in_parameters l = 5 * goal.size-parameters::in_parameters l + 0

abbrev pub decreases-parameters::in_maybe_keys : goal.decreases-parameters::in_maybe_keys
decreases-parameters::in_maybe_keys l = 5 * goal.size-parameters::in_maybe_keys l + 3

abbrev pub decreases-parameters::in_keys : goal.decreases-parameters::in_keys
decreases-parameters::in_keys l = 5 * goal.size-parameters::in_keys l + 2

abbrev pub decreases-parameters::in_key_row : goal.decreases-parameters::in_key_row
decreases-parameters::in_key_row l = 5 * goal.size-parameters::in_key_row l + 1

abbrev pub decreases-parameters::in_key : goal.decreases-parameters::in_key
decreases-parameters::in_key l = 5 * goal.size-parameters::in_key l + 0

abbrev pub decreases-choices::in_alternatives : goal.decreases-choices::in_alternatives
decreases-choices::in_alternatives l = 5 * goal.size-choices::in_alternatives l + 1

abbrev pub decreases-choices::in_alternative : goal.decreases-choices::in_alternative
decreases-choices::in_alternative l = 5 * goal.size-choices::in_alternative l + 0

abbrev pub decreases-choices::in_arms : goal.decreases-choices::in_arms
decreases-choices::in_arms l = 5 * goal.size-choices::in_arms l + 1

abbrev pub decreases-choices::in_arm : goal.decreases-choices::in_arm
decreases-choices::in_arm l = 5 * goal.size-choices::in_arm l + 0

abbrev pub decreases-choices::in_tests : goal.decreases-choices::in_tests
decreases-choices::in_tests l = 5 * goal.size-choices::in_tests l + 4

abbrev pub decreases-scopes::in_clauses : goal.decreases-scopes::in_clauses
decreases-scopes::in_clauses l = 5 * goal.size-scopes::in_clauses l + 1

abbrev pub decreases-scopes::in_clause : goal.decreases-scopes::in_clause
decreases-scopes::in_clause l = 5 * goal.size-scopes::in_clause l + 0

abbrev pub decreases-scopes::in_loop : goal.decreases-scopes::in_loop
decreases-scopes::in_loop l = 5 * goal.size-scopes::in_loop l + 1

abbrev pub decreases-scopes::in_loop_clause : goal.decreases-scopes::in_loop_clause
decreases-scopes::in_loop_clause l = 5 * goal.size-scopes::in_loop_clause l + 0

abbrev pub decreases-scopes::in_limit : goal.decreases-scopes::in_limit
decreases-scopes::in_limit l = 5 * goal.size-scopes::in_limit l + 0

abbrev pub decreases-scopes::in_stop : goal.decreases-scopes::in_stop
decreases-scopes::in_stop l = 5 * goal.size-scopes::in_stop l + 0

abbrev pub invariant-expressions::in_each_argument-loop-argument : goal.invariant-expressions::in_each_argument-loop-argument
invariant-expressions::in_each_argument-loop-argument l = l.found ≡ first_absent (flat_map held_argument (take l.argument-index l.argument-items))

abbrev pub invariant-bodies::in_items-loop-item : goal.invariant-bodies::in_items-loop-item
invariant-bodies::in_items-loop-item l = l.found ≡ first_absent (flat_map held_item (take l.item-index l.item-items))

abbrev pub invariant-parameters::in_methods-loop-method : goal.invariant-parameters::in_methods-loop-method
invariant-parameters::in_methods-loop-method l = l.found ≡ first_absent (flat_map held_method (take l.method-index l.method-items))

abbrev pub invariant-parameters::in_key_row-loop-key : goal.invariant-parameters::in_key_row-loop-key
invariant-parameters::in_key_row-loop-key l = l.found ≡ first_absent (flat_map held_key (take l.key-index l.key-items))

abbrev pub invariant-choices::in_alternatives-loop-alternative : goal.invariant-choices::in_alternatives-loop-alternative
invariant-choices::in_alternatives-loop-alternative l = l.found ≡ first_absent (flat_map held_alternative (take l.alternative-index l.alternative-items))

abbrev pub invariant-choices::in_arms-loop-arm : goal.invariant-choices::in_arms-loop-arm
invariant-choices::in_arms-loop-arm l = l.found ≡ first_absent (flat_map held_arm (take l.arm-index l.arm-items))

abbrev pub invariant-choices::in_tests-loop-test : goal.invariant-choices::in_tests-loop-test
invariant-choices::in_tests-loop-test l = l.found ≡ first_absent (flat_map held_value (take l.test-index l.test-items))

abbrev pub invariant-scopes::in_clauses-loop-clause : goal.invariant-scopes::in_clauses-loop-clause
invariant-scopes::in_clauses-loop-clause l = l.found ≡ first_absent (flat_map held_clause (take l.clause-index l.clause-items))

abbrev pub invariant-scopes::in_loop-loop-clause : goal.invariant-scopes::in_loop-loop-clause
invariant-scopes::in_loop-loop-clause l = l.found ≡ first_absent (flat_map held_loop_clause (take l.clause-index l.clause-items))

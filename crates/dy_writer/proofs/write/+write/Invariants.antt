use Rattle.std.proofs.Common.{◌≡◌, ◌++◌, ◌+◌, ◌*◌, map, take}
use Rattle.dy_tree.specs.Fragments.{seen_fragments}
use Rattle.dy_rules.specs.SeenForms.{seen_tree, seen_argument, seen_item, seen_method, seen_clause, seen_for_clause}
use Rattle.dy_rules.specs.Trees as trees
use Rattle.dy_rules.specs.Writing.{written_arguments, written_body, written_methods, written_alternatives, written_arms, written_tests, written_clauses, written_for, first_keys}
use Rattle.dy_rules.specs.Held.{held_alternative, held_arm, held_key}
use Rattle.dy_write_parts.specs.Parts.{is_none_of}
use Rattle.dy_writer.proofs.write.+write.Given as goal

-- A part is smaller than the expression that holds it. Where a call passes on all that it was given, the added number falls.
abbrev pub decreases-blocks::push_clauses : goal.decreases-blocks::push_clauses
decreases-blocks::push_clauses l = 5 * goal.size-blocks::push_clauses l + 1

abbrev pub decreases-blocks::push_clause : goal.decreases-blocks::push_clause
decreases-blocks::push_clause l = 5 * goal.size-blocks::push_clause l + 0

abbrev pub decreases-bodies::push_body : goal.decreases-bodies::push_body
decreases-bodies::push_body l = 5 * goal.size-bodies::push_body l + 1

abbrev pub decreases-bodies::push_item : goal.decreases-bodies::push_item
decreases-bodies::push_item l = 5 * goal.size-bodies::push_item l + 0

abbrev pub decreases-bodies::push_methods : goal.decreases-bodies::push_methods
decreases-bodies::push_methods l = 5 * goal.size-bodies::push_methods l + 1

abbrev pub decreases-bodies::push_method : goal.decreases-bodies::push_method
decreases-bodies::push_method l = 5 * goal.size-bodies::push_method l + 0

abbrev pub decreases-choices::push_selector : goal.decreases-choices::push_selector
decreases-choices::push_selector l = 5 * goal.size-choices::push_selector l + 4

abbrev pub decreases-choices::push_arms : goal.decreases-choices::push_arms
decreases-choices::push_arms l = 5 * goal.size-choices::push_arms l + 1

abbrev pub decreases-choices::push_arm : goal.decreases-choices::push_arm
decreases-choices::push_arm l = 5 * goal.size-choices::push_arm l + 0

abbrev pub decreases-choices::push_tests : goal.decreases-choices::push_tests
decreases-choices::push_tests l = 5 * goal.size-choices::push_tests l + 4

abbrev pub decreases-expressions::push_whole : goal.decreases-expressions::push_whole
decreases-expressions::push_whole l = 5 * goal.size-expressions::push_whole l + 3

abbrev pub decreases-expressions::push_operand : goal.decreases-expressions::push_operand
decreases-expressions::push_operand l = 5 * goal.size-expressions::push_operand l + 3

abbrev pub decreases-expressions::push_bracketed : goal.decreases-expressions::push_bracketed
decreases-expressions::push_bracketed l = 5 * goal.size-expressions::push_bracketed l + 2

abbrev pub decreases-expressions::push_plain : goal.decreases-expressions::push_plain
decreases-expressions::push_plain l = 5 * goal.size-expressions::push_plain l + 1

abbrev pub decreases-expressions::push_behind_first : goal.decreases-expressions::push_behind_first
decreases-expressions::push_behind_first l = 5 * goal.size-expressions::push_behind_first l + 0

abbrev pub decreases-expressions::push_arguments : goal.decreases-expressions::push_arguments
decreases-expressions::push_arguments l = 5 * goal.size-expressions::push_arguments l + 1

abbrev pub decreases-expressions::push_argument : goal.decreases-expressions::push_argument
decreases-expressions::push_argument l = 5 * goal.size-expressions::push_argument l + 0

abbrev pub decreases-loops::push_loop_clauses : goal.decreases-loops::push_loop_clauses
decreases-loops::push_loop_clauses l = 5 * goal.size-loops::push_loop_clauses l + 1

abbrev pub decreases-loops::push_loop_clause : goal.decreases-loops::push_loop_clause
decreases-loops::push_loop_clause l = 5 * goal.size-loops::push_loop_clause l + 0

abbrev pub decreases-loops::push_limit : goal.decreases-loops::push_limit
decreases-loops::push_limit l = 5 * goal.size-loops::push_limit l + 0

abbrev pub decreases-loops::push_step : goal.decreases-loops::push_step
decreases-loops::push_step l = 5 * goal.size-loops::push_step l + 4

abbrev pub decreases-loops::push_stop : goal.decreases-loops::push_stop
decreases-loops::push_stop l = 5 * goal.size-loops::push_stop l + 0

abbrev pub decreases-parameters::push_signature : goal.decreases-parameters::push_signature
decreases-parameters::push_signature l = 5 * goal.size-parameters::push_signature l + 0

abbrev pub decreases-parameters::push_keys : goal.decreases-parameters::push_keys
decreases-parameters::push_keys l = 5 * goal.size-parameters::push_keys l + 0

abbrev pub decreases-parameters::push_key_list : goal.decreases-parameters::push_key_list
decreases-parameters::push_key_list l = 5 * goal.size-parameters::push_key_list l + 1

abbrev pub decreases-parameters::push_key : goal.decreases-parameters::push_key
decreases-parameters::push_key l = 5 * goal.size-parameters::push_key l + 0

abbrev pub decreases-parameters::push_initial : goal.decreases-parameters::push_initial
decreases-parameters::push_initial l = 5 * goal.size-parameters::push_initial l + 4

abbrev pub decreases-statements::push_before_body : goal.decreases-statements::push_before_body
decreases-statements::push_before_body l = 5 * goal.size-statements::push_before_body l + 0

abbrev pub decreases-statements::push_main_body : goal.decreases-statements::push_main_body
decreases-statements::push_main_body l = 5 * goal.size-statements::push_main_body l + 0

abbrev pub decreases-statements::push_behind_body : goal.decreases-statements::push_behind_body
decreases-statements::push_behind_body l = 5 * goal.size-statements::push_behind_body l + 0

abbrev pub decreases-statements::push_test : goal.decreases-statements::push_test
decreases-statements::push_test l = 5 * goal.size-statements::push_test l + 4

abbrev pub decreases-statements::push_alternatives : goal.decreases-statements::push_alternatives
decreases-statements::push_alternatives l = 5 * goal.size-statements::push_alternatives l + 1

abbrev pub decreases-statements::push_alternative : goal.decreases-statements::push_alternative
decreases-statements::push_alternative l = 5 * goal.size-statements::push_alternative l + 0

abbrev pub decreases-statements::push_last : goal.decreases-statements::push_last
decreases-statements::push_last l = 5 * goal.size-statements::push_last l + 2

abbrev pub invariant-bodies::push_body-loop-item : goal.invariant-bodies::push_body-loop-item
invariant-bodies::push_body-loop-item l = record {
  first : l.first ≡ is_none_of (map seen_item (take l.item-index l.item-items));
  out : seen_fragments l.out.items ≡ seen_fragments l.fn.out.items ++ written_body (trees.body_of (map seen_item (take l.item-index l.item-items)));
}

abbrev pub invariant-bodies::push_methods-loop-method : goal.invariant-bodies::push_methods-loop-method
invariant-bodies::push_methods-loop-method l = record {
  first : l.first ≡ is_none_of (map seen_method (take l.method-index l.method-items));
  out : seen_fragments l.out.items ≡ seen_fragments l.fn.out.items ++ written_methods (trees.methods_of (map seen_method (take l.method-index l.method-items)));
}

abbrev pub invariant-choices::push_arms-loop-arm : goal.invariant-choices::push_arms-loop-arm
invariant-choices::push_arms-loop-arm l = record {
  first : l.first ≡ is_none_of (map held_arm (take l.arm-index l.arm-items));
  out : seen_fragments l.out.items ≡ seen_fragments l.fn.out.items ++ written_arms (trees.arms_of (map held_arm (take l.arm-index l.arm-items)));
}

abbrev pub invariant-choices::push_tests-loop-test : goal.invariant-choices::push_tests-loop-test
invariant-choices::push_tests-loop-test l = record {
  first : l.first ≡ is_none_of (map seen_tree (take l.test-index l.test-items));
  out : seen_fragments l.out.items ≡ seen_fragments l.fn.out.items ++ written_tests (trees.tests_of (map seen_tree (take l.test-index l.test-items)));
}

abbrev pub invariant-expressions::push_arguments-loop-argument : goal.invariant-expressions::push_arguments-loop-argument
invariant-expressions::push_arguments-loop-argument l = record {
  first : l.first ≡ is_none_of (map seen_argument (take l.argument-index l.argument-items));
  out : seen_fragments l.out.items ≡ seen_fragments l.fn.out.items ++ written_arguments (trees.arguments_of (map seen_argument (take l.argument-index l.argument-items)));
}

abbrev pub invariant-loops::push_loop_clauses-loop-clause : goal.invariant-loops::push_loop_clauses-loop-clause
invariant-loops::push_loop_clauses-loop-clause l = record {
  first : l.first ≡ is_none_of (map seen_for_clause (take l.clause-index l.clause-items));
  out : seen_fragments l.out.items ≡ seen_fragments l.fn.out.items ++ written_for (trees.for_clauses_of (map seen_for_clause (take l.clause-index l.clause-items)));
}

abbrev pub invariant-parameters::push_key_list-loop-key : goal.invariant-parameters::push_key_list-loop-key
invariant-parameters::push_key_list-loop-key l = record {
  first : l.first ≡ is_none_of (map held_key (take l.key-index l.key-items));
  out : seen_fragments l.out.items ≡ seen_fragments l.fn.out.items ++ first_keys (trees.keys_of (map held_key (take l.key-index l.key-items)));
}

abbrev pub invariant-statements::push_alternatives-loop-alternative : goal.invariant-statements::push_alternatives-loop-alternative
invariant-statements::push_alternatives-loop-alternative l = seen_fragments l.out.items ≡ seen_fragments l.fn.out.items ++ written_alternatives (trees.alternatives_of (map held_alternative (take l.alternative-index l.alternative-items)))

abbrev pub invariant-blocks::push_clauses-loop-clause : goal.invariant-blocks::push_clauses-loop-clause
invariant-blocks::push_clauses-loop-clause l = seen_fragments l.out.items ≡ seen_fragments l.fn.out.items ++ written_clauses (trees.block_clauses_of (map seen_clause (take l.clause-index l.clause-items)))

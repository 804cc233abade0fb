use Rattle.std.proofs.Common.{◌≡◌, ◌+◌, ◌*◌, ◌∷◌, ◌++◌, map, flat_map, take, drop}
use Rattle.dy_term.specs.Drafts.{seen_term, seen_pair, seen_item, seen_arm, seen_method, seen_catch, seen_clause}
use Rattle.dy_desugar.specs.Lists.{tree_core, argument_terms, item_core, alternative_core, case_core, arm_core, method_core, key_default, block_clauses, for_clause_core}
use Rattle.dy_desugar.specs.Table as table
use Rattle.dy_desugar.proofs.+terms.Given as goal

-- A part is smaller than the tree that holds it. Where a call passes on all that it was given, the added number falls.
abbrev pub decreases-expressions::term_of : goal.decreases-expressions::term_of
decreases-expressions::term_of l = 5 * goal.size-expressions::term_of l + 2

abbrev pub decreases-expressions::maybe_term_of : goal.decreases-expressions::maybe_term_of
decreases-expressions::maybe_term_of l = 5 * goal.size-expressions::maybe_term_of l + 3

abbrev pub decreases-statements::statement_of : goal.decreases-statements::statement_of
decreases-statements::statement_of l = 5 * goal.size-statements::statement_of l + 1

abbrev pub decreases-expressions::assignment_of : goal.decreases-expressions::assignment_of
decreases-expressions::assignment_of l = 5 * goal.size-expressions::assignment_of l + 4

abbrev pub decreases-expressions::no_place_of : goal.decreases-expressions::no_place_of
decreases-expressions::no_place_of l = 5 * goal.size-expressions::no_place_of l + 3

abbrev pub decreases-expressions::arguments_of : goal.decreases-expressions::arguments_of
decreases-expressions::arguments_of l = 5 * goal.size-expressions::arguments_of l + 0

abbrev pub decreases-choices::branches_of : goal.decreases-choices::branches_of
decreases-choices::branches_of l = 5 * goal.size-choices::branches_of l + 0

abbrev pub decreases-choices::cases_of : goal.decreases-choices::cases_of
decreases-choices::cases_of l = 5 * goal.size-choices::cases_of l + 0

abbrev pub decreases-choices::tests_of : goal.decreases-choices::tests_of
decreases-choices::tests_of l = 5 * goal.size-choices::tests_of l + 3

abbrev pub decreases-choices::arms_of : goal.decreases-choices::arms_of
decreases-choices::arms_of l = 5 * goal.size-choices::arms_of l + 0

abbrev pub decreases-choices::selector_of : goal.decreases-choices::selector_of
decreases-choices::selector_of l = 5 * goal.size-choices::selector_of l + 3

abbrev pub decreases-bodies::body_of : goal.decreases-bodies::body_of
decreases-bodies::body_of l = 5 * goal.size-bodies::body_of l + 1

abbrev pub decreases-bodies::maybe_body_of : goal.decreases-bodies::maybe_body_of
decreases-bodies::maybe_body_of l = 5 * goal.size-bodies::maybe_body_of l + 2

abbrev pub decreases-bodies::item_of : goal.decreases-bodies::item_of
decreases-bodies::item_of l = 5 * goal.size-bodies::item_of l + 0

abbrev pub decreases-methods::methods_of : goal.decreases-methods::methods_of
decreases-methods::methods_of l = 5 * goal.size-methods::methods_of l + 1

abbrev pub decreases-methods::method_of : goal.decreases-methods::method_of
decreases-methods::method_of l = 5 * goal.size-methods::method_of l + 0

abbrev pub decreases-methods::defaults_of : goal.decreases-methods::defaults_of
decreases-methods::defaults_of l = 5 * goal.size-methods::defaults_of l + 0

abbrev pub decreases-methods::keys_defaults : goal.decreases-methods::keys_defaults
decreases-methods::keys_defaults l = 5 * goal.size-methods::keys_defaults l + 0

abbrev pub decreases-scopes::afterwards_of : goal.decreases-scopes::afterwards_of
decreases-scopes::afterwards_of l = 5 * goal.size-scopes::afterwards_of l + 1

abbrev pub decreases-scopes::cleanup_of : goal.decreases-scopes::cleanup_of
decreases-scopes::cleanup_of l = 5 * goal.size-scopes::cleanup_of l + 1

abbrev pub decreases-scopes::afterwards_in : goal.decreases-scopes::afterwards_in
decreases-scopes::afterwards_in l = 5 * goal.size-scopes::afterwards_in l + 0

abbrev pub decreases-scopes::cleanup_in : goal.decreases-scopes::cleanup_in
decreases-scopes::cleanup_in l = 5 * goal.size-scopes::cleanup_in l + 0

abbrev pub decreases-scopes::exception_in : goal.decreases-scopes::exception_in
decreases-scopes::exception_in l = 5 * goal.size-scopes::exception_in l + 0

abbrev pub decreases-scopes::exceptions_of : goal.decreases-scopes::exceptions_of
decreases-scopes::exceptions_of l = 5 * goal.size-scopes::exceptions_of l + 1

abbrev pub decreases-turns::clauses_of : goal.decreases-turns::clauses_of
decreases-turns::clauses_of l = 5 * goal.size-turns::clauses_of l + 1

abbrev pub decreases-turns::clause_of : goal.decreases-turns::clause_of
decreases-turns::clause_of l = 5 * goal.size-turns::clause_of l + 0

abbrev pub decreases-turns::bound_of : goal.decreases-turns::bound_of
decreases-turns::bound_of l = 5 * goal.size-turns::bound_of l + 0

abbrev pub decreases-turns::stop_of : goal.decreases-turns::stop_of
decreases-turns::stop_of l = 5 * goal.size-turns::stop_of l + 0

abbrev pub invariant-expressions::arguments_of-loop-argument : goal.invariant-expressions::arguments_of-loop-argument
invariant-expressions::arguments_of-loop-argument l = map seen_term l.terms.items ≡ flat_map argument_terms (take l.argument-index l.argument-items)

abbrev pub invariant-bodies::body_of-loop-item : goal.invariant-bodies::body_of-loop-item
invariant-bodies::body_of-loop-item l = map seen_item l.items.items ≡ map item_core (take l.item-index l.item-items)

abbrev pub invariant-choices::branches_of-loop-alternative : goal.invariant-choices::branches_of-loop-alternative
invariant-choices::branches_of-loop-alternative l = map seen_pair l.branches.items ≡ (seen_term l.fn.test, seen_term l.fn.body) ∷ map alternative_core (take l.alternative-index l.alternative-items)

abbrev pub invariant-choices::cases_of-loop-arm : goal.invariant-choices::cases_of-loop-arm
invariant-choices::cases_of-loop-arm l = map seen_pair l.cases.items ≡ map case_core (take l.arm-index l.arm-items)

abbrev pub invariant-choices::tests_of-loop-test : goal.invariant-choices::tests_of-loop-test
invariant-choices::tests_of-loop-test l = map seen_term l.terms.items ≡ map tree_core (take l.test-index l.test-items)

abbrev pub invariant-choices::arms_of-loop-arm : goal.invariant-choices::arms_of-loop-arm
invariant-choices::arms_of-loop-arm l = map seen_arm l.found.items ≡ map arm_core (take l.arm-index l.arm-items)

abbrev pub invariant-methods::methods_of-loop-method : goal.invariant-methods::methods_of-loop-method
invariant-methods::methods_of-loop-method l = map seen_method l.found.items ≡ map method_core (take l.method-index l.method-items)

abbrev pub invariant-methods::keys_defaults-loop-key : goal.invariant-methods::keys_defaults-loop-key
invariant-methods::keys_defaults-loop-key l = map seen_term l.defaults.items ≡ map key_default (take l.key-index l.key-items)

abbrev pub invariant-scopes::afterwards_of-loop-clause : goal.invariant-scopes::afterwards_of-loop-clause
invariant-scopes::afterwards_of-loop-clause l = table.afterwards_of (block_clauses (drop l.clause-index l.clause-items)) ≡ table.afterwards_of (block_clauses l.clause-items)

abbrev pub invariant-scopes::cleanup_of-loop-clause : goal.invariant-scopes::cleanup_of-loop-clause
invariant-scopes::cleanup_of-loop-clause l = table.cleanup_of (block_clauses (drop l.clause-index l.clause-items)) ≡ table.cleanup_of (block_clauses l.clause-items)

abbrev pub invariant-scopes::exceptions_of-loop-clause : goal.invariant-scopes::exceptions_of-loop-clause
invariant-scopes::exceptions_of-loop-clause l = map seen_catch l.found.items ++ table.exceptions_of (block_clauses (drop l.clause-index l.clause-items)) ≡ table.exceptions_of (block_clauses l.clause-items)

abbrev pub invariant-turns::clauses_of-loop-clause : goal.invariant-turns::clauses_of-loop-clause
invariant-turns::clauses_of-loop-clause l = map seen_clause l.found.items ≡ map for_clause_core (take l.clause-index l.clause-items)

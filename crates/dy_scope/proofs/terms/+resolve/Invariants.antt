use Rattle.std.proofs.Common.{◌≡◌, ◌+◌, ◌*◌, ◌-◌, ◌≤◌, ◌++◌, length, map, drop}
use Rattle.dy_term.specs.Drafts.{seen_term, seen_pair, seen_arm, seen_item, seen_method}
use Rattle.dy_term.specs.Drafts.{Core, seen_clause, seen_catch, cores_of, choice_of, arms_of}
use Rattle.dy_term.specs.Drafts.{items_of}
use Rattle.dy_term.specs.Drafts.{methods_of, clauses_of, catches_of}
use Rattle.dy_resolution.specs.Terms.{core_terms, core_choice, core_arms, core_items, core_methods}
use Rattle.dy_resolution.specs.Terms.{core_defaults, core_firsts, core_clauses, core_catches}
use Rattle.dy_binding.proofs.Turns.{Goes}
use Rattle.dy_scope.proofs.terms.+resolve.Given as goal

-- A part is less deep than the draft that holds it. Where a call passes on all that it was given,
-- the added number falls.
abbrev pub decreases-term : goal.decreases-term
decreases-term g l = 8 * goal.size-term g l + 0

abbrev pub decreases-terms : goal.decreases-terms
decreases-terms g l = 8 * goal.size-terms g l + 1

abbrev pub decreases-boxed_term : goal.decreases-boxed_term
decreases-boxed_term g l = 8 * goal.size-boxed_term g l + 1

abbrev pub decreases-some_term : goal.decreases-some_term
decreases-some_term g l = 8 * goal.size-some_term g l + 1

abbrev pub decreases-limit_term : goal.decreases-limit_term
decreases-limit_term g l = 8 * goal.size-limit_term g l + 1

abbrev pub decreases-test_term : goal.decreases-test_term
decreases-test_term g l = 8 * goal.size-test_term g l + 1

abbrev pub decreases-called_term : goal.decreases-called_term
decreases-called_term g l = 8 * goal.size-called_term g l + 1

abbrev pub decreases-branch_terms : goal.decreases-branch_terms
decreases-branch_terms g l = 8 * goal.size-branch_terms g l + 1

abbrev pub decreases-arms : goal.decreases-arms
decreases-arms g l = 8 * goal.size-arms g l + 2

abbrev pub decreases-let_item : goal.decreases-let_item
decreases-let_item g l = 8 * goal.size-let_item g l + 1

abbrev pub decreases-default_terms : goal.decreases-default_terms
decreases-default_terms g l = 8 * goal.size-default_terms g l + 1

abbrev pub decreases-lambda_term : goal.decreases-lambda_term
decreases-lambda_term g l = 8 * goal.size-lambda_term g l + 3

abbrev pub decreases-method_lambdas : goal.decreases-method_lambdas
decreases-method_lambdas g l = 8 * goal.size-method_lambdas g l + 4

abbrev pub decreases-item : goal.decreases-item
decreases-item g l = 8 * goal.size-item g l + 5

abbrev pub decreases-body_items : goal.decreases-body_items
decreases-body_items g l = 8 * goal.size-body_items g l + 6

abbrev pub decreases-first_part : goal.decreases-first_part
decreases-first_part g l = 8 * goal.size-first_part g l + 2

abbrev pub decreases-first_terms : goal.decreases-first_terms
decreases-first_terms g l = 8 * goal.size-first_terms g l + 3

abbrev pub decreases-clause_term : goal.decreases-clause_term
decreases-clause_term g l = 8 * goal.size-clause_term g l + 1

abbrev pub decreases-clause_terms : goal.decreases-clause_terms
decreases-clause_terms g l = 8 * goal.size-clause_terms g l + 2

abbrev pub decreases-catch_terms : goal.decreases-catch_terms
decreases-catch_terms g l = 8 * goal.size-catch_terms g l + 2

abbrev pub decreases-for_term : goal.decreases-for_term
decreases-for_term g l = 8 * goal.size-for_term g l + 4

abbrev pub decreases-turn_terms : goal.decreases-turn_terms
decreases-turn_terms g l = 8 * goal.size-turn_terms g l + 3

abbrev pub decreases-body_terms : goal.decreases-body_terms
decreases-body_terms g l = 8 * goal.size-body_terms g l + 2

abbrev pub decreases-block_term : goal.decreases-block_term
decreases-block_term g l = 8 * goal.size-block_term g l + 3

abbrev pub invariant-terms-loop-draft : goal.invariant-terms-loop-draft
invariant-terms-loop-draft g l = record {
  goes : Goes (core_terms (g.E.Environment.outside l.fn.environment)
      (cores_of (map seen_term l.draft-items)) l.fn.scope l.fn.progress) l.terms
      (core_terms (g.E.Environment.outside l.fn.environment)
      (cores_of (map seen_term (drop l.draft-index l.draft-items))) l.scope l.progress);
  same : l.scope ≡ l.fn.scope;
}

abbrev pub invariant-arms-loop-draft : goal.invariant-arms-loop-draft
invariant-arms-loop-draft g l = record {
  goes : Goes (core_arms (g.E.Environment.outside l.fn.environment)
      (arms_of (map seen_arm l.draft-items)) l.fn.scope l.fn.progress) l.arms
      (core_arms (g.E.Environment.outside l.fn.environment)
      (arms_of (map seen_arm (drop l.draft-index l.draft-items))) l.scope l.progress);
  same : l.scope ≡ l.fn.scope;
}

abbrev pub invariant-body_items-loop-draft : goal.invariant-body_items-loop-draft
invariant-body_items-loop-draft g l = record {
  goes : Goes (core_items (g.E.Environment.outside l.fn.environment)
      (items_of (map seen_item l.draft-items)) l.fn.scope l.fn.progress) l.items
      (core_items (g.E.Environment.outside l.fn.environment)
      (items_of (map seen_item (drop l.draft-index l.draft-items))) l.scope l.progress);
  inside : l.outside ≤ length l.scope;
  leaves : drop (length l.scope - l.outside) l.scope ≡ l.fn.scope;
}

abbrev pub invariant-method_lambdas-loop-name : goal.invariant-method_lambdas-loop-name
invariant-method_lambdas-loop-name g l = record {
  goes : Goes (core_methods (g.E.Environment.outside l.fn.environment)
      (methods_of (map seen_method l._name-items)) l.fn.first l.fn.scope l.fn.progress) l.lambdas
      (core_methods (g.E.Environment.outside l.fn.environment)
      (methods_of (map seen_method (drop l._name-index l._name-items))) l.number l.scope
      l.progress);
  number : l.number ≡ l.fn.first + l._name-index;
  same : l.scope ≡ l.fn.scope;
}

abbrev pub invariant-clause_terms-loop-draft : goal.invariant-clause_terms-loop-draft
invariant-clause_terms-loop-draft g l = record {
  goes : Goes (core_clauses (g.E.Environment.outside l.fn.environment)
      (clauses_of (map seen_clause l.draft-items)) l.fn.firsts.items l.fn.first l.fn.scope
      l.fn.progress) l.clauses (core_clauses (g.E.Environment.outside l.fn.environment)
      (clauses_of (map seen_clause (drop l.draft-index l.draft-items))) l.rest.items l.number
      l.scope l.progress);
  number : l.number ≡ l.fn.first + l.draft-index;
  same : l.scope ≡ l.fn.scope;
}

abbrev pub invariant-catch_terms-loop-draft : goal.invariant-catch_terms-loop-draft
invariant-catch_terms-loop-draft g l = record {
  goes : Goes (core_catches (g.E.Environment.outside l.fn.environment)
      (catches_of (map seen_catch l.draft-items)) l.fn.first l.fn.scope l.fn.progress) l.clauses
      (core_catches (g.E.Environment.outside l.fn.environment)
      (catches_of (map seen_catch (drop l.draft-index l.draft-items))) l.number l.scope l.progress);
  outside : l.outside ≡ length l.fn.scope;
  same : l.scope ≡ l.fn.scope;
}

abbrev pub invariant-branch_terms-loop-test : goal.invariant-branch_terms-loop-test
invariant-branch_terms-loop-test g l = record {
  goes : (last : Core) → core_choice (g.E.Environment.outside l.fn.environment)
      (choice_of (map seen_pair l.test-items) last) l.fn.scope l.fn.progress
      ≡ (let rest = core_choice (g.E.Environment.outside l.fn.environment)
      (choice_of (map seen_pair (drop l.test-index l.test-items)) last) l.scope
      l.progress in ((l.pairs ++ rest.0.0, rest.0.1), rest.1));
  same : l.scope ≡ l.fn.scope;
}

abbrev pub invariant-default_terms-loop-draft : goal.invariant-default_terms-loop-draft
invariant-default_terms-loop-draft g l = record {
  goes : core_defaults (g.E.Environment.outside l.fn.environment)
      (cores_of (map seen_term l.draft-items)) l.fn.keys.items l.fn.first l.fn.scope l.fn.progress
      ≡ (let rest = core_defaults (g.E.Environment.outside l.fn.environment)
      (cores_of (map seen_term (drop l.draft-index l.draft-items))) l.rest.items l.number
      l.scope l.progress in ((l.keywords ++ rest.0.0, rest.0.1), rest.1));
  room : l.number + length l.rest.items ≡ l.fn.first + length l.fn.keys.items;
}

abbrev pub invariant-first_terms-loop-clause : goal.invariant-first_terms-loop-clause
invariant-first_terms-loop-clause g l = record {
  goes : Goes (core_firsts (g.E.Environment.outside l.fn.environment)
      (clauses_of (map seen_clause l.clause-items)) l.fn.scope l.fn.progress.next) l.firsts.items
      (core_firsts (g.E.Environment.outside l.fn.environment)
      (clauses_of (map seen_clause (drop l.clause-index l.clause-items))) l.scope l.progress.next);
  first : l.progress.first ≡ l.fn.progress.first;
  same : l.scope ≡ l.fn.scope;
}

use Rattle.std.proofs.Common.{◌≡◌, ◌+◌, map, drop}
use Rattle.dy_term.specs.Drafts.{clauses_of, seen_clause}
use Rattle.dy_binding.specs.Bound.{variables_bound}
use Rattle.dy_binding.proofs.bound.bind_variables.Given as goal

abbrev pub invariant-loop-clause : goal.invariant-loop-clause
invariant-loop-clause l = record {
  bound : variables_bound (clauses_of (map seen_clause l.clause-items)) l.fn.first l.fn.scope
      ≡ variables_bound (clauses_of (map seen_clause (drop l.clause-index l.clause-items))) l.number
      l.scope;
  number : l.number ≡ l.fn.first + l.clause-index;
}

use Rattle.std.proofs.Common.{◌≡◌, ◌+◌, map, drop}
use Rattle.dy_term.specs.Drafts.{methods_of, seen_method}
use Rattle.dy_binding.specs.Bound.{methods_bound}
use Rattle.dy_binding.proofs.bound.bind_methods.Given as goal

abbrev pub invariant-loop-method : goal.invariant-loop-method
invariant-loop-method l = record {
  bound : methods_bound (methods_of (map seen_method l.method-items)) l.fn.first l.fn.scope
      ≡ methods_bound (methods_of (map seen_method (drop l.method-index l.method-items))) l.number
      l.scope;
  number : l.number ≡ l.fn.first + l.method-index;
}

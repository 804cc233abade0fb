use Rattle.std.proofs.Common.{◌≡◌, ◌+◌, map, drop}
use Rattle.dy_term.specs.Types.{seen_typed}
use Rattle.dy_binding.specs.Bound.{bound}
use Rattle.dy_binding.proofs.bound.bind_typed.Given as goal

abbrev pub invariant-loop-local : goal.invariant-loop-local
invariant-loop-local l = record {
  bound : bound l.fn.first (map (λ t. t.0) (map seen_typed l.local-items)) l.fn.scope
      ≡ bound l.number (map (λ t. t.0) (map seen_typed (drop l.local-index l.local-items))) l.scope;
  number : l.number ≡ l.fn.first + l.local-index;
}

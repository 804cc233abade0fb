use Rattle.std.proofs.Common.{◌≡◌, ◌+◌, map, drop}
use Rattle.dy_term.specs.declared.draft.Local.TheVariants.{Named}
use Rattle.dy_term.specs.Types.{seen_typed}
use Rattle.dy_binding.specs.Bound.{bound}
use Rattle.dy_binding.proofs.bound.bind_required.Given as goal

abbrev pub invariant-loop-name : goal.invariant-loop-name
invariant-loop-name l = record {
  bound : bound l.fn.first (map (λ r. Named r.0) (map seen_typed l.name-items)) l.fn.scope
      ≡ bound l.number (map (λ r. Named r.0) (map seen_typed (drop l.name-index l.name-items)))
      l.scope;
  number : l.number ≡ l.fn.first + l.name-index;
}

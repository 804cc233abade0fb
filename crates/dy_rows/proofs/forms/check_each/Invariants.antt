use Rattle.std.proofs.Common.{◌≡◌, map, drop}
use Rattle.dy_term.specs.Types.{seen_key}
use Rattle.dy_binding.specs.Types.{read_types}
use Rattle.dy_rows.proofs.forms.check_each.Given as goal

abbrev pub invariant-loop-key : goal.invariant-loop-key
invariant-loop-key g l =
    (read_types (g.E.Environment.outside l.environment)
    (map (λ k. k.declared) (map seen_key l.key-items)) l.fn.scope l.fn.progress).1
    ≡ (read_types (g.E.Environment.outside l.environment)
    (map (λ k. k.declared) (map seen_key (drop l.key-index l.key-items))) l.fn.scope
    l.progress).1

use Rattle.std.proofs.Common.{map, drop}
use Rattle.dy_term.specs.Types.{seen_typed}
use Rattle.dy_binding.specs.Types.{read_types}
use Rattle.dy_binding.proofs.Turns.{Goes}
use Rattle.dy_binding.proofs.types.read_required.Given as goal

abbrev pub invariant-loop-name : goal.invariant-loop-name
invariant-loop-name g l =
    Goes (read_types (g.E.Environment.outside l.environment)
    (map (λ r. r.1) (map seen_typed l._name-items)) l.fn.scope l.fn.progress) l.types
    (read_types (g.E.Environment.outside l.environment)
    (map (λ r. r.1) (map seen_typed (drop l._name-index l._name-items))) l.fn.scope l.progress)

use Rattle.std.proofs.Common.{map, drop}
use Rattle.dy_term.specs.Types.{seen_type}
use Rattle.dy_binding.specs.Types.{read_types}
use Rattle.dy_binding.proofs.Turns.{Goes}
use Rattle.dy_binding.proofs.types.read_list.Given as goal

abbrev pub invariant-loop-draft : goal.invariant-loop-draft
invariant-loop-draft g l =
    Goes (read_types (g.E.Environment.outside l.environment)
    (map seen_type l.draft-items) l.fn.scope l.fn.progress) l.types
    (read_types (g.E.Environment.outside l.environment)
    (map seen_type (drop l.draft-index l.draft-items)) l.fn.scope l.progress)

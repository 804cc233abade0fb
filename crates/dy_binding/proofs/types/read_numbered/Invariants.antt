use Rattle.std.proofs.Common.{◌≡◌, ◌+◌, map, drop}
use Rattle.dy_term.specs.Types.{seen_typed}
use Rattle.dy_binding.specs.Types.{read_numbered}
use Rattle.dy_binding.proofs.Turns.{Goes}
use Rattle.dy_binding.proofs.types.read_numbered.Given as goal

abbrev pub invariant-loop-local : goal.invariant-loop-local
invariant-loop-local g l = record {
  goes : Goes (read_numbered (g.E.Environment.outside l.environment)
      (map seen_typed l._local-items) l.fn.first l.fn.scope l.fn.progress) l.types
      (read_numbered (g.E.Environment.outside l.environment)
      (map seen_typed (drop l._local-index l._local-items)) l.number l.fn.scope l.progress);
  number : l.number ≡ l.fn.first + l._local-index;
}

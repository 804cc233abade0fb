use Rattle.std.proofs.Common.{◌≡◌, map, take}
use Rattle.dy_term.specs.Types.{seen_key}
use Rattle.dy_binding.specs.Types.{key_types}
use Rattle.dy_binding.proofs.types.types_of_keys.Given as goal

abbrev pub invariant-loop-key : goal.invariant-loop-key
invariant-loop-key g l = l.read.items
    ≡ key_types (g.E.Environment.outside l.environment) l.fn.scope
    (map seen_key (take l.key-index l.key-items))

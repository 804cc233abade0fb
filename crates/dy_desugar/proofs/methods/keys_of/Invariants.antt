use Rattle.std.proofs.Common.{◌≡◌, map, take}
use Rattle.dy_term.specs.Types.{seen_key}
use Rattle.dy_desugar.specs.Lists.{key_core}
use Rattle.dy_desugar.proofs.methods.keys_of.Given as goal

abbrev pub invariant-loop-key : goal.invariant-loop-key
invariant-loop-key l = map seen_key l.found.items ≡ map key_core (take l.key-index l.key-items)

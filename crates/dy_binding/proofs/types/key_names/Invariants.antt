use Rattle.std.proofs.Common.{◌≡◌, map, take}
use Rattle.dy_base.specs.Folding.{folded}
use Rattle.dy_term.specs.Types.{seen_key}
use Rattle.dy_binding.proofs.types.key_names.Given as goal

abbrev pub invariant-loop-key : goal.invariant-loop-key
invariant-loop-key l = l.names
    ≡ map (λ k. folded k.keyword.text) (map seen_key (take l.key-index l.key-items))

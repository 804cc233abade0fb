use Rattle.std.proofs.Common.{◌≡◌, fold, flat_map, drop}
use Rattle.dy_keys.specs.Fed as fed
use Rattle.dy_keys.proofs.fed.feed_types.Given as goal

abbrev pub invariant-loop-declared : goal.invariant-loop-declared
invariant-loop-declared g l =
    fold g.H.Hasher.write l.state (flat_map fed.declared_type (drop l.declared-index l.declared-items))
    ≡ fold g.H.Hasher.write l.initial.state (flat_map fed.declared_type l.declared-items)

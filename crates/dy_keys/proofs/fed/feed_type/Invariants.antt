use Rattle.std.proofs.Common.{◌≡◌, fold, flat_map, drop}
use Rattle.dy_keys.specs.Fed as fed
use Rattle.dy_keys.proofs.fed.feed_type.Given as goal

abbrev pub invariant-loop-member : goal.invariant-loop-member
invariant-loop-member g l =
    fold g.H.Hasher.write l.state (flat_map fed.member (drop l.member-index l.member-items))
    ≡ fold g.H.Hasher.write l.initial.state (flat_map fed.member l.member-items)

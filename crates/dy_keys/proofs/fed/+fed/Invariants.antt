use Rattle.std.proofs.Common.{◌≡◌, fold, drop}
use Rattle.dy_keys.specs.Fed as fed
use Rattle.dy_keys.proofs.fed.+fed.Given as goal

abbrev pub invariant-feed_all-loop-item : goal.invariant-feed_all-loop-item
invariant-feed_all-loop-item g l =
    fold g.H.Hasher.write l.state (fed.literals (drop l.item-index l.item-items))
    ≡ fold g.H.Hasher.write l.initial.state (fed.literals l.item-items)

use Rattle.std.proofs.Common.{◌≡◌, ℕ, ◌+◌, max, map, drop}
use Rattle.dy_meaning.specs.Numbers.{greatest}
use Rattle.dy_local_counts.proofs.counts.in_let.Given as goal

abbrev pub invariant-loop-local : goal.invariant-loop-local
invariant-loop-local l =
    greatest (map (λ local. local.0 + 1) l.local-items)
    ≡ max l.most (greatest (map (λ local. local.0 + 1) (drop l.local-index l.local-items)))

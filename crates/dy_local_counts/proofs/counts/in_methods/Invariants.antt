use Rattle.std.proofs.Common.{◌≡◌, ℕ, ◌+◌, max, map, drop}
use Rattle.dy_meaning.specs.Numbers.{greatest, numbers_in_lambda}
use Rattle.dy_local_counts.proofs.counts.in_methods.Given as goal

abbrev pub invariant-loop-local : goal.invariant-loop-local
invariant-loop-local l =
    greatest (map (λ m. max (m.0 + 1) (numbers_in_lambda m.1)) l.local-items)
    ≡ max l.most (greatest (map (λ m. max (m.0 + 1) (numbers_in_lambda m.1))
    (drop l.local-index l.local-items)))

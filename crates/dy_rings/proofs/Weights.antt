-- What is left to do for a walk.
use Rattle.std.proofs.Common.{◌≡◌, ℕ, zero, suc, ◌+◌, ◌≤◌, List, [], ◌∷◌, length, Some, slice_get, slice_set, arith}
use Rattle.dy_rings.specs.declared.ring.State.{State}
use Rattle.dy_rings.specs.declared.ring.State.TheVariants.{Unseen, Open, Closed}
use Rattle.dy_rings.specs.Rings.{uses_at}
use Rattle.dy_rings.specs.Walks.{Progress}
use Rattle.dy_rings.proofs.Lists.{set_all}

-- how much the nodes come to that were not met yet, each with its weight
abbrev pub unmet : (ℕ → ℕ) → List State → ℕ
unmet weight [] = 0
unmet weight (Unseen ∷ states) = 2 + weight 0 + unmet (λ i. weight (suc i)) states
unmet weight (Open p ∷ states) = unmet (λ i. weight (suc i)) states
unmet weight (Closed ∷ states) = unmet (λ i. weight (suc i)) states

pub less_unmet : (weight : ℕ → ℕ) (states : List State) (i p : ℕ) → slice_get states i ≡ Some Unseen → unmet weight (slice_set states i (Open p)) + (2 + weight i) ≡ unmet weight states
less_unmet weight [] i p e = absurd cc
less_unmet weight (Unseen ∷ states) zero p e = omega arith
less_unmet weight (Open q ∷ states) zero p e = absurd cc
less_unmet weight (Closed ∷ states) zero p e = absurd cc
less_unmet weight (Unseen ∷ states) (suc i) p e = let rest = less_unmet (λ j. weight (suc j)) states i p e in omega (arith, rest)
less_unmet weight (Open q ∷ states) (suc i) p e = less_unmet (λ j. weight (suc j)) states i p e
less_unmet weight (Closed ∷ states) (suc i) p e = less_unmet (λ j. weight (suc j)) states i p e

pub no_more_unmet : (weight : ℕ → ℕ) (states : List State) (i : ℕ) → unmet weight (slice_set states i Closed) ≤ unmet weight states
no_more_unmet weight [] i = omega arith
no_more_unmet weight (Unseen ∷ states) zero = omega arith
no_more_unmet weight (Open q ∷ states) zero = omega arith
no_more_unmet weight (Closed ∷ states) zero = omega arith
no_more_unmet weight (Unseen ∷ states) (suc i) = let rest = no_more_unmet (λ j. weight (suc j)) states i in omega (arith, rest)
no_more_unmet weight (Open q ∷ states) (suc i) = no_more_unmet (λ j. weight (suc j)) states i
no_more_unmet weight (Closed ∷ states) (suc i) = no_more_unmet (λ j. weight (suc j)) states i

pub none_more_unmet : (weight : ℕ → ℕ) (is : List ℕ) (states : List State) → unmet weight (set_all Closed states is) ≤ unmet weight states
none_more_unmet weight [] states = omega arith
none_more_unmet weight (i ∷ is) states =
    let rest = none_more_unmet weight is (slice_set states i Closed) in
    let one = no_more_unmet weight states i in
    omega (arith, rest, one)

abbrev pub size_at : List (List ℕ) → ℕ → ℕ
size_at uses i = length (uses_at uses i)

abbrev pub work : List (List ℕ) → Progress → ℕ
work uses walk = unmet (size_at uses) walk.states + length walk.todo + length walk.groups

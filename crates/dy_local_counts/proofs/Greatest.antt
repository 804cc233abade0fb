-- The greater of numbers.
use Rattle.std.proofs.Common.{◌≡◌, ℕ, max, arith}

pub max_assoc : (a b c : ℕ) → max (max a b) c ≡ max a (max b c)
max_assoc a b c = omega arith

pub max_none : (a : ℕ) → max a 0 ≡ a
max_none a = omega arith

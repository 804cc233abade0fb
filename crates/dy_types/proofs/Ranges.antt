-- Ranges that share a number.
use Rattle.std.proofs.Common.{◌≡◌, ℤ, ◌≤ℤ◌, ◌⊎◌, inl, inr, ◌↔◌, IsTrue, Bool, true, false, true≢false, refl, sym, ◌∙◌, arith}
use lib.Signed.{lt_z}
use Rattle.std.proofs.lemmas.Int.{ints}
use Rattle.dy_types.specs.Members.{IsBetween}

less : (a c : ℤ) → lt_z c a ≡ true → c ≤ℤ a
less a c e = grind (arith, ints)

no_less : (a c : ℤ) → lt_z c a ≡ false → a ≤ℤ c
no_less a c e = grind (arith, ints)

ordered : (a c : ℤ) (t : Bool) → lt_z c a ≡ t → (a ≤ℤ c) ⊎ (c ≤ℤ a)
ordered a c true e = inr (less a c e)
ordered a c false e = inl (no_less a c e)

-- the lower bound of one of two ranges is in both
abbrev pub ShareLower : ℤ → ℤ → ℤ → ℤ → Type 0
ShareLower a b c d = (IsBetween a b a × IsBetween c d a) ⊎ (IsBetween a b c × IsBetween c d c)

share : (a b c d : ℤ) → ShareLower a b c d → (n : ℤ) × IsBetween a b n × IsBetween c d n
share a b c d (inl h) = (a, h.0, h.1)
share a b c d (inr h) = (c, h.0, h.1)

lower : (a b c d n : ℤ) → (a ≤ℤ c) ⊎ (c ≤ℤ a) → IsBetween a b n → IsBetween c d n → ShareLower a b c d
lower a b c d n (inl first) h k = inr ((first, omega (arith, ints, h.1, k.0)), (omega (arith, ints), omega (arith, ints, k.0, k.1)))
lower a b c d n (inr second) h k = inl ((omega (arith, ints), omega (arith, ints, h.0, h.1)), (second, omega (arith, ints, h.0, k.1)))

pub shared : (r : Bool) (a b c d : ℤ) → IsTrue r ↔ ShareLower a b c d → IsTrue r ↔ ((n : ℤ) × IsBetween a b n × IsBetween c d n)
shared r a b c d told =
    (λ t. share a b c d (told.0 t), λ h. told.1 (lower a b c d h.0 (ordered a c (lt_z c a) refl) h.1 h.2))

-- the second of two tests, where the first fails
pick : {A B : Type 0} (r s : Bool) → r ≡ false → (A → r ≡ true) → (B → s ≡ true) → A ⊎ B → s ≡ true
pick r s fails first second (inl a) = absurd (true≢false (sym (first a) ∙ fails))
pick r s fails first second (inr b) = second b

pub one_of : {A B : Type 0} (r s : Bool) → r ≡ false → IsTrue r ↔ A → IsTrue s ↔ B → IsTrue s ↔ (A ⊎ B)
one_of r s fails first second = (λ t. inr (second.0 t), λ h. pick r s fails first.1 second.1 h)

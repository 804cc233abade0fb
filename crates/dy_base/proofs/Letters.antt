-- Folding forgets the case of ASCII letters, and nothing else.
use Rattle.std.proofs.Common.{◌≡◌, ◌↔◌, ℕ, ◌+◌, ◌<◌, ◌≤◌, ◌⊎◌, List, [], ◌∷◌, refl, sym, ap, ◌∙◌, inl, inr, arith}
use Rattle.std.proofs.lemmas.Bool.{cases_lt}
use Rattle.std.proofs.lemmas.Bool.Decides.{nat_tests}
use Rattle.dy_base.specs.Folding.{folded_byte, folded, IsCapitalOf, SameLetter, SameButForCase}

pub folded_byte-capital : (b : ℕ) → 65 ≤ b → b ≤ 90 → folded_byte b ≡ b + 32
folded_byte-capital b low high = grind (arith, nat_tests)

pub folded_byte-below : (b : ℕ) → b < 65 → folded_byte b ≡ b
folded_byte-below b low = grind (arith, nat_tests)

pub folded_byte-above : (b : ℕ) → 90 < b → folded_byte b ≡ b
folded_byte-above b high = grind (arith, nat_tests)

-- a capital letter, or a byte that folding keeps
abbrev Cases : ℕ → Type 0
Cases b = ((65 ≤ b) × (b ≤ 90) × (folded_byte b ≡ b + 32)) ⊎ (folded_byte b ≡ b)

cases_high : (b : ℕ) → 65 ≤ b → ((b < 91) ⊎ (91 ≤ b)) → Cases b
cases_high b low (inl high) = inl (low, omega arith, folded_byte-capital b low (omega arith))
cases_high b low (inr high) = inr (folded_byte-above b (omega arith))

cases_low : (b : ℕ) → ((b < 65) ⊎ (65 ≤ b)) → Cases b
cases_low b (inl low) = inr (folded_byte-below b low)
cases_low b (inr low) = cases_high b low (cases_lt b 91)

folded_cases : (b : ℕ) → Cases b
folded_cases b = cases_low b (cases_lt b 65)

twice_cases : (b : ℕ) → Cases b → folded_byte (folded_byte b) ≡ folded_byte b
twice_cases b (inl p) = ap folded_byte p.2 ∙ folded_byte-above (b + 32) (omega (arith, p.0)) ∙ sym p.2
twice_cases b (inr p) = ap folded_byte p

pub folded_byte-twice : (b : ℕ) → folded_byte (folded_byte b) ≡ folded_byte b
folded_byte-twice b = twice_cases b (folded_cases b)

pub folded-twice : (bytes : List ℕ) → folded (folded bytes) ≡ folded bytes
folded-twice [] = refl
folded-twice (b ∷ bytes) = let first = folded_byte-twice b in let rest = folded-twice bytes in cc

same_cases : (a b : ℕ) → folded_byte a ≡ folded_byte b → Cases a → Cases b → SameLetter a b
same_cases a b e (inl p) (inl q) = inl (omega (arith, e, p.2, q.2))
same_cases a b e (inl p) (inr q) = inr (inl (p.0, p.1, omega (arith, e, p.2, q)))
same_cases a b e (inr p) (inl q) = inr (inr (q.0, q.1, omega (arith, e, p, q.2)))
same_cases a b e (inr p) (inr q) = inl (sym p ∙ e ∙ q)

pub same_letter : (a b : ℕ) → folded_byte a ≡ folded_byte b → SameLetter a b
same_letter a b e = same_cases a b e (folded_cases a) (folded_cases b)

folded_capital : (a b : ℕ) → IsCapitalOf a b → folded_byte a ≡ folded_byte b
folded_capital a b capital =
    folded_byte-capital a capital.0 capital.1 ∙ sym capital.2 ∙ sym (folded_byte-above b (omega (arith, capital.2, capital.0)))

pub folded_letter : (a b : ℕ) → SameLetter a b → folded_byte a ≡ folded_byte b
folded_letter a b (inl same) = ap folded_byte same
folded_letter a b (inr (inl capital)) = folded_capital a b capital
folded_letter a b (inr (inr capital)) = sym (folded_capital b a capital)

pub same_text : (xs bs : List ℕ) → folded xs ≡ folded bs → SameButForCase xs bs
same_text [] [] e = tt
same_text [] (b ∷ bs) e = absurd cc
same_text (a ∷ xs) [] e = absurd cc
same_text (a ∷ xs) (b ∷ bs) e = (same_letter a b cc, same_text xs bs cc)

pub folded_text : (xs bs : List ℕ) → SameButForCase xs bs → folded xs ≡ folded bs
folded_text [] [] same = refl
folded_text [] (b ∷ bs) same = absurd same
folded_text (a ∷ xs) [] same = absurd same
folded_text (a ∷ xs) (b ∷ bs) same = let first = folded_letter a b same.0 in let rest = folded_text xs bs same.1 in cc

pub same_text-law : (bytes other : List ℕ) → (folded bytes ≡ folded other) ↔ SameButForCase bytes other
same_text-law bytes other = (same_text bytes other, folded_text bytes other)

-- Locals that go.
use Rattle.std.proofs.Common.{◌≡◌, ℕ, ◌-◌, ◌<◌, suc, List, [], ◌∷◌, length, drop, refl, arith}

pub leave_one : {A : Type 0} (s : List A) (len : ℕ) → len < length s → drop (length (drop 1 s) - len) (drop 1 s) ≡ drop (length s - len) s
leave_one [] len l = absurd (omega arith)
leave_one (x ∷ xs) len l = let e : length (x ∷ xs) - len ≡ suc (length xs - len) = omega arith in rw e refl

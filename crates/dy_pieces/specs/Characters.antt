-- How characters are spelled inside of literals (DRM 2, "Lexical syntax").
use Rattle.std.specs.Prelude.{◌≡◌, ℕ, ◌+◌, ◌*◌, Bool, true, false, ◌==◌, List, [], ◌∷◌, Some}
use Rattle.dy_pieces.specs.Bytes.{digit_of}
use Rattle.dy_pieces.specs.Scan.{escape_of, is_plain}

-- the bytes between the quotes, and the bytes that they stand for; the flag says that a tab stands
-- for itself
pub data Characters (tabs : Bool) : List ℕ → List ℕ → Type 0 where
  none : Characters tabs [] []
  -- a byte that stands for itself
  plain : (b : ℕ) (rest values text all : List ℕ) → (b == 92) ≡ false → is_plain tabs b ≡ true
      → Characters tabs rest values
      → text ≡ b ∷ rest → all ≡ b ∷ values → Characters tabs text all
  -- a backslash and a letter, a digit or a mark
  escape : (e v : ℕ) (rest values text all : List ℕ) → escape_of e ≡ Some v
      → Characters tabs rest values
      → text ≡ 92 ∷ e ∷ rest → all ≡ v ∷ values → Characters tabs text all
  -- \<h>
  one_digit : (h v : ℕ) (rest values text all : List ℕ) → digit_of h ≡ Some v
      → Characters tabs rest values
      → text ≡ 92 ∷ 60 ∷ h ∷ 62 ∷ rest → all ≡ v ∷ values → Characters tabs text all
  -- \<hh>
  two_digits : (h i v w : ℕ) (rest values text all : List ℕ) → digit_of h ≡ Some v
      → digit_of i ≡ Some w → Characters tabs rest values
      → text ≡ 92 ∷ 60 ∷ h ∷ i ∷ 62 ∷ rest → all ≡ (16 * v + w) ∷ values → Characters tabs text all

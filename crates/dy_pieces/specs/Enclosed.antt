-- What literals and block comments enclose (DRM 2, "Lexical syntax"), by cases.
use Rattle.std.specs.Prelude.{◌≡◌, ℕ, suc, Bool, false, ◌==◌, ◌&&◌, ◌||◌, List, [], ◌∷◌}

-- after the opener of a literal, up to the quote that closes it; a backslash takes the byte after
-- it along, and no line ends inside
pub data Literal (quote : ℕ) : List ℕ → Type 0 where
  closes : (text : List ℕ) → text ≡ quote ∷ [] → Literal quote text
  byte : (b : ℕ) (rest text : List ℕ) → (b == 10) ≡ false → (b == quote) ≡ false → (b == 92) ≡ false
      → Literal quote rest → text ≡ b ∷ rest → Literal quote text
  escape : (b : ℕ) (rest text : List ℕ) → (b == 10) ≡ false → Literal quote rest
      → text ≡ 92 ∷ b ∷ rest → Literal quote text

-- /* or */
abbrev pub is_mark : ℕ → ℕ → Bool
is_mark a b = (a == 42 && b == 47) || (a == 47 && b == 42)

abbrev pub begins_mark : List ℕ → Bool
begins_mark [] = false
begins_mark (a ∷ []) = false
begins_mark (a ∷ b ∷ rest) = is_mark a b

-- where so many comments are open, up to the */ that closes the outermost
pub data Comment : ℕ → List ℕ → Type 0 where
  closed : (text : List ℕ) → text ≡ 42 ∷ 47 ∷ [] → Comment 1 text
  leaves : (d : ℕ) (rest text : List ℕ) → Comment (suc d) rest → text ≡ 42 ∷ 47 ∷ rest
      → Comment (suc (suc d)) text
  enters : (d : ℕ) (rest text : List ℕ) → Comment (suc d) rest → text ≡ 47 ∷ 42 ∷ rest
      → Comment d text
  other : (d b : ℕ) (rest text : List ℕ) → begins_mark (b ∷ rest) ≡ false → Comment d rest
      → text ≡ b ∷ rest → Comment d text

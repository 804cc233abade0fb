-- Names ignore the case of ASCII letters (DRM 2, "Names").
use Rattle.std.specs.Prelude.{◌≡◌, ℕ, ◌+◌, ◌≤◌, ◌⊎◌, ◌&&◌, nat_le, if◌then◌else◌, List, [], ◌∷◌}
use Rattle.std.specs.Prelude.{map}

-- a capital letter as the small one, and every other byte as it is
abbrev pub folded_byte : ℕ → ℕ
folded_byte byte = if nat_le 65 byte && nat_le byte 90 then byte + 32 else byte

abbrev pub folded : List ℕ → List ℕ
folded bytes = map folded_byte bytes

-- the capital and the small form of one letter
abbrev pub IsCapitalOf : ℕ → ℕ → Type 0
IsCapitalOf capital small = (65 ≤ capital) × (capital ≤ 90) × (small ≡ capital + 32)

-- the same byte, or one letter in either case
abbrev pub SameLetter : ℕ → ℕ → Type 0
SameLetter a b = (a ≡ b) ⊎ (IsCapitalOf a b ⊎ IsCapitalOf b a)

-- two texts that differ in the case of ASCII letters only
abbrev pub SameButForCase : List ℕ → List ℕ → Type 0
SameButForCase [] [] = Unit {0}
SameButForCase [] (b ∷ bs) = ⊥
SameButForCase (a ∷ rest) [] = ⊥
SameButForCase (a ∷ rest) (b ∷ others) = SameLetter a b × SameButForCase rest others

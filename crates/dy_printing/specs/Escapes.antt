-- Texts between quotes (DRM 2, "Literals"; which escapes are printed is own).
use Rattle.std.specs.Prelude.{ℕ, ◌+◌, ◌/◌, ◌%◌, Bool, false, ◌==◌, nat_lt, List, [], ◌∷◌, ◌++◌}
use Rattle.std.specs.Prelude.{flat_map, if◌then◌else◌}

abbrev pub hexadecimal_digit : ℕ → ℕ
hexadecimal_digit digit = if nat_lt digit 10 then 48 + digit else 87 + digit

-- `\<hh>`
abbrev pub by_number : ℕ → List ℕ
by_number byte = 92 ∷ 60 ∷ hexadecimal_digit (byte / 16) ∷ hexadecimal_digit (byte % 16) ∷ 62 ∷ []

abbrev pub is_graphic : ℕ → Bool
is_graphic byte = if nat_lt byte 32 then false else nat_lt byte 127

-- a byte as it stands between these quotes
abbrev pub escaped_byte : ℕ → ℕ → List ℕ
escaped_byte quote byte =
    if byte == 92 then 92 ∷ byte ∷ []
    else if byte == quote then 92 ∷ byte ∷ []
    else if byte == 10 then 92 ∷ 110 ∷ []
    else if byte == 13 then 92 ∷ 114 ∷ []
    else if byte == 9 then 92 ∷ 116 ∷ []
    else if is_graphic byte then byte ∷ []
    else by_number byte

-- bytes between quotes
abbrev pub quoted : ℕ → List ℕ → List ℕ
quoted quote bytes = quote ∷ (flat_map (escaped_byte quote) bytes ++ quote ∷ [])

-- The values of integers as they are written.
use Rattle.std.specs.Prelude.{ℕ, ◌+◌, ◌*◌, ◌==◌, nat_lt, if◌then◌else◌, List, [], ◌∷◌, Option, Some}
use Rattle.std.specs.Prelude.{None}
use Rattle.dy_pieces.specs.Bytes.{digit_of, base_of}

abbrev pub or_zero : Option ℕ → ℕ
or_zero (Some n) = n
or_zero None = 0

-- the number that the digits give after n
abbrev pub value_from : ℕ → ℕ → List ℕ → ℕ
value_from base n [] = n
value_from base n (b ∷ bs) = value_from base (n * base + or_zero (digit_of b)) bs

abbrev pub value_after_base : Option ℕ → List ℕ → ℕ
value_after_base (Some base) bs = value_from base 0 bs
value_after_base None bs = 0

abbrev pub value_after_hash : List ℕ → ℕ
value_after_hash [] = 0
value_after_hash (b ∷ bs) = value_after_base (base_of b) bs

-- the value of an integer as it is written
abbrev pub value_of : List ℕ → ℕ
value_of [] = 0
value_of (b ∷ bs) = if b == 35 then value_after_hash bs else value_from 10 0 (b ∷ bs)

-- what fits 64 bits with a sign
abbrev pub fitting : ℕ → Option ℕ
fitting n = if nat_lt 9223372036854775807 n then None else Some n

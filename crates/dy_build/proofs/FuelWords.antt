-- Words that name fuel.
use Rattle.std.proofs.Common.{◌≡◌, ℕ, ◌^◌, ◌<◌, ◌==◌, Bool, true, false, ◌&&◌, nat_le, if◌then◌else◌, List, [], ◌∷◌, length, drop, cond, Some, None, refl, ap, arith}
use Rattle.std.specs.List.{list_all}
use Rattle.std.specs.Char.{is_ascii_digit, digit_value}
use Rattle.std.specs.Str.Parse.{AllDigits, IsNumeral, digits_value, without_leading_plus}
use Rattle.std.proofs.lemmas.Bool.{and_parts}
use Rattle.std.proofs.lemmas.Bool.Decides.{nat_tests}
use Rattle.dy_build.specs.Words.{is_fuel_word, fuel_of, fuel_limit}

digit_below : (byte : ℕ) → is_ascii_digit byte ≡ true → digit_value byte < 10
digit_below byte h = grind (arith, nat_tests)

digits_below : (word : List ℕ) → list_all is_ascii_digit word ≡ true → AllDigits 10 word
digits_below [] h = tt
digits_below (byte ∷ word) h =
    let parts = and_parts (is_ascii_digit byte) (list_all is_ascii_digit word) h in (digit_below byte parts.0, digits_below word parts.1)

no_plus : (byte : ℕ) → is_ascii_digit byte ≡ true → (byte == 43) ≡ false
no_plus byte h = grind (arith, nat_tests)

whole : (word : List ℕ) → list_all is_ascii_digit word ≡ true → without_leading_plus word ≡ word
whole [] h = refl
whole (byte ∷ word) h = ap (λ (b : Bool). drop (cond b 1 0) (byte ∷ word)) (no_plus byte (and_parts (is_ascii_digit byte) (list_all is_ascii_digit word) h).0)

some_bytes : (word : List ℕ) → nat_le 1 (length word) ≡ true → 0 < length word
some_bytes word h = grind (arith, nat_tests)

within_word : (value : ℕ) → nat_le value fuel_limit ≡ true → value < 2 ^ 64
within_word value h = grind (arith, nat_tests)

-- what is no number of 64 bits is no fuel
pub unread : (word : List ℕ) → is_fuel_word word ≡ true → (IsNumeral 10 (without_leading_plus word) × (digits_value 10 (without_leading_plus word) < 2 ^ 64) → ⊥) → None ≡ fuel_of word
unread word fits h = go (is_fuel_word word && nat_le (digits_value 10 word) fuel_limit) refl
  where
    digits : list_all is_ascii_digit word ≡ true
    digits = (and_parts (nat_le (length word) 13) (list_all is_ascii_digit word) (and_parts (nat_le 1 (length word)) (nat_le (length word) 13 && list_all is_ascii_digit word) fits).1).1

    go : (b : Bool) → (is_fuel_word word && nat_le (digits_value 10 word) fuel_limit) ≡ b → None ≡ (if b then Some (digits_value 10 word) else None)
    go false e = refl
    go true e =
        let same = whole word digits in
        absurd (rw same at h ((some_bytes word (and_parts (nat_le 1 (length word)) (nat_le (length word) 13 && list_all is_ascii_digit word) fits).0, digits_below word digits), within_word (digits_value 10 word) (and_parts (is_fuel_word word) (nat_le (digits_value 10 word) fuel_limit) e).1))

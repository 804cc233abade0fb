-- A number that has become too wide stays so.
use Rattle.std.proofs.Common.{◌≡◌, ℕ, suc, ◌+◌, ◌-◌, ◌*◌, ◌/◌, ◌<◌, ◌≤◌, List, [], ◌∷◌, length, get_or, drop, None, arith}
use Rattle.std.proofs.Math.Nat.{mul-le-mul_left}
use Rattle.std.proofs.lemmas.Bool.Decides.{nat_tests}
use Rattle.dy_pieces.specs.Bytes.{digit_of}
use Rattle.dy_pieces.specs.Numbers.{or_zero, value_from, fitting}
use Rattle.dy_pieces.proofs.Steps.{at_drop}

grows : (base n d : ℕ) → 1 ≤ base → n ≤ n * base + d
grows base n d h = let m = mul-le-mul_left n h in omega (arith, m)

pub value_from-least : (base n : ℕ) (ds : List ℕ) → 1 ≤ base → n ≤ value_from base n ds
value_from-least base n [] h = omega arith
value_from-least base n (b ∷ bs) h =
    let more = value_from-least base (n * base + or_zero (digit_of b)) bs h in
    let first = grows base n (or_zero (digit_of b)) h in
    omega arith

pub fitting-wide : (v : ℕ) → 9223372036854775807 < v → fitting v ≡ None
fitting-wide v h = grind (arith, nat_tests)

wide_step : (base n d m : ℕ) → 2 ≤ base → d ≤ 15 → 15 ≤ m → (m - d) / base < n → m < n * base + d
wide_step base n d m some small large h = let p : base * suc ((m - d) / base) ≤ base * n = mul-le-mul_left base h in omega (arith, p)

pub too_wide : (base n : ℕ) (digits : List ℕ) (i : ℕ) → i < length digits → 2 ≤ base → or_zero (digit_of (get_or digits i 0)) ≤ 15
    → (9223372036854775807 - or_zero (digit_of (get_or digits i 0))) / base < n → fitting (value_from base n (drop i digits)) ≡ None
too_wide base n digits i room some small h =
    let d = or_zero (digit_of (get_or digits i 0)) in
    let step : 9223372036854775807 < n * base + d = wide_step base n d 9223372036854775807 some small (omega arith) h in
    let one : 1 ≤ base = omega arith in
    let least = value_from-least base (n * base + d) (drop (i + 1) digits) one in
    rw (at_drop digits i room) (fitting-wide (value_from base (n * base + d) (drop (i + 1) digits)) (omega arith))

-- Numbers of 64 bits.
use Rattle.std.proofs.Common.{◌≡◌, ℕ, suc, ◌+◌, ◌^◌, ◌<◌, Bool, true, false, not, ℤ, pos, negsuc, ◌+ℤ◌, ◌-ℤ◌, ◌*ℤ◌, ◌≤ℤ◌, ◌<ℤ◌, refl, sym, ap, ◌∙◌, arith}
use Rattle.std.specs.Prelude.{int_lt, int_le, if◌then◌else◌}
use Rattle.std.proofs.lemmas.Bool.{true≢false, ltb-true, lt-ltb}
use Rattle.std.proofs.lemmas.Int.{ints}
use Rattle.dy_values.specs.Identity.{is_same_number}
use Rattle.dy_outcome.specs.Turns.{fits}
use Rattle.dy_lowered.specs.Turns.{least_number, greatest_number}

pub same_truth : (a b : Bool) → (a ≡ true → b ≡ true) → (b ≡ true → a ≡ true) → a ≡ b
same_truth true true f g = refl
same_truth true false f g = sym (f refl)
same_truth false true f g = g refl
same_truth false false f g = refl

pub lt_is : (a b : ℤ) → a <ℤ b → int_lt a b ≡ true
lt_is a b h = by (int_lt a b) refl
  where
    by : (t : Bool) → int_lt a b ≡ t → int_lt a b ≡ true
    by true e = e
    by false e = absurd (omega (arith, ints))

pub lt_says : (a b : ℤ) → int_lt a b ≡ true → a <ℤ b
lt_says a b e = omega (arith, ints)

pub le_is : (a b : ℤ) → a ≤ℤ b → int_le a b ≡ true
le_is a b h = by (int_le a b) refl
  where
    by : (t : Bool) → int_le a b ≡ t → int_le a b ≡ true
    by true e = e
    by false e = absurd (omega (arith, ints))

pub le_says : (a b : ℤ) → int_le a b ≡ true → a ≤ℤ b
le_says a b e = omega (arith, ints)

pub le_not : (a b : ℤ) → int_le a b ≡ not (int_lt b a)
le_not a b = by (int_lt b a) refl
  where
    by : (t : Bool) → int_lt b a ≡ t → int_le a b ≡ not t
    by true e = by_le (int_le a b) refl
      where
        by_le : (u : Bool) → int_le a b ≡ u → int_le a b ≡ false
        by_le true h = absurd (omega (arith, ints))
        by_le false h = h
    by false e = le_is a b (omega (arith, ints))

pub fits_low : (z : ℤ) → fits z ≡ true → least_number ≤ℤ z
fits_low (pos n) e = omega (arith, ints)
fits_low (negsuc n) e = let h : n < 2 ^ 63 = ltb-true n (2 ^ 63) e in omega (arith, ints)

pub fits_high : (z : ℤ) → fits z ≡ true → z ≤ℤ greatest_number
fits_high (pos n) e = let h : n < 2 ^ 63 = ltb-true n (2 ^ 63) e in omega (arith, ints)
fits_high (negsuc n) e = omega (arith, ints)

pub is_fit : (z : ℤ) → least_number ≤ℤ z → z ≤ℤ greatest_number → fits z ≡ true
is_fit (pos n) low high = lt-ltb n (2 ^ 63) (omega (arith, ints))
is_fit (negsuc n) low high = lt-ltb n (2 ^ 63) (omega (arith, ints))

-- whether a number goes on upwards, and downwards
pub room_up : (z : ℤ) (more : ℕ) → fits z ≡ true → int_lt z (greatest_number -ℤ pos more) ≡ fits (z +ℤ pos (suc more))
room_up z more h =
    let low = fits_low z h in
    same_truth (int_lt z (greatest_number -ℤ pos more)) (fits (z +ℤ pos (suc more)))
    (λ e. let less = lt_says z (greatest_number -ℤ pos more) e in is_fit (z +ℤ pos (suc more)) (omega (arith, ints)) (omega (arith, ints)))
    (λ e. let high = fits_high (z +ℤ pos (suc more)) e in lt_is z (greatest_number -ℤ pos more) (omega (arith, ints)))

pub room_down : (z : ℤ) (less : ℕ) → fits z ≡ true → int_lt z (least_number +ℤ pos (suc less)) ≡ not (fits (z +ℤ negsuc less))
room_down z less h = by (fits (z +ℤ negsuc less)) refl
  where
    by : (t : Bool) → fits (z +ℤ negsuc less) ≡ t → int_lt z (least_number +ℤ pos (suc less)) ≡ not t
    by true e = by_lt (int_lt z (least_number +ℤ pos (suc less))) refl
      where
        by_lt : (u : Bool) → int_lt z (least_number +ℤ pos (suc less)) ≡ u → int_lt z (least_number +ℤ pos (suc less)) ≡ false
        by_lt true g = let low = fits_low (z +ℤ negsuc less) e in absurd (omega (arith, ints))
        by_lt false g = g
    by false e = by_lt (int_lt z (least_number +ℤ pos (suc less))) refl
      where
        by_lt : (u : Bool) → int_lt z (least_number +ℤ pos (suc less)) ≡ u → int_lt z (least_number +ℤ pos (suc less)) ≡ true
        by_lt true g = g
        by_lt false g = let top = fits_high z h in absurd (true≢false (sym (is_fit (z +ℤ negsuc less) (omega (arith, ints)) (omega (arith, ints))) ∙ e))

-- below a bound there is room for one more
pub room_below : (z bound : ℤ) → fits z ≡ true → fits bound ≡ true → int_le bound z ≡ false → fits (z +ℤ pos 1) ≡ true
room_below z bound h g e =
    let low = fits_low z h in
    let high = fits_high bound g in
    is_fit (z +ℤ pos 1) (omega (arith, ints)) (omega (arith, ints))

-- up to a bound is below the next one
pub next_bound : (bound z : ℤ) → int_lt bound z ≡ int_le (bound +ℤ pos 1) z
next_bound bound z =
    same_truth (int_lt bound z) (int_le (bound +ℤ pos 1) z) (λ e. le_is (bound +ℤ pos 1) z (omega (arith, ints))) (λ e. lt_is bound z (omega (arith, ints)))

pub next_fits : (bound : ℤ) → fits bound ≡ true → int_lt bound greatest_number ≡ true → fits (bound +ℤ pos 1) ≡ true
next_fits bound h e = let low = fits_low bound h in is_fit (bound +ℤ pos 1) (omega (arith, ints)) (omega (arith, ints))

-- a number that is not over a bound is at it where it is the same
pub met : (bound z : ℤ) → int_lt bound z ≡ false → is_same_number bound z ≡ int_le bound z
met bound z e = ap (λ (c : Bool). if c then false else not (int_lt z bound)) e ∙ sym (le_not bound z)

pub met_itself : (bound z : ℤ) → int_lt bound z ≡ true → is_same_number z z ≡ int_le bound z
met_itself bound z e =
    let itself : int_lt z z ≡ false = by (int_lt z z) refl in
    met z z itself ∙ le_is z z (omega (arith, ints)) ∙ sym (le_is bound z (omega (arith, ints)))
  where
    by : (t : Bool) → int_lt z z ≡ t → int_lt z z ≡ false
    by true h = absurd (omega (arith, ints))
    by false h = h

pub next_not_over : (bound z : ℤ) → int_le bound z ≡ false → int_lt bound (z +ℤ pos 1) ≡ false
next_not_over bound z e = by (int_lt bound (z +ℤ pos 1)) refl
  where
    by : (t : Bool) → int_lt bound (z +ℤ pos 1) ≡ t → int_lt bound (z +ℤ pos 1) ≡ false
    by true h = absurd (omega (arith, ints))
    by false h = h

pub over_not : (bound z : ℤ) → int_lt bound z ≡ true → int_le bound z ≡ true
over_not bound z e = le_is bound z (omega (arith, ints))

-- by a step that is not known
not_truth : (a b : Bool) → (a ≡ true → b ≡ false) → (a ≡ false → b ≡ true) → a ≡ not b
not_truth true b f g = ap not (sym (f refl))
not_truth false b f g = ap not (sym (g refl))

pub lt_not : (a b : ℤ) → int_lt a b ≡ false → b ≤ℤ a
lt_not a b e = omega (arith, ints)

no_fit_high : (z : ℤ) → greatest_number <ℤ z → fits z ≡ false
no_fit_high z h = by (fits z) refl
  where
    by : (t : Bool) → fits z ≡ t → fits z ≡ false
    by true e = let high = fits_high z e in absurd (omega (arith, ints))
    by false e = e

no_fit_low : (z : ℤ) → z <ℤ least_number → fits z ≡ false
no_fit_low z h = by (fits z) refl
  where
    by : (t : Bool) → fits z ≡ t → fits z ≡ false
    by true e = let low = fits_low z e in absurd (omega (arith, ints))
    by false e = e

-- the last number that can go on upwards, and the last one that cannot go on downwards
pub over_up : (z step last : ℤ) → fits z ≡ true → pos 0 ≤ℤ step → last +ℤ step ≡ greatest_number → int_lt last z ≡ not (fits (z +ℤ step))
over_up z step last h up e =
    let low = fits_low z h in
    not_truth (int_lt last z) (fits (z +ℤ step))
    (λ less. let more = lt_says last z less in no_fit_high (z +ℤ step) (omega (arith, ints)))
    (λ not_less. let most = lt_not last z not_less in is_fit (z +ℤ step) (omega (arith, ints)) (omega (arith, ints)))

pub room_up_from : (z step last : ℤ) → fits z ≡ true → step ≤ℤ pos 0 → last +ℤ step +ℤ pos 1 ≡ least_number → int_lt last z ≡ fits (z +ℤ step)
room_up_from z step last h down e =
    let high = fits_high z h in
    same_truth (int_lt last z) (fits (z +ℤ step))
    (λ less. let more = lt_says last z less in is_fit (z +ℤ step) (omega (arith, ints)) (omega (arith, ints)))
    (λ fit. let low = fits_low (z +ℤ step) fit in lt_is last z (omega (arith, ints)))

pub opposite_is : (z : ℤ) → z *ℤ negsuc 0 ≡ pos 0 -ℤ z
opposite_is z = omega (arith, ints)

pub least_up : (step : ℤ) → fits step ≡ true → step <ℤ pos 0 → (fits (step +ℤ pos 1) ≡ true) × (fits ((step +ℤ pos 1) *ℤ negsuc 0) ≡ true) × (fits ((step +ℤ pos 1) *ℤ negsuc 0 +ℤ least_number) ≡ true)
    × ((step +ℤ pos 1) *ℤ negsuc 0 +ℤ least_number +ℤ step +ℤ pos 1 ≡ least_number)
least_up step h down =
    let low = fits_low step h in
    let e = opposite_is (step +ℤ pos 1) in (
      is_fit (step +ℤ pos 1) (omega (arith, ints)) (omega (arith, ints)),
      is_fit ((step +ℤ pos 1) *ℤ negsuc 0) (omega (arith, ints)) (omega (arith, ints)),
      is_fit ((step +ℤ pos 1) *ℤ negsuc 0 +ℤ least_number) (omega (arith, ints)) (omega (arith, ints)),
      omega (arith, ints),
    )

pub most_down : (step : ℤ) → fits step ≡ true → pos 0 ≤ℤ step → (fits (step *ℤ negsuc 0) ≡ true) × (fits (step *ℤ negsuc 0 +ℤ greatest_number) ≡ true) × (step *ℤ negsuc 0 +ℤ greatest_number +ℤ step ≡ greatest_number)
most_down step h up =
    let high = fits_high step h in
    let e = opposite_is step in (
      is_fit (step *ℤ negsuc 0) (omega (arith, ints)) (omega (arith, ints)),
      is_fit (step *ℤ negsuc 0 +ℤ greatest_number) (omega (arith, ints)) (omega (arith, ints)),
      omega (arith, ints),
    )

-- Distinct numbers, of which those of the libraries that are built in count nothing.
use Rattle.std.proofs.Common.{◌≡◌, ℕ, zero, suc, ◌+◌, ◌-◌, ◌*◌, ◌^◌, ◌<◌, ◌≤◌, Bool, false, true, ◌||◌, eqb, eqb-true, ne_eqb, List, [], ◌∷◌, length, refl, sym, subst, arith}
use Rattle.std.specs.List.{IsDistinct, AllByRecursion, list_any}
use Rattle.std.proofs.lemmas.Map.Steps.{length-le_from_distinct_below}
use Rattle.dy_code.specs.Validity.{Every}

-- as many as a library may have bodies, for each number but 0 and 1
abbrev pub weight : ℕ → ℕ
weight zero = 0
weight (suc zero) = 0
weight (suc (suc k)) = 2 ^ 26 - 1

abbrev pub weights : List ℕ → ℕ
weights [] = 0
weights (n ∷ ns) = weight n + weights ns

-- those that count
abbrev own : List ℕ → List ℕ
own [] = []
own (zero ∷ ns) = own ns
own (suc zero ∷ ns) = own ns
own (suc (suc k) ∷ ns) = suc (suc k) ∷ own ns

own_weigh : (ns : List ℕ) → weights ns ≤ (2 ^ 26 - 1) * length (own ns)
own_weigh [] = omega arith
own_weigh (zero ∷ ns) = omega (arith, own_weigh ns)
own_weigh (suc zero ∷ ns) = omega (arith, own_weigh ns)
own_weigh (suc (suc k) ∷ ns) = omega (arith, own_weigh ns)

-- what holds of all holds of those
own_every : (P : ℕ → Type 0) (ns : List ℕ) → Every P ns → Every P (own ns)
own_every P [] all = tt
own_every P (zero ∷ ns) all = own_every P ns all.1
own_every P (suc zero ∷ ns) all = own_every P ns all.1
own_every P (suc (suc k) ∷ ns) all = (all.0, own_every P ns all.1)

own_apart : (P : ℕ → Type 0) (ns : List ℕ) → AllByRecursion P ns → AllByRecursion P (own ns)
own_apart P [] all = tt
own_apart P (zero ∷ ns) all = own_apart P ns all.1
own_apart P (suc zero ∷ ns) all = own_apart P ns all.1
own_apart P (suc (suc k) ∷ ns) all = (all.0, own_apart P ns all.1)

own_distinct : (ns : List ℕ) → IsDistinct eqb ns → IsDistinct eqb (own ns)
unfolding IsDistinct
own_distinct [] d = tt
own_distinct (zero ∷ ns) d = own_distinct ns d.1
own_distinct (suc zero ∷ ns) d = own_distinct ns d.1
own_distinct (suc (suc k) ∷ ns) d = (own_apart (λ y. eqb (suc (suc k)) y ≡ false) ns d.0, own_distinct ns d.1)

zero_apart : (ns : List ℕ) → AllByRecursion (λ y. eqb 0 y ≡ false) (own ns)
zero_apart [] = tt
zero_apart (zero ∷ ns) = zero_apart ns
zero_apart (suc zero ∷ ns) = zero_apart ns
zero_apart (suc (suc k) ∷ ns) = (ne_eqb 0 (suc (suc k)) (λ e. omega (arith, e)), zero_apart ns)

one_apart : (ns : List ℕ) → AllByRecursion (λ y. eqb 1 y ≡ false) (own ns)
one_apart [] = tt
one_apart (zero ∷ ns) = one_apart ns
one_apart (suc zero ∷ ns) = one_apart ns
one_apart (suc (suc k) ∷ ns) = (ne_eqb 1 (suc (suc k)) (λ e. omega (arith, e)), one_apart ns)

with_both : (ns : List ℕ) → IsDistinct eqb ns → IsDistinct eqb (0 ∷ 1 ∷ own ns)
unfolding IsDistinct
with_both ns d = ((ne_eqb 0 1 (λ e. omega (arith, e)), zero_apart ns), (one_apart ns, own_distinct ns d))

one_of : (P : ℕ → Type 0) (q : ℕ) (ns : List ℕ) → Every P ns → list_any (eqb q) ns ≡ true → P q
one_of P q [] all is = absurd cc
one_of P q (n ∷ ns) all is = go (eqb q n) refl is (one_of P q ns all.1)
  where
    go : (b : Bool) → eqb q n ≡ b → (b || list_any (eqb q) ns) ≡ true → (list_any (eqb q) ns ≡ true → P q) → P q
    go true same any rest = subst P (sym (eqb-true q n same)) all.0
    go false other any rest = rest any

-- Numbers below 66 that differ weigh less than 2^32.
pub light : (ns : List ℕ) (count : ℕ) → IsDistinct eqb ns → Every (λ m. m < count) ns → 2 ≤ count → count ≤ 66 → weights ns < 2 ^ 32
light ns count d low two few =
    let all : Every (λ m. m < count) (0 ∷ 1 ∷ own ns) = (omega (arith, two), (omega (arith, two), own_every (λ m. m < count) ns low)) in
    let short = length-le_from_distinct_below (0 ∷ 1 ∷ own ns) count (with_both ns d) (λ q is. one_of (λ m. m < count) q (0 ∷ 1 ∷ own ns) all is) in
    omega (arith, own_weigh ns, short, few)

-- Lists in which each thing stands once: what stands in front of what, and at which place.
use Rattle.std.proofs.Common.{◌≡◌, ℕ, zero, suc, ◌<◌, Bool, true, false, List, [], ◌∷◌, ◌++◌, eqb, cond, inl, inr, refl, sym, subst, eq-eqb, ne_eqb, append_assoc, arith}
use Rattle.dy_rings.specs.Rings.{In, Once, Before}
use Rattle.dy_type_names.proofs.Ins.{in_right}

pub before_first : (i j : ℕ) (xs : List ℕ) → Before i j xs → In i xs
before_first i j [] b = absurd b
before_first i j (x ∷ xs) (inl b) = inl b.0
before_first i j (x ∷ xs) (inr b) = inr (before_first i j xs b)

pub before_last : (i j : ℕ) (xs : List ℕ) → Before i j xs → In j xs
before_last i j [] b = absurd b
before_last i j (x ∷ xs) (inl b) = inr b.1
before_last i j (x ∷ xs) (inr b) = inr (before_last i j xs b)

pub once_apart : (x : ℕ) (xs ys : List ℕ) → Once (xs ++ ys) → In x xs → In x ys → ⊥
once_apart x [] ys o i j = i
once_apart x (y ∷ xs) ys o (inl e) j = o.0 (in_right y xs ys (subst (λ z. In z ys) e j))
once_apart x (y ∷ xs) ys o (inr i) j = once_apart x xs ys o.1 i j

-- what stands behind the one between the two parts stands in the last part
before_behind : (i j : ℕ) (xs ys : List ℕ) → Once (xs ++ i ∷ ys) → Before i j (xs ++ i ∷ ys) → In j ys
before_behind i j [] ys o (inl b) = b.1
before_behind i j [] ys o (inr b) = absurd (o.0 (before_first i j ys b))
before_behind i j (x ∷ xs) ys o (inl b) = absurd (o.0 (subst (λ z. In z (xs ++ i ∷ ys)) b.0 (in_right i xs (i ∷ ys) (inl refl))))
before_behind i j (x ∷ xs) ys o (inr b) = before_behind i j xs ys o.1 b

-- nothing that is done, the last one included, stands behind the last one
pub none_behind : (i j : ℕ) (xs ys : List ℕ) → Once (xs ++ i ∷ ys) → In j (xs ++ i ∷ []) → Before i j (xs ++ i ∷ ys) → ⊥
none_behind i j xs ys o d b =
    once_apart j (xs ++ i ∷ []) ys (subst (λ zs. Once zs) (sym (append_assoc xs (i ∷ []) ys)) o) d (before_behind i j xs ys o b)

abbrev pub place : ℕ → List ℕ → ℕ
place x [] = zero
place x (y ∷ ys) = cond (eqb x y) zero (suc (place x ys))

place_there : (b : Bool) (n : ℕ) → b ≡ true → cond b zero (suc n) ≡ zero
place_there true n e = refl
place_there false n e = absurd cc

place_later : (b : Bool) (n : ℕ) → b ≡ false → cond b zero (suc n) ≡ suc n
place_later true n e = absurd cc
place_later false n e = refl

apart : (x y : ℕ) (ys : List ℕ) → (In y ys → ⊥) → In x ys → eqb x y ≡ false
apart x y ys n i = ne_eqb x y (λ e. n (subst (λ z. In z ys) e i))

pub place_before : (i j : ℕ) (xs : List ℕ) → Once xs → Before i j xs → place i xs < place j xs
place_before i j [] o b = absurd b
place_before i j (x ∷ xs) o (inl b) =
    let here : place i (x ∷ xs) ≡ zero = place_there (eqb i x) (place i xs) (eq-eqb i x b.0) in
    let there : place j (x ∷ xs) ≡ suc (place j xs) = place_later (eqb j x) (place j xs) (apart j x xs o.0 b.1) in
    omega (arith, here, there)
place_before i j (x ∷ xs) o (inr b) =
    let here : place i (x ∷ xs) ≡ suc (place i xs) = place_later (eqb i x) (place i xs) (apart i x xs o.0 (before_first i j xs b)) in
    let there : place j (x ∷ xs) ≡ suc (place j xs) = place_later (eqb j x) (place j xs) (apart j x xs o.0 (before_last i j xs b)) in
    let less : place i xs < place j xs = place_before i j xs o.1 b in
    omega (arith, here, there, less)

-- The first place of what passes a test, and places of libraries in an order.
use Rattle.std.proofs.Common.{◌≡◌, ℕ, suc, ◌+◌, ◌<◌, Bool, true, false, ◌||◌, cond, eqb, List, [], ◌∷◌, length, get_or, Option, Some, None, Contains, refl, sym, subst, ◌∙◌, eqb-true, arith}
use Rattle.std.specs.List.{list_any, position_from}
use Rattle.std.proofs.lemmas.List.{get_or_default}
use Rattle.std.proofs.lemmas.Iterator.Adapters.{position_from-zero}
use Rattle.dy_load_order.specs.LoadOrder.{is_in, place_in}

-- a place that is at least so great, where what passes the test stands so far behind
abbrev pub IsFound : {X : Type 0} → (X → Bool) → X → ℕ → List X → ℕ → Type 0
IsFound test d from xs k = (i : ℕ) × (k ≡ from + i) × (i < length xs) × (test (get_or xs i d) ≡ true)

found_from : {X : Type 0} (test : X → Bool) (d : X) (from k : ℕ) (xs : List X) → position_from test from xs ≡ Some k → IsFound test d from xs k
found_from test d from k [] e = absurd cc
found_from test d from k (x ∷ xs) e = go (test x) refl e (found_from test d (from + 1) k xs)
  where
    go : (b : Bool) → test x ≡ b → cond b (Some from) (position_from test (from + 1) xs) ≡ Some k → (position_from test (from + 1) xs ≡ Some k → IsFound test d (from + 1) xs k) → IsFound test d from (x ∷ xs) k
    go true is f rest = let same : from ≡ k = cc in (0, omega arith, omega arith, is)
    go false is f rest = let (i, at, within, passes) = rest f in (suc i, omega arith, omega arith, passes)

pub found : {X : Type 0} (test : X → Bool) (d : X) (k : ℕ) (xs : List X) → position_from test 0 xs ≡ Some k → (k < length xs) × (test (get_or xs k d) ≡ true)
found test d k xs e =
    let (i, at, within, passes) = found_from test d 0 k xs e in
    let same : i ≡ k = omega arith in
    (omega arith, subst (λ (j : ℕ). test (get_or xs j d) ≡ true) same passes)

some_place : {X : Type 0} (test : X → Bool) (from : ℕ) (xs : List X) → list_any test xs ≡ true → (k : ℕ) × (position_from test from xs ≡ Some k)
some_place test from [] i = absurd cc
some_place test from (x ∷ xs) i = go (test x) i (some_place test (from + 1) xs)
  where
    go : (b : Bool) → (b || list_any test xs) ≡ true → (list_any test xs ≡ true → (k : ℕ) × (position_from test (from + 1) xs ≡ Some k)) → (k : ℕ) × (cond b (Some from) (position_from test (from + 1) xs) ≡ Some k)
    go true any rest = (from, refl)
    go false any rest = rest any

-- ---- libraries in an order

pub place_found : (order : List ℕ) (library k : ℕ) → place_in order library ≡ Some k → (k < length order) × (get_or order k 0 ≡ library)
place_found order library k e =
    let (within, is) = found (eqb library) 0 k order (sym (position_from-zero (eqb library) order) ∙ e) in
    (within, sym (eqb-true library (get_or order k 0) is))

pub place_there : (order : List ℕ) (library : ℕ) → is_in order library ≡ true → (k : ℕ) × (place_in order library ≡ Some k)
place_there order library i = let (k, is) = some_place (eqb library) 0 order i in (k, position_from-zero (eqb library) order ∙ is)

pub place_none : (order : List ℕ) (library : ℕ) → (Contains order library → ⊥) → place_in order library ≡ None
place_none order library out = go (place_in order library) refl
  where
    go : (o : Option ℕ) → place_in order library ≡ o → o ≡ None
    go None e = refl
    go (Some k) e = let (within, is) = place_found order library k e in absurd (out (k, within, get_or_default order k library 0 within ∙ is))

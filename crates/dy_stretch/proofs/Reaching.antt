-- Places that are reached, and the longest ways from them.
use Rattle.std.proofs.Common.{◌≡◌, ◌⊎◌, inl, inr, ℕ, zero, suc, ◌+◌, ◌-◌, ◌<◌, ◌≤◌, Bool, List, [], ◌∷◌, ◌++◌, length, map, Option, Some, None, slice_get, refl, sym, ap, ◌∙◌, subst, arith}
use Rattle.std.specs.Prelude.{flat_map}
use Rattle.std.proofs.lemmas.Bool.{cases_lt}
use Rattle.std.proofs.lemmas.Option.{slice_get_within, slice_get_past}
use Rattle.dy_code.specs.Fetching.{Instruction}
use Rattle.dy_meaning.specs.Numbers.{greatest}
use Rattle.dy_lowered.specs.Stretches.{ways_of, ways_from, reached, unless_tick, longest, stretch_of}
use Rattle.dy_stretch.specs.Walks.{IsIn, IsMarked, AreReached, long_at, AreLongest, IsMostTo}

pub in_front : (x : ℕ) (xs ys : List ℕ) → IsIn x xs → IsIn x (xs ++ ys)
in_front x [] ys h = absurd h
in_front x (y ∷ xs) ys (inl e) = inl e
in_front x (y ∷ xs) ys (inr h) = inr (in_front x xs ys h)

pub in_back : (x : ℕ) (xs ys : List ℕ) → IsIn x ys → IsIn x (xs ++ ys)
in_back x [] ys h = h
in_back x (y ∷ xs) ys h = inr (in_back x xs ys h)

pub in_either : (x : ℕ) (xs ys : List ℕ) → IsIn x (xs ++ ys) → IsIn x xs ⊎ IsIn x ys
in_either x [] ys h = inr h
in_either x (y ∷ xs) ys (inl e) = inl (inl e)
in_either x (y ∷ xs) ys (inr h) = later (in_either x xs ys h)
  where
    later : IsIn x xs ⊎ IsIn x ys → IsIn x (y ∷ xs) ⊎ IsIn x ys
    later (inl k) = inl (inr k)
    later (inr k) = inr k

in_flat_map : (f : ℕ → List ℕ) (xs : List ℕ) (x y : ℕ) → IsIn x xs → IsIn y (f x) → IsIn y (flat_map f xs)
in_flat_map f [] x y h k = absurd h
in_flat_map f (z ∷ xs) x y (inl e) k = in_front y (f z) (flat_map f xs) (subst (λ w. IsIn y (f w)) e k)
in_flat_map f (z ∷ xs) x y (inr h) k = in_back y (f z) (flat_map f xs) (in_flat_map f xs x y h k)

in_one_of : (f : ℕ → List ℕ) (z y : ℕ) (xs : List ℕ) → IsIn y (f z) ⊎ IsIn y (flat_map f xs) → (IsIn y (flat_map f xs) → (x : ℕ) × IsIn x xs × IsIn y (f x)) → (x : ℕ) × IsIn x (z ∷ xs) × IsIn y (f x)
in_one_of f z y xs (inl k) later = (z, inl refl, k)
in_one_of f z y xs (inr k) later = let r = later k in (r.0, inr r.1, r.2)

in_one : (f : ℕ → List ℕ) (xs : List ℕ) (y : ℕ) → IsIn y (flat_map f xs) → (x : ℕ) × IsIn x xs × IsIn y (f x)
in_one f [] y h = absurd h
in_one f (z ∷ xs) y h = in_one_of f z y xs (in_either y (f z) (flat_map f xs) h) (in_one f xs y)

module _ (code : List Instruction) where
  pub reach_more : (k s p q : ℕ) → IsIn p (reached code k s) → IsIn q (ways_from code p) → IsIn q (reached code (suc k) s)
  reach_more zero s p q (inl e) w = inr (in_flat_map (reached code zero) (ways_from code s) q q (subst (λ x. IsIn q (ways_from code x)) e w) (inl refl))
  reach_more zero s p q (inr h) w = absurd h
  reach_more (suc k) s p q (inl e) w = inr (in_flat_map (reached code (suc k)) (ways_from code s) q q (subst (λ x. IsIn q (ways_from code x)) e w) (inl refl))
  reach_more (suc k) s p q (inr h) w =
      let r = in_one (reached code k) (ways_from code s) p h in
      inr (in_flat_map (reached code (suc k)) (ways_from code s) r.0 q r.1 (reach_more k r.0 p q r.2 w))

  reach_up : (k s q : ℕ) → IsIn q (reached code k s) → IsIn q (reached code (suc k) s)
  reach_up zero s q (inl e) = inl e
  reach_up zero s q (inr h) = absurd h
  reach_up (suc k) s q (inl e) = inl e
  reach_up (suc k) s q (inr h) =
      let r = in_one (reached code k) (ways_from code s) q h in
      inr (in_flat_map (reached code (suc k)) (ways_from code s) r.0 q r.1 (reach_up k r.0 q r.2))

  reach_far : (j k s q : ℕ) → IsIn q (reached code k s) → IsIn q (reached code (j + k) s)
  reach_far zero k s q h = let e : k ≡ zero + k = omega arith in subst (λ n. IsIn q (reached code n s)) e h
  reach_far (suc j) k s q h =
      let e : suc (j + k) ≡ suc j + k = omega arith in
      subst (λ n. IsIn q (reached code n s)) e (reach_up (j + k) s q (reach_far j k s q h))

  -- what so many steps lead to, more do
  pub reach_to : (k m s q : ℕ) → k ≤ m → IsIn q (reached code k s) → IsIn q (reached code m s)
  reach_to k m s q l h = let e : m - k + k ≡ m = omega (arith, l) in subst (λ n. IsIn q (reached code n s)) e (reach_far (m - k) k s q h)

  -- each place is reached from itself
  pub reach_itself : (k s : ℕ) → IsIn s (reached code k s)
  reach_itself zero s = inl refl
  reach_itself (suc k) s = inl refl

  within_way : (p w : ℕ) (o : Option Instruction) → slice_get code p ≡ o → IsIn w (ways_from code p) → p < length code
  within_way p w None e h = absurd (subst (λ (o : Option Instruction). IsIn w (ways_of (p + 1) o)) e h)
  within_way p w (Some i) e h = slice_get_within code p i e

  module _ (marks : List Bool) (closed : (p : ℕ) → p < length code → IsMarked marks p → (w : ℕ) → IsIn w (ways_from code p) → IsMarked marks w) where
    -- each place that is reached is marked
    complete : (k s q : ℕ) → IsMarked marks s → IsIn q (reached code k s) → IsMarked marks q
    complete zero s q m (inl e) = subst (IsMarked marks) (sym e) m
    complete zero s q m (inr h) = absurd h
    complete (suc k) s q m (inl e) = subst (IsMarked marks) (sym e) m
    complete (suc k) s q m (inr h) =
        let r = in_one (reached code k) (ways_from code s) q h in
        complete k r.0 q (closed s (within_way s r.0 (slice_get code s) refl r.1) m r.0 r.1) r.2

  -- no way is there from a place behind the code
  pub longest_past : (more place : ℕ) → length code ≤ place → longest code more place ≡ 0
  longest_past zero place l = refl
  longest_past (suc more) place l =
      ap (λ (o : Option Instruction). unless_tick o (1 + greatest (map (longest code more) (ways_from code place)))) (slice_get_past code place l)

  pub below_all : (f : ℕ → ℕ) (m : ℕ) (xs : List ℕ) → ((x : ℕ) → IsIn x xs → f x ≤ m) → greatest (map f xs) ≤ m
  below_all f m [] h = omega arith
  below_all f m (x ∷ xs) h =
      let a = h x (inl refl) in
      let b = below_all f m xs (λ y k. h y (inr k)) in
      grind (arith, a, b)

  above_one : (f : ℕ → ℕ) (xs : List ℕ) (x : ℕ) → IsIn x xs → f x ≤ greatest (map f xs)
  above_one f [] x h = absurd h
  above_one f (y ∷ ys) x (inl e) = let g : f x ≡ f y = ap f e in grind (arith, g)
  above_one f (y ∷ ys) x (inr h) = let r = above_one f ys x h in grind (arith, r)

  -- the longest way from all places is that from those that are reached
  pub stretch_is : (marks : List Bool) (longs : List ℕ) (most : ℕ) → AreReached code marks → AreLongest code longs → IsMostTo longs marks (length marks) most → most ≡ stretch_of code
  stretch_is marks longs most m g w =
      let n = length code in
      let a = below_all (longest code n) most (reached code n 0) (λ x h. under x (complete marks m.closed n 0 x m.first h) (cases_lt x n)) in
      let b = over w.lower in
      omega (arith, a, b)
    where
      under : (x : ℕ) → IsMarked marks x → (x < length code) ⊎ (length code ≤ x) → longest code (length code) x ≤ most
      under x k (inl l) =
          let long = m.long in
          let within : x < length marks = omega (arith, l, long) in
          subst (λ (a : ℕ). a ≤ most) (g.same x) (w.upper x within k)
      under x k (inr l) = let e = longest_past (length code) x l in omega (arith, e)

      over : (most ≡ 0) ⊎ ((place : ℕ) × (place < length marks) × IsMarked marks place × (long_at longs place ≡ most)) → most ≤ stretch_of code
      over (inl e) = omega (arith, e)
      over (inr r) =
          let b = r.1 in
          let long = m.long in
          let l : r.0 < length code = omega (arith, b, long) in
          let a = above_one (longest code (length code)) (reached code (length code) 0) r.0 (m.sound r.0 l r.2) in
          subst (λ k. k ≤ stretch_of code) (sym (g.same r.0) ∙ r.3) a

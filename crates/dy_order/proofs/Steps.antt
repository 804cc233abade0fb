-- The steps of the loops.
use Rattle.std.proofs.Common.{◌≡◌, ◌↔◌, ℕ, zero, suc, ◌<◌, Bool, true, false, true≢false, IsTrue, List, [], ◌∷◌, ◌++◌, ◌⊎◌, length, get_or, take, All, inl, inr, refl, sym, ap, subst, ◌∙◌, arith, append-nil}
use Rattle.std.proofs.lemmas.List.{get_or-take, length-take-le, get_or_default}
use Rattle.dy_base.specs.declared.ids.MethodId.{MethodId}
use Rattle.dy_classes.specs.Lists.{Once}
use Rattle.dy_order.specs.Methods.{method_id}
use Rattle.dy_order.specs.Sorting.{Filtered, empty, kept, dropped, IsFirst}
use Rattle.dy_order.specs.Places.{IsBest}
use Rattle.dy_order.proofs.Lists.{filtered_append, place_in}
use Rattle.dy_order.proofs.Sorts.{first_at, first_over, less_or}

-- one method more is seen
module _ {P : MethodId → Type 0} {before found : List MethodId} (m : MethodId) (so_far : Filtered P before found) where
  pub step_kept : P m → Filtered P (before ++ m ∷ []) (found ++ m ∷ [])
  step_kept p = filtered_append P so_far (kept p empty)

  pub step_dropped : (P m → ⊥) → Filtered P (before ++ m ∷ []) found
  step_dropped out = subst (λ (v : List MethodId). Filtered P (before ++ m ∷ []) v) (append-nil found) (filtered_append P so_far (dropped out empty))

order : (k n : ℕ) → (k < n) ⊎ ((k ≡ n) ⊎ (n < k))
order zero zero = inr (inl refl)
order zero (suc n) = inl (omega arith)
order (suc k) zero = inr (inr (omega arith))
order (suc k) (suc n) = elim (order k n) [ inl l ↦ inl (omega arith) | inr e ↦ elim e [ inl q ↦ inr (inl (ap suc q)) | inr q ↦ inr (inr (omega arith)) ] ]

module _ (P : MethodId → MethodId → Type 0) (asymmetric : (a b : MethodId) → P a b → P b a → ⊥) (ms : List MethodId) (once : Once ms) where
  -- a place that comes before another one, and whose method does not precede that one's, is passed over
  passed : (best k : ℕ) (d : MethodId) → best < k → k < length ms → P (get_or ms best d) (get_or ms k d) → IsFirst P ms (get_or ms k d) → ⊥
  passed best k d less h p f = asymmetric (get_or ms best d) (get_or ms k d) p (first_over P ms k best d once h (omega (arith, less, h)) (λ e. omega (arith, less, e)) f)

  stays : (best place : ℕ) → IsBest P ms place best → ((d : MethodId) → P (get_or ms best d) (get_or ms place d)) → IsBest P ms (suc place) best
  stays best place b p =
      record {
        within = omega (arith, b.within);
        follow = λ k d less h. elim (last_or k place h) [ inl e ↦ b.follow k d less e | inr e ↦ subst (λ (v : ℕ). P (get_or ms best d) (get_or ms v d)) (sym e) (p d) ];
        before = b.before;
      }
    where
      last_or : (k n : ℕ) → k < suc n → (k < n) ⊎ (k ≡ n)
      last_or zero zero h = inr refl
      last_or zero (suc n) h = inl (omega arith)
      last_or (suc k) zero h = absurd (omega arith)
      last_or (suc k) (suc n) h = elim (last_or k n (omega arith)) [ inl l ↦ inl (omega arith) | inr e ↦ inr (ap suc e) ]

  moves : (best place : ℕ) → place < length ms → IsBest P ms place best → ((d : MethodId) → P (get_or ms best d) (get_or ms place d) → ⊥) → IsBest P ms (suc place) place
  moves best place h b out =
      record {
        within = omega arith;
        follow = λ k d less l. absurd (omega (arith, less, l));
        before = λ k d less f. elim (order k best) [
          | inl e ↦ b.before k d e f
          | inr e ↦ elim e [
            | inl q ↦ out d (first_over P ms best place d once (omega (arith, b.within, h)) h (λ z. omega (arith, z, b.within)) (subst (λ (v : ℕ). IsFirst P ms (get_or ms v d)) q f))
            | inr q ↦ passed best k d q (omega (arith, less, h)) (b.follow k d q less) f
          ]
        ];
      }

  pub best_starts : IsBest P ms 1 0
  best_starts = record { within = omega arith; follow = λ k d less h. absurd (omega (arith, less, h)); before = λ k d h f. absurd (omega (arith, h)) }

  pub best_step : (best place new : ℕ) → place < length ms → IsBest P ms place best
      → ((d : MethodId) → ((new ≡ best) × P (get_or ms best d) (get_or ms place d)) ⊎ ((new ≡ place) × (P (get_or ms best d) (get_or ms place d) → ⊥)))
      → IsBest P ms (suc place) new
  best_step best place new h b told =
      elim (told (method_id 0 0)) [
        | inl p ↦ subst (λ (v : ℕ). IsBest P ms (suc place) v) (sym p.0) (stays best place b (λ d. elim (told d) [ inl q ↦ q.1 | inr q ↦ absurd (omega (arith, p.0, q.0, b.within)) ]))
        | inr p ↦ subst (λ (v : ℕ). IsBest P ms (suc place) v) (sym p.0) (moves best place h b (λ d. elim (told d) [ inl q ↦ absurd (omega (arith, p.0, q.0, b.within)) | inr q ↦ q.1 ]))
      ]

  -- where a method precedes those before it, it is first, and else none is
  pub is_best_first : (best : ℕ) (d : MethodId) → IsBest P ms (length ms) best → All (P (get_or ms best d)) (take best ms) → IsFirst P ms (get_or ms best d)
  is_best_first best d b all =
      first_at P ms best d b.within
      (λ k h differs. elim (less_or best k differs) [
        | inl less ↦ b.follow k d less h
        | inr less ↦ subst (λ (v : MethodId). P (get_or ms best d) v) (get_or-take best ms k d less) (all k d (omega (arith, length-take-le best ms (omega (arith, b.within)), less)))
      ])

  pub none_first : (best : ℕ) (d : MethodId) → IsBest P ms (length ms) best → (All (P (get_or ms best d)) (take best ms) → ⊥) → (m : MethodId) → IsFirst P ms m → ⊥
  none_first best d b out m f =
      let (k, h, e) = place_in ms m d f.within in
      let g : IsFirst P ms (get_or ms k d) = subst (λ (v : MethodId). IsFirst P ms v) (sym e) f in
      elim (order k best) [
        | inl less ↦ b.before k d less g
        | inr q ↦ elim q [
          | inl same ↦ out (λ j x l. (let below : j < best = omega (arith, length-take-le best ms (omega (arith, b.within)), l) in
              subst (λ (v : MethodId). P (get_or ms best d) v) (get_or_default ms j d x (omega (arith, below, b.within)) ∙ sym (get_or-take best ms j x below))
              (first_over P ms best j d once b.within (omega (arith, below, b.within)) (λ z. omega (arith, z, below)) (subst (λ (v : ℕ). IsFirst P ms (get_or ms v d)) same g))))
          | inr less ↦ passed best k d less h (b.follow k d less h) g
        ]
      ]

  pub first_found : (best : ℕ) (m : MethodId) (front : List MethodId) (r : Bool) → IsBest P ms (length ms) best → front ≡ take best ms → IsTrue r ↔ All (P (get_or ms best m)) front → r ≡ true
      → (best < length ms) × ((d : MethodId) → IsFirst P ms (get_or ms best d))
  first_found best m front r b e told holds =
      let all : All (P (get_or ms best m)) (take best ms) = subst (λ (v : List MethodId). All (P (get_or ms best m)) v) e (told.0 holds) in
      (b.within, λ d. subst (λ (v : MethodId). IsFirst P ms v) (get_or_default ms best m d b.within) (is_best_first best m b all))

  pub none_found : (best : ℕ) (m : MethodId) (front : List MethodId) (r : Bool) → IsBest P ms (length ms) best → front ≡ take best ms → IsTrue r ↔ All (P (get_or ms best m)) front → r ≡ false
      → (x : MethodId) → IsFirst P ms x → ⊥
  none_found best m front r b e told fails x f =
      none_first best m b (λ all. true≢false (sym (told.1 (subst (λ (v : List MethodId). All (P (get_or ms best m)) v) (sym e) all)) ∙ fails)) x f

-- the better of two places
module _ (P : MethodId → MethodId → Type 0) (ms : List MethodId) (best place : ℕ) (h : best < length ms) (l : place < length ms) (a b : MethodId) where
  seen : (d : MethodId) → P (get_or ms best a) (get_or ms place b) ↔ P (get_or ms best d) (get_or ms place d)
  seen d =
      let e : get_or ms best a ≡ get_or ms best d = get_or_default ms best a d h in
      let f : get_or ms place b ≡ get_or ms place d = get_or_default ms place b d l in (
        λ p. subst (λ (v : MethodId). P v (get_or ms place d)) e (subst (λ (v : MethodId). P (get_or ms best a) v) f p),
        λ p. subst (λ (v : MethodId). P (get_or ms best a) v) (sym f) (subst (λ (v : MethodId). P v (get_or ms place d)) (sym e) p),
      )

  pub better_same : (r : Bool) → IsTrue r ↔ P (get_or ms best a) (get_or ms place b) → r ≡ true → (d : MethodId) → P (get_or ms best d) (get_or ms place d)
  better_same r told holds d = let s = seen d in s.0 (told.0 holds)

  pub better_other : (r : Bool) → IsTrue r ↔ P (get_or ms best a) (get_or ms place b) → r ≡ false → (d : MethodId) → P (get_or ms best d) (get_or ms place d) → ⊥
  better_other r told fails d p = let s = seen d in true≢false (sym (told.1 (s.1 p)) ∙ fails)

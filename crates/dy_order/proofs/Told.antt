-- What `all` and `any` tell of a list.
use Rattle.std.proofs.Common.{◌≡◌, ℕ, zero, suc, ◌<◌, ◌≤◌, ◌↔◌, ◌⊎◌, Any, All, IsTrue, Bool, true, false, true≢false, List, [], ◌∷◌, length, get_or, inl, inr, refl, sym, ap, subst, ◌∙◌, arith}
use Rattle.std.specs.Bool.{MatchBool}
use Rattle.std.specs.List.{AllWithin, HoldsAt}
use Rattle.std.proofs.lemmas.Bool.Decides.{when_true}
use Rattle.std.proofs.lemmas.Iterator.Search.{true_from_All, true_from_Any}
use Rattle.std.proofs.lemmas.List.{get_or_default}
use Rattle.std.proofs.lemmas.List.Elements.{All-from_all_within}

last_or : (k n : ℕ) → k < suc n → (k < n) ⊎ (k ≡ n)
last_or zero zero h = inr refl
last_or zero (suc n) h = inl (omega arith)
last_or (suc k) zero h = absurd (omega arith)
last_or (suc k) (suc n) h = elim (last_or k n (omega arith)) [ inl l ↦ inl (omega arith) | inr e ↦ inr (ap suc e) ]

module _ {X : Type 0} (P : X → Type 0) where
  pub told_all : (xs : List X) (r : Bool) → MatchBool r (AllWithin P xs 0 (length xs)) ((k : ℕ) × (k < length xs) × HoldsAt (λ x. P x → ⊥) xs k) → IsTrue r ↔ All P xs
  told_all xs r h = (
    λ t. All-from_all_within P xs (when_true (AllWithin P xs 0 (length xs)) ((k : ℕ) × (k < length xs) × HoldsAt (λ x. P x → ⊥) xs k) t h),
    λ all. true_from_All P (λ x. P x → ⊥) r xs (λ x p q. q p) h all,
  )

  any_at : (xs : List X) (k : ℕ) → k < length xs → HoldsAt P xs k → Any P xs
  any_at [] k h p = absurd (omega arith)
  any_at (x ∷ xs) k h p = (k, get_or (x ∷ xs) k x, h, get_or_default (x ∷ xs) k (get_or (x ∷ xs) k x) x h, p x)

  pub told_any : (xs : List X) (r : Bool) → MatchBool r ((k : ℕ) × (k < length xs) × HoldsAt P xs k) (AllWithin (λ x. P x → ⊥) xs 0 (length xs)) → IsTrue r ↔ Any P xs
  told_any xs r h = (
    λ t. (let (k, l, p) = when_true ((k : ℕ) × (k < length xs) × HoldsAt P xs k) (AllWithin (λ x. P x → ⊥) xs 0 (length xs)) t h in any_at xs k l p),
    λ some. (let (k, x, l, e, p) = some in true_from_Any P (λ x. P x → ⊥) r xs (λ x p q. q p) h x (k, l, e) p),
  )

  -- a loop that goes over a list and stops at the first element of which P does not hold
  pub all_stops : (xs : List X) (i : ℕ) (d : X) → i < length xs → (r : Bool) → IsTrue r ↔ P (get_or xs i d) → r ≡ false → IsTrue false ↔ All P xs
  all_stops xs i d h r told fails = (λ t. absurd (true≢false (sym t)), λ all. absurd (true≢false (sym (told.1 (all i d h)) ∙ fails)))

  pub all_more : (xs : List X) (i : ℕ) (d : X) → i < length xs → (r : Bool) → IsTrue r ↔ P (get_or xs i d) → r ≡ true → ((k : ℕ) (e : X) → k < i → P (get_or xs k e))
      → (k : ℕ) (e : X) → k < suc i → P (get_or xs k e)
  all_more xs i d h r told holds so_far k e l =
      elim (last_or k i l) [
        | inl below ↦ so_far k e below
        | inr same ↦ subst (λ (v : ℕ). P (get_or xs v e)) (sym same) (subst P (get_or_default xs i d e h) (told.0 holds))
      ]

  pub all_ends : (xs : List X) (i : ℕ) → length xs ≤ i → ((k : ℕ) (e : X) → k < i → P (get_or xs k e)) → IsTrue true ↔ All P xs
  all_ends xs i h so_far = (λ t k d l. so_far k d (omega (arith, l, h)), λ all. refl)

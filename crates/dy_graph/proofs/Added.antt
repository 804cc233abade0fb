-- Faults that come to others.
use Rattle.std.proofs.Common.{◌≡◌, ◌⊎◌, inl, inr, ℕ, zero, suc, ◌+◌, ◌<◌, ◌≤◌, List, [], ◌∷◌, ◌++◌, length, Some, slice_get, refl, sym, ap, subst, ◌∙◌, arith}
use Rattle.std.proofs.lemmas.Option.{slice_get_within}
use Rattle.dy_modules.specs.Clauses.{IsIn}
use Rattle.dy_modules.proofs.Rows.{some_is, none_is}
use Rattle.dy_modules.proofs.Ins.{IsIn-append, IsIn-left, IsIn-right}
use Rattle.dy_library_form.specs.declared.found.Found.{Found}
use Rattle.dy_library_form.proofs.Firsts.{in_order}
use Rattle.dy_graph.specs.Faults.{Adds}

pub adds_list : (old new list : List Found) → new ≡ old ++ list → Adds old new (λ f. IsIn f list)
adds_list old new list e = record {
  kept = λ f is. subst (IsIn f) (sym e) (IsIn-left old list f is);
  to = λ f is. subst (IsIn f) (sym e) (IsIn-right old list f is);
  from = λ f is. IsIn-append old list f (subst (IsIn f) e is);
}

-- the same faults by another test
pub adds_as : (old new : List Found) (P Q : Found → Type 0) → ((f : Found) → P f → Q f) → ((f : Found) → Q f → P f) → Adds old new P → Adds old new Q
adds_as old new P Q to from a = record {
  kept = a.kept;
  to = λ f q. a.to f (from f q);
  from = λ f is. elim (a.from f is) [ inl b ↦ inl b | inr p ↦ inr (to f p) ];
}

pub adds_none : (old new : List Found) (P : Found → Type 0) → new ≡ old → ((f : Found) → P f → ⊥) → Adds old new P
adds_none old new P e never = record {
  kept = λ f is. subst (IsIn f) (sym e) is;
  to = λ f p. absurd (never f p);
  from = λ f is. inl (subst (IsIn f) e is);
}

pub adds_one : (old new : List Found) (one : Found) (P : Found → Type 0) → new ≡ old ++ one ∷ [] → P one → ((f : Found) → P f → f ≡ one) → Adds old new P
adds_one old new one P e here only = adds_as old new (λ f. IsIn f (one ∷ [])) P
    (λ f is. elim is [ inl same ↦ subst P (sym same) here | inr never ↦ absurd never ])
    (λ f p. inl (only f p)) (adds_list old new (one ∷ []) e)

pub adds_both : (first middle last : List Found) (P Q : Found → Type 0) → Adds first middle P → Adds middle last Q → Adds first last (λ f. P f ⊎ Q f)
adds_both first middle last P Q p q = record {
  kept = λ f is. q.kept f (p.kept f is);
  to = λ f h. elim h [ inl x ↦ q.kept f (p.to f x) | inr y ↦ q.to f y ];
  from = λ f is. elim (q.from f is) [
    | inl x ↦ elim (p.from f x) [ inl y ↦ inl y | inr y ↦ inr (inl y) ]
    | inr y ↦ inr (inr y)
  ];
}

-- where nothing stands, nothing stood before
pub nothing_before : (old new : List Found) (P : Found → Type 0) → Adds old new P → new ≡ [] → old ≡ []
nothing_before [] new P a e = refl
nothing_before (f ∷ old) new P a e = absurd (subst (IsIn f) e (a.kept f (inl refl)))

pub not_nothing : (old : List Found) (one : Found) → old ++ one ∷ [] ≡ [] → ⊥
not_nothing old one e = subst (IsIn one) e (IsIn-right old (one ∷ []) one (inl refl))

pub in_index : {X : Type 0} (xs : List X) (x : X) → IsIn x xs → (j : ℕ) × (slice_get xs j ≡ Some x)
in_index [] x is = absurd is
in_index (y ∷ xs) x (inl e) = (0, ap Some (sym e))
in_index (y ∷ xs) x (inr is) = let w = in_index xs x is in (suc w.0, w.1)

pub index_in : {X : Type 0} (xs : List X) (x : X) (j : ℕ) → slice_get xs j ≡ Some x → IsIn x xs
index_in [] x j at = absurd (none_is x at)
index_in (y ∷ xs) x zero at = inl (sym (some_is y x at))
index_in (y ∷ xs) x (suc j) at = inr (index_in xs x j at)

-- what the first ones of a list have
abbrev pub Before : {X : Type 0} → List X → (ℕ → X → Found → Type 0) → ℕ → Found → Type 0
Before {X} xs P i f = (j : ℕ) × (x : X) × (j < i) × (slice_get xs j ≡ Some x) × P j x f

pub adds_start : {X : Type 0} (xs : List X) (P : ℕ → X → Found → Type 0) (old : List Found) → Adds old old (Before xs P 0)
adds_start xs P old = adds_none old old (Before xs P 0) refl (λ f w. omega (arith, w.2))

pub adds_more : {X : Type 0} (xs : List X) (P : ℕ → X → Found → Type 0) (i : ℕ) (x : X) (old middle new : List Found) → slice_get xs i ≡ Some x
    → Adds old middle (Before xs P i) → Adds middle new (P i x) → Adds old new (Before xs P (i + 1))
adds_more {X} xs P i x old middle new at a b =
    adds_as old new (λ f. Before xs P i f ⊎ P i x f) (Before xs P (i + 1)) to from (adds_both old middle new (Before xs P i) (P i x) a b)
  where
    to : (f : Found) → Before xs P i f ⊎ P i x f → Before xs P (i + 1) f
    to f (inl w) = (w.0, w.1, omega (arith, w.2), w.3, w.4)
    to f (inr p) = (i, x, omega arith, at, p)

    by_place : (f : Found) (j : ℕ) (y : X) → j < i + 1 → slice_get xs j ≡ Some y → P j y f → (j < i) ⊎ ((j ≡ i) ⊎ (i < j)) → Before xs P i f ⊎ P i x f
    by_place f j y less here p (inl h) = inl (j, y, h, here, p)
    by_place f j y less here p (inr (inl e)) =
        let same : y ≡ x = some_is y x (sym here ∙ ap (slice_get xs) e ∙ at) in
        inr (subst (λ k. P k x f) e (subst (λ z. P j z f) same p))
    by_place f j y less here p (inr (inr h)) = absurd (omega (arith, less, h))

    from : (f : Found) → Before xs P (i + 1) f → Before xs P i f ⊎ P i x f
    from f w = by_place f w.0 w.1 w.2 w.3 w.4 (in_order w.0 i)

-- and all of them
pub adds_all : {X : Type 0} (xs : List X) (P : ℕ → X → Found → Type 0) (i : ℕ) (old new : List Found) → length xs ≤ i → Adds old new (Before xs P i)
    → Adds old new (λ f. (j : ℕ) × (x : X) × (slice_get xs j ≡ Some x) × P j x f)
adds_all {X} xs P i old new past a = adds_as old new (Before xs P i) (λ f. (j : ℕ) × (x : X) × (slice_get xs j ≡ Some x) × P j x f)
    (λ f w. (w.0, w.1, w.3, w.4)) (λ f w. (w.0, w.1, omega (arith, past, slice_get_within xs w.0 w.1 w.2), w.2, w.3)) a

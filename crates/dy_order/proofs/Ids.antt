-- Two methods are one or not.
use Rattle.std.proofs.Common.{◌≡◌, ℕ, nat_eq, Bool, true, false, true≢false, ◌&&◌, ◌⊎◌, inl, inr, refl, sym, subst, ◌∙◌, arith}
use Rattle.std.proofs.lemmas.Bool.Decides.{nat_tests}
use Rattle.std.proofs.lemmas.Cmp.{nat_eq_equiv}
use Rattle.dy_base.specs.declared.ids.MethodId.{MethodId}
use Rattle.dy_order.specs.Sorting.{is_method}

and_true : (a b : Bool) → (a && b) ≡ true → (a ≡ true) × (b ≡ true)
and_true true b e = (refl, e)
and_true false b e = absurd (true≢false (sym e))

same_number : (m n : ℕ) → nat_eq m n ≡ true → m ≡ n
same_number m n e = grind (arith, nat_tests)

same_method : (a b : MethodId) → is_method a b ≡ true → a ≡ b
same_method a b e =
    let parts = and_true _ _ e in
    let library = same_number _ _ parts.0 in
    let row = same_number _ _ parts.1 in
    λ i. record { 0 = record { library = library i; row = row i } }

pub method_itself : (a : MethodId) → is_method a a ≡ true
method_itself a = λ i. nat_eq_equiv.refl a.0.library i && nat_eq_equiv.refl a.0.row i

method_equal : (a b : MethodId) → a ≡ b → is_method a b ≡ true
method_equal a b e = subst (λ (v : MethodId). is_method a v ≡ true) e (method_itself a)

pub method_tells : (a b : MethodId) → ((is_method a b ≡ true) × (a ≡ b)) ⊎ ((is_method a b ≡ false) × (a ≡ b → ⊥))
method_tells a b = go a b (is_method a b) refl
  where
    go : (a b : MethodId) (t : Bool) → is_method a b ≡ t → ((is_method a b ≡ true) × (a ≡ b)) ⊎ ((is_method a b ≡ false) × (a ≡ b → ⊥))
    go a b true e = inl (e, same_method a b e)
    go a b false e = inr (e, λ q. true≢false (sym (method_equal a b q) ∙ e))

pub same_or : (a b : MethodId) → (a ≡ b) ⊎ (a ≡ b → ⊥)
same_or a b = elim (method_tells a b) [ inl e ↦ inl e.1 | inr e ↦ inr e.1 ]

-- Two classes are one or not.
use Rattle.std.proofs.Common.{◌≡◌, ℕ, nat_eq, Bool, true, false, true≢false, ◌&&◌, ◌⊎◌, inl, inr, refl, sym, subst, ◌∙◌, arith}
use Rattle.std.proofs.lemmas.Bool.Decides.{nat_tests}
use Rattle.std.proofs.lemmas.Cmp.{nat_eq_equiv}
use Rattle.dy_base.specs.declared.ids.ClassId.{ClassId}
use Rattle.dy_base.specs.Orders.{is_class}

and_true : (a b : Bool) → (a && b) ≡ true → (a ≡ true) × (b ≡ true)
and_true true b e = (refl, e)
and_true false b e = absurd (true≢false (sym e))

same_number : (m n : ℕ) → nat_eq m n ≡ true → m ≡ n
same_number m n e = grind (arith, nat_tests)

pub same_class : (a b : ClassId) → is_class a b ≡ true → a ≡ b
same_class a b e =
    let parts = and_true _ _ e in
    let library = same_number _ _ parts.0 in
    let row = same_number _ _ parts.1 in
    λ i. record { 0 = record { library = library i; row = row i } }

pub class_itself : (a : ClassId) → is_class a a ≡ true
class_itself a = λ i. nat_eq_equiv.refl a.0.library i && nat_eq_equiv.refl a.0.row i

pub class_equal : (a b : ClassId) → a ≡ b → is_class a b ≡ true
class_equal a b e = subst (λ (v : ClassId). is_class a v ≡ true) e (class_itself a)

pub class_tells : (a b : ClassId) → ((is_class a b ≡ true) × (a ≡ b)) ⊎ ((is_class a b ≡ false) × (a ≡ b → ⊥))
class_tells a b = go a b (is_class a b) refl
  where
    go : (a b : ClassId) (t : Bool) → is_class a b ≡ t → ((is_class a b ≡ true) × (a ≡ b)) ⊎ ((is_class a b ≡ false) × (a ≡ b → ⊥))
    go a b true e = inl (e, same_class a b e)
    go a b false e = inr (e, λ q. true≢false (sym (class_equal a b q) ∙ e))

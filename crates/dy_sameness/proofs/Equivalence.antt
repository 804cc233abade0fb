-- What holds of keys that are equal where their items are the same.
use Rattle.std.proofs.Common.{◌≡◌, ◌↔◌, Bool, true, IsTrue, ap, ◌∙◌, subst}
use Rattle.std.specs.Cmp.{IsPartialEquivalence, IsEquivalence, partial_equiv_from_equiv, both_ways}
use Rattle.std.specs.Hash.{HashWrites}
use Rattle.dy_sameness.proofs.Sameness.{Tells}

-- a test that says whether two items are equal says whether they are the same
pub told : {A : Type 0} (same : A → A → Bool) (tells : Tells same) (x y : A) (b : Bool) → (IsTrue b ↔ (x ≡ y)) → b ≡ same x y
told same tells x y b h = both_ways b (same x y) (λ e. subst (λ z. same x z ≡ true) (h.0 e) (tells.itself x)) (λ e. h.1 (tells.equal x y e))

module _ {A K : Type 0} (same : A → A → Bool) (tells : Tells same) (item : K → A) where
  symmetric : (x y : A) → same x y ≡ true → same y x ≡ true
  symmetric x y e = ap (λ z. same y z) (tells.equal x y e) ∙ tells.itself y

  pub equivalence : IsEquivalence (λ (k l : K). same (item k) (item l))
  equivalence = record {
    refl = λ k. tells.itself (item k);
    symm = λ k l. both_ways (same (item k) (item l)) (same (item l) (item k)) (symmetric (item k) (item l)) (symmetric (item l) (item k));
    congr = λ k l m e. ap (λ z. same z (item m)) (tells.equal (item k) (item l) e);
  }

  pub partial_equivalence : IsPartialEquivalence (λ (k l : K). same (item k) (item l))
  partial_equivalence = partial_equiv_from_equiv equivalence

  pub alike : (writes : A → HashWrites) (k l : K) → same (item k) (item l) ≡ true → writes (item k) ≡ writes (item l)
  alike writes k l e = ap writes (tells.equal (item k) (item l) e)

-- The fault that is told before all others.
use Rattle.std.proofs.Common.{◌≡◌, ◌⊎◌, inl, inr, ℕ, zero, suc, ◌<◌, Bool, true, false, true≢false, if◌then◌else◌, List, [], ◌∷◌, ◌++◌, Option, Some, None, Ordering, Less, Equal, Greater, refl, sym, ap, subst, ◌∙◌, arith}
use Rattle.std.specs.Cmp.{IsTotalOrder}
use Rattle.std.specs.FinMap.{nat_cmp-IsAntisymmetric, slice_cmp-IsAntisymmetric}
use Rattle.std.specs.Ordering.{is_lt, is_gt, ordering_then, ordering_reverse}
use Rattle.std.proofs.lemmas.Cmp.{nat_cmp_total, nat_list_cmp_total, on_total, then_total, tied_itself, upto}
use Rattle.dy_base.specs.Kinds.{code_of}
use Rattle.dy_base.specs.declared.fault.Place.{Place}
use Rattle.dy_modules.specs.Clauses.{IsIn}
use Rattle.dy_library_form.specs.declared.found.Found.{Found}
use Rattle.dy_library_form.specs.Told.{place_cmp, found_cmp, is_before, better, first_with, first, IsTold}
use Rattle.dy_library_form.proofs.KindNumbers.{same_kind}

pub in_order : (i j : ℕ) → (i < j) ⊎ ((i ≡ j) ⊎ (j < i))
in_order zero zero = inr (inl refl)
in_order zero (suc j) = inl (omega arith)
in_order (suc i) zero = inr (inr (omega arith))
in_order (suc i) (suc j) = elim (in_order i j) [ inl a ↦ inl (omega (arith, a)) | inr (inl e) ↦ inr (inl (ap suc e)) | inr (inr b) ↦ inr (inr (omega (arith, b))) ]

place_total : IsTotalOrder place_cmp
place_total = then_total (on_total (λ (p : Place). p.file) nat_cmp_total) (on_total (λ (p : Place). p.offset) nat_cmp_total)

found_total : IsTotalOrder found_cmp
found_total = then_total (then_total (on_total (λ (f : Found). f.place) place_total) (on_total (λ (f : Found). code_of f.kind) nat_cmp_total)) (on_total (λ (f : Found). f.name) nat_list_cmp_total)

-- one is before another where that one is behind it
reversed : (o : Ordering) → is_lt (ordering_reverse o) ≡ is_gt o
reversed Less = refl
reversed Equal = refl
reversed Greater = refl

turned : (a b : Found) → is_before a b ≡ is_gt (found_cmp b a)
turned a b = ap is_lt (found_total.antisymm a b) ∙ reversed (found_cmp b a)

less : (o : Ordering) → is_lt o ≡ true → is_gt o ≡ false
less Less e = refl
less Equal e = absurd (true≢false (sym e))
less Greater e = absurd (true≢false (sym e))

not_itself : (a : Found) → is_before a a ≡ false
not_itself a = ap is_lt (tied_itself found_total a)

not_both : (a b : Found) → is_before a b ≡ true → is_before b a ≡ false
not_both a b e = turned b a ∙ less (found_cmp a b) e

-- what is not before one that is not before another is not before that one
not_before : (a b c : Found) → is_before a b ≡ false → is_before b c ≡ false → is_before a c ≡ false
not_before a b c e f = turned a c ∙ upto found_total c b a (sym (turned b c) ∙ f) (sym (turned a b) ∙ e)

best_more : (one : Found) (rest : List Found) (best : Option Found) → IsTold rest best → IsTold (one ∷ rest) (Some (better one best))
best_more one rest None none = (inl refl, λ other is. elim is [ inl e ↦ subst (λ f. is_before f one ≡ false) (sym e) (not_itself one) | inr is ↦ absurd (subst (IsIn other) none is) ])
best_more one rest (Some best) is = by_test (is_before best one) refl
  where
    by_test : (b : Bool) → is_before best one ≡ b → IsTold (one ∷ rest) (Some (if b then best else one))
    by_test true e = (inr is.0, λ other h. elim h [ inl same ↦ subst (λ f. is_before f best ≡ false) (sym same) (not_both best one e) | inr h ↦ is.1 other h ])
    by_test false e = (inl refl, λ other h. elim h [ inl same ↦ subst (λ f. is_before f one ≡ false) (sym same) (not_itself one) | inr h ↦ not_before other best one (is.1 other h) e ])

-- what is told of these is told before all others
pub best_of : (list : List Found) → IsTold list (first list)
best_of [] = refl
best_of (one ∷ rest) = best_more one rest (first rest) (best_of rest)

pub first_some : (list : List Found) (fault : Found) → Some fault ≡ first list → IsIn fault list × ((other : Found) → IsIn other list → is_before other fault ≡ false)
first_some list fault e = subst (IsTold list) (sym e) (best_of list)

pub first_none : (list : List Found) → None ≡ first list → list ≡ []
first_none list e = subst (IsTold list) (sym e) (best_of list)

-- faults of which none is before the other are the same
tied : (o : Ordering) → is_lt o ≡ false → is_gt o ≡ false → o ≡ Equal
tied Less e f = absurd (true≢false e)
tied Equal e f = refl
tied Greater e f = absurd (true≢false f)

both_equal : (a b : Ordering) → ordering_then a b ≡ Equal → (a ≡ Equal) × (b ≡ Equal)
both_equal Less b e = absurd (true≢false (ap is_lt e))
both_equal Equal b e = (refl, e)
both_equal Greater b e = absurd (true≢false (ap is_gt e))

pub same_found : (a b : Found) → is_before a b ≡ false → is_before b a ≡ false → a ≡ b
same_found a b e f =
    let all = both_equal _ _ (tied (found_cmp a b) e (sym (turned b a) ∙ f)) in
    let front = both_equal _ _ all.0 in
    let place = both_equal _ _ front.0 in
    let file = nat_cmp-IsAntisymmetric _ _ place.0 in
    let offset = nat_cmp-IsAntisymmetric _ _ place.1 in
    let kind = same_kind a.kind b.kind (nat_cmp-IsAntisymmetric _ _ front.1) in
    let name = slice_cmp-IsAntisymmetric nat_cmp-IsAntisymmetric a.name b.name all.1 in
    λ i. record { kind = kind i; place = record { file = file i; offset = offset i }; name = name i }

-- so one is told at most
pub one_told : (list : List Found) (a b : Option Found) → IsTold list a → IsTold list b → a ≡ b
one_told list None None s t = refl
one_told list None (Some g) s t = absurd (subst (IsIn g) s t.0)
one_told list (Some f) None s t = absurd (subst (IsIn f) t s.0)
one_told list (Some f) (Some g) s t = ap Some (same_found f g (t.1 f s.0) (s.1 g t.0))

-- the last of some faults, where what is first behind it is known
pub first_last : (list : List Found) (one : Found) (best : Option Found) → first_with (list ++ one ∷ []) best ≡ first_with list (Some (better one best))
first_last [] one best = refl
first_last (other ∷ list) one best = ap (λ o. Some (better other o)) (first_last list one best)

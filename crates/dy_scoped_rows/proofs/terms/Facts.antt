-- What holds of a part that was read: where its numbers end, and that it is in scope.
use Rattle.std.proofs.Common.{◌≡◌, ℕ, ◌≤◌, ◌<◌, Bool, true, false, ◌&&◌, Option, Some, None, refl, sym, ◌∙◌, subst, arith}
use Rattle.std.specs.Prelude.{max, nat_lt, nat_le}
use Rattle.dy_base.specs.declared.fault.Fault.{Fault}
use Rattle.dy_binding.specs.declared.progress.Progress.{Progress}
use Rattle.dy_binding.specs.Reads.{told_some}
use Rattle.dy_lowering_whole.specs.valid.Scoped.{Scoping}

abbrev Something : {A : Type 0} → Option A → Type 0
Something None = ⊥
Something (Some x) = Unit {0}

pub no_fault : {A : Type 0} (x : A) → Some x ≡ None → ⊥
no_fault {A} x e = subst (Something {A = A}) e tt

abbrev Untrue : Bool → Type 0
Untrue true = ⊥
Untrue false = Unit {0}

pub untrue : {A : Type 0} → false ≡ true → A
untrue e = absurd (subst Untrue e tt)

pub both_true : (a b : Bool) → a && b ≡ true → (a ≡ true) × (b ≡ true)
both_true true b e = (refl, e)
both_true false b e = untrue e

pub and_true : (a b : Bool) → a ≡ true → b ≡ true → a && b ≡ true
and_true a b e f = (λ i. e i && b) ∙ f

pub and_assoc : (a b c : Bool) → (a && b) && c ≡ a && (b && c)
and_assoc true b c = refl
and_assoc false b c = refl

pub lt_true : (n m : ℕ) → n < m → nat_lt n m ≡ true
lt_true n m h = grind (arith, h)

pub le_true : (n m : ℕ) → n ≤ m → nat_le n m ≡ true
le_true n m h = grind (arith, h)

-- From one progress to another: the numbers grow, no fault is forgotten, what was read is in scope
-- where the body begins at or below a number, and all numbers are those of the part.
pub record Facts (low : ℕ) (p q : Progress) (scope : Scoping) (numbers : ℕ) : Type 0 where
  pub grows : p.next ≤ q.next
  pub clean : q.first ≡ None → p.first ≡ None
  pub scoped : q.first ≡ None → (first last : ℕ) → first ≤ low → q.next ≤ last
      → scope first last ≡ true
  pub counted : q.next ≤ max p.next numbers

-- the same of what is lowered yet
abbrev pub Within : ℕ → Progress → Progress → Bool → Scoping → ℕ → Type 0
Within low p q lowered scope numbers = lowered ≡ true → Facts low p q scope numbers

pub nothing : (low : ℕ) (p : Progress) (l : Bool) → Within low p p l (λ first last. true) 0
nothing low p l e = record {
  grows = omega arith;
  clean = λ w. w;
  scoped = λ w first last f g. refl;
  counted = omega arith;
}

-- a part and the next one
pub both : (p q r : Progress) (a b : Bool) (s t : Scoping) (m n : ℕ)
    → Within p.next p q a s m → (a ≡ true → p.next ≤ q.next → Within q.next q r b t n)
    → Within p.next p r (a && b) (λ first last. s first last && t first last) (max m n)
both p q r a b s t m n f g e =
    let h = both_true a b e in
    let x = f h.0 in
    let y = g h.0 x.grows h.1 in
    record {
      grows = omega (arith, x.grows, y.grows);
      clean = λ w. x.clean (y.clean w);
      scoped = λ w first last low high. and_true (s first last) (t first last)
          (x.scoped (y.clean w) first last low (omega (arith, high, y.grows)))
          (y.scoped w first last (omega (arith, low, x.grows)) high);
      counted = omega (arith, x.counted, y.counted);
    }

-- the same by what is the same
pub by_same : (low : ℕ) (p q : Progress) (l l' : Bool) (s s' : Scoping) (m m' : ℕ)
    → l' ≡ l → s' ≡ s → m' ≡ m → Within low p q l s m → Within low p q l' s' m'
by_same low p q l l' s s' m m' a b c f e =
    let x = f (sym a ∙ e) in
    record {
      grows = x.grows;
      clean = x.clean;
      scoped = λ w first last f g. (λ i. b i first last) ∙ x.scoped w first last f g;
      counted = omega (arith, x.counted, c);
    }

-- where something was read before that takes no numbers
pub behind_one : (p q r : Progress) (s : Scoping) (m : ℕ) → q.next ≡ p.next
    → (q.first ≡ None → p.first ≡ None) → Facts q.next q r s m → Facts p.next p r s m
behind_one p q r s m e c x = record {
  grows = omega (arith, x.grows, e);
  clean = λ w. c (x.clean w);
  scoped = λ w first last low high. x.scoped w first last (omega (arith, low, e)) high;
  counted = omega (arith, x.counted, e);
}

pub told_clean : (f : Option Fault) (p : Progress) → (told_some f p).first ≡ None
    → (f ≡ None) × (p.first ≡ None)
told_clean None p e = (refl, e)
told_clean (Some f) p e = absurd (no_fault _ e)

pub told_next : (f : Option Fault) (p : Progress) → (told_some f p).next ≡ p.next
told_next None p = refl
told_next (Some f) p = refl

-- The computed choice is the one that comes later than the others.
use Rattle.std.proofs.Common.{◌≡◌, List, [], ◌∷◌, ◌⊎◌, Option, Some, None, inl, inr, refl, ap, ◌∙◌}
use Rattle.dy_base.specs.declared.ids.ClassId.{ClassId}
use Rattle.dy_base.specs.Orders.{is_class}
use Rattle.dy_classes.proofs.Classes.{class_tells, class_itself, class_equal}
use Rattle.dy_classes.specs.Lists.{In, first, next, Before, Sub}
use Rattle.dy_classes.specs.Orders.{Admissible, Later}
use Rattle.dy_classes.specs.Merge.{ready, find, next_of, or_else}
use Rattle.dy_classes.proofs.Lists.{sub_in, sub_before, pairs}
use Rattle.dy_classes.proofs.Decisions.{admissible, admissible_ready, find_some, find_none}

-- what the choice needs of the lists
pub record Shape (supers : ClassId → List ClassId) (lists : List (List ClassId)) (c : ClassId) : Type 0 where
  -- the direct superclasses of each class, c among them, are in one of the lists, in their order
  pub held : (z : ClassId) → (z ≡ c) ⊎ ((m : List ClassId) × In m lists × In z m) → (m : List ClassId) × In m lists × Sub (supers z) m
  -- a class of the lists is a direct superclass of c, or has a direct subclass before it
  pub backed : (m : List ClassId) (x : ClassId) → In m lists → In x m
      → In x (supers c) ⊎ ((z : ClassId) × (k : List ClassId) × In x (supers z) × In k lists × Before z x k)
  pub apart : (m : List ClassId) → In m lists → In c m → ⊥

pub later_not : (supers : ClassId → List ClassId) (listed : List ClassId) (x y : ClassId) → Later supers listed x y → Later supers listed y x → ⊥
later_not supers [] x y a b = a
later_not supers (z ∷ listed) x y (no_y, inl i) (no_x, q) = no_x i
later_not supers (z ∷ listed) x y (no_y, inr p) (no_x, inl j) = no_y j
later_not supers (z ∷ listed) x y (no_y, inr p) (no_x, inr q) = later_not supers listed x y p q

module _ (supers : ClassId → List ClassId) (lists : List (List ClassId)) (c : ClassId) (shape : Shape supers lists c) where
  abbrev pub Known : ClassId → Type 0
  Known z = (z ≡ c) ⊎ ((m : List ClassId) × In m lists × In z m)

  -- of the direct superclasses of a class at most one is admissible
  pub no_ties : (listed : List ClassId) (z x y : ClassId) → Known z → In x (supers z) → In y (supers z)
      → Admissible lists listed x → Admissible lists listed y → x ≡ y
  no_ties listed z x y k i j a b =
      let (m, at, s) = shape.held z k in
      elim (pairs i j) [
        | inl e ↦ e
        | inr p ↦ elim p [
          | inl q ↦ absurd (a.fresh (b.ready m at x (sub_before s q)))
          | inr q ↦ absurd (b.fresh (a.ready m at y (sub_before s q)))
        ]
      ]

  -- an admissible class has a direct subclass that is listed
  pub backed_up : (listed : List ClassId) (x : ClassId) → In c listed → Admissible lists listed x → (z : ClassId) × In z listed × In x (supers z)
  backed_up listed x base a =
      let (m, at, i) = a.found in
      elim (shape.backed m x at i) [ inl d ↦ (c, base, d) | inr w ↦ let (z, k, d, in_k, b) = w in (z, a.ready k in_k z b, d) ]

  module _ (listed : List ClassId) where
    abbrev pub Best : List ClassId → ClassId → Type 0
    Best part x = Admissible lists listed x × ((y : ClassId) → Admissible lists listed y → (y ≡ x → ⊥) → Later supers part x y)

    pick_step : (z : ClassId) (part : List ClassId) (x : ClassId) → Known z → (o : Option ClassId) → find (ready lists listed) (supers z) ≡ o
        → or_else o (next_of supers (ready lists listed) part) ≡ Some x
        → (next_of supers (ready lists listed) part ≡ Some x → Best part x) → Best (z ∷ part) x
    pick_step z part x k (Some s) is e below =
        let same : s ≡ x = cc in
        let (i, t) = find_some (ready lists listed) (supers z) x (is ∙ ap Some same) in
        let (m, at, sub) = shape.held z k in
        let a = admissible lists listed x t (m, at, sub_in sub i) in
        (a, λ y b differs. (λ j. differs (no_ties listed z y x k j i b a), inl i))
    pick_step z part x k None is e below =
        let (a, best) = below e in
        (a, λ y b differs. (λ j. find_none (ready lists listed) (supers z) y is j (admissible_ready lists listed y b), inr (best y b differs)))

    pub pick_sound : (part : List ClassId) (x : ClassId) → ((z : ClassId) → In z part → Known z) → next_of supers (ready lists listed) part ≡ Some x → Best part x
    pick_sound [] x known e = absurd cc
    pick_sound (z ∷ part) x known e =
        pick_step z part x (known z first) (find (ready lists listed) (supers z)) refl e (pick_sound part x (λ z i. known z (next i)))

    none_step : (o p : Option ClassId) → or_else o p ≡ None → (o ≡ None) × (p ≡ None)
    none_step (Some x) p e = absurd cc
    none_step None p e = (refl, e)

    pub pick_none : (part : List ClassId) (z x : ClassId) → next_of supers (ready lists listed) part ≡ None → In z part → In x (supers z) → Admissible lists listed x → ⊥
    pick_none [] z x e i j a = elim i [ ]
    pick_none (y ∷ part) z x e first j a =
        find_none (ready lists listed) (supers y) x (none_step (find (ready lists listed) (supers y)) (next_of supers (ready lists listed) part) e).0 j (admissible_ready lists listed x a)
    pick_none (y ∷ part) z x e (next i) j a =
        pick_none part z x (none_step (find (ready lists listed) (supers y)) (next_of supers (ready lists listed) part) e).1 i j a

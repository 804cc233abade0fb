-- What a list holds, as the order of a class is asked.
use Rattle.std.proofs.Common.{◌≡◌, ℕ, zero, suc, ◌<◌, Bool, true, false, IsTrue, List, [], ◌∷◌, length}
use Rattle.std.proofs.Common.{slice_index_or, Contains, ◌⊎◌, inl, inr, refl, sym, subst, ◌∙◌, arith}
use Rattle.dy_base.specs.declared.ids.ClassId.{ClassId}
use Rattle.dy_classes.specs.Lists.{In, first, next}
use Rattle.dy_classes.specs.Merge.{mem}
use Rattle.dy_classes.proofs.Decisions.{tells, mem_in, not_mem}

in_of : (x : ClassId) (ys : List ClassId) (k : ℕ)
    → k < length ys → slice_index_or ys k x ≡ x → In x ys
in_of x [] k within e = absurd (omega arith)
in_of x (y ∷ ys) zero within e = subst (λ (v : ClassId). In x (v ∷ ys)) (sym e) first
in_of x (y ∷ ys) (suc k) within e = next (in_of x ys k (omega arith) e)

of_in : (x : ClassId) (ys : List ClassId) → In x ys → Contains ys x
of_in x [] i = elim i [ ]
of_in x (_ ∷ ys) first = (zero, omega arith, refl)
of_in x (y ∷ ys) (next i) = let r = of_in x ys i in (suc r.0, omega arith, r.2)

pub mem_of : (told : Bool) (x : ClassId) (ys : List ClassId) → (IsTrue told → Contains ys x)
    → (Contains ys x → IsTrue told) → told ≡ mem x ys
mem_of told x ys holds held =
    elim (tells (mem x ys)) [
      | inl e ↦ held (of_in x ys (mem_in x ys e)) ∙ sym e
      | inr e ↦ elim (tells told) [
        | inl t ↦ let c = holds t in absurd (not_mem x ys e (in_of x ys c.0 c.1 c.2))
        | inr f ↦ f ∙ sym e
      ]
    ]

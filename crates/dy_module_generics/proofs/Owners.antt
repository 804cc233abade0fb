-- Who owns what modules mean by names, and what a definition that may stand somewhere is one of.
use Rattle.std.proofs.Common.{◌≡◌, inl, inr, ℕ, ◌≤◌, List, length, Option, Some, None, slice_get, refl, sym, ◌∙◌, arith}
use Rattle.std.proofs.lemmas.Option.{slice_get_cases}
use Rattle.dy_base.specs.declared.ids.BindingId.{BindingId}
use Rattle.dy_modules.specs.declared.owner.Owner.{Owner}
use Rattle.dy_modules.specs.declared.owner.Owner.TheVariants.{Outside, Own}
use Rattle.dy_modules.specs.declared.clause.ModuleForm.{ModuleForm}
use Rattle.dy_modules.specs.Clauses.{Name, given_at}
use Rattle.dy_modules.specs.Sees.{Side, imports, Named, Owned, given_owner, brought_owner, IsClosed}
use Rattle.dy_modules.proofs.Least.{least_owners}
use Rattle.dy_modules.proofs.Rows.{none_is}
use Rattle.dy_module_tables.specs.Graphs.{Visible, given_here, brought_here, own_here, Lends}
use Rattle.dy_module_tables.specs.Meant.{IsOwner, IsBarred}

-- What holds of each owner that a module gives a name, and of each module's own names, holds of all
-- that modules mean.
module _ (ms : List ModuleForm) (P : Owner → Type 0) (given : (m : ℕ) (d : ModuleForm) (n : Name) (k : Owner) → slice_get ms m ≡ Some d → given_at d n ≡ Some k → P k)
    (own : (m : ℕ) (d : ModuleForm) (n : Name) → slice_get ms m ≡ Some d → P (Own m n)) where
  closed : IsClosed ms (λ (s : Side) (m : ℕ) (n : Name) (k : Owner). P k)
  closed = record {
    given = given;
    own = λ m d n at none is free. own m d n at;
    passed = λ m d n k at none is h. h;
    bring = λ m d u a n k at is b h. h;
    repeat = λ m d u a n k at none is b r h. h;
  }

  pub all_owners : (s : Side) (m : ℕ) (n : Name) (k : Owner) → Owned ms s m n k → P k
  all_owners = least_owners ms (λ (s : Side) (m : ℕ) (n : Name) (k : Owner). P k) closed

  pub all_visible : (m : ℕ) (n : Name) (k : Owner) → Visible ms m n k → P k
  all_visible _ _ _ (given_here m d n k at h) = given m d n k at h
  all_visible _ _ _ (brought_here m d n k at none h) = all_owners imports m n k h
  all_visible _ _ _ (own_here m d n at none h) = own m d n at

-- A definition that may stand in a module is one of a name that a module of the library owns.
module _ (ms : List ModuleForm) (own : ℕ) (within : own ≤ length ms) (m : ℕ) (n : Name) (o : Option Owner) (is : IsOwner ms m n o) (free : IsBarred ms own m n → ⊥) where
  abbrev OwnedHere : Type 0
  OwnedHere = (c : ℕ) × (a : Name) × (o ≡ Some (Own c a))

  module _ (d : ModuleForm) (at : slice_get ms m ≡ Some d) (none : given_at d n ≡ None) where
    -- what it imports from a module of the library that creates it has one
    lent : Lends ms m n → OwnedHere
    lent w = (
      w.2.source,
      w.3,
      (is (Own w.2.source w.3)).1 (brought_here m d n (Own w.2.source w.3) at none
          (brought_owner m w.0 w.2 w.3 n (Own w.2.source w.3) w.4 w.5 w.6 (given_owner w.2.source w.1 w.3 (Own w.2.source w.3) w.7 w.8))),
    )

    -- else it imports none of the name
    unnamed : (OwnedHere → ⊥) → Named ms imports m n → ⊥
    unnamed never h = free (inr (inr (h, λ w. never (lent w))))

    -- so it owns it itself
    itself : (OwnedHere → ⊥) → OwnedHere
    itself never = (m, n, (is (Own m n)).1 (own_here m d n at none (unnamed never)))

    by_owner : (p : Option Owner) → o ≡ p → OwnedHere
    by_owner (Some (Own c a)) e = (c, a, e)
    by_owner (Some (Outside id)) e = itself (λ h. other id h.0 h.1 (sym e ∙ h.2))
      where
        other : (id : BindingId) (c : ℕ) (a : Name) → (◌≡◌ {A = Option Owner} (Some (Outside id)) (Some (Own c a))) → ⊥
        other id c a same = cc
    by_owner None e = itself (λ h. none_is (Own h.0 h.1) (sym e ∙ h.2))

  by_given : (d : ModuleForm) → slice_get ms m ≡ Some d → (g : Option Owner) → given_at d n ≡ g → OwnedHere
  by_given d at (Some k) e = absurd (free (inr (inl (d, k, at, e))))
  by_given d at None e = by_owner d at e o refl

  pub open_owned : OwnedHere
  open_owned = elim (slice_get_cases ms m).1 [
    | inl a ↦ by_given a.0 a.2 (given_at a.0 n) refl
    | inr a ↦ absurd (free (inl (let past = a.0 in omega (arith, within, past))))
  ]

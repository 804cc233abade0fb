-- Who owns a name, and where definitions may stand, against the tables.
use Rattle.std.proofs.Common.{◌≡◌, ◌≢◌, ◌⊎◌, inl, inr, ℕ, ◌<◌, ◌≤◌, ◌↔◌, Bool, true, false}
use Rattle.std.proofs.Common.{true≢false, cond, nat_lt, List, length, Option, Some, None, is_some}
use Rattle.std.proofs.Common.{slice_get, refl, sym, ap, subst, ◌∙◌, arith}
use Rattle.std.proofs.lemmas.Option.{slice_get_within, slice_get_cases}
use Rattle.std.proofs.lemmas.Bool.{cases_lt}
use Rattle.std.proofs.lemmas.Bool.Decides.{Decides-ltb}
use Rattle.dy_base.specs.Tables.{NameMap}
use Rattle.dy_base.specs.declared.ids.BindingId.{BindingId}
use Rattle.dy_modules.specs.declared.owner.Owner.{Owner}
use Rattle.dy_modules.specs.declared.owner.Owner.TheVariants.{Outside, Own}
use Rattle.dy_modules.specs.declared.table.Cell.{Cell}
use Rattle.dy_modules.specs.declared.table.Cell.TheVariants.{One, Many}
use Rattle.dy_modules.specs.declared.clause.ModuleForm.{ModuleForm}
use Rattle.dy_modules.specs.declared.rounds.ModuleTables.{ModuleTables}
use Rattle.dy_modules.specs.Clauses.{Name, given_at}
use Rattle.dy_modules.specs.Sees.{imports, Named, Owned, given_owner, brought_owner}
use Rattle.dy_modules.specs.Cells.{Says}
use Rattle.dy_module_tables.specs.Graphs.{Visible, given_here, brought_here, own_here, Creates, Lends}
use Rattle.dy_module_tables.specs.Looking.{IsWhole, given_in, import_in, is_lent}
use Rattle.dy_module_tables.specs.Meant.{IsOwner, IsBarred, owner_by, owner_here, owner_of, is_open_cell, is_open, is_open_in}
use Rattle.dy_modules.specs.Order.{is_made}
use Rattle.dy_modules.specs.Builds.{is_clear_module, all_clear}
use Rattle.dy_modules.proofs.Clear.{unclear, many_in}
use Rattle.dy_modules.proofs.Rows.{some_is, none_is, row_at}
use Rattle.dy_modules.proofs.Step.{owned_named}
use Rattle.dy_module_tables.proofs.Meanings.{seen_owner, seen_there, seen_one, says_here, single_here}
use Rattle.dy_module_tables.proofs.Meanings.{brought_has, lent_to, lent_from}

by_is : (m : ℕ) (n : Name) (g : Option Owner) (c : Option Cell) → c ≢ Some Many
    → owner_by m n g c ≡ Some (seen_owner m n g c)
by_is m n (Some k) c single = refl
by_is m n None (Some (One k)) single = refl
by_is m n None (Some Many) single = absurd (single refl)
by_is m n None None single = refl

visible_module : (ms : List ModuleForm) (m : ℕ) (n : Name) (k : Owner) → Visible ms m n k
    → (d : ModuleForm) × (slice_get ms m ≡ Some d)
visible_module ms _ _ _ (given_here m d n k is h) = (d, is)
visible_module ms _ _ _ (brought_here m d n k is none h) = (d, is)
visible_module ms _ _ _ (own_here m d n is none h) = (d, is)

given_module : (o : Option ModuleForm) (n : Name) (k : Owner) → given_in o n ≡ Some k
    → (d : ModuleForm) × (o ≡ Some d) × (given_at d n ≡ Some k)
given_module None n k h = absurd (none_is k h)
given_module (Some d) n k h = (d, refl, h)

within_has : {X : Type 0} (xs : List X) (s : ℕ) → s < length xs
    → (x : X) × (slice_get xs s ≡ Some x)
within_has xs s h =
    elim (slice_get_cases xs s).1 [ inl a ↦ (a.0, a.2) | inr a ↦ absurd (omega (arith, a.0)) ]

module _ (ms : List ModuleForm) (own : ℕ) (done : List (Option ModuleTables))
    (defs : List (NameMap BindingId)) (whole : IsWhole ms own done defs) where
  pub owner_right : (m : ℕ) (n : Name) → IsOwner ms m n (owner_of ms done m n)
  owner_right m n = elim (slice_get_cases ms m).1 [
    | inl a ↦ there a.0 a.2
    | inr a ↦ nowhere a.1
  ]
    where
      there : (d : ModuleForm) → slice_get ms m ≡ Some d → IsOwner ms m n (owner_of ms done m n)
      there d at k =
          let c = import_in (slice_get done m) n in
          let seen = seen_owner m n (given_at d n) c in
          let is : owner_of ms done m n ≡ Some seen =
          ap (λ o. owner_here m n o c) at
          ∙ by_is m n (given_at d n) c (single_here ms own done defs whole m d n at) in (
            λ e. subst (Visible ms m n) (some_is seen k (sym is ∙ e))
                (seen_there ms own done defs whole m d n at),
            λ h. is ∙ ap Some (sym (seen_one ms own done defs whole m d n at k h)),
          )

      nowhere : slice_get ms m ≡ None → IsOwner ms m n (owner_of ms done m n)
      nowhere none k = (
        λ e. absurd (none_is k (sym (ap (λ o. owner_here m n o (import_in (slice_get done m) n))
            none) ∙ e)),
        λ h. let w = visible_module ms m n k h in absurd (none_is w.0 (sym none ∙ w.1)),
      )

  module _ (m : ℕ) (n : Name) (within : m < own) where
    here : (d : ModuleForm) × (slice_get ms m ≡ Some d)
    here = within_has ms m (omega (arith, within, whole.within))

    says : (c : Option Cell) → import_in (slice_get done m) n ≡ c → Says c (Owned ms imports m n)
    says c is = subst (λ x. Says x (Owned ms imports m n)) is
        (says_here ms own done defs whole m here.0 n here.1)

    abbrev opened : Option Owner → Option Cell → Bool
    opened g c = cond (is_some g) false (is_open_cell ms m n c)

    not_lent : (k : Owner) → import_in (slice_get done m) n ≡ Some (One k)
        → (Lends ms m n → ⊥) → IsBarred ms own m n
    not_lent k is never =
        inr (inr (owned_named ms imports m n k (says (Some (One k)) is).0, never))

    differ : (c : ℕ) (a : Name) (id : BindingId) → Own c a ≡ Outside id → ⊥
    differ c a id e = cc

    not_outside : (id : BindingId) → import_in (slice_get done m) n ≡ Some (One (Outside id))
        → Lends ms m n → ⊥
    not_outside id is w =
        let k = Own w.2.source w.3 in
        differ w.2.source w.3 id ((says (Some (One (Outside id))) is).1 k
        (brought_owner m w.0 w.2 w.3 n k w.4 w.5 w.6
        (given_owner w.2.source w.1 w.3 k w.7 w.8)))

    barred_by : (g : Option Owner) (c : Option Cell) → given_in (slice_get ms m) n ≡ g
        → import_in (slice_get done m) n ≡ c → opened g c ≡ false → IsBarred ms own m n
    barred_by (Some k) c eg ec e =
        let w = given_module (slice_get ms m) n k eg in inr (inl (w.0, k, w.1, w.2))
    barred_by None None eg ec e = absurd (true≢false e)
    barred_by None (Some (One (Outside id))) eg ec e = not_lent (Outside id) ec (not_outside id ec)
    barred_by None (Some (One (Own c a))) eg ec e =
        not_lent (Own c a) ec (λ lends. true≢false (sym (lent_from ms own done defs whole m c a n
        (says (Some (One (Own c a))) ec).1 lends) ∙ e))
    barred_by None (Some Many) eg ec e =
        absurd (single_here ms own done defs whole m here.0 n here.1 ec)

    pub closed_barred : is_open ms done m n ≡ false → IsBarred ms own m n
    closed_barred e = barred_by (given_in (slice_get ms m) n) (import_in (slice_get done m) n)
        refl refl e

    closed_by : (g : Option Owner) (c : Option Cell) → given_in (slice_get ms m) n ≡ g
        → import_in (slice_get done m) n ≡ c → IsBarred ms own m n → opened g c ≡ false
    closed_by (Some k) c eg ec barred = refl
    closed_by None c eg ec (inl h) = absurd (omega (arith, h, within))
    closed_by None c eg ec (inr (inl h)) =
        absurd (none_is h.1 (sym eg ∙ ap (λ o. given_in o n) h.2 ∙ h.3))
    closed_by None None eg ec (inr (inr h)) =
        let w = brought_has ms own done defs whole m here.0 n here.1 h.0 in
        absurd (says None ec w.0 w.1)
    closed_by None (Some (One (Outside id))) eg ec (inr (inr h)) = refl
    closed_by None (Some (One (Own c a))) eg ec (inr (inr h)) = by_lent (is_lent ms m c a n) refl
      where
        by_lent : (b : Bool) → is_lent ms m c a n ≡ b → is_lent ms m c a n ≡ false
        by_lent true is = absurd (h.1 (lent_to ms own done defs whole m c a n is).0)
        by_lent false is = is
    closed_by None (Some Many) eg ec (inr (inr h)) = refl

    pub barred_closed : IsBarred ms own m n → is_open ms done m n ≡ false
    barred_closed barred = closed_by (given_in (slice_get ms m) n) (import_in (slice_get done m) n)
        refl refl barred

  -- whether a definition may stand in any module
  pub opening : (m : ℕ) (n : Name) → (is_open_in own ms done m n ≡ false) ↔ IsBarred ms own m n
  opening m n = by_own (nat_lt m own) refl (cases_lt m own)
    where
      by_own : (b : Bool) → nat_lt m own ≡ b → (m < own) ⊎ (own ≤ m)
          → (is_open_in own ms done m n ≡ false) ↔ IsBarred ms own m n
      by_own true is (inl within) =
          let same = ap (λ b. cond b (is_open ms done m n) false) is in (
            λ e. closed_barred m n within (sym same ∙ e),
            λ barred. same ∙ barred_closed m n within barred,
          )
      by_own true is (inr past) = absurd (omega (arith, past, (Decides-ltb m own).0 is))
      by_own false is (inr past) =
          (λ _. inl past, λ _. ap (λ b. cond b (is_open ms done m n) false) is)
      by_own false is (inl within) =
          absurd (true≢false (sym ((Decides-ltb m own).1 within) ∙ is))

  -- all tables are made, and no name of one has two owners
  pub whole_clear : all_clear done ≡ true
  whole_clear = by_clear (all_clear done) refl
    where
      never : (m : ℕ) (o : Option ModuleTables) → slice_get done m ≡ Some o
          → is_clear_module o ≡ false → ⊥
      never m None is e = true≢false (sym (whole.made m
          (subst (λ l. m < l) whole.right.count (slice_get_within done m None is)))
          ∙ ap is_made is)
      never m (Some t) is e =
          let w = many_in t.imports e in
          whole.single m t w.0 is (row_at t.imports (whole.right.each m t is).apart (w.0, Many) w.1)

      by_clear : (b : Bool) → all_clear done ≡ b → all_clear done ≡ true
      by_clear true is = is
      by_clear false is = let w = unclear done is in absurd (never w.0 w.1 w.2 w.3)

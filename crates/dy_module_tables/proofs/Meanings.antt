-- What a module means by a name, against its tables.
use Rattle.std.proofs.Common.{◌≡◌, ◌≢◌, ◌⊎◌, inl, inr, ℕ, zero, suc, ◌<◌, ◌≤◌, ◌↔◌, Bool, true, false, true≢false, ◌&&◌, ◌||◌, nat_eq, List, [], ◌∷◌, length, Option, Some, None, is_some, slice_get, refl, sym, ap, subst, ◌∙◌, arith}
use Rattle.std.proofs.lemmas.Option.{slice_get_within, slice_get_past, slice_get_cases}
use Rattle.dy_base.specs.Tables.{NameMap}
use Rattle.dy_base.specs.declared.ids.BindingId.{BindingId}
use Rattle.dy_modules.specs.declared.owner.Owner.{Owner}
use Rattle.dy_modules.specs.declared.owner.Owner.TheVariants.{Outside, Own}
use Rattle.dy_modules.specs.declared.table.Cell.{Cell}
use Rattle.dy_modules.specs.declared.table.Cell.TheVariants.{One, Many}
use Rattle.dy_modules.specs.declared.clause.UseClause.{UseClause}
use Rattle.dy_modules.specs.declared.clause.ModuleForm.{ModuleForm}
use Rattle.dy_modules.specs.declared.rounds.ModuleTables.{ModuleTables}
use Rattle.dy_modules.specs.Clauses.{Name, IsIn, brought, given_at, is_same_owner}
use Rattle.dy_modules.specs.Sees.{imports, exports, Named, Owned, given_owner, brought_owner}
use Rattle.dy_modules.specs.Cells.{Says, at, is_name}
use Rattle.dy_modules.specs.Order.{is_made, AreRight, IsRight}
use Rattle.dy_module_tables.specs.Graphs.{defined_in, definition, Visible, given_here, brought_here, own_here, Means, Creates, Lends, IsTaken, IsFree, IsExported}
use Rattle.dy_module_tables.specs.Looking.{IsWhole, cell_definition, given_in, import_in, export_in, choose, seen_definition, maybe_definition, any_brings, uses_in, is_given, is_lent}
use Rattle.dy_modules.proofs.Rows.{some_is, none_is, same_names, itself}
use Rattle.dy_modules.proofs.Says.{same_owner, owner_same, is_eq, eq_is, both_true, and_true}
use Rattle.dy_modules.proofs.Step.{owned_named}
use Rattle.dy_modules.proofs.Loop.{made_has}

-- the owner that these say
abbrev pub seen_owner : ℕ → Name → Option Owner → Option Cell → Owner
seen_owner m n (Some k) c = k
seen_owner m n None (Some (One k)) = k
seen_owner m n None (Some Many) = Own m n
seen_owner m n None None = Own m n

choose_is : (defs : List (NameMap BindingId)) (m : ℕ) (n : Name) (g : Option Owner) (c : Option Cell) → c ≢ Some Many
    → choose defs g c (defined_in (slice_get defs m) n) ≡ definition defs (seen_owner m n g c)
choose_is defs m n (Some k) c single = refl
choose_is defs m n None (Some (One k)) single = refl
choose_is defs m n None (Some Many) single = absurd (single refl)
choose_is defs m n None None single = refl

module _ (ms : List ModuleForm) (own : ℕ) (done : List (Option ModuleTables)) (defs : List (NameMap BindingId)) (whole : IsWhole ms own done defs) where
  module _ (m : ℕ) (d : ModuleForm) (n : Name) (at_d : slice_get ms m ≡ Some d) where
    this : (e : ModuleForm) → slice_get ms m ≡ Some e → e ≡ d
    this e is = some_is e d (sym is ∙ at_d)

    given_this : (e : ModuleForm) (o : Option Owner) → slice_get ms m ≡ Some e → given_at e n ≡ o → given_at d n ≡ o
    given_this e o is given = ap (λ x. given_at x n) (sym (this e is)) ∙ given

    made_here : (t : ModuleTables) × (slice_get done m ≡ Some (Some t))
    made_here = made_has (slice_get done m) (whole.made m (slice_get_within ms m d at_d))

    right_here : IsRight ms m (made_here.0)
    right_here = whole.right.each m made_here.0 made_here.1

    import_is : import_in (slice_get done m) n ≡ at made_here.0.imports n
    import_is = ap (λ o. import_in o n) made_here.1

    pub says_here : Says (import_in (slice_get done m) n) (Owned ms imports m n)
    says_here = subst (λ c. Says c (Owned ms imports m n)) (sym import_is) (right_here.imported n)

    pub single_here : import_in (slice_get done m) n ≢ Some Many
    single_here e = whole.single m made_here.0 n made_here.1 (sym import_is ∙ e)

    pub brought_has : Named ms imports m n → (k : Owner) × Owned ms imports m n k
    brought_has = right_here.brought n

    there : (g : Option Owner) (c : Option Cell) → given_at d n ≡ g → Says c (Owned ms imports m n) → c ≢ Some Many → Visible ms m n (seen_owner m n g c)
    there (Some k) c given s single = given_here m d n k at_d given
    there None (Some (One k)) given s single = brought_here m d n k at_d given s.0
    there None (Some Many) given s single = absurd (single refl)
    there None None given s single = own_here m d n at_d given (λ h. let w = right_here.brought n h in s w.0 w.1)

    one : (g : Option Owner) (c : Option Cell) → given_at d n ≡ g → Says c (Owned ms imports m n) → c ≢ Some Many → (k : Owner) → Visible ms m n k → k ≡ seen_owner m n g c
    one (Some j) c given s single k (given_here _ e _ _ is h) = some_is k j (sym (given_this e (Some k) is h) ∙ given)
    one (Some j) c given s single k (brought_here _ e _ _ is none h) = absurd (none_is j (sym (given_this e None is none) ∙ given))
    one (Some j) c given s single _ (own_here _ e _ is none h) = absurd (none_is j (sym (given_this e None is none) ∙ given))
    one None c given s single k (given_here _ e _ _ is h) = absurd (none_is k (sym given ∙ given_this e (Some k) is h))
    one None (Some (One j)) given s single k (brought_here _ e _ _ is none h) = s.1 k h
    one None (Some Many) given s single k (brought_here _ e _ _ is none h) = absurd (single refl)
    one None None given s single k (brought_here _ e _ _ is none h) = absurd (s k h)
    one None (Some (One j)) given s single _ (own_here _ e _ is none h) = absurd (h (owned_named ms imports m n j s.0))
    one None (Some Many) given s single _ (own_here _ e _ is none h) = absurd (single refl)
    one None None given s single _ (own_here _ e _ is none h) = refl

    abbrev Seen : Owner
    Seen = seen_owner m n (given_at d n) (import_in (slice_get done m) n)

    pub seen_there : Visible ms m n Seen
    seen_there = there (given_at d n) (import_in (slice_get done m) n) refl says_here single_here

    pub seen_one : (k : Owner) → Visible ms m n k → k ≡ Seen
    seen_one = one (given_at d n) (import_in (slice_get done m) n) refl says_here single_here

    pub seen_is : seen_definition ms done defs m n ≡ definition defs Seen
    seen_is = ap (λ o. choose defs (given_in o n) (import_in (slice_get done m) n) (defined_in (slice_get defs m) n)) at_d
        ∙ choose_is defs m n (given_at d n) (import_in (slice_get done m) n) single_here

  visible_module : (m : ℕ) (n : Name) (k : Owner) → Visible ms m n k → (d : ModuleForm) × (slice_get ms m ≡ Some d)
  visible_module _ _ _ (given_here m d n k is h) = (d, is)
  visible_module _ _ _ (brought_here m d n k is none h) = (d, is)
  visible_module _ _ _ (own_here m d n is none h) = (d, is)

  -- where there is no module nothing is seen
  nothing : (m : ℕ) (n : Name) → length ms ≤ m → seen_definition ms done defs m n ≡ None
  nothing m n past =
      ap (λ o. choose defs (given_in o n) (import_in (slice_get done m) n) (defined_in (slice_get defs m) n)) (slice_get_past ms m past)
      ∙ ap (λ o. choose defs None (import_in o n) (defined_in (slice_get defs m) n)) (slice_get_past done m (subst (λ l. l ≤ m) (sym whole.right.count) past))
      ∙ ap (λ o. defined_in o n) (slice_get_past defs m (subst (λ l. l ≤ m) (sym whole.count) past))

  pub seen_to : (m : ℕ) (n : Name) (id : BindingId) → seen_definition ms done defs m n ≡ Some id → Means ms defs m n id
  seen_to m n id e = elim (slice_get_cases ms m).1 [
    | inl a ↦ (Seen m a.0 n a.2, seen_there m a.0 n a.2, sym (seen_is m a.0 n a.2) ∙ e)
    | inr a ↦ absurd (none_is id (sym (nothing m n a.0) ∙ e))
  ]

  pub seen_from : (m : ℕ) (n : Name) (id : BindingId) → Means ms defs m n id → seen_definition ms done defs m n ≡ Some id
  seen_from m n id w =
      let at = visible_module m n w.0 w.1 in
      seen_is m at.0 n at.1 ∙ ap (definition defs) (sym (seen_one m at.0 n at.1 w.0 w.1)) ∙ w.2

  owner_of_own : (c k : ℕ) (a b : Name) → Own c a ≡ Own k b → (c ≡ k) × (a ≡ b)
  owner_of_own c k a b e = (cc, cc)

  brings_in : (us : List UseClause) (s : ℕ) (a n : Name) → any_brings us s a n ≡ true → (u : UseClause) × IsIn u us × (u.source ≡ s) × (brought u a ≡ Some n)
  brings_in [] s a n e = absurd (true≢false (sym e))
  brings_in (u ∷ us) s a n e = by_head (nat_eq u.source s && is_name (brought u a) n) refl e (brings_in us s a n)
    where
      named : (o : Option Name) → is_name o n ≡ true → o ≡ Some n
      named None is = absurd (true≢false (sym is))
      named (Some x) is = ap Some (sym (same_names n x is))

      by_head : (b : Bool) → (nat_eq u.source s && is_name (brought u a) n) ≡ b → (b || any_brings us s a n) ≡ true
          → (any_brings us s a n ≡ true → (v : UseClause) × IsIn v us × (v.source ≡ s) × (brought v a ≡ Some n))
          → (v : UseClause) × IsIn v (u ∷ us) × (v.source ≡ s) × (brought v a ≡ Some n)
      by_head true is h rest = let p = both_true (nat_eq u.source s) (is_name (brought u a) n) is in (u, inl refl, is_eq u.source s p.0, named (brought u a) p.1)
      by_head false is h rest = let w = rest h in (w.0, inr w.1, w.2, w.3)

  in_brings : (us : List UseClause) (s : ℕ) (a n : Name) (u : UseClause) → IsIn u us → u.source ≡ s → brought u a ≡ Some n → any_brings us s a n ≡ true
  in_brings [] s a n u is source b = absurd is
  in_brings (v ∷ us) s a n u (inl is) source b =
      ap (λ x. x || any_brings us s a n) (and_true (nat_eq v.source s) (is_name (brought v a) n) (ap (λ w. nat_eq w.source s) (sym is) ∙ eq_is u.source s source) (ap (λ w. is_name (brought w a) n) (sym is) ∙ ap (λ o. is_name o n) b ∙ itself n))
  in_brings (v ∷ us) s a n u (inr is) source b = or_right (nat_eq v.source s && is_name (brought v a) n) (any_brings us s a n) (in_brings us s a n u is source b)
    where
      or_right : (x y : Bool) → y ≡ true → (x || y) ≡ true
      or_right true y e = refl
      or_right false y e = e

  given_own : (o : Option Owner) (k : Owner) → is_given o k ≡ true → o ≡ Some k
  given_own None k e = absurd (true≢false (sym e))
  given_own (Some j) k e = ap Some (same_owner j k e)

  own_given : (o : Option Owner) (k : Owner) → o ≡ Some k → is_given o k ≡ true
  own_given o k e = ap (λ p. is_given p k) e ∙ owner_same k k refl

  module_of : (o : Option ModuleForm) (a : Name) (k : Owner) → given_in o a ≡ Some k → (e : ModuleForm) × (o ≡ Some e) × (given_at e a ≡ Some k)
  module_of None a k h = absurd (none_is k h)
  module_of (Some e) a k h = (e, refl, h)

  uses_of : (o : Option ModuleForm) (u : UseClause) → IsIn u (uses_in o) → (d : ModuleForm) × (o ≡ Some d) × IsIn u d.uses
  uses_of None u h = absurd h
  uses_of (Some d) u h = (d, refl, h)

  -- what the test of lent names says
  pub lent_to : (m c : ℕ) (a n : Name) → is_lent ms m c a n ≡ true → Lends ms m n × (c < length ms)
  lent_to m c a n h =
      let p = both_true (is_given (given_in (slice_get ms c) a) (Own c a)) (any_brings (uses_in (slice_get ms m)) c a n) h in
      let e = module_of (slice_get ms c) a (Own c a) (given_own (given_in (slice_get ms c) a) (Own c a) p.0) in
      let w = brings_in (uses_in (slice_get ms m)) c a n p.1 in
      let d = uses_of (slice_get ms m) w.0 w.1 in
      ((d.0, e.0, w.0, a, d.1, d.2, w.3, ap (slice_get ms) w.2 ∙ e.1, e.2 ∙ ap (λ s. Some (Own s a)) (sym w.2)), slice_get_within ms c e.0 e.1)

  pub lent_from : (m c : ℕ) (a n : Name) → ((k : Owner) → Owned ms imports m n k → k ≡ Own c a) → Lends ms m n → is_lent ms m c a n ≡ true
  lent_from m c a n only w =
      let u = w.2 in
      let same = owner_of_own u.source c w.3 a (only (Own u.source w.3) (brought_owner m w.0 u w.3 n (Own u.source w.3) w.4 w.5 w.6 (given_owner u.source w.1 w.3 (Own u.source w.3) w.7 w.8))) in
      and_true (is_given (given_in (slice_get ms c) a) (Own c a)) (any_brings (uses_in (slice_get ms m)) c a n)
      (own_given (given_in (slice_get ms c) a) (Own c a) (ap (λ s. given_in (slice_get ms s) a) (sym same.0) ∙ ap (λ o. given_in o a) w.7 ∙ ap (given_at w.1) (sym same.1) ∙ w.8 ∙ ap (λ s. Some (Own s w.3)) same.0 ∙ ap (λ x. Some (Own c x)) same.1))
      (ap (λ o. any_brings (uses_in o) c a n) w.4 ∙ in_brings w.0.uses c a n u w.5 same.0 (ap (brought u) (sym same.1) ∙ w.6))

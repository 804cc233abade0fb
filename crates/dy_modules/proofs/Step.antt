-- The tables of one module, where those of its sources are known.
use Rattle.std.proofs.Common.{◌≡◌, ◌⊎◌, inl, inr, ℕ, Bool, true, false, cond, List, Option, Some, None, slice_get, refl, sym, ap, subst, ◌∙◌}
use Rattle.std.specs.Str.{bytes_eq}
use Rattle.dy_base.specs.Tables.{NamedList}
use Rattle.dy_modules.specs.declared.owner.Owner.{Owner}
use Rattle.dy_modules.specs.declared.owner.Owner.TheVariants.{Own}
use Rattle.dy_modules.specs.declared.table.Cell.{Cell}
use Rattle.dy_modules.specs.declared.table.Cell.TheVariants.{One, Many}
use Rattle.dy_modules.specs.declared.clause.UseClause.{UseClause}
use Rattle.dy_modules.specs.declared.clause.ModuleForm.{ModuleForm}
use Rattle.dy_modules.specs.Clauses.{Name, IsIn, brought, is_again, given_at}
use Rattle.dy_modules.specs.Sees.{Side, imports, exports, Named, given_name, listed_name, brought_name, again_name, Owned, given_owner, own_owner, passed_owner, brought_owner, again_owner}
use Rattle.dy_modules.specs.Cells.{Says, kept, after_uses, owner_or, after_listed, over, exported}
use Rattle.dy_modules.proofs.Rows.{same_names, itself, some_is, none_is}
use Rattle.dy_modules.proofs.Says.{says_of, says_all, says_uses, Stand, AnyGives, AnyComes}

pub kept_plain : (u : UseClause) (o : Option Name) → kept false u o ≡ o
kept_plain u None = refl
kept_plain u (Some n) = refl

kept_again : (u : UseClause) (o : Option Name) (n : Name) → kept true u o ≡ Some n → (o ≡ Some n) × (is_again u n ≡ true)
kept_again u None n e = absurd (none_is n e)
kept_again u (Some m) n e = by_case (is_again u m) refl e
  where
    by_case : (b : Bool) → is_again u m ≡ b → cond b (Some m) None ≡ Some n → (◌≡◌ {A = Option Name} (Some m) (Some n)) × (is_again u n ≡ true)
    by_case true is e = (e, ap (is_again u) (sym (some_is m n e)) ∙ is)
    by_case false is e = absurd (none_is n e)

again_kept : (u : UseClause) (o : Option Name) (n : Name) → o ≡ Some n → is_again u n ≡ true → kept true u o ≡ Some n
again_kept u o n e is = ap (kept true u) e ∙ ap (λ b. cond b (Some n) None) is

pub owned_named : (ms : List ModuleForm) (s : Side) (m : ℕ) (n : Name) (k : Owner) → Owned ms s m n k → Named ms s m n
owned_named ms _ _ _ _ (given_owner m d n k at is) = given_name m d n k at is
owned_named ms _ _ _ _ (own_owner m d n at none is free) = listed_name m d n at is
owned_named ms _ _ _ _ (passed_owner m d n k at none is h) = listed_name m d n at is
owned_named ms _ _ _ _ (brought_owner m d u a n k at is b h) = brought_name m d u a n at is b (owned_named ms _ _ _ _ h)
owned_named ms _ _ _ _ (again_owner m d u a n k at none is b r h) = again_name m d u a n at is b r (owned_named ms _ _ _ _ h)

pub someone : (P : Owner → Type 0) (c : Cell) → Says (Some c) P → (k : Owner) × P k
someone P (One k) s = (k, s.0)
someone P Many s = (s.0, s.2)

module _ (ms : List ModuleForm) (m : ℕ) (d : ModuleForm) (is_d : slice_get ms m ≡ Some d) (ts : List (NamedList Cell)) where
  -- a source whose exports are known
  pub record Source (s : ℕ) : Type 0 where
    pub rows : NamedList Cell
    pub at : slice_get ts s ≡ Some rows
    pub stand : Stand rows (Owned ms exports s)
    pub named : (n : Name) → Named ms exports s n → (k : Owner) × Owned ms exports s n k

  module _ (known : (u : UseClause) → IsIn u d.uses → Source u.source) where
    this : (e : ModuleForm) → slice_get ms m ≡ Some e → e ≡ d
    this e at = some_is e d (sym at ∙ is_d)

    sources : (u : UseClause) → IsIn u d.uses → (rs : NamedList Cell) × (slice_get ts u.source ≡ Some rs) × Stand rs (Owned ms exports u.source)
    sources u at = let s = known u at in (s.rows, s.at, s.stand)

    in_uses : (e : ModuleForm) (u : UseClause) → slice_get ms m ≡ Some e → IsIn u e.uses → IsIn u d.uses
    in_uses e u at is = subst (λ x. IsIn u x.uses) (this e at) is

    -- what the module imports
    imports_from : (n : Name) (k : Owner) → Owned ms imports m n k → AnyComes false (Owned ms exports) d.uses n k
    imports_from _ _ (brought_owner m e u a n k at is b h) = (u, in_uses e u at is, (a, kept_plain u (brought u a) ∙ b, h))

    pub imports_says : (n : Name) → Says (after_uses false d.uses ts n None) (Owned ms imports m n)
    imports_says n = says_of (λ k. ⊥ ⊎ AnyComes false (Owned ms exports) d.uses n k) (Owned ms imports m n) (after_uses false d.uses ts n None)
        (λ k h. elim h [ inl a ↦ absurd a | inr a ↦ brought_owner m d a.0 a.2.0 n k is_d a.1 (sym (kept_plain a.0 (brought a.0 a.2.0)) ∙ a.2.1) a.2.2 ])
        (λ k h. inr (imports_from n k h))
        (says_uses false (Owned ms exports) ts d.uses n (λ k. ⊥) None sources (λ k h. h))

    pub named_imports : (n : Name) → Named ms imports m n → (k : Owner) × Owned ms imports m n k
    named_imports _ (brought_name m e u a n at is b h) =
        let o = (known u (in_uses e u at is)).named a h in
        (o.0, brought_owner m e u a n o.0 at is b o.1)

    module _ (imported : Name → Option Cell) (says : (n : Name) → Says (imported n) (Owned ms imports m n)) where
      abbrev ByExport : Name → Owner → Type 0
      ByExport g k = ((Named ms imports m g → ⊥) × (k ≡ Own m g)) ⊎ Owned ms imports m g k

      listed_says : (g : Name) (c : Option Cell) → Says c (Owned ms imports m g) → Says (Some (owner_or m g c)) (ByExport g)
      listed_says g None s = (inl (λ h. (let w = named_imports g h in s w.0 w.1), refl), λ j h. elim h [ inl a ↦ a.1 | inr b ↦ absurd (s j b) ])
      listed_says g (Some c) s = says_of (Owned ms imports m g) _ (Some c) (λ k h. inr h)
          (λ k h. elim h [ inl a ↦ (let w = someone (Owned ms imports m g) c s in absurd (a.0 (owned_named ms imports m g w.0 w.1))) | inr b ↦ b ]) s

      abbrev Parts : Name → Owner → Type 0
      Parts n k = (⊥ ⊎ AnyGives (bytes_eq n) ByExport d.listed k) ⊎ AnyComes true (Owned ms exports) d.uses n k

      not_given : (e : ModuleForm) (n : Name) (k : Owner) → slice_get ms m ≡ Some e → given_at d n ≡ None → given_at e n ≡ Some k → ⊥
      not_given e n k at none is = none_is k (sym none ∙ ap (λ x. given_at x n) (sym (this e at)) ∙ is)

      exports_from : (n : Name) (k : Owner) → given_at d n ≡ None → Owned ms exports m n k → Parts n k
      exports_from _ _ none (given_owner m e n k at is) = absurd (not_given e n k at none is)
      exports_from _ _ none (own_owner m e n at free is new) = inl (inr (n, subst (λ x. IsIn n x.listed) (this e at) is, itself n, inl (new, refl)))
      exports_from _ _ none (passed_owner m e n k at free is h) = inl (inr (n, subst (λ x. IsIn n x.listed) (this e at) is, itself n, inr h))
      exports_from _ _ none (again_owner m e u a n k at free is b r h) = inr (u, in_uses e u at is, (a, again_kept u (brought u a) n b r, h))

      by_export : (n g : Name) (k : Owner) → given_at d n ≡ None → n ≡ g → IsIn g d.listed → ByExport g k → Owned ms exports m n k
      by_export n g k none same at (inl h) = subst (λ x. Owned ms exports m x k) (sym same)
          (subst (Owned ms exports m g) (sym h.1) (own_owner m d g is_d (ap (given_at d) (sym same) ∙ none) at h.0))
      by_export n g k none same at (inr h) = subst (λ x. Owned ms exports m x k) (sym same) (passed_owner m d g k is_d (ap (given_at d) (sym same) ∙ none) at h)

      exports_to : (n : Name) (k : Owner) → given_at d n ≡ None → Parts n k → Owned ms exports m n k
      exports_to n k none (inl (inl h)) = absurd h
      exports_to n k none (inl (inr h)) = by_export n h.0 k none (same_names n h.0 h.2) h.1 h.3
      exports_to n k none (inr h) = let p = kept_again h.0 (brought h.0 h.2.0) n h.2.1 in again_owner m d h.0 h.2.0 n k is_d none h.1 p.0 p.1 h.2.2

      given_one : (n : Name) (k j : Owner) → given_at d n ≡ Some k → Owned ms exports m n j → j ≡ k
      given_one _ k _ given (given_owner m e n j at is) = some_is j k (sym is ∙ ap (λ x. given_at x n) (this e at) ∙ given)
      given_one _ k _ given (own_owner m e n at free is new) = absurd (none_is k (sym free ∙ ap (λ x. given_at x n) (this e at) ∙ given))
      given_one _ k _ given (passed_owner m e n j at free is h) = absurd (none_is k (sym free ∙ ap (λ x. given_at x n) (this e at) ∙ given))
      given_one _ k _ given (again_owner m e u a n j at free is b r h) = absurd (none_is k (sym free ∙ ap (λ x. given_at x n) (this e at) ∙ given))

      by_given : (n : Name) (o : Option Owner) → given_at d n ≡ o → Says (over o (after_uses true d.uses ts n (after_listed m imported d.listed n None))) (Owned ms exports m n)
      by_given n (Some k) given = (given_owner m d n k is_d given, λ j h. given_one n k j given h)
      by_given n None none =
          let listed = says_all (bytes_eq n) (λ g. owner_or m g (imported g)) ByExport d.listed (λ k. ⊥) None (λ k h. h) (λ g at t. listed_says g (imported g) (says g)) in
          let all = says_uses true (Owned ms exports) ts d.uses n (λ k. ⊥ ⊎ AnyGives (bytes_eq n) ByExport d.listed k)
          (after_listed m imported d.listed n None) sources listed in
          says_of (Parts n) (Owned ms exports m n) _ (λ k. exports_to n k none) (λ k. exports_from n k none) all

      pub exports_says : (n : Name) → Says (exported m imported d ts n) (Owned ms exports m n)
      exports_says n = by_given n (given_at d n) refl

      by_cell : (e : ModuleForm) (n : Name) → slice_get ms m ≡ Some e → given_at e n ≡ None → IsIn n e.listed → (c : Option Cell) → Says c (Owned ms imports m n) → (k : Owner) × Owned ms exports m n k
      by_cell e n at free is None s = (Own m n, own_owner m e n at free is (λ h. let w = named_imports n h in s w.0 w.1))
      by_cell e n at free is (Some c) s = let w = someone (Owned ms imports m n) c s in (w.0, passed_owner m e n w.0 at free is w.1)

      listed_owner : (e : ModuleForm) (n : Name) → slice_get ms m ≡ Some e → IsIn n e.listed → (o : Option Owner) → given_at e n ≡ o → (k : Owner) × Owned ms exports m n k
      listed_owner e n at is (Some k) given = (k, given_owner m e n k at given)
      listed_owner e n at is None free = by_cell e n at free is (imported n) (says n)

      again_one : (e : ModuleForm) (u : UseClause) (a n : Name) → slice_get ms m ≡ Some e → IsIn u e.uses → brought u a ≡ Some n → is_again u n ≡ true
          → (w : (k : Owner) × Owned ms exports u.source a k) → (o : Option Owner) → given_at e n ≡ o → (k : Owner) × Owned ms exports m n k
      again_one e u a n at is b r w (Some k) given = (k, given_owner m e n k at given)
      again_one e u a n at is b r w None free = (w.0, again_owner m e u a n w.0 at free is b r w.1)

      pub named_exports : (n : Name) → Named ms exports m n → (k : Owner) × Owned ms exports m n k
      named_exports _ (given_name m e n k at is) = (k, given_owner m e n k at is)
      named_exports _ (listed_name m e n at is) = listed_owner e n at is (given_at e n) refl
      named_exports _ (again_name m e u a n at is b r h) = again_one e u a n at is b r ((known u (in_uses e u at is)).named a h) (given_at e n) refl

-- What a definition would define.
use Rattle.std.proofs.Common.{◌≡◌, ◌≢◌, ◌⊎◌, inl, inr, ℕ, zero, suc, ◌<◌, ◌≤◌, Bool, true, false, true≢false, cond, List, [], ◌∷◌, length, Option, Some, None, is_some, slice_get, slice_set, refl, sym, ap, subst, ◌∙◌, arith}
use Rattle.std.specs.FinMap as finite
use Rattle.std.proofs.lemmas.Option.{slice_get_within, slice_get_cases}
use Rattle.dy_base.specs.Tables.{NameMap}
use Rattle.dy_base.specs.declared.ids.BindingId.{BindingId}
use Rattle.dy_modules.specs.declared.owner.Owner.{Owner}
use Rattle.dy_modules.specs.declared.owner.Owner.TheVariants.{Outside, Own}
use Rattle.dy_modules.specs.declared.table.Cell.{Cell}
use Rattle.dy_modules.specs.declared.table.Cell.TheVariants.{One, Many}
use Rattle.dy_modules.specs.declared.clause.ModuleForm.{ModuleForm}
use Rattle.dy_modules.specs.declared.rounds.ModuleTables.{ModuleTables}
use Rattle.dy_modules.specs.Clauses.{Name, given_at}
use Rattle.dy_modules.specs.Sees.{imports, exports, Named, Owned, given_owner, brought_owner}
use Rattle.dy_modules.specs.Cells.{Says}
use Rattle.dy_module_tables.specs.Graphs.{definition, Graph, Visible, Means, Creates, Lends, IsTaken, IsFree, put_in}
use Rattle.dy_module_tables.specs.Looking.{IsWhole, given_in, import_in, seen_definition, is_lent, import_target, target_of}
use Rattle.dy_modules.proofs.Rows.{some_is, none_is}
use Rattle.dy_modules.proofs.Step.{owned_named}
use Rattle.dy_modules.proofs.Loop.{made_has}
use Rattle.dy_module_tables.proofs.Meanings.{seen_owner, seen_there, seen_is, says_here, single_here, brought_has, seen_to, seen_from, lent_to, lent_from}

pub no_some : {A : Type 0} (o : Option A) → is_some o ≡ false → o ≡ None
no_some None e = refl
no_some (Some x) e = absurd (true≢false e)

pub has_some : {A : Type 0} (o : Option A) → is_some o ≡ true → (x : A) × (o ≡ Some x)
has_some None e = absurd (true≢false (sym e))
has_some (Some x) e = (x, refl)

within_has : {X : Type 0} (xs : List X) (s : ℕ) → s < length xs → (x : X) × (slice_get xs s ≡ Some x)
within_has xs s h = elim (slice_get_cases xs s).1 [ inl a ↦ (a.0, a.2) | inr a ↦ absurd (omega (arith, a.0)) ]

given_module : (o : Option ModuleForm) (n : Name) (k : Owner) → given_in o n ≡ Some k → (d : ModuleForm) × (o ≡ Some d) × (given_at d n ≡ Some k)
given_module None n k h = absurd (none_is k h)
given_module (Some d) n k h = (d, refl, h)

-- one definition more, in the table of its module
pub put_set : (defs : List (NameMap BindingId)) (m : ℕ) (t : NameMap BindingId) (n : Name) (id : BindingId) → slice_get defs m ≡ Some t → slice_set defs m (finite.insert t n id) ≡ put_in defs m n id
put_set [] m t n id at = absurd (none_is t at)
put_set (s ∷ defs) zero t n id at = ap (λ x. finite.insert x n id ∷ defs) (sym (some_is s t at))
put_set (s ∷ defs) (suc m) t n id at = ap (λ l. s ∷ l) (put_set defs m t n id at)

pub length-put : (defs : List (NameMap BindingId)) (m : ℕ) (n : Name) (id : BindingId) → length (put_in defs m n id) ≡ length defs
length-put [] m n id = refl
length-put (t ∷ defs) zero n id = refl
length-put (t ∷ defs) (suc m) n id = ap suc (length-put defs m n id)

-- a definition more leaves the tables of the modules as they are
pub whole_put : (ms : List ModuleForm) (own : ℕ) (done : List (Option ModuleTables)) (defs : List (NameMap BindingId)) (m : ℕ) (n : Name) (id : BindingId)
    → IsWhole ms own done defs → IsWhole ms own done (put_in defs m n id)
whole_put ms own done defs m n id whole = record {
  within = whole.within;
  right = whole.right;
  made = whole.made;
  single = whole.single;
  count = length-put defs m n id ∙ whole.count;
}

module _ (ms : List ModuleForm) (own : ℕ) (done : List (Option ModuleTables)) (defs : List (NameMap BindingId)) (whole : IsWhole ms own done defs) (m : ℕ) (n : Name) where
  pub seen_taken : (id : BindingId) → seen_definition ms done defs m n ≡ Some id → IsTaken ms own defs m n
  seen_taken id e = inr (inl (id, seen_to ms own done defs whole m n id e))

  pub given_taken : (k : Owner) → given_in (slice_get ms m) n ≡ Some k → IsTaken ms own defs m n
  given_taken k e = let w = given_module (slice_get ms m) n k e in inr (inr (inl (w.0, k, w.1, w.2)))

  module _ (within : m < own) where
    here : (d : ModuleForm) × (slice_get ms m ≡ Some d)
    here = within_has ms m (omega (arith, within, whole.within))

    says : (c : Option Cell) → import_in (slice_get done m) n ≡ c → Says c (Owned ms imports m n)
    says c is = subst (λ x. Says x (Owned ms imports m n)) is (says_here ms own done defs whole m here.0 n here.1)

    pub many_never : import_in (slice_get done m) n ≡ Some Many → ⊥
    many_never e = single_here ms own done defs whole m here.0 n here.1 e

    not_lent : (k : Owner) → import_in (slice_get done m) n ≡ Some (One k) → (Lends ms m n → ⊥) → IsTaken ms own defs m n
    not_lent k is never = inr (inr (inr (owned_named ms imports m n k (says (Some (One k)) is).0, never)))

    pub outside_taken : (id : BindingId) → import_in (slice_get done m) n ≡ Some (One (Outside id)) → IsTaken ms own defs m n
    outside_taken id is = not_lent (Outside id) is never
      where
        differ : (c : ℕ) (a : Name) → Own c a ≡ Outside id → ⊥
        differ c a e = cc

        never : Lends ms m n → ⊥
        never w =
            let k = Own w.2.source w.3 in
            differ w.2.source w.3 ((says (Some (One (Outside id))) is).1 k (brought_owner m w.0 w.2 w.3 n k w.4 w.5 w.6 (given_owner w.2.source w.1 w.3 k w.7 w.8)))

    pub unlent_taken : (c : ℕ) (a : Name) → import_in (slice_get done m) n ≡ Some (One (Own c a)) → is_lent ms m c a n ≡ false → IsTaken ms own defs m n
    unlent_taken c a is never = not_lent (Own c a) is (λ lends. true≢false (sym (lent_from ms own done defs whole m c a n (says (Some (One (Own c a))) is).1 lends) ∙ never))

    module _ (unseen : seen_definition ms done defs m n ≡ None) (ungiven : given_in (slice_get ms m) n ≡ None) where
      not_given : given_at here.0 n ≡ None
      not_given = ap (λ o. given_in o n) (sym here.1) ∙ ungiven

      not_taken : (Named ms imports m n → (Lends ms m n → ⊥) → ⊥) → IsTaken ms own defs m n → ⊥
      not_taken otherwise (inl h) = omega (arith, h, within)
      not_taken otherwise (inr (inl h)) = none_is h.0 (sym unseen ∙ seen_from ms own done defs whole m n h.0 h.1)
      not_taken otherwise (inr (inr (inl h))) = none_is h.1 (sym ungiven ∙ ap (λ o. given_in o n) h.2 ∙ h.3)
      not_taken otherwise (inr (inr (inr h))) = otherwise h.0 h.1

      visible : (c : Option Cell) → import_in (slice_get done m) n ≡ c → Visible ms m n (seen_owner m n None c)
      visible c is = subst (Visible ms m n) (ap (λ g. seen_owner m n g (import_in (slice_get done m) n)) not_given ∙ ap (seen_owner m n None) is) (seen_there ms own done defs whole m here.0 n here.1)

      undefined : (c : Option Cell) → import_in (slice_get done m) n ≡ c → definition defs (seen_owner m n None c) ≡ None
      undefined c is = sym (ap (λ g. definition defs (seen_owner m n g (import_in (slice_get done m) n))) not_given ∙ ap (λ x. definition defs (seen_owner m n None x)) is) ∙ sym (seen_is ms own done defs whole m here.0 n here.1) ∙ unseen

      pub own_free : import_in (slice_get done m) n ≡ None → IsFree ms defs m n m n
      own_free is = (visible None is, undefined None is, omega (arith, within, whole.within, whole.count))

      pub own_open : import_in (slice_get done m) n ≡ None → IsTaken ms own defs m n → ⊥
      own_open is = not_taken (λ named never. (let w = brought_has ms own done defs whole m here.0 n here.1 named in says None is w.0 w.1))

      pub lent_free : (c : ℕ) (a : Name) → import_in (slice_get done m) n ≡ Some (One (Own c a)) → is_lent ms m c a n ≡ true → IsFree ms defs m n c a
      lent_free c a is lent = (visible (Some (One (Own c a))) is, undefined (Some (One (Own c a))) is, subst (λ l. c < l) (sym whole.count) (lent_to ms own done defs whole m c a n lent).1)

      pub lent_open : (c : ℕ) (a : Name) → import_in (slice_get done m) n ≡ Some (One (Own c a)) → is_lent ms m c a n ≡ true → IsTaken ms own defs m n → ⊥
      lent_open c a is lent = not_taken (λ named never. never (lent_to ms own done defs whole m c a n lent).0)

    -- which of these there is, by what is known of the name
    abbrev Target : Option BindingId → Option Owner → Option Cell → Option (ℕ × Name)
    Target s g i = cond (is_some s) None (cond (is_some g) None (import_target ms m n i))

    taken_by : (s : Option BindingId) (g : Option Owner) (i : Option Cell) → seen_definition ms done defs m n ≡ s → given_in (slice_get ms m) n ≡ g → import_in (slice_get done m) n ≡ i
        → Target s g i ≡ None → IsTaken ms own defs m n
    taken_by (Some id) g i es eg ei e = seen_taken id es
    taken_by None (Some k) i es eg ei e = given_taken k eg
    taken_by None None None es eg ei e = let x : ℕ × Name = (m, n) in absurd (none_is x (sym e))
    taken_by None None (Some (One (Outside id))) es eg ei e = outside_taken id ei
    taken_by None None (Some (One (Own c a))) es eg ei e = by_lent (is_lent ms m c a n) refl e
      where
        by_lent : (b : Bool) → is_lent ms m c a n ≡ b → cond {A = Option (ℕ × Name)} b (Some (c, a)) None ≡ None → IsTaken ms own defs m n
        by_lent true is e = let x : ℕ × Name = (c, a) in absurd (none_is x (sym e))
        by_lent false is e = unlent_taken c a ei is
    taken_by None None (Some Many) es eg ei e = absurd (many_never ei)

    pub target_taken : target_of ms done defs m n ≡ None → IsTaken ms own defs m n
    target_taken e = taken_by (seen_definition ms done defs m n) (given_in (slice_get ms m) n) (import_in (slice_get done m) n) refl refl refl e

    -- a name that is free, and not taken
    abbrev IsOpen : ℕ → Name → Type 0
    IsOpen c a = IsFree ms defs m n c a × (IsTaken ms own defs m n → ⊥)

    open_by : (s : Option BindingId) (g : Option Owner) (i : Option Cell) → seen_definition ms done defs m n ≡ s → given_in (slice_get ms m) n ≡ g → import_in (slice_get done m) n ≡ i
        → (t : ℕ × Name) → Target s g i ≡ Some t → IsOpen t.0 t.1
    open_by (Some id) g i es eg ei t e = absurd (none_is t e)
    open_by None (Some k) i es eg ei t e = absurd (none_is t e)
    open_by None None None es eg ei t e = subst (λ (x : ℕ × Name). IsOpen x.0 x.1) (some_is (m, n) t e) (own_free es eg ei, own_open es eg ei)
    open_by None None (Some (One (Outside id))) es eg ei t e = absurd (none_is t e)
    open_by None None (Some (One (Own c a))) es eg ei t e = by_lent (is_lent ms m c a n) refl e
      where
        by_lent : (b : Bool) → is_lent ms m c a n ≡ b → cond {A = Option (ℕ × Name)} b (Some (c, a)) None ≡ Some t → IsOpen t.0 t.1
        by_lent true is e = subst (λ (x : ℕ × Name). IsOpen x.0 x.1) (some_is (c, a) t e) (lent_free es eg c a ei is, lent_open es eg c a ei is)
        by_lent false is e = absurd (none_is t e)
    open_by None None (Some Many) es eg ei t e = absurd (none_is t e)

    pub target_open : (t : ℕ × Name) → target_of ms done defs m n ≡ Some t → IsOpen t.0 t.1
    target_open t e = open_by (seen_definition ms done defs m n) (given_in (slice_get ms m) n) (import_in (slice_get done m) n) refl refl refl t e

-- a table in which one name more is defined
abbrev pub with_definition : Graph → ℕ → Name → BindingId → Graph
with_definition g c a id = record { modules = g.modules; own = g.own; defined = put_in g.defined c a id; promised = g.promised; shown = g.shown }

pub defines : (g before after : Graph) (m : ℕ) (n : Name) (c : ℕ) (a : Name) (id : BindingId) → g ≡ before → IsFree g.modules g.defined m n c a → after ≡ with_definition g c a id
    → (x : ℕ) × (y : Name) × IsFree before.modules before.defined m n x y × (after ≡ with_definition before x y id)
defines g before after m n c a id is free e =
    (c, a, subst (λ (h : Graph). IsFree h.modules h.defined m n c a) is free, e ∙ ap (λ (h : Graph). with_definition h c a id) is)

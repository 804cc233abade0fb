-- The faults of clauses and of modules, as they are told.
use Rattle.std.proofs.Common.{◌≡◌, inl, inr, ℕ, ◌+◌, ◌<◌, ◌≤◌, true, false, true≢false, List, [], ◌∷◌, ◌++◌, length, Option, Some, None, slice_get, refl, sym, ap, subst, ◌∙◌, arith}
use Rattle.std.proofs.lemmas.Option.{slice_get_within}
use Rattle.dy_base.specs.Tables.{NamedList}
use Rattle.dy_base.specs.declared.kind.Kind.TheVariants.{UnknownModule, Cycle}
use Rattle.dy_base.specs.declared.fault.Place.{Place}
use Rattle.dy_module_forms.specs.declared.written.UseOption.{UseOption}
use Rattle.dy_module_forms.specs.declared.written.Clause.{Clause}
use Rattle.dy_module_forms.specs.declared.written.Clause.TheVariants as clauses
use Rattle.dy_module_forms.specs.declared.written.Placed.{Placed}
use Rattle.dy_module_forms.specs.declared.written.Form.{Form}
use Rattle.dy_modules.specs.declared.clause.ModuleForm.{ModuleForm}
use Rattle.dy_modules.specs.declared.rounds.ModuleTables.{ModuleTables}
use Rattle.dy_modules.specs.Clauses.{Name}
use Rattle.dy_modules.specs.Sees.{IsGrounded}
use Rattle.dy_modules.specs.Order.{is_made}
use Rattle.dy_modules.proofs.Rows.{some_is}
use Rattle.dy_module_numbers.specs.Numbers.{number_of}
use Rattle.dy_module_numbers.specs.Rings.{Leads}
use Rattle.dy_library_form.specs.declared.found.Found.{Found}
use Rattle.dy_library_form.specs.Told.{found}
use Rattle.dy_library_form.proofs.Firsts.{in_order}
use Rattle.dy_graph.specs.Faults.{IsMissingAt, IsUseFault, IsClauseFault, AreClauseFaults, IsRingFault, Adds, AreMade, IsReadySource}
use Rattle.dy_graph.proofs.Added.{Before, adds_as, adds_all, adds_none, adds_one, in_index, index_in}
use Rattle.dy_graph.proofs.AllMade.{grounded_of, off_ring}

-- a use clause of module m
module _ (ms : List ModuleForm) (m : ℕ) (place : Place) (name : Name) (options : List UseOption) (old new : List Found) where
  -- of a name that means no module
  pub adds_unknown : (o : Option ℕ) → o ≡ None → new ≡ old ++ found UnknownModule place name ∷ [] → Adds old new (IsUseFault ms m place name options o)
  adds_unknown o e is = subst (λ x. Adds old new (IsUseFault ms m place name options x)) (sym e) (adds_one old new (found UnknownModule place name) (λ f. f ≡ found UnknownModule place name) is refl (λ f p. p))

  module _ (done : List (Option ModuleTables)) (made : AreMade ms done) (o : Option ℕ) (source : ℕ) (e : o ≡ Some source) where
    -- a module that leads to no ring
    pub adds_missing : is_made (slice_get done m) ≡ true → Adds old new (IsMissingAt ms place source options) → Adds old new (IsUseFault ms m place name options o)
    adds_missing here adds =
        subst (λ x. Adds old new (IsUseFault ms m place name options x)) (sym e)
        (adds_as old new (IsMissingAt ms place source options) (λ f. IsGrounded ms m × IsMissingAt ms place source options f) (λ f w. (grounded_of ms done made m here, w)) (λ f w. w.1) adds)

    -- and one that does
    pub adds_stuck : is_made (slice_get done m) ≡ false → new ≡ old → Adds old new (IsUseFault ms m place name options o)
    adds_stuck never is =
        subst (λ x. Adds old new (IsUseFault ms m place name options x)) (sym e)
        (adds_none old new (λ f. IsGrounded ms m × IsMissingAt ms place source options f) is (λ f w. true≢false (sym (made.all m w.0) ∙ never)))

    pub ready_source_of : IsReadySource ms done m o → is_made (slice_get done m) ≡ true → is_made (slice_get done source) ≡ true
    ready_source_of ready here = subst (IsReadySource ms done m) e ready (grounded_of ms done made m here)

-- a clause by its kind
module _ (own : List Name) (imported : NamedList ℕ) (ms : List ModuleForm) (m : ℕ) (place : Place) (c : Clause) (old new : List Found) where
  pub adds_use : (name : Name) (options : List UseOption) → c ≡ clauses.Use name options → Adds old new (IsUseFault ms m place name options (number_of own imported name)) → Adds old new (IsClauseFault own imported ms m place c)
  adds_use name options e adds = subst (λ x. Adds old new (IsClauseFault own imported ms m place x)) (sym e) adds

  pub adds_export : (names : List Name) → c ≡ clauses.Export names → new ≡ old → Adds old new (IsClauseFault own imported ms m place c)
  adds_export names e is = subst (λ x. Adds old new (IsClauseFault own imported ms m place x)) (sym e) (adds_none old new (λ f. ⊥) is (λ f never. never))

  pub adds_create : (names : List Name) → c ≡ clauses.Create names → new ≡ old → Adds old new (IsClauseFault own imported ms m place c)
  adds_create names e is = subst (λ x. Adds old new (IsClauseFault own imported ms m place x)) (sym e) (adds_none old new (λ f. ⊥) is (λ f never. never))

-- all clauses
module _ (own : List Name) (imported : NamedList ℕ) (ms : List ModuleForm) (m : ℕ) (list : List Placed) where
  abbrev pub ClauseFault : ℕ → Placed → Found → Type 0
  ClauseFault j p f = IsClauseFault own imported ms m p.place p.clause f

  pub adds_clauses : (i : ℕ) (old new : List Found) → length list ≤ i → Adds old new (Before list ClauseFault i) → Adds old new (AreClauseFaults own imported ms m list)
  adds_clauses i old new past a =
      adds_as old new (λ f. (j : ℕ) × (p : Placed) × (slice_get list j ≡ Some p) × IsClauseFault own imported ms m p.place p.clause f) (AreClauseFaults own imported ms m list)
      (λ f w. (w.1, index_in list w.1 w.0 w.2, w.3)) (λ f w. let at = in_index list w.0 w.1 in (at.0, w.0, at.1, w.2)) (adds_all list ClauseFault i old new past a)

-- what holds below a number, and at it
pub below_more : (S : ℕ → Type 0) (i : ℕ) → ((k : ℕ) → k < i → S k) → S i → (k : ℕ) → k < i + 1 → S k
below_more S i below here k less = elim (in_order k i) [
  | inl h ↦ below k h
  | inr (inl e) ↦ subst S (sym e) here
  | inr (inr h) ↦ absurd (omega (arith, less, h))
]

-- the first module on a ring
module _ (ms : List ModuleForm) (forms : List Form) (i : ℕ) (free : (k : ℕ) → k < i → Leads ms k k → ⊥) where
  pub ring_only : (form : Form) → slice_get forms i ≡ Some form → Leads ms i i → (f : Found) → IsRingFault ms forms f → f ≡ found Cycle form.place form.name
  ring_only form at leads f w = elim (in_order w.0 i) [
    | inl less ↦ absurd (free w.0 less w.3)
    | inr (inl e) ↦
        let same : w.1 ≡ form = some_is w.1 form (sym w.2 ∙ ap (slice_get forms) e ∙ at) in
        w.5 ∙ ap (λ (x : Form). found Cycle x.place x.name) same
    | inr (inr more) ↦ absurd (w.4 i more leads)
  ]

  pub adds_ring : (form : Form) (old new : List Found) → slice_get forms i ≡ Some form → Leads ms i i → new ≡ old ++ found Cycle form.place form.name ∷ [] → Adds old new (IsRingFault ms forms)
  adds_ring form old new at leads is = adds_one old new (found Cycle form.place form.name) (IsRingFault ms forms) is (i, form, at, leads, free, refl) (ring_only form at leads)

  pub adds_no_ring : (old new : List Found) → length forms ≤ i → new ≡ old → Adds old new (IsRingFault ms forms)
  adds_no_ring old new past is = adds_none old new (IsRingFault ms forms) is (λ f w. free w.0 (omega (arith, past, slice_get_within forms w.0 w.1 w.2)) w.3)

-- a module whose tables are made stands on no ring
pub made_off_ring : (ms : List ModuleForm) (done : List (Option ModuleTables)) → AreMade ms done → (m : ℕ) → is_made (slice_get done m) ≡ true → Leads ms m m → ⊥
made_off_ring ms done made m here leads = off_ring ms m (grounded_of ms done made m here) m leads refl

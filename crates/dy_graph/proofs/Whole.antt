-- All faults of a library, and its modules where there are none.
use Rattle.std.proofs.Common.{◌≡◌, ◌⊎◌, inl, inr, ℕ, zero, suc, ◌+◌, ◌<◌, Bool, true, false, List, [], ◌∷◌, ◌++◌, map, length, drop, replicate, Option, Some, slice_get, length-append, length-drop, refl, sym, ap, subst, ◌∙◌, arith}
use Rattle.std.proofs.lemmas.Option.{slice_get_within}
use Rattle.std.proofs.lemmas.List.{length-map, length-replicate}
use Rattle.dy_base.specs.Tables.{NamedList}
use Rattle.dy_module_forms.specs.declared.written.Form.{Form}
use Rattle.dy_modules.specs.declared.owner.Owner.{Owner}
use Rattle.dy_modules.specs.declared.clause.UseClause.{UseClause}
use Rattle.dy_modules.specs.declared.clause.ModuleForm.{ModuleForm}
use Rattle.dy_modules.specs.declared.rounds.ModuleTables.{ModuleTables}
use Rattle.dy_modules.specs.Clauses.{Name, IsIn}
use Rattle.dy_modules.specs.Sees.{imports, Owned, brought_owner}
use Rattle.dy_modules.specs.Order.{is_made}
use Rattle.dy_modules.specs.Builds.{IsClear, all_clear}
use Rattle.dy_modules.proofs.Rows.{some_is, none_is}
use Rattle.dy_modules.proofs.Ins.{IsIn-append, IsIn-left, IsIn-right}
use Rattle.dy_modules.proofs.Clear.{not_clear}
use Rattle.dy_module_numbers.specs.Sorting.{form_name}
use Rattle.dy_module_numbers.specs.Numbers.{Row, given_form, outside_form, first_exported, seen_rows, exported_rows}
use Rattle.dy_module_numbers.specs.Modules.{module_form, module_forms, source_of, uses}
use Rattle.dy_module_numbers.specs.Rings.{Leads, straight, further}
use Rattle.dy_library_form.specs.declared.found.Found.{Found}
use Rattle.dy_library_form.specs.Library.{nothing_read}
use Rattle.dy_library_form.specs.Told.{misnamed, doubled}
use Rattle.dy_graph.specs.Faults.{IsRingFault, Adds, AreMade, AreOfForms, IsSingle}
use Rattle.dy_graph.specs.Judged.{Given, own_names, begun, numbers, nothing, reading, all_modules, HasFault, in_library, in_exports, misnamed_form, doubled_form, in_headers, in_modules, on_ring, IsOtherFault, AreReady}
use Rattle.dy_graph.proofs.Added.{index_in}
use Rattle.dy_graph.proofs.AllMade.{grounded_of, all_are_made}
use Rattle.dy_graph.proofs.Sources.{use_from, Below, imports_below, libraries_below, source_below}

-- modules of forms, in front of others
forms_at : (own : List Name) (imported : NamedList ℕ) (none k : ℕ) (forms : List Form) (rest : List ModuleForm) (m : ℕ) (f : Form) → slice_get forms m ≡ Some f
    → slice_get (module_forms own imported none k forms ++ rest) m ≡ Some (module_form own imported none (k + m) f)
forms_at own imported none k [] rest m f at = absurd (none_is f at)
forms_at own imported none k (g ∷ forms) rest zero f at =
    let place : k ≡ k + zero = omega arith in
    ap (λ x. Some (module_form own imported none k x)) (some_is g f at) ∙ ap (λ j. Some (module_form own imported none j f)) place
forms_at own imported none k (g ∷ forms) rest (suc m) f at =
    let place : k + 1 + m ≡ k + suc m = omega arith in
    forms_at own imported none (k + 1) forms rest m f at ∙ ap (λ j. Some (module_form own imported none j f)) place

forms_length : (own : List Name) (imported : NamedList ℕ) (none k : ℕ) (forms : List Form) → length (module_forms own imported none k forms) ≡ length forms
forms_length own imported none k [] = refl
forms_length own imported none k (g ∷ forms) = ap suc (forms_length own imported none (k + 1) forms)

abbrev IsEmpty : ModuleForm → Type 0
IsEmpty d = d.uses ≡ []

abbrev AreEmpty : List ModuleForm → Type 0
AreEmpty ms = (d : ModuleForm) → IsIn d ms → IsEmpty d

forms_or : (own : List Name) (imported : NamedList ℕ) (none k : ℕ) (forms : List Form) (rest : List ModuleForm) → AreEmpty rest → (m : ℕ) (d : ModuleForm) → slice_get (module_forms own imported none k forms ++ rest) m ≡ Some d
    → ((f : Form) × (slice_get forms m ≡ Some f) × (d ≡ module_form own imported none (k + m) f)) ⊎ IsEmpty d
forms_or own imported none k [] rest empty m d at = inr (empty d (index_in rest d m at))
forms_or own imported none k (g ∷ forms) rest empty zero d at =
    let place : k ≡ k + zero = omega arith in
    inl (g, refl, sym (some_is (module_form own imported none k g) d at) ∙ ap (λ j. module_form own imported none j g) place)
forms_or own imported none k (g ∷ forms) rest empty (suc m) d at =
    let place : k + 1 + m ≡ k + suc m = omega arith in
    elim (forms_or own imported none (k + 1) forms rest empty m d at) [ inl w ↦ inl (w.0, w.1, w.2 ∙ ap (λ j. module_form own imported none j w.0) place) | inr e ↦ inr e ]

in_drop : {X : Type 0} (xs : List X) (i : ℕ) (x : X) → IsIn x (drop i xs) → IsIn x xs
in_drop [] zero x is = is
in_drop [] (suc i) x is = is
in_drop (y ∷ xs) zero x is = is
in_drop (y ∷ xs) (suc i) x is = inr (in_drop xs i x is)

outside_empty : (rows : List Row) → AreEmpty (map outside_form rows)
outside_empty [] d is = absurd is
outside_empty (row ∷ rows) d (inl e) = ap (λ (x : ModuleForm). x.uses) e
outside_empty (row ∷ rows) d (inr is) = outside_empty rows d is

same_empty : (n : ℕ) → AreEmpty (replicate n (given_form []))
same_empty zero d is = absurd is
same_empty (suc n) d (inl e) = ap (λ (x : ModuleForm). x.uses) e
same_empty (suc n) d (inr is) = same_empty n d is

module _ (g : Given) where
  abbrev empty_own : List ModuleForm
  empty_own = replicate (length g.modules) (given_form [])

  abbrev seen_forms : List ModuleForm
  seen_forms = map outside_form (seen_rows g.used)

  abbrev exported_forms : List ModuleForm
  exported_forms = map outside_form (exported_rows g.used)

  begun_empty : AreEmpty (begun g)
  begun_empty d is = elim (IsIn-append ((empty_own ++ seen_forms) ++ exported_forms) (given_form [] ∷ []) d is) [
    | inl a ↦ elim (IsIn-append (empty_own ++ seen_forms) exported_forms d a) [
      | inl b ↦ elim (IsIn-append empty_own seen_forms d b) [ inl x ↦ same_empty (length g.modules) d x | inr x ↦ outside_empty (seen_rows g.used) d x ]
      | inr b ↦ outside_empty (exported_rows g.used) d b
    ]
    | inr (inl e) ↦ ap (λ (x : ModuleForm). x.uses) e
    | inr (inr never) ↦ absurd never
  ]

  pub begun_length : length (begun g) ≡ length g.modules + (length (seen_rows g.used) + (length (exported_rows g.used) + 1))
  begun_length =
      omega (
        arith,
        length-append ((empty_own ++ seen_forms) ++ exported_forms) (given_form [] ∷ []),
        length-append (empty_own ++ seen_forms) exported_forms,
        length-append empty_own seen_forms,
        length-replicate (length g.modules) (given_form []),
        length-map (seen_rows g.used) outside_form,
        length-map (exported_rows g.used) outside_form,
      )

module _ (g : Given) (form : Form) where
  abbrev ms : List ModuleForm
  ms = all_modules g form

  abbrev imported : NamedList ℕ
  imported = (reading g form).imported

  abbrev rest : List ModuleForm
  rest = drop (length g.modules) (begun g)

  rest_empty : AreEmpty rest
  rest_empty d is = begun_empty g d (in_drop (begun g) (length g.modules) d is)

  pub all_length : length ms ≡ length g.modules + (length (seen_rows g.used) + (length (exported_rows g.used) + 1))
  all_length = omega (arith, length-append (module_forms (own_names g) imported (nothing g) 0 g.modules) rest, forms_length (own_names g) imported (nothing g) 0 g.modules, length-drop (length g.modules) (begun g), begun_length g)

  pub of_forms : AreOfForms (own_names g) imported (nothing g) ms g.modules
  of_forms m f at =
      let here : 0 + m ≡ m = omega arith in
      forms_at (own_names g) imported (nothing g) 0 g.modules rest m f at ∙ ap (λ j. Some (module_form (own_names g) imported (nothing g) j f)) here

  own_or_empty : (m : ℕ) (d : ModuleForm) → slice_get ms m ≡ Some d → ((f : Form) × (slice_get g.modules m ≡ Some f) × (d ≡ module_form (own_names g) imported (nothing g) m f)) ⊎ IsEmpty d
  own_or_empty m d at =
      let here : 0 + m ≡ m = omega arith in
      elim (forms_or (own_names g) imported (nothing g) 0 g.modules rest rest_empty m d at) [
        | inl w ↦ inl (w.0, w.1, w.2 ∙ ap (λ j. module_form (own_names g) imported (nothing g) j w.0) here)
        | inr e ↦ inr e
      ]

  imported_below : Below (length ms) imported
  imported_below = imports_below (length ms) g.used (numbers g) (begun g) (libraries_below (length ms) (first_exported (length g.modules) g.used) g.used (omega (arith, all_length))) form.clauses nothing_read (λ r is. absurd is)

  pub source_there : (name : Name) → source_of (own_names g) imported (nothing g) name < length ms
  source_there name = source_below (length ms) (own_names g) imported (nothing g) (omega (arith, all_length, length-map g.modules form_name)) imported_below (omega (arith, all_length)) name

  inside : (m : ℕ) (d : ModuleForm) (u : UseClause) → slice_get ms m ≡ Some d → IsIn u d.uses → u.source < length ms
  inside m d u at is = elim (own_or_empty m d at) [
    | inl w ↦
        let from = use_from (own_names g) imported (nothing g) w.0.clauses u (subst (λ (x : ModuleForm). IsIn u x.uses) w.2 is) in
        subst (λ s. s < length ms) (sym from.1) (source_there from.0)
    | inr empty ↦ absurd (subst (IsIn u) empty is)
  ]

  -- only modules of the library use others
  uses_own : (m k : ℕ) → Leads ms m k → (f : Form) × (slice_get g.modules m ≡ Some f)
  uses_own _ _ (straight m d e u at is there) = elim (own_or_empty m d at) [ inl w ↦ (w.0, w.1) | inr empty ↦ absurd (subst (IsIn u) empty is) ]
  uses_own _ _ (further m d e u k at is there chain) = elim (own_or_empty m d at) [ inl w ↦ (w.0, w.1) | inr empty ↦ absurd (subst (IsIn u) empty is) ]

  -- where no first module stands on a ring, none does
  module _ (quiet : (f : Found) → IsRingFault ms g.modules f → ⊥) where
    abbrev Free : ℕ → Type 0
    Free bound = (k : ℕ) → k < bound → Leads ms k k → ⊥

    free : (bound : ℕ) → Free bound
    free zero k h leads = omega (arith, h)
    free (suc bound) k h leads =
        let own = uses_own k k leads in
        quiet _ (k, own.0, own.1, leads, λ j less ring. free bound j (omega (arith, h, less)) ring, refl)

    pub no_ring : (m : ℕ) → Leads ms m m → ⊥
    no_ring m leads = free (suc m) m (omega arith) leads

    module _ (done : List (Option ModuleTables)) (made : AreMade ms done) (single : (m : ℕ) → m < length g.modules → is_made (slice_get done m) ≡ true → IsSingle ms m) where
      pub made_there : (m : ℕ) → m < length ms → is_made (slice_get done m) ≡ true
      made_there m h = all_are_made ms done made no_ring inside m h

      single_there : (m : ℕ) → IsSingle ms m
      single_there m n j k p q = by_owner m n j p refl
        where
          by_owner : (i : ℕ) (a : Name) (o : Owner) → Owned ms imports i a o → i ≡ m → j ≡ k
          by_owner _ _ _ (brought_owner i d u b a o at is e h) same = elim (own_or_empty i d at) [
            | inl w ↦
                let within : m < length g.modules = subst (λ x. x < length g.modules) same (slice_get_within g.modules i w.0 w.1) in
                single m within (made_there m (omega (arith, within, all_length))) n j k p q
            | inr empty ↦ absurd (subst (IsIn u) empty is)
          ]

      is_clear : IsClear ms
      is_clear = record { grounded = λ m h. grounded_of ms done made m (made_there m h); single = λ m. single_there m }

      clear_or : (b : Bool) → all_clear done ≡ b → b ≡ true
      clear_or true e = refl
      clear_or false e = absurd (not_clear ms done made.right made.all e is_clear)

      pub are_clear : all_clear done ≡ true
      are_clear = clear_or (all_clear done) refl

      pub are_ready : AreReady (own_names g) imported (nothing g) done
      are_ready name = made_there (source_of (own_names g) imported (nothing g) name) (source_there name)

  -- the faults that are told are all
  module _ (others : List Form) (split : g.libraries ≡ form ∷ others) (list : List Found) (adds : Adds (reading g form).found list (IsOtherFault g.library g.headers (own_names g) imported ms form others g.modules)) where
    pub told_to : (f : Found) → HasFault g form f → IsIn f list
    told_to _ (in_library f is) = adds.kept f is
    told_to _ (in_exports f is) = adds.to f (inr (inl is))
    told_to _ (misnamed_form f is) = adds.to f (inl (IsIn-left (misnamed g.library form) (doubled others) f is))
    told_to _ (doubled_form f is) = adds.to f (inl (IsIn-right (misnamed g.library form) (doubled others) f (subst (λ l. IsIn f (doubled (drop 1 l))) split is)))
    told_to _ (in_headers f is) = adds.to f (inr (inr (inl is)))
    told_to _ (in_modules f w) = adds.to f (inr (inr (inr (inr w))))
    told_to _ (on_ring f w) = adds.to f (inr (inr (inr (inl w))))

    other_from : (f : Found) → IsOtherFault g.library g.headers (own_names g) imported ms form others g.modules f → HasFault g form f
    other_from f (inl is) = elim (IsIn-append (misnamed g.library form) (doubled others) f is) [
      | inl a ↦ misnamed_form f a
      | inr b ↦ doubled_form f (subst (λ l. IsIn f (doubled (drop 1 l))) (sym split) b)
    ]
    other_from f (inr (inl is)) = in_exports f is
    other_from f (inr (inr (inl is))) = in_headers f is
    other_from f (inr (inr (inr (inl w)))) = on_ring f w
    other_from f (inr (inr (inr (inr w)))) = in_modules f w

    pub told_from : (f : Found) → IsIn f list → HasFault g form f
    told_from f is = elim (adds.from f is) [ inl a ↦ in_library f a | inr b ↦ other_from f b ]

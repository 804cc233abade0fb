-- The tables of all modules, one after another.
use Rattle.std.proofs.Common.{◌≡◌, ◌⊎◌, inl, inr, ℕ, zero, suc, ◌<◌, Bool, true, false, true≢false, List, [], ◌∷◌, length, Option, Some, None, slice_get, slice_set, ◌&&◌, refl, sym, ap, subst, ◌∙◌, arith, length-set, option_map}
use Rattle.std.proofs.lemmas.Option.{slice_get-map, slice_get_within, slice_get_cases}
use Rattle.std.specs.List.{IsDistinct}
use Rattle.std.specs.Str.{bytes_eq}
use Rattle.dy_base.specs.Tables.{NamedList, names}
use Rattle.dy_modules.specs.declared.owner.Owner.{Owner}
use Rattle.dy_modules.specs.declared.table.Cell.{Cell}
use Rattle.dy_modules.specs.declared.rounds.ModuleTables.{ModuleTables}
use Rattle.dy_modules.specs.declared.clause.UseClause.{UseClause}
use Rattle.dy_modules.specs.declared.clause.ModuleForm.{ModuleForm}
use Rattle.dy_modules.specs.Clauses.{Name, IsIn}
use Rattle.dy_modules.specs.Sees.{imports, exports, Owned, grounded}
use Rattle.dy_modules.specs.Cells.{Says, at}
use Rattle.dy_modules.specs.Order.{exported_rows, all_rows, is_made, is_ready, AreTables, IsRight, AreRight, Makes}
use Rattle.dy_modules.proofs.Rows.{some_is, none_is, row_at, at_row}
use Rattle.dy_modules.proofs.Says.{Stand, both_true}
use Rattle.dy_modules.proofs.Step.{Source, imports_says, exports_says, named_imports, named_exports}

pub is_or_not : (s m : ℕ) → (s ≡ m) ⊎ (s ≡ m → ⊥)
is_or_not zero zero = inl refl
is_or_not zero (suc m) = inr (λ e. omega (arith, e))
is_or_not (suc s) zero = inr (λ e. omega (arith, e))
is_or_not (suc s) (suc m) = elim (is_or_not s m) [ inl e ↦ inl (ap suc e) | inr ne ↦ inr (λ e. ne (omega (arith, e))) ]

-- the rows of a table say what the table says
pub stand_of : (t : NamedList Cell) (E : Name → Owner → Type 0) → IsDistinct bytes_eq (names t) → ((n : Name) → Says (at t n) (E n)) → Stand t E
stand_of t E distinct says = record {
  each = λ r i. subst (λ c. Says c (E r.0)) (row_at t distinct r i) (says r.0);
  all = λ a k h. by_cell a k h (at t a) refl (says a);
}
  where
    by_cell : (a : Name) (k : Owner) → E a k → (c : Option Cell) → at t a ≡ c → Says c (E a) → (d : Cell) × IsIn (a, d) t
    by_cell a k h None is s = absurd (s k h)
    by_cell a k h (Some d) is s = (d, at_row t a d is)

set_other : {X : Type 0} (xs : List X) (m s : ℕ) (x : X) → (s ≡ m → ⊥) → slice_get (slice_set xs m x) s ≡ slice_get xs s
set_other [] m s x ne = refl
set_other (y ∷ xs) zero zero x ne = absurd (ne refl)
set_other (y ∷ xs) zero (suc s) x ne = refl
set_other (y ∷ xs) (suc m) zero x ne = refl
set_other (y ∷ xs) (suc m) (suc s) x ne = set_other xs m s x (λ e. ne (ap suc e))

set_here : {X : Type 0} (xs : List X) (m : ℕ) (x : X) → m < length xs → slice_get (slice_set xs m x) m ≡ Some x
set_here [] m x h = absurd (omega (arith, h))
set_here (y ∷ xs) zero x h = refl
set_here (y ∷ xs) (suc m) x h = set_here xs m x (omega (arith, h))

pub made_has : (o : Option (Option ModuleTables)) → is_made o ≡ true → (t : ModuleTables) × (o ≡ Some (Some t))
made_has None e = absurd (true≢false (sym e))
made_has (Some None) e = absurd (true≢false (sym e))
made_has (Some (Some t)) e = (t, refl)

pub ready_has : (done : List (Option ModuleTables)) (us : List UseClause) → is_ready done us ≡ true → (u : UseClause) → IsIn u us → is_made (slice_get done u.source) ≡ true
ready_has done [] e u at = absurd at
ready_has done (v ∷ us) e u (inl p) = ap (λ w. is_made (slice_get done w.source)) p ∙ (both_true _ _ e).0
ready_has done (v ∷ us) e u (inr at) = ready_has done us (both_true _ _ e).1 u at

pub stuck_has : (done : List (Option ModuleTables)) (us : List UseClause) → is_ready done us ≡ false → (u : UseClause) × IsIn u us × (is_made (slice_get done u.source) ≡ false)
stuck_has done [] e = absurd (true≢false e)
stuck_has done (v ∷ us) e = by_head (is_made (slice_get done v.source)) refl e (stuck_has done us)
  where
    by_head : (b : Bool) → is_made (slice_get done v.source) ≡ b → (b && is_ready done us) ≡ false → (is_ready done us ≡ false → (u : UseClause) × IsIn u us × (is_made (slice_get done u.source) ≡ false))
        → (u : UseClause) × IsIn u (v ∷ us) × (is_made (slice_get done u.source) ≡ false)
    by_head true is e rest = let r = rest e in (r.0, inr r.1, r.2)
    by_head false is e rest = (v, inl refl, is)

-- one module more
pub makes : (ms : List ModuleForm) (m : ℕ) (d : ModuleForm) (done : List (Option ModuleTables)) (t : ModuleTables) → slice_get ms m ≡ Some d → is_ready done d.uses ≡ true → AreTables m d (all_rows done) t → AreRight ms done
    → Makes ms m done (slice_set done m (Some t))
makes ms m d done t is_d ready made right = record {
  right = record { count = search (arith, length-set, right.count); each = each };
  made = ap is_made here;
  stays = stays;
}
  where
    within : m < length done
    within = subst (λ n. m < n) (sym right.count) (slice_get_within ms m d is_d)

    here : slice_get (slice_set done m (Some t)) m ≡ Some (Some t)
    here = set_here done m (Some t) within

    known : (u : UseClause) → IsIn u d.uses → Source ms m d is_d (all_rows done) u.source
    known u at =
        let w = made_has (slice_get done u.source) (ready_has done d.uses ready u at) in
        let r = right.each u.source w.0 w.1 in
        record {
          rows = w.0.exports;
          at = slice_get-map exported_rows done u.source ∙ ap (option_map exported_rows) w.1;
          stand = stand_of w.0.exports (Owned ms exports u.source) r.distinct r.exported;
          named = r.named;
        }

    says_imports : (n : Name) → Says (at t.imports n) (Owned ms imports m n)
    says_imports n = subst (λ c. Says c (Owned ms imports m n)) (sym (made.imports n)) (imports_says ms m d is_d (all_rows done) known n)

    says_exports : (n : Name) → Says (at t.exports n) (Owned ms exports m n)
    says_exports n = subst (λ c. Says c (Owned ms exports m n)) (sym (made.exports n)) (exports_says ms m d is_d (all_rows done) known (at t.imports) says_imports n)

    this : IsRight ms m t
    this = record {
      imported = says_imports;
      exported = says_exports;
      distinct = made.distinct;
      named = named_exports ms m d is_d (all_rows done) known (at t.imports) says_imports;
      apart = made.apart;
      grounded = grounded m d is_d (λ u at. let w = made_has (slice_get done u.source) (ready_has done d.uses ready u at) in (right.each u.source w.0 w.1).grounded);
      brought = named_imports ms m d is_d (all_rows done) known;
    }

    each : (s : ℕ) (v : ModuleTables) → slice_get (slice_set done m (Some t)) s ≡ Some (Some v) → IsRight ms s v
    each s v e = elim (is_or_not s m) [
      | inl p ↦ subst (λ x. IsRight ms x v) (sym p) (subst (λ x. IsRight ms m x) (some_is t v (some_is (Some t) (Some v) (sym here ∙ ap (slice_get (slice_set done m (Some t))) (sym p) ∙ e))) this)
      | inr ne ↦ right.each s v (sym (set_other done m s (Some t) ne) ∙ e)
    ]

    stays : (s : ℕ) → is_made (slice_get done s) ≡ true → is_made (slice_get (slice_set done m (Some t)) s) ≡ true
    stays s e = elim (is_or_not s m) [
      | inl p ↦ ap (λ x. is_made (slice_get (slice_set done m (Some t)) x)) p ∙ ap is_made here
      | inr ne ↦ ap is_made (set_other done m s (Some t) ne) ∙ e
    ]

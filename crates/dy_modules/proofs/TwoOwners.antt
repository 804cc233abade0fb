-- A cell says of several owners exactly where there are two.
use Rattle.std.proofs.Common.{◌≡◌, ◌≢◌, ◌⊎◌, inl, inr, ℕ, zero, suc, ◌+◌, Bool, true, false, true≢false, ◌||◌, List, [], ◌∷◌, take, Option, Some, None, slice_get, All, option_map, refl, sym, ap, subst, ◌∙◌, arith}
use Rattle.std.proofs.lemmas.Option.{slice_get-map}
use Rattle.std.specs.List.{IsDistinct}
use Rattle.std.specs.Str.{bytes_eq}
use Rattle.dy_base.specs.Tables.{NamedList, names}
use Rattle.dy_modules.specs.declared.table.Cell.{Cell}
use Rattle.dy_modules.specs.declared.table.Cell.TheVariants.{One, Many}
use Rattle.dy_modules.specs.declared.rounds.ModuleTables.{ModuleTables}
use Rattle.dy_modules.specs.Clauses.{Name, IsIn, brought}
use Rattle.dy_modules.specs.declared.owner.Owner.{Owner}
use Rattle.dy_modules.specs.declared.clause.UseClause.{UseClause}
use Rattle.dy_modules.specs.declared.clause.ModuleForm.{ModuleForm}
use Rattle.dy_modules.specs.Sees.{exports, Owned}
use Rattle.dy_modules.specs.Cells.{Says, at, after_source, after_uses}
use Rattle.dy_modules.specs.Order.{exported_rows, all_rows, is_made, is_ready, AreRight}
use Rattle.dy_modules.specs.Builds.{is_clear}
use Rattle.dy_modules.specs.Clash.{Brings, OneOwner, TwoOwners, Clashes, Found}
use Rattle.dy_modules.proofs.Says.{AnyComes, Stand, says_uses}
use Rattle.dy_modules.proofs.Rows.{some_is, none_is, one_more, row_at}
use Rattle.dy_modules.proofs.Step.{kept_plain}
use Rattle.dy_modules.proofs.Loop.{stand_of, made_has, ready_has}
use Rattle.dy_modules.proofs.Clear.{many_in}

pub many_at : (t : NamedList Cell) → IsDistinct bytes_eq (names t) → is_clear t ≡ false → (n : Name) × (at t n ≡ Some Many)
many_at t distinct e = let w = many_in t e in (w.0, row_at t distinct (w.0, Many) w.1)

-- one clause more
pub after_more : (ts : List (NamedList Cell)) (us : List UseClause) (i : ℕ) (u : UseClause) (n : Name) (c : Option Cell) → slice_get us i ≡ Some u
    → after_uses false (take (suc i) us) ts n c ≡ after_source false u (slice_get ts u.source) n (after_uses false (take i us) ts n c)
after_more ts [] i u n c e = absurd (none_is u e)
after_more ts (v ∷ us) zero u n c e = ap (λ w. after_source false w (slice_get ts w.source) n c) (some_is v u e)
after_more ts (v ∷ us) (suc i) u n c e = after_more ts us i u n (after_source false v (slice_get ts v.source) n c) e

-- what a table says after it
pub says_more : (ts : List (NamedList Cell)) (us : List UseClause) (i : ℕ) (u : UseClause) (before after : Name → Option Cell) → slice_get us i ≡ Some u
    → ((n : Name) → before n ≡ after_uses false (take i us) ts n None) → ((n : Name) → after n ≡ after_source false u (slice_get ts u.source) n (before n))
    → (n : Name) → after n ≡ after_uses false (take (i + 1) us) ts n None
says_more ts us i u before after at is step n = step n ∙ ap (after_source false u (slice_get ts u.source) n) (is n) ∙ sym (after_more ts us i u n None at)
    ∙ ap (λ j. after_uses false (take j us) ts n None) (one_more i)

module _ (ms : List ModuleForm) (done : List (Option ModuleTables)) (right : AreRight ms done) where
  source_of : (u : UseClause) → is_made (slice_get done u.source) ≡ true → (rs : NamedList Cell) × (slice_get (all_rows done) u.source ≡ Some rs) × Stand rs (Owned ms exports u.source)
  source_of u e =
      let w = made_has (slice_get done u.source) e in
      let r = right.each u.source w.0 w.1 in
      (w.0.exports, slice_get-map exported_rows done u.source ∙ ap (option_map exported_rows) w.1, stand_of w.0.exports (Owned ms exports u.source) r.distinct r.exported)

  says : (us : List UseClause) → ((u : UseClause) → IsIn u us → is_made (slice_get done u.source) ≡ true) → (n : Name)
      → Says (after_uses false us (all_rows done) n None) (λ k. ⊥ ⊎ AnyComes false (Owned ms exports) us n k)
  says us made n = says_uses false (Owned ms exports) (all_rows done) us n (λ k. ⊥) None (λ u h. source_of u (made u h)) (λ k h. h)

  brings : (us : List UseClause) (n : Name) (k : Owner) → ⊥ ⊎ AnyComes false (Owned ms exports) us n k → Brings ms us n k
  brings us n k (inl h) = absurd h
  brings us n k (inr h) = (h.0, h.2.0, h.1, sym (kept_plain h.0 (brought h.0 h.2.0)) ∙ h.2.1, h.2.2)

  comes : (us : List UseClause) (n : Name) (k : Owner) → Brings ms us n k → ⊥ ⊎ AnyComes false (Owned ms exports) us n k
  comes us n k h = inr (h.0, h.2, (h.1, kept_plain h.0 (brought h.0 h.1) ∙ h.3, h.4))

  one_of : (P : Owner → Type 0) (c : Option Cell) → Says c P → c ≢ Some Many → (j k : Owner) → P j → P k → j ≡ k
  one_of P None s never j k p q = absurd (s j p)
  one_of P (Some (One i)) s never j k p q = s.1 j p ∙ sym (s.1 k q)
  one_of P (Some Many) s never j k p q = absurd (never refl)

  one : (us : List UseClause) → ((u : UseClause) → IsIn u us → is_made (slice_get done u.source) ≡ true) → ((n : Name) → after_uses false us (all_rows done) n None ≢ Some Many) → OneOwner ms us
  one us made never n j k p q = one_of (λ k. ⊥ ⊎ AnyComes false (Owned ms exports) us n k) (after_uses false us (all_rows done) n None) (says us made n) (never n) j k (comes us n j p) (comes us n k q)

  two : (us : List UseClause) → ((u : UseClause) → IsIn u us → is_made (slice_get done u.source) ≡ true) → (n : Name) → after_uses false us (all_rows done) n None ≡ Some Many → TwoOwners ms us
  two us made n e =
      let s : Says (Some Many) (λ k. ⊥ ⊎ AnyComes false (Owned ms exports) us n k) = subst (λ c. Says c (λ k. ⊥ ⊎ AnyComes false (Owned ms exports) us n k)) e (says us made n) in
      (n, s.0, s.1, brings us n s.0 s.2, brings us n s.1 s.3, s.4)

  in_take : (us : List UseClause) (i : ℕ) (u : UseClause) → IsIn u (take i us) → IsIn u us
  in_take [] zero u h = h
  in_take [] (suc i) u h = h
  in_take (v ∷ us) zero u h = absurd h
  in_take (v ∷ us) (suc i) u (inl e) = inl e
  in_take (v ∷ us) (suc i) u (inr h) = inr (in_take us i u h)

  pub clashes : (us : List UseClause) (o : Option ℕ) → is_ready done us ≡ true → Found (all_rows done) us o → Clashes ms us o
  clashes us None ready found = one us (ready_has done us ready) found
  clashes us (Some i) ready found = (
    two (take (i + 1) us) (λ u h. ready_has done us ready u (in_take us (i + 1) u h)) found.0.0 found.0.1,
    one (take i us) (λ u h. ready_has done us ready u (in_take us i u h)) found.1,
  )

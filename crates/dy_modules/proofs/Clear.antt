-- Tables without two owners of a name.
use Rattle.std.proofs.Common.{◌≡◌, ◌≢◌, ◌⊎◌, inl, inr, ℕ, zero, suc, ◌+◌, ◌<◌, Bool, true, false, true≢false, not, ◌&&◌, List, [], ◌∷◌, length, drop, replicate, Option, Some, None, slice_get, refl, sym, ap, subst, ◌∙◌, arith}
use Rattle.std.proofs.lemmas.Option.{slice_get_within, slice_get_cases}
use Rattle.std.specs.List.{IsDistinct}
use Rattle.std.specs.Str.{bytes_eq}
use Rattle.dy_base.specs.Tables.{NameMap, NamedList, names}
use Rattle.dy_base.specs.declared.ids.BindingId.{BindingId}
use Rattle.dy_modules.specs.declared.owner.Owner.{Owner}
use Rattle.dy_modules.specs.declared.table.Cell.{Cell}
use Rattle.dy_modules.specs.declared.table.Cell.TheVariants.{One, Many}
use Rattle.dy_modules.specs.declared.clause.ModuleForm.{ModuleForm}
use Rattle.dy_modules.specs.declared.rounds.ModuleTables.{ModuleTables}
use Rattle.dy_modules.specs.Clauses.{Name, IsIn}
use Rattle.dy_modules.specs.Sees.{imports, Owned, brought_owner, IsGrounded}
use Rattle.dy_modules.specs.Cells.{Says, at}
use Rattle.dy_modules.specs.Order.{is_made, AreRight, IsRight}
use Rattle.dy_modules.specs.Builds.{IsClear, is_many, is_clear_row, is_clear, is_clear_module, all_clear}
use Rattle.dy_modules.proofs.Rows.{some_is, none_is, one_more, row_at, at_row}
use Rattle.dy_modules.proofs.Says.{both_true}
use Rattle.dy_modules.proofs.Loop.{made_has}

-- one row more
clear_suc : (rs : NamedList Cell) (i : ℕ) → is_clear (drop i rs) ≡ (is_clear_row (slice_get rs i) && is_clear (drop (suc i) rs))
clear_suc [] zero = refl
clear_suc [] (suc i) = refl
clear_suc (r ∷ rs) zero = refl
clear_suc (r ∷ rs) (suc i) = clear_suc rs i

pub clear_more : (rs : NamedList Cell) (i : ℕ) → is_clear (drop i rs) ≡ (is_clear_row (slice_get rs i) && is_clear (drop (i + 1) rs))
clear_more rs i = clear_suc rs i ∙ ap (λ j. is_clear_row (slice_get rs i) && is_clear (drop j rs)) (one_more i)

not_many : (b : Bool) → not b ≡ true → b ≡ true → ⊥
not_many true e f = true≢false (sym e)
not_many false e f = true≢false (sym f)

clear_in : (rs : NamedList Cell) (n : Name) → is_clear rs ≡ true → IsIn (n, Many) rs → ⊥
clear_in [] n e is = is
clear_in (r ∷ rs) n e (inl is) = not_many (is_many r.1) (both_true _ _ e).0 (ap (λ (x : Name × Cell). is_many x.1) (sym is))
clear_in (r ∷ rs) n e (inr is) = clear_in rs n (both_true _ _ e).1 is

pub clear_at : (rs : NamedList Cell) → is_clear rs ≡ true → (n : Name) → at rs n ≢ Some Many
clear_at rs e n is = clear_in rs n e (at_row rs n Many is)

many_is : (c : Cell) → not (is_many c) ≡ false → c ≡ Many
many_is (One k) e = absurd (true≢false e)
many_is Many e = refl

pub many_in : (rs : NamedList Cell) → is_clear rs ≡ false → (n : Name) × IsIn (n, Many) rs
many_in [] e = absurd (true≢false e)
many_in (r ∷ rs) e = by_head (not (is_many r.1)) refl e (many_in rs)
  where
    by_head : (b : Bool) → not (is_many r.1) ≡ b → (b && is_clear rs) ≡ false → (is_clear rs ≡ false → (n : Name) × IsIn (n, Many) rs) → (n : Name) × IsIn (n, Many) (r ∷ rs)
    by_head true is e rest = let w = rest e in (w.0, inr w.1)
    by_head false is e rest = (r.0, inl (λ i. (r.0, sym (many_is r.1 is) i)))

clear_each : (done : List (Option ModuleTables)) → all_clear done ≡ true → (m : ℕ) (o : Option ModuleTables) → slice_get done m ≡ Some o → is_clear_module o ≡ true
clear_each [] e m o is = absurd (none_is o is)
clear_each (t ∷ done) e zero o is = ap is_clear_module (sym (some_is t o is)) ∙ (both_true _ _ e).0
clear_each (t ∷ done) e (suc m) o is = clear_each done (both_true _ _ e).1 m o is

pub unclear : (done : List (Option ModuleTables)) → all_clear done ≡ false → (m : ℕ) × (o : Option ModuleTables) × (slice_get done m ≡ Some o) × (is_clear_module o ≡ false)
unclear [] e = absurd (true≢false e)
unclear (t ∷ done) e = by_head (is_clear_module t) refl e (unclear done)
  where
    by_head : (b : Bool) → is_clear_module t ≡ b → (b && all_clear done) ≡ false → (all_clear done ≡ false → (m : ℕ) × (o : Option ModuleTables) × (slice_get done m ≡ Some o) × (is_clear_module o ≡ false))
        → (m : ℕ) × (o : Option ModuleTables) × (slice_get (t ∷ done) m ≡ Some o) × (is_clear_module o ≡ false)
    by_head true is e rest = let w = rest e in (suc w.0, w.1, w.2, w.3)
    by_head false is e rest = (0, t, refl, is)

module_made : (o : Option ModuleTables) → is_clear_module o ≡ true → (t : ModuleTables) × (o ≡ Some t) × (is_clear t.imports ≡ true)
module_made None e = absurd (true≢false (sym e))
module_made (Some t) e = (t, refl, e)

within_has : {X : Type 0} (xs : List X) (s : ℕ) → s < length xs → (x : X) × (slice_get xs s ≡ Some x)
within_has xs s h = elim (slice_get_cases xs s).1 [ inl a ↦ (a.0, a.2) | inr a ↦ absurd (omega (arith, h, a.0)) ]

module _ (ms : List ModuleForm) (done : List (Option ModuleTables)) (right : AreRight ms done) where
  module _ (clear : all_clear done ≡ true) where
    table_at : (m : ℕ) → m < length ms → (t : ModuleTables) × (slice_get done m ≡ Some (Some t)) × (is_clear t.imports ≡ true)
    table_at m h =
        let o = within_has done m (subst (λ l. m < l) (sym right.count) h) in
        let t = module_made o.0 (clear_each done clear m o.0 o.1) in
        (t.0, o.1 ∙ ap Some t.1, t.2)

    pub all_are_made : (m : ℕ) → m < length ms → is_made (slice_get done m) ≡ true
    all_are_made m h = let t = table_at m h in ap is_made t.1

    pub all_are_single : (m : ℕ) (t : ModuleTables) (n : Name) → slice_get done m ≡ Some (Some t) → at t.imports n ≢ Some Many
    all_are_single m t n is = clear_at t.imports (clear_each done clear m (Some t) is) n

    importing : (m : ℕ) (n : Name) (k : Owner) → Owned ms imports m n k → m < length ms
    importing _ _ _ (brought_owner m d u a n k is used b h) = slice_get_within ms m d is

    one_of : (P : Owner → Type 0) (c : Option Cell) → Says c P → c ≢ Some Many → (j k : Owner) → P j → P k → j ≡ k
    one_of P None s only j k p q = absurd (s j p)
    one_of P (Some (One i)) s only j k p q = s.1 j p ∙ sym (s.1 k q)
    one_of P (Some Many) s only j k p q = absurd (only refl)

    pub is_clear_then : IsClear ms
    is_clear_then = record {
      grounded = λ m h. let t = table_at m h in (right.each m t.0 t.1).grounded;
      single = λ m n j k p q.
          let t = table_at m (importing m n j p) in
          one_of (Owned ms imports m n) (at t.0.imports n) ((right.each m t.0 t.1).imported n) (all_are_single m t.0 n t.1) j k p q;
    }

  pub not_clear : ((m : ℕ) → IsGrounded ms m → is_made (slice_get done m) ≡ true) → all_clear done ≡ false → IsClear ms → ⊥
  not_clear made e clear = let w = unclear done e in by_module w.0 w.1 w.2 w.3
    where
      by_module : (m : ℕ) (o : Option ModuleTables) → slice_get done m ≡ Some o → is_clear_module o ≡ false → ⊥
      by_module m None is never = true≢false (sym (made m (clear.grounded m (subst (λ l. m < l) right.count (slice_get_within done m None is)))) ∙ ap is_made is)
      by_module m (Some t) is never =
          let r = right.each m t is in
          let w = many_in t.imports never in
          let s : Says (Some Many) (Owned ms imports m w.0) = subst (λ c. Says c (Owned ms imports m w.0)) (row_at t.imports r.apart (w.0, Many) w.1) (r.imported w.0) in
          s.4 (clear.single m w.0 s.0 s.1 s.2 s.3)

pub length-replicate : {X : Type 0} (n : ℕ) (x : X) → length (replicate n x) ≡ n
length-replicate zero x = refl
length-replicate (suc n) x = ap suc (length-replicate n x)

-- The definitions after names got their meanings.
use Rattle.std.proofs.Common.{◌≡◌, ℕ, zero, suc, ◌<◌, Bool, true, false, true≢false, cond, ◌&&◌}
use Rattle.std.proofs.Common.{◌||◌, nat_eq, bytes_eq, List, [], ◌∷◌, ◌++◌, length, replicate}
use Rattle.std.proofs.Common.{Option, Some, None, slice_get, refl, sym, ap, subst, ◌∙◌, arith}
use Rattle.std.specs.List.{list_any}
use Rattle.std.specs.FinMap as map
use Rattle.std.specs.FinMap.{get-insert, get-empty}
use Rattle.std.specs.Cmp.Lexicographic.{nat_list_cmp_total, texts_ties, bytes_decides}
use Rattle.std.proofs.lemmas.Bool.{eq-eqb}
use Rattle.dy_base.specs.Tables.{by_bytes}
use Rattle.dy_base.specs.declared.ids.BindingId.{BindingId}
use Rattle.dy_modules.specs.declared.owner.Owner.{Owner}
use Rattle.dy_modules.specs.declared.owner.Owner.TheVariants.{Outside, Own}
use Rattle.dy_modules.proofs.Clear.{length-replicate}
use Rattle.dy_module_tables.specs.Graphs.{defined_in, put_in}
use Rattle.dy_module_tables.proofs.Targets.{length-put}
use Rattle.dy_names.proofs.Kept.{equal_parts}
use Rattle.dy_definitions.specs.declared.definitions.Definition.{Definition}
use Rattle.dy_definitions.specs.declared.meanings.RowCounts.{RowCounts}
use Rattle.dy_definitions.specs.Names.{is_owned, is_of, what_made, may_give, is_generic_name}
use Rattle.dy_definitions.specs.Names.{has_form}
use Rattle.dy_definitions.specs.Means.{Meanings, with_rows, has_row, no_rows, one_more, row_id}
use Rattle.dy_definitions.specs.Means.{first_row, meanings_of}
use Rattle.dy_library_names.specs.Closing.{Definitions, put_meaning, put_owned, put_all}

-- what a name of module c is defined as
abbrev pub look : Definitions → ℕ → List ℕ → Option BindingId
look defs c a = defined_in (slice_get defs c) a

put_here : (defs : Definitions) (m : ℕ) (n : List ℕ) (id : BindingId) → m < length defs
    → look (put_in defs m n id) m n ≡ Some id
put_here [] m n id h = absurd (omega (arith, h))
put_here (t ∷ defs) zero n id h =
    get-insert nat_list_cmp_total t n id n
    ∙ ap (λ b. cond b (Some id) (map.get t n)) (sym (texts_ties n n) ∙ (bytes_decides n n).1 refl)
put_here (t ∷ defs) (suc m) n id h = put_here defs m n id (omega (arith, h))

put_else : (defs : Definitions) (m : ℕ) (n : List ℕ) (id : BindingId) (c : ℕ) (a : List ℕ)
    → (m ≡ c → n ≡ a → ⊥) → look (put_in defs m n id) c a ≡ look defs c a
put_else [] m n id c a apart = refl
put_else (t ∷ defs) zero n id zero a apart =
    get-insert nat_list_cmp_total t n id a
    ∙ ap (λ b. cond b (Some id) (map.get t a)) (sym (texts_ties a n)) ∙ by_same (bytes_eq a n) refl
  where
    by_same : (b : Bool) → bytes_eq a n ≡ b → cond b (Some id) (map.get t a) ≡ map.get t a
    by_same true e = absurd (apart refl (sym ((bytes_decides a n).0 e)))
    by_same false e = refl
put_else (t ∷ defs) zero n id (suc c) a apart = refl
put_else (t ∷ defs) (suc m) n id zero a apart = refl
put_else (t ∷ defs) (suc m) n id (suc c) a apart =
    put_else defs m n id c a (λ e f. apart (ap suc e) f)

abbrev or_old : Option BindingId → Option BindingId → Option BindingId
or_old None old = old
or_old (Some id) old = Some id

or_none : (v : Option BindingId) → or_old v None ≡ v
or_none None = refl
or_none (Some id) = refl

meaning_here : (v : Option BindingId) (defs : Definitions) (m : ℕ) (n : List ℕ) → m < length defs
    → look (put_meaning m n v defs) m n ≡ or_old v (look defs m n)
meaning_here None defs m n h = refl
meaning_here (Some id) defs m n h = put_here defs m n id h

meaning_else : (v : Option BindingId) (defs : Definitions) (m : ℕ) (n : List ℕ) (c : ℕ) (a : List ℕ)
    → (m ≡ c → n ≡ a → ⊥) → look (put_meaning m n v defs) c a ≡ look defs c a
meaning_else None defs m n c a apart = refl
meaning_else (Some id) defs m n c a apart = put_else defs m n id c a apart

length_meaning : (v : Option BindingId) (defs : Definitions) (m : ℕ) (n : List ℕ)
    → length (put_meaning m n v defs) ≡ length defs
length_meaning None defs m n = refl
length_meaning (Some id) defs m n = length-put defs m n id

joined : (b rest : Bool) (v old : Option BindingId)
    → cond rest (or_old v (cond b (or_old v old) old)) (cond b (or_old v old) old)
    ≡ cond (b || rest) (or_old v old) old
joined true true None old = refl
joined true true (Some id) old = refl
joined true false v old = refl
joined false rest v old = refl

module _ (M : Meanings) where
  length_owned : (o : Option Owner) (defs : Definitions) → length (put_owned M o defs) ≡ length defs
  length_owned None defs = refl
  length_owned (Some (Outside id)) defs = refl
  length_owned (Some (Own m n)) defs = length_meaning (M m n) defs m n

  pub length_all : (ds : List Definition) (defs : Definitions)
      → length (put_all M ds defs) ≡ length defs
  length_all [] defs = refl
  length_all (d ∷ ds) defs = length_all ds (put_owned M d.owner defs) ∙ length_owned d.owner defs

  owned_at : (o : Option Owner) (defs : Definitions) (c : ℕ) (a : List ℕ) → c < length defs
      → look (put_owned M o defs) c a
      ≡ cond (is_owned o c a) (or_old (M c a) (look defs c a)) (look defs c a)
  owned_at None defs c a h = refl
  owned_at (Some (Outside id)) defs c a h = refl
  owned_at (Some (Own m n)) defs c a h = by_same (nat_eq m c && bytes_eq n a) refl
    where
      by_same : (b : Bool) → nat_eq m c && bytes_eq n a ≡ b
          → look (put_meaning m n (M m n) defs) c a
          ≡ cond b (or_old (M c a) (look defs c a)) (look defs c a)
      by_same true e =
          let p = equal_parts m c n a e in
          let here = meaning_here (M m n) defs m n (subst (λ x. x < length defs) (sym p.0) h) in
          subst (λ y. look (put_meaning m n (M m n) defs) c y ≡ or_old (M c y) (look defs c y)) p.1
          (subst (λ x. look (put_meaning m n (M m n) defs) x n ≡ or_old (M x n) (look defs x n)) p.0
          here)
      by_same false e = meaning_else (M m n) defs m n c a
          (λ p q. true≢false (sym (λ k. eq-eqb m c p k && (bytes_decides n a).1 q k) ∙ e))

  all_at : (ds : List Definition) (defs : Definitions) (c : ℕ) (a : List ℕ) → c < length defs
      → look (put_all M ds defs) c a
      ≡ cond (list_any (is_of c a) ds) (or_old (M c a) (look defs c a)) (look defs c a)
  all_at [] defs c a h = refl
  all_at (d ∷ ds) defs c a h =
      let rest = list_any (is_of c a) ds in
      all_at ds (put_owned M d.owner defs) c a
      (subst (λ l. c < l) (sym (length_owned d.owner defs)) h)
      ∙ ap (λ x. cond rest (or_old (M c a) x) x) (owned_at d.owner defs c a h)
      ∙ joined (is_of c a d) rest (M c a) (look defs c a)

  nothing_at : (n c : ℕ) (a : List ℕ) → look (replicate n map.empty) c a ≡ None
  nothing_at zero c a = refl
  nothing_at (suc n) zero a = get-empty by_bytes a
  nothing_at (suc n) (suc c) a = nothing_at n c a

  -- each name of a module has its meaning, where names without a definition have none
  pub all_defined : (ds : List Definition)
      → ((c : ℕ) (a : List ℕ) → list_any (is_of c a) ds ≡ false → M c a ≡ None)
      → (n c : ℕ) (a : List ℕ) → c < n → look (put_all M ds (replicate n map.empty)) c a ≡ M c a
  all_defined ds none n c a h =
      all_at ds (replicate n map.empty) c a
      (subst (λ l. c < l) (sym (length-replicate n map.empty)) h)
      ∙ by_any (list_any (is_of c a) ds) refl
    where
      by_any : (b : Bool) → list_any (is_of c a) ds ≡ b
          → cond b (or_old (M c a) (look (replicate n map.empty) c a))
          (look (replicate n map.empty) c a) ≡ M c a
      by_any true e = ap (or_old (M c a)) (nothing_at n c a) ∙ or_none (M c a)
      by_any false e = nothing_at n c a ∙ sym (none c a e)

or_false : (x y : Bool) → (x || y) ≡ false → (x ≡ false) × (y ≡ false)
or_false true y e = absurd (true≢false e)
or_false false y e = (refl, e)

module _ (library : ℕ) (ds : List Definition) (c : ℕ) (a : List ℕ) where
  rows_none : (rest before : List Definition) (rows : RowCounts)
      → list_any (is_of c a) rest ≡ false
      → first_row library ds c a rows (with_rows ds before rest) ≡ None
  rows_none [] before rows e = refl
  rows_none (d ∷ rest) before rows e =
      let parts = or_false (is_of c a d) (list_any (is_of c a) rest) e in
      by_row (λ rs. rows_none rest (before ++ d ∷ []) rs parts.1) parts.0
      (has_row ds before d d.role)
    where
      by_row : ((rs : RowCounts)
          → first_row library ds c a rs (with_rows ds (before ++ d ∷ []) rest) ≡ None)
          → is_of c a d ≡ false → (b : Bool)
          → first_row library ds c a rows (cond b (d ∷ with_rows ds (before ++ d ∷ []) rest)
          (with_rows ds (before ++ d ∷ []) rest)) ≡ None
      by_row behind absent true =
          ap (λ x. cond (x && may_give d.role d.is_open (is_generic_name ds c a)
          (has_form ds c a)) (Some (row_id library rows d)) (first_row library ds c a
          (one_more (what_made d.role) rows) (with_rows ds (before ++ d ∷ []) rest))) absent
          ∙ behind (one_more (what_made d.role) rows)
      by_row behind absent false = behind rows

  -- a name without a definition means nothing
  pub means_nothing : list_any (is_of c a) ds ≡ false → meanings_of library ds c a ≡ None
  means_nothing e = rows_none ds [] no_rows e

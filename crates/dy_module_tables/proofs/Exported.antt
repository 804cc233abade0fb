-- What a module exports, against its table.
use Rattle.std.proofs.Common.{◌≡◌, ◌≢◌, ◌⊎◌, inl, inr, ℕ, ◌+◌, ◌<◌, ◌≤◌, Bool, true, false, true≢false, cond, ◌&&◌, List, [], ◌∷◌, ◌++◌, map, drop, length, Option, Some, None, is_some, slice_get, Ordering, Less, Equal, Greater, nat_cmp, is_eq, refl, sym, ap, subst, ◌∙◌, arith}
use Rattle.std.specs.Prelude.{T}
use Rattle.std.specs.Ordering.{is_lt}
use Rattle.std.specs.Str.{bytes_eq}
use Rattle.std.specs.Cmp.Lexicographic.{slice_cmp, texts_ties, nat_list_cmp_total}
use Rattle.std.specs.FinMap.{FinMap, find, get, entries, entries_sorted, get-entries, get-from_entries, is_sorted}
use Rattle.std.specs.FinMap.Entries.{below_all}
use Rattle.std.proofs.lemmas.Option.{slice_get_within, slice_get_past, slice_get_cases}
use Rattle.dy_base.specs.Folding.{folded}
use Rattle.dy_base.specs.Tables.{NameMap, NamedList, by_bytes, table_of}
use Rattle.dy_base.specs.declared.ids.BindingId.{BindingId}
use Rattle.dy_modules.specs.declared.owner.Owner.{Owner}
use Rattle.dy_modules.specs.declared.owner.Owner.TheVariants.{Outside, Own}
use Rattle.dy_modules.specs.declared.table.Cell.{Cell}
use Rattle.dy_modules.specs.declared.table.Cell.TheVariants.{One, Many}
use Rattle.dy_modules.specs.declared.clause.ModuleForm.{ModuleForm}
use Rattle.dy_modules.specs.declared.rounds.ModuleTables.{ModuleTables}
use Rattle.dy_modules.specs.Clauses.{Name, IsIn, given_at}
use Rattle.dy_modules.specs.Sees.{Side, imports, exports, Named, given_name, listed_name, brought_name, again_name, Owned, given_owner, own_owner, passed_owner, brought_owner, again_owner}
use Rattle.dy_modules.specs.Cells.{Says, at}
use Rattle.dy_modules.specs.Order.{AreRight, IsRight}
use Rattle.dy_module_tables.specs.Graphs.{definition, IsExported, IsFolded, AreFolded, AreExported, AllExported}
use Rattle.dy_module_tables.specs.Looking.{IsWhole, cell_definition, maybe_definition, import_in, export_in, exports_in, with_definition, defined_rows}
use Rattle.dy_modules.proofs.Rows.{some_is, none_is, same_names, itself, one_more, drop_end, dropped}
use Rattle.dy_modules.proofs.Step.{owned_named, someone}
use Rattle.dy_modules.proofs.Loop.{made_has}
use Rattle.dy_module_tables.proofs.Meanings.{says_here, single_here}

first : (a b : Bool) → T (a && b) → T a
first true b p = tt
first false b p = p

second : (a b : Bool) → T (a && b) → T b
second true b p = p
second false b p = absurd p

both : (a b : Bool) → T a → T b → T (a && b)
both true b p q = q
both false b p q = p

less_not_equal : (o : Ordering) → T (is_lt o) → is_eq o ≡ true → ⊥
less_not_equal Less p e = true≢false (sym e)
less_not_equal Equal p e = p
less_not_equal Greater p e = p

-- rows that stand in rising order are found
module _ {V : Type 0} where
  below_at : (x : Name) (es : NamedList V) (r : Name × V) → T (below_all (slice_cmp nat_cmp) x es) → IsIn r es → T (is_lt (slice_cmp nat_cmp x r.0))
  below_at x [] r h at = absurd at
  below_at x (e ∷ es) r h (inl is) = subst (λ (z : Name × V). T (is_lt (slice_cmp nat_cmp x z.0))) (sym is) (first _ _ h)
  below_at x (e ∷ es) r h (inr at) = below_at x es r (second _ _ h) at

  later : (x y : Name) (v w : V) (rest : Option V) → T (is_lt (slice_cmp nat_cmp x y)) → (b : Bool) → is_eq (slice_cmp nat_cmp y x) ≡ b → rest ≡ Some w → cond b (Some v) rest ≡ Some w
  later x y v w rest lt true is h = absurd (less_not_equal (slice_cmp nat_cmp x y) lt (sym (texts_ties x y) ∙ ap (bytes_eq x) (same_names y x (texts_ties y x ∙ is)) ∙ itself x))
  later x y v w rest lt false is h = h

  find_sorted : (es : NamedList V) → T (is_sorted (slice_cmp nat_cmp) es) → (r : Name × V) → IsIn r es → find (slice_cmp nat_cmp) r.0 es ≡ Some r.1
  find_sorted [] s r at = absurd at
  find_sorted (e ∷ es) s r (inl is) = subst (λ (x : Name × V). find (slice_cmp nat_cmp) x.0 (e ∷ es) ≡ Some x.1) (sym is) (ap (λ b. cond b (Some e.1) (find (slice_cmp nat_cmp) e.0 es)) (sym (texts_ties e.0 e.0) ∙ itself e.0))
  find_sorted (e ∷ es) s r (inr at) = later e.0 r.0 e.1 r.1 _ (below_at e.0 es r (first _ _ s) at) (is_eq (slice_cmp nat_cmp r.0 e.0)) refl (find_sorted es (second _ _ s) r at)

  found_in : (a : Name) (v : V) (es : NamedList V) → find (slice_cmp nat_cmp) a es ≡ Some v → IsIn (a, v) es
  found_in a v [] h = absurd (none_is v h)
  found_in a v (e ∷ es) h = by_case (is_eq (slice_cmp nat_cmp a e.0)) refl h (found_in a v es)
    where
      by_case : (b : Bool) → is_eq (slice_cmp nat_cmp a e.0) ≡ b → cond b (Some e.1) (find (slice_cmp nat_cmp) a es) ≡ Some v
          → (find (slice_cmp nat_cmp) a es ≡ Some v → IsIn (a, v) es) → IsIn (a, v) (e ∷ es)
      by_case true is h rest = inl (λ i. (same_names a e.0 (texts_ties a e.0 ∙ is) i, sym (some_is e.1 v h) i))
      by_case false is h rest = inr (rest h)

module _ (t : NameMap Cell) where
  entry_at : (r : Name × Cell) → IsIn r (entries t) → get t r.0 ≡ Some r.1
  entry_at r is = get-entries t r.0 ∙ find_sorted (entries t) (entries_sorted t) r is

  at_entry : (a : Name) (c : Cell) → get t a ≡ Some c → IsIn (a, c) (entries t)
  at_entry a c is = found_in a c (entries t) (sym (get-entries t a) ∙ is)

-- rows of definitions
module _ (defs : List (NameMap BindingId)) where
  rows_to : (rows : List (Name × Cell)) (n : Name) (id : BindingId) → IsIn (n, id) (defined_rows defs (map Some rows)) → (r : Name × Cell) × IsIn r rows × (n ≡ folded r.0) × (cell_definition defs r.1 ≡ Some id)
  rows_to [] n id h = absurd h
  rows_to (r ∷ rows) n id h = by_cell (cell_definition defs r.1) refl h (rows_to rows n id)
    where
      by_cell : (o : Option BindingId) → cell_definition defs r.1 ≡ o → IsIn (n, id) (with_definition r.0 o (defined_rows defs (map Some rows)))
          → (IsIn (n, id) (defined_rows defs (map Some rows)) → (q : Name × Cell) × IsIn q rows × (n ≡ folded q.0) × (cell_definition defs q.1 ≡ Some id))
          → (q : Name × Cell) × IsIn q (r ∷ rows) × (n ≡ folded q.0) × (cell_definition defs q.1 ≡ Some id)
      by_cell None is h rest = let w = rest h in (w.0, inr w.1, w.2, w.3)
      by_cell (Some j) is (inl e) rest = (r, inl refl, ap (λ x. x.0) e, is ∙ ap Some (sym (ap (λ x. x.1) e)))
      by_cell (Some j) is (inr h) rest = let w = rest h in (w.0, inr w.1, w.2, w.3)

  with_here : (a : Name) (id : BindingId) (o : Option BindingId) (rest : NamedList BindingId) → o ≡ Some id → IsIn (folded a, id) (with_definition a o rest)
  with_here a id None rest is = absurd (none_is id is)
  with_here a id (Some j) rest is = inl (λ i. (folded a, some_is id j (sym is) i))

  with_later : (a : Name) (o : Option BindingId) (rest : NamedList BindingId) (x : Name × BindingId) → IsIn x rest → IsIn x (with_definition a o rest)
  with_later a None rest x is = is
  with_later a (Some j) rest x is = inr is

  rows_from : (rows : List (Name × Cell)) (r : Name × Cell) (id : BindingId) → IsIn r rows → cell_definition defs r.1 ≡ Some id → IsIn (folded r.0, id) (defined_rows defs (map Some rows))
  rows_from [] r id h is = absurd h
  rows_from (q ∷ rows) r id (inl e) is = subst (λ (x : Name × Cell). IsIn (folded x.0, id) (defined_rows defs (map Some (q ∷ rows)))) (sym e)
      (with_here q.0 id (cell_definition defs q.1) (defined_rows defs (map Some rows)) (ap (λ (x : Name × Cell). cell_definition defs x.1) (sym e) ∙ is))
  rows_from (q ∷ rows) r id (inr h) is = with_later q.0 (cell_definition defs q.1) (defined_rows defs (map Some rows)) (folded r.0, id) (rows_from rows r id h is)

  abbrev Folds : List (Name × Cell) → Type 0
  Folds rows = (r : Name × Cell) → IsIn r rows → folded r.0 ≡ r.0

  below_rows : (x : Name) (rows : List (Name × Cell)) → Folds rows → T (below_all (slice_cmp nat_cmp) x rows) → T (below_all (slice_cmp nat_cmp) x (defined_rows defs (map Some rows)))
  below_rows x [] f h = tt
  below_rows x (r ∷ rows) f h = by_cell (cell_definition defs r.1) (below_rows x rows (λ q is. f q (inr is)) (second _ _ h))
    where
      by_cell : (o : Option BindingId) → T (below_all (slice_cmp nat_cmp) x (defined_rows defs (map Some rows))) → T (below_all (slice_cmp nat_cmp) x (with_definition r.0 o (defined_rows defs (map Some rows))))
      by_cell None rest = rest
      by_cell (Some j) rest = both _ _ (subst (λ n. T (is_lt (slice_cmp nat_cmp x n))) (sym (f r (inl refl))) (first _ _ h)) rest

  sorted_rows : (rows : List (Name × Cell)) → Folds rows → T (is_sorted (slice_cmp nat_cmp) rows) → T (is_sorted (slice_cmp nat_cmp) (defined_rows defs (map Some rows)))
  sorted_rows [] f s = tt
  sorted_rows (r ∷ rows) f s = by_cell (cell_definition defs r.1) (sorted_rows rows (λ q is. f q (inr is)) (second _ _ s))
    where
      by_cell : (o : Option BindingId) → T (is_sorted (slice_cmp nat_cmp) (defined_rows defs (map Some rows))) → T (is_sorted (slice_cmp nat_cmp) (with_definition r.0 o (defined_rows defs (map Some rows))))
      by_cell None rest = rest
      by_cell (Some j) rest = both _ _ (subst (λ n. T (below_all (slice_cmp nat_cmp) n (defined_rows defs (map Some rows)))) (sym (f r (inl refl))) (below_rows r.0 rows (λ q is. f q (inr is)) (first _ _ s))) rest

-- all names that modules have are folded
pub names_folded : (ms : List ModuleForm) → AreFolded ms → (s : Side) (m : ℕ) (n : Name) → Named ms s m n → folded n ≡ n
names_folded ms f _ _ _ (given_name m d n k at is) = (f m d at).given n k is
names_folded ms f _ _ _ (listed_name m d n at is) = (f m d at).listed n is
names_folded ms f _ _ _ (brought_name m d u a n at is b h) = (f m d at).brought u a n is b (names_folded ms f _ _ _ h)
names_folded ms f _ _ _ (again_name m d u a n at is b r h) = (f m d at).brought u a n is b (names_folded ms f _ _ _ h)

exporting : (ms : List ModuleForm) (m : ℕ) (n : Name) (k : Owner) → Owned ms exports m n k → (d : ModuleForm) × (slice_get ms m ≡ Some d)
exporting ms _ _ _ (given_owner m d n k at is) = (d, at)
exporting ms _ _ _ (own_owner m d n at none is new) = (d, at)
exporting ms _ _ _ (passed_owner m d n k at none is h) = (d, at)
exporting ms _ _ _ (again_owner m d u a n k at none is b r h) = (d, at)

one_of : (P : Owner → Type 0) (c : Option Cell) → Says c P → c ≢ Some Many → (j k : Owner) → P j → P k → j ≡ k
one_of P None s single j k p q = absurd (s j p)
one_of P (Some (One i)) s single j k p q = s.1 j p ∙ sym (s.1 k q)
one_of P (Some Many) s single j k p q = absurd (single refl)

module _ (ms : List ModuleForm) (own : ℕ) (done : List (Option ModuleTables)) (defs : List (NameMap BindingId)) (whole : IsWhole ms own done defs) where
  module _ (m : ℕ) (d : ModuleForm) (n : Name) (at_d : slice_get ms m ≡ Some d) where
    -- where the name is not given, its owner comes by a use clause, or is the module's own
    abbrev Comes : Owner → Type 0
    Comes k = Owned ms imports m n k ⊎ ((Named ms imports m n → ⊥) × (k ≡ Own m n))

    given_this : (e : ModuleForm) → slice_get ms m ≡ Some e → given_at e n ≡ given_at d n
    given_this e is = ap (λ x. given_at x n) (some_is e d (sym is ∙ at_d))

    by_given : (g k : Owner) → given_at d n ≡ Some g → Owned ms exports m n k → k ≡ g
    by_given g k given (given_owner _ e _ _ at is) = some_is k g (sym is ∙ given_this e at ∙ given)
    by_given g _ given (own_owner _ e _ at none is new) = absurd (none_is g (sym none ∙ given_this e at ∙ given))
    by_given g k given (passed_owner _ e _ _ at none is h) = absurd (none_is g (sym none ∙ given_this e at ∙ given))
    by_given g k given (again_owner _ e u a _ _ at none is b r h) = absurd (none_is g (sym none ∙ given_this e at ∙ given))

    comes : (k : Owner) → given_at d n ≡ None → Owned ms exports m n k → Comes k
    comes k free (given_owner _ e _ _ at is) = absurd (none_is k (sym free ∙ sym (given_this e at) ∙ is))
    comes _ free (own_owner _ e _ at none is new) = inr (new, refl)
    comes k free (passed_owner _ e _ _ at none is h) = inl h
    comes k free (again_owner _ e u a _ _ at none is b r h) = inl (brought_owner m e u a n k at is b h)

    two_comes : (j k : Owner) → Comes j → Comes k → j ≡ k
    two_comes j k (inl p) (inl q) = one_of (Owned ms imports m n) (import_in (slice_get done m) n) (says_here ms own done defs whole m d n at_d) (single_here ms own done defs whole m d n at_d) j k p q
    two_comes j k (inl p) (inr q) = absurd (q.0 (owned_named ms imports m n j p))
    two_comes j k (inr p) (inl q) = absurd (p.0 (owned_named ms imports m n k q))
    two_comes j k (inr p) (inr q) = p.1 ∙ sym q.1

    by_option : (o : Option Owner) → given_at d n ≡ o → (j k : Owner) → Owned ms exports m n j → Owned ms exports m n k → j ≡ k
    by_option (Some g) given j k p q = by_given g j given p ∙ sym (by_given g k given q)
    by_option None free j k p q = two_comes j k (comes j free p) (comes k free q)

  -- an exported name has one owner
  pub exported_one : (m : ℕ) (n : Name) (j k : Owner) → Owned ms exports m n j → Owned ms exports m n k → j ≡ k
  exported_one m n j k p q = let d = exporting ms m n j p in by_option m d.0 n d.1 (given_at d.0 n) refl j k p q

  module _ (m : ℕ) (n : Name) (id : BindingId) where
    cell_to : (c : Option Cell) → Says c (Owned ms exports m n) → maybe_definition defs c ≡ Some id → IsExported ms defs m n id
    cell_to None s e = absurd (none_is id e)
    cell_to (Some (One k)) s e = (k, s.0, e)
    cell_to (Some Many) s e = absurd (none_is id e)

    cell_from : (c : Option Cell) → Says c (Owned ms exports m n) → IsExported ms defs m n id → maybe_definition defs c ≡ Some id
    cell_from None s w = absurd (s w.0 w.1)
    cell_from (Some (One k)) s w = ap (definition defs) (sym (s.1 w.0 w.1)) ∙ w.2
    cell_from (Some Many) s w = absurd (s.4 (exported_one m n s.0 s.1 s.2 s.3))

  module _ (m : ℕ) (within : m < length ms) where
    made : (t : ModuleTables) × (slice_get done m ≡ Some (Some t))
    made = made_has (slice_get done m) (whole.made m within)

    right : IsRight ms m made.0
    right = whole.right.each m made.0 made.1

    says_export : (n : Name) → Says (export_in (slice_get done m) n) (Owned ms exports m n)
    says_export n = subst (λ o. Says (export_in o n) (Owned ms exports m n)) (sym made.1) (right.exported n)

    rows_fold : AreFolded ms → Folds defs (entries (table_of made.0.exports))
    rows_fold folds r is =
        let w = someone (Owned ms exports m r.0) r.1 (subst (λ c. Says c (Owned ms exports m r.0)) (entry_at (table_of made.0.exports) r is) (right.exported r.0)) in
        names_folded ms folds exports m r.0 (owned_named ms exports m r.0 w.0 w.1)

    abbrev here : List (Name × Cell)
    here = entries (table_of made.0.exports)

    row_to : AreFolded ms → (n : Name) (id : BindingId) → IsIn (n, id) (defined_rows defs (map Some here)) → IsExported ms defs m n id
    row_to folds n id is =
        let w = rows_to defs here n id is in
        let at_w = entry_at (table_of made.0.exports) w.0 w.1 in
        subst (λ x. IsExported ms defs m x id) (sym (rows_fold folds w.0 w.1) ∙ sym w.2)
        (cell_to m w.0.0 id (at made.0.exports w.0.0) (right.exported w.0.0) (ap (maybe_definition defs) at_w ∙ w.3))

    row_from : AreFolded ms → (n : Name) (id : BindingId) → IsExported ms defs m n id → IsIn (n, id) (defined_rows defs (map Some here))
    row_from folds n id w = by_cell (at made.0.exports n) refl
      where
        by_cell : (c : Option Cell) → at made.0.exports n ≡ c → IsIn (n, id) (defined_rows defs (map Some here))
        by_cell None is = absurd (none_is id (ap (maybe_definition defs) (sym is) ∙ cell_from m n id (at made.0.exports n) (right.exported n) w))
        by_cell (Some c) is =
            let inside = at_entry (table_of made.0.exports) n c is in
            let defined : cell_definition defs c ≡ Some id = ap (maybe_definition defs) (sym is) ∙ cell_from m n id (at made.0.exports n) (right.exported n) w in
            subst (λ x. IsIn (x, id) (defined_rows defs (map Some here))) (rows_fold folds (n, c) inside) (rows_from defs here (n, c) id inside defined)

    made_exported : AreFolded ms → AreExported ms defs m (defined_rows defs (map Some here))
    made_exported folds = record {
      sorted = sorted_rows defs here (rows_fold folds) (entries_sorted (table_of made.0.exports));
      exact_to = row_to folds;
      exact_from = row_from folds;
    }

    pub are_exported : AreFolded ms → AreExported ms defs m (defined_rows defs (map Some (entries (table_of (exports_in (slice_get done m))))))
    are_exported folds = subst (λ o. AreExported ms defs m (defined_rows defs (map Some (entries (table_of (exports_in o)))))) (sym made.1) (made_exported folds)

    to_within : (n : Name) (id : BindingId) → maybe_definition defs (export_in (slice_get done m) n) ≡ Some id → IsExported ms defs m n id
    to_within n id = cell_to m n id (export_in (slice_get done m) n) (says_export n)

    from_within : (n : Name) (id : BindingId) → IsExported ms defs m n id → maybe_definition defs (export_in (slice_get done m) n) ≡ Some id
    from_within n id = cell_from m n id (export_in (slice_get done m) n) (says_export n)

  -- what is looked up is what is exported
  pub exported_to : (m : ℕ) (n : Name) (id : BindingId) → maybe_definition defs (export_in (slice_get done m) n) ≡ Some id → IsExported ms defs m n id
  exported_to m n id e = elim (slice_get_cases ms m).1 [
    | inl a ↦ to_within m a.1 n id e
    | inr a ↦ absurd (none_is id (sym (ap (λ o. maybe_definition defs (export_in o n)) (slice_get_past done m (subst (λ l. l ≤ m) (sym whole.right.count) a.0))) ∙ e))
  ]

  pub exported_from : (m : ℕ) (n : Name) (id : BindingId) → IsExported ms defs m n id → maybe_definition defs (export_in (slice_get done m) n) ≡ Some id
  exported_from m n id w = let d = exporting ms m n w.0 w.1 in from_within m (slice_get_within ms m d.0 d.1) n id w

  abbrev no_rows : NamedList Cell
  no_rows = []

  no_entry : (r : Name × Cell) → IsIn r (entries (table_of no_rows)) → ⊥
  no_entry r is = none_is r.1 (sym (get-from_entries nat_list_cmp_total no_rows r.0) ∙ entry_at (table_of no_rows) r is)

  -- a module that is not there exports nothing
  outside : (m : ℕ) → length ms ≤ m → AreExported ms defs m (defined_rows defs (map Some (entries (table_of no_rows))))
  outside m past = record {
    sorted = sorted_rows defs (entries (table_of no_rows)) (λ r is. absurd (no_entry r is)) (entries_sorted (table_of no_rows));
    exact_to = λ n id is. let w = rows_to defs (entries (table_of no_rows)) n id is in absurd (no_entry w.0 w.1);
    exact_from = λ n id w. let d = exporting ms m n w.0 w.1 in absurd (omega (arith, slice_get_within ms m d.0 d.1, past));
  }

  pub all_exported : AreFolded ms → (m : ℕ) → AreExported ms defs m (defined_rows defs (map Some (entries (table_of (exports_in (slice_get done m))))))
  all_exported folds m = elim (slice_get_cases ms m).1 [
    | inl a ↦ are_exported m a.1 folds
    | inr a ↦ subst (λ o. AreExported ms defs m (defined_rows defs (map Some (entries (table_of (exports_in o)))))) (sym (slice_get_past done m (subst (λ l. l ≤ m) (sym whole.right.count) a.0))) (outside m a.0)
  ]

push_tail : {X : Type 0} (xs : List X) (x : X) (ys : List X) → (xs ++ x ∷ []) ++ ys ≡ xs ++ x ∷ ys
push_tail [] x ys = refl
push_tail (y ∷ xs) x ys = ap (λ l. y ∷ l) (push_tail xs x ys)

append_nothing : {X : Type 0} (xs : List X) → xs ++ [] ≡ xs
append_nothing [] = refl
append_nothing (x ∷ xs) = ap (λ l. x ∷ l) (append_nothing xs)

module _ (ms : List ModuleForm) (defs : List (NameMap BindingId)) (shown : List (Name × ℕ)) where
  -- what is right for the modules from a place on is right for all behind the list that is there
  abbrev pub Goes : ℕ → List (Name × NamedList BindingId) → Type 0
  Goes i list = (tail : List (Name × NamedList BindingId)) → AllExported ms defs (drop i shown) tail → AllExported ms defs shown (list ++ tail)

  -- one exported module more
  pub shown_step : (i : ℕ) (s : Name × ℕ) (e : Name × NamedList BindingId) (list : List (Name × NamedList BindingId)) → slice_get shown i ≡ Some s
      → e.0 ≡ s.0 → AreExported ms defs s.1 e.1 → Goes i list → Goes (i + 1) (list ++ e ∷ [])
  shown_step i s e list at same are goes tail rest =
      subst (AllExported ms defs shown) (sym (push_tail list e tail))
      (goes (e ∷ tail) (subst (λ l. AllExported ms defs l (e ∷ tail)) (sym (dropped shown i s at)) (same, are, subst (λ j. AllExported ms defs (drop j shown) tail) (sym (one_more i)) rest)))

  pub shown_end : (i : ℕ) (list : List (Name × NamedList BindingId)) → length shown ≤ i → Goes i list → AllExported ms defs shown list
  shown_end i list past goes = subst (AllExported ms defs shown) (append_nothing list) (goes [] (subst (λ l. AllExported ms defs l []) (sym (drop_end shown i past)) refl))

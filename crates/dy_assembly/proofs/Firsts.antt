-- The first value of each number in a list, as a sorted map keeps it when entries come one by one.
use Rattle.std.proofs.Common.{◌≡◌, ℕ, Bool, true, false, cond, if◌then◌else◌, List, [], ◌∷◌, ◌++◌, length, Option, Some, None, is_some, Ordering, Less, Equal, Greater, nat_cmp, is_eq, refl, sym, ap, ◌∙◌}
use Rattle.std.specs.Map.{lookup}
use Rattle.std.specs.BTreeMap.{is_at, insert_entry}
use Rattle.std.specs.Ordering.{match_ordering}
use Rattle.std.specs.Cmp.{nat_cmp_total}
use Rattle.std.specs.FinMap.{FinMap, entries, find, put, from_entries, from_entries_push, entries-insert, get-entries, get-from_entries, len-empty, len-entries, same_map, nat_cmp-IsAntisymmetric}
use Rattle.std.specs.FinMap.Entries.{by_order, find_tied}

equal : (o : Ordering) → is_eq o ≡ true → o ≡ Equal
equal Less e = absurd (cc)
equal Equal e = refl
equal Greater e = absurd (cc)

module _ {X : Type 0} where
  -- the first value of each number
  abbrev pub firsts : List (ℕ × X) → FinMap nat_cmp X
  firsts rows = from_entries {R = nat_cmp} rows

  put_at : (o : Ordering) (k : ℕ) (v : X) (e : ℕ × X) (es more after : List (ℕ × X)) → more ≡ after
      → match_ordering o ((k, v) ∷ e ∷ es) ((e.0, v) ∷ es) (e ∷ more) ≡ by_order o ((k, v) ∷ e ∷ es) ((e.0, v) ∷ es) (e ∷ after)
  put_at Less k v e es more after is = refl
  put_at Equal k v e es more after is = refl
  put_at Greater k v e es more after is = ap (λ (l : List (ℕ × X)). e ∷ l) is

  same_put : (es : List (ℕ × X)) (k : ℕ) (v : X) → insert_entry nat_cmp es k v ≡ put nat_cmp k v es
  same_put [] k v = refl
  same_put (e ∷ es) k v = put_at (nat_cmp k e.0) k v e es (insert_entry nat_cmp es k v) (put nat_cmp k v es) (same_put es k v)

  same_find : (q : ℕ) (es : List (ℕ × X)) → lookup (is_at (nat_cmp q)) es ≡ find nat_cmp q es
  same_find q [] = refl
  same_find q (e ∷ es) = ap (cond (is_eq (nat_cmp q e.0)) (Some e.1)) (same_find q es)

  -- what a list has at a number
  at_firsts : (rows : List (ℕ × X)) (k : ℕ) → lookup (is_at (nat_cmp k)) (entries (firsts rows)) ≡ find nat_cmp k rows
  at_firsts rows k =
      same_find k (entries (firsts rows))
      ∙ sym (get-entries (firsts rows) k)
      ∙ get-from_entries nat_cmp_total rows k

  not_none : (v : X) (o : Option X) → o ≡ Some v → o ≡ None → ⊥
  not_none v o is none = cc

  abbrev first_or : Option X → Bool → X → Option X
  first_or (Some v) tied row = Some v
  first_or None tied row = cond tied (Some row) None

  or_at : (b : Bool) (v : X) (o : Option X) (tied : Bool) (row : X)
      → cond b (Some v) (first_or o tied row) ≡ first_or (cond b (Some v) o) tied row
  or_at true v o tied row = refl
  or_at false v o tied row = refl

  -- one more value counts only where its number has none
  find_more : (rows : List (ℕ × X)) (k : ℕ) (row : X) (q : ℕ)
      → find nat_cmp q (rows ++ (k, row) ∷ []) ≡ first_or (find nat_cmp q rows) (is_eq (nat_cmp q k)) row
  find_more [] k row q = refl
  find_more (e ∷ rows) k row q =
      ap (cond (is_eq (nat_cmp q e.0)) (Some e.1)) (find_more rows k row q)
      ∙ or_at (is_eq (nat_cmp q e.0)) e.1 (find nat_cmp q rows) (is_eq (nat_cmp q k)) row

  stays : (o : Option X) (tied : Bool) (row : X) → (tied ≡ true → o ≡ None → ⊥) → first_or o tied row ≡ o
  stays (Some v) tied row has = refl
  stays None true row has = absurd (has refl refl)
  stays None false row has = refl

  find_same : (rows : List (ℕ × X)) (k : ℕ) (row v : X) → find nat_cmp k rows ≡ Some v → (q : ℕ)
      → find nat_cmp q (rows ++ (k, row) ∷ []) ≡ find nat_cmp q rows
  find_same rows k row v is q =
      find_more rows k row q
      ∙ stays (find nat_cmp q rows) (is_eq (nat_cmp q k)) row
      (λ tied none. not_none v (find nat_cmp k rows) is (find_tied nat_cmp nat_cmp_total q k (equal (nat_cmp q k) tied) rows ∙ none))

  firsts_same : (rows : List (ℕ × X)) (k : ℕ) (row v : X) → find nat_cmp k rows ≡ Some v → firsts (rows ++ (k, row) ∷ []) ≡ firsts rows
  firsts_same rows k row v is =
      same_map nat_cmp_total nat_cmp-IsAntisymmetric (firsts (rows ++ (k, row) ∷ [])) (firsts rows) (λ q.
      get-from_entries nat_cmp_total (rows ++ (k, row) ∷ []) q
      ∙ find_same rows k row v is q
      ∙ sym (get-from_entries nat_cmp_total rows q))

  firsts_more : (rows : List (ℕ × X)) (k : ℕ) (row : X) → find nat_cmp k rows ≡ None
      → insert_entry nat_cmp (entries (firsts rows)) k row ≡ entries (firsts (rows ++ (k, row) ∷ []))
  firsts_more rows k row none =
      same_put (entries (firsts rows)) k row
      ∙ sym (entries-insert nat_cmp_total (firsts rows) k row)
      ∙ ap entries (sym (from_entries_push nat_cmp_total nat_cmp-IsAntisymmetric rows k row none))

  kept_by : (rows : List (ℕ × X)) (k : ℕ) (row : X) (o : Option X) → find nat_cmp k rows ≡ o
      → (if is_some o then entries (firsts rows) else insert_entry nat_cmp (entries (firsts rows)) k row) ≡ entries (firsts (rows ++ (k, row) ∷ []))
  kept_by rows k row (Some v) is = ap entries (sym (firsts_same rows k row v is))
  kept_by rows k row None is = firsts_more rows k row is

  -- A number that has a value keeps it.
  pub kept_is : (rows : List (ℕ × X)) (k : ℕ) (row : X)
      → (if is_some (lookup (is_at (nat_cmp k)) (entries (firsts rows))) then entries (firsts rows) else insert_entry nat_cmp (entries (firsts rows)) k row)
      ≡ entries (firsts (rows ++ (k, row) ∷ []))
  kept_is rows k row =
      ap (λ (o : Option X). if is_some o then entries (firsts rows) else insert_entry nat_cmp (entries (firsts rows)) k row) (at_firsts rows k)
      ∙ kept_by rows k row (find nat_cmp k rows) refl

  no_entries : (es : List (ℕ × X)) → length es ≡ 0 → es ≡ []
  no_entries [] is = refl
  no_entries (e ∷ es) is = absurd (cc)

  pub none_first : entries (firsts []) ≡ []
  none_first = no_entries (entries (firsts [])) (sym (len-entries (firsts [])) ∙ len-empty nat_cmp X)

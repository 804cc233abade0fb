-- Entries in rising order, against look-ups.
use Rattle.std.proofs.Common.{◌≡◌, ◌⊎◌, inl, inr, Bool, true, false, true≢false, cond, ◌&&◌, [], ◌∷◌, map, Option, Some, None, Ordering, Less, Equal, Greater, nat_cmp, is_eq, refl, sym, ap, subst, ◌∙◌}
use Rattle.std.specs.Prelude.{T}
use Rattle.std.specs.Ordering.{is_lt}
use Rattle.std.specs.Str.{bytes_eq}
use Rattle.std.specs.Cmp.Lexicographic.{slice_cmp, texts_ties}
use Rattle.std.specs.FinMap.{find, get, entries, entries_sorted, get-entries, is_sorted}
use Rattle.std.specs.FinMap.Entries.{below_all}
use Rattle.dy_base.specs.Tables.{NameMap, NamedList, by_bytes, table_of}
use Rattle.dy_modules.specs.declared.owner.Owner.{Owner}
use Rattle.dy_modules.specs.declared.table.Cell.{Cell}
use Rattle.dy_modules.specs.declared.table.Cell.TheVariants.{One, Many}
use Rattle.dy_modules.specs.Clauses.{Name, IsIn}
use Rattle.dy_modules.specs.Cells.{at}
use Rattle.dy_modules.proofs.Rows.{some_is, none_is, same_names, itself}
use Rattle.dy_library_form.specs.Told.{name_at_two, name_or, first_of_two}

first_true : (a b : Bool) → T (a && b) → T a
first_true true b p = tt
first_true false b p = p

second_true : (a b : Bool) → T (a && b) → T b
second_true true b p = p
second_true false b p = absurd p

less_not_equal : (o : Ordering) → T (is_lt o) → is_eq o ≡ true → ⊥
less_not_equal Less p e = true≢false (sym e)
less_not_equal Equal p e = p
less_not_equal Greater p e = p

module _ {V : Type 0} where
  below_at : (x : Name) (es : NamedList V) (r : Name × V) → T (below_all (slice_cmp nat_cmp) x es) → IsIn r es → T (is_lt (slice_cmp nat_cmp x r.0))
  below_at x [] r h is = absurd is
  below_at x (e ∷ es) r h (inl same) = subst (λ (z : Name × V). T (is_lt (slice_cmp nat_cmp x z.0))) (sym same) (first_true _ _ h)
  below_at x (e ∷ es) r h (inr is) = below_at x es r (second_true _ _ h) is

  later : (x y : Name) (v w : V) (rest : Option V) → T (is_lt (slice_cmp nat_cmp x y)) → (b : Bool) → is_eq (slice_cmp nat_cmp y x) ≡ b → rest ≡ Some w → cond b (Some v) rest ≡ Some w
  later x y v w rest lt true is h = absurd (less_not_equal (slice_cmp nat_cmp x y) lt (sym (texts_ties x y) ∙ ap (bytes_eq x) (same_names y x (texts_ties y x ∙ is)) ∙ itself x))
  later x y v w rest lt false is h = h

  pub find_sorted : (es : NamedList V) → T (is_sorted (slice_cmp nat_cmp) es) → (r : Name × V) → IsIn r es → find (slice_cmp nat_cmp) r.0 es ≡ Some r.1
  find_sorted [] s r is = absurd is
  find_sorted (e ∷ es) s r (inl same) = subst (λ (x : Name × V). find (slice_cmp nat_cmp) x.0 (e ∷ es) ≡ Some x.1) (sym same) (ap (λ b. cond b (Some e.1) (find (slice_cmp nat_cmp) e.0 es)) (sym (texts_ties e.0 e.0) ∙ itself e.0))
  find_sorted (e ∷ es) s r (inr is) = later e.0 r.0 e.1 r.1 _ (below_at e.0 es r (first_true _ _ s) is) (is_eq (slice_cmp nat_cmp r.0 e.0)) refl (find_sorted es (second_true _ _ s) r is)

  pub found_in : (a : Name) (v : V) (es : NamedList V) → find (slice_cmp nat_cmp) a es ≡ Some v → IsIn (a, v) es
  found_in a v [] h = absurd (none_is v h)
  found_in a v (e ∷ es) h = by_case (is_eq (slice_cmp nat_cmp a e.0)) refl h (found_in a v es)
    where
      by_case : (b : Bool) → is_eq (slice_cmp nat_cmp a e.0) ≡ b → cond b (Some e.1) (find (slice_cmp nat_cmp) a es) ≡ Some v
          → (find (slice_cmp nat_cmp) a es ≡ Some v → IsIn (a, v) es) → IsIn (a, v) (e ∷ es)
      by_case true is h rest = inl (λ i. (same_names a e.0 (texts_ties a e.0 ∙ is) i, sym (some_is e.1 v h) i))
      by_case false is h rest = inr (rest h)

  pub entry_at : (t : NameMap V) (r : Name × V) → IsIn r (entries t) → get t r.0 ≡ Some r.1
  entry_at t r is = get-entries t r.0 ∙ find_sorted (entries t) (entries_sorted t) r is

  pub at_entry : (t : NameMap V) (a : Name) (v : V) → get t a ≡ Some v → IsIn (a, v) (entries t)
  at_entry t a v is = found_in a v (entries t) (sym (get-entries t a) ∙ is)

-- the first of two owners among rows in rising order
abbrev IsLeast : NamedList Cell → Option Name → Type 0
IsLeast es None = (m : Name) → IsIn (m, Many) es → ⊥
IsLeast es (Some n) = IsIn (n, Many) es × ((m : Name) → IsIn (m, Many) es → (m ≡ n) ⊎ T (is_lt (by_bytes n m)))

not_many : (k : Owner) → (◌≡◌ {A = Cell} Many (One k)) → ⊥
not_many k e = cc

least_in : (es : NamedList Cell) → T (is_sorted (slice_cmp nat_cmp) es) → IsLeast es (first_of_two (map Some es))
least_in [] s = λ m is. is
least_in (e ∷ es) s = by_cell e.1 refl (first_of_two (map Some es)) (least_in es (second_true _ _ s))
  where
    with_one : (k : Owner) → e.1 ≡ One k → (o : Option Name) → IsLeast es o → IsLeast (e ∷ es) o
    with_one k is None least = λ m h. elim h [ inl same ↦ not_many k (ap (λ (x : Name × Cell). x.1) same ∙ is) | inr h ↦ least m h ]
    with_one k is (Some n) least = (inr least.0, λ m h. elim h [ inl same ↦ absurd (not_many k (ap (λ (x : Name × Cell). x.1) same ∙ is)) | inr h ↦ least.1 m h ])

    by_cell : (c : Cell) → e.1 ≡ c → (o : Option Name) → IsLeast es o → IsLeast (e ∷ es) (name_or (name_at_two e.0 c) o)
    by_cell (One k) is o least = with_one k is o least
    by_cell Many is o least = (
      inl (λ i. (e.0, sym is i)),
      λ m h. elim h [ inl same ↦ inl (ap (λ (x : Name × Cell). x.0) same) | inr h ↦ inr (below_at e.0 es (m, Many) (first_true _ _ s) h) ],
    )

-- the same of a table
abbrev pub IsLeastAt : NamedList Cell → Option Name → Type 0
IsLeastAt t None = (m : Name) → at t m ≡ Some Many → ⊥
IsLeastAt t (Some n) = (at t n ≡ Some Many) × ((m : Name) → at t m ≡ Some Many → (m ≡ n) ⊎ T (is_lt (by_bytes n m)))

pub least_at : (t : NamedList Cell) → IsLeastAt t (first_of_two (map Some (entries (table_of t))))
least_at t = by_name (first_of_two (map Some (entries (table_of t)))) (least_in (entries (table_of t)) (entries_sorted (table_of t)))
  where
    by_name : (o : Option Name) → IsLeast (entries (table_of t)) o → IsLeastAt t o
    by_name None least = λ m is. least m (at_entry (table_of t) m Many is)
    by_name (Some n) least = (entry_at (table_of t) (n, Many) least.0, λ m is. least.1 m (at_entry (table_of t) m Many is))

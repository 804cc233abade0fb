-- Rows of tables, one by one, and what a look-up finds among them.
use Rattle.std.proofs.Common.{◌≡◌, ◌⊎◌, inl, inr, ℕ, zero, suc, ◌+◌, ◌≤◌, Bool, true, false, true≢false, cond, is_eq, List, [], ◌∷◌, length, take, drop, Option, Some, None, slice_get, nat_cmp, refl, sym, ap, subst, ◌∙◌, arith}
use Rattle.std.specs.List.{IsDistinct, AllByRecursion}
use Rattle.std.specs.Str.{bytes_eq}
use Rattle.std.specs.Cmp.Lexicographic.{slice_cmp, nat_list_cmp_total, texts_ties, bytes_decides}
use Rattle.std.specs.FinMap.{find, get, get-from_entries}
use Rattle.dy_base.specs.Tables.{NamedList, names, table_of}
use Rattle.dy_modules.specs.declared.owner.Owner.{Owner}
use Rattle.dy_modules.specs.declared.table.Cell.{Cell}
use Rattle.dy_modules.specs.declared.table.Cell.TheVariants.{One, Many}
use Rattle.dy_modules.specs.Clauses.{Name, IsIn}
use Rattle.dy_modules.specs.Cells.{at, after_one, after_all, over, over_one}

pub some_is : {A : Type 0} (x y : A) → (◌≡◌ {A = Option A} (Some x) (Some y)) → x ≡ y
some_is x y e = cc

pub none_is : {A : Type 0} (x : A) → (◌≡◌ {A = Option A} None (Some x)) → ⊥
none_is x e = cc

pub one_more : (i : ℕ) → suc i ≡ i + 1
one_more i = omega arith

pub same_names : (n m : Name) → bytes_eq n m ≡ true → n ≡ m
same_names n m e = (bytes_decides n m).0 e

pub itself : (n : Name) → bytes_eq n n ≡ true
itself n = (bytes_decides n n).1 refl

apart : (n m : Name) (b : Bool) → bytes_eq m n ≡ b → bytes_eq n m ≡ false → b ≡ false
apart n m true is never = absurd (true≢false (sym (itself n) ∙ ap (bytes_eq n) (sym (same_names m n is)) ∙ never))
apart n m false is never = refl

-- one row more
step_suc : {X : Type 0} (test : X → Bool) (cell : X → Cell) (xs : List X) (i : ℕ) (c : Option Cell)
    → after_all test cell (drop (suc i) xs) (after_one test cell (slice_get xs i) c) ≡ after_all test cell (drop i xs) c
step_suc test cell [] zero c = refl
step_suc test cell [] (suc i) c = refl
step_suc test cell (x ∷ xs) zero c = refl
step_suc test cell (x ∷ xs) (suc i) c = step_suc test cell xs i c

pub step_all : {X : Type 0} (test : X → Bool) (cell : X → Cell) (xs : List X) (i : ℕ) (c : Option Cell)
    → after_all test cell (drop (i + 1) xs) (after_one test cell (slice_get xs i) c) ≡ after_all test cell (drop i xs) c
step_all test cell xs i c = ap (λ j. after_all test cell (drop j xs) (after_one test cell (slice_get xs i) c)) (sym (one_more i)) ∙ step_suc test cell xs i c

-- a name that differs from all names of the rows is not found
absent : {V : Type 0} (a : Name) (es : NamedList V) → AllByRecursion (λ y. bytes_eq a y ≡ false) (names es) → find (slice_cmp nat_cmp) a es ≡ None
absent a [] h = refl
absent a (e ∷ es) h = ap (λ b. cond b (Some e.1) (find (slice_cmp nat_cmp) a es)) (sym (texts_ties a e.0) ∙ h.0) ∙ absent a es h.1

over_case : (n : Name) (g : Name × Owner) (gs : NamedList Owner) (c : Option Cell) → AllByRecursion (λ y. bytes_eq g.0 y ≡ false) (names gs) → (b : Bool) → bytes_eq n g.0 ≡ b
    → over (find (slice_cmp nat_cmp) n gs) (cond b (Some (One g.1)) c) ≡ over (cond b (Some g.1) (find (slice_cmp nat_cmp) n gs)) c
over_case n g gs c new true is = ap (λ o. over o (Some (One g.1))) (ap (λ m. find (slice_cmp nat_cmp) m gs) (same_names n g.0 is) ∙ absent g.0 gs new)
over_case n g gs c new false is = refl

over_suc : (gs : NamedList Owner) → IsDistinct bytes_eq (names gs) → (i : ℕ) (n : Name) (c : Option Cell)
    → over (find (slice_cmp nat_cmp) n (drop (suc i) gs)) (over_one n (slice_get gs i) c) ≡ over (find (slice_cmp nat_cmp) n (drop i gs)) c
unfolding IsDistinct
over_suc [] d zero n c = refl
over_suc [] d (suc i) n c = refl
over_suc (g ∷ gs) d zero n c = over_case n g gs c d.0 (bytes_eq n g.0) refl ∙ ap (λ b. over (cond b (Some g.1) (find (slice_cmp nat_cmp) n gs)) c) (texts_ties n g.0)
over_suc (g ∷ gs) d (suc i) n c = over_suc gs d.1 i n c

pub step_over : (gs : NamedList Owner) → IsDistinct bytes_eq (names gs) → (i : ℕ) (n : Name) (c : Option Cell)
    → over (find (slice_cmp nat_cmp) n (drop (i + 1) gs)) (over_one n (slice_get gs i) c) ≡ over (find (slice_cmp nat_cmp) n (drop i gs)) c
step_over gs d i n c = ap (λ j. over (find (slice_cmp nat_cmp) n (drop j gs)) (over_one n (slice_get gs i) c)) (sym (one_more i)) ∙ over_suc gs d i n c

module _ {V : Type 0} where
  all_at : (P : Name → Type 0) (es : NamedList V) (r : Name × V) → AllByRecursion P (names es) → IsIn r es → P r.0
  all_at P [] r h at = absurd at
  all_at P (e ∷ es) r h (inl is) = subst (λ (x : Name × V). P x.0) (sym is) h.0
  all_at P (e ∷ es) r h (inr at) = all_at P es r h.1 at

  -- what stands in the rows is found
  find_row : (es : NamedList V) → IsDistinct bytes_eq (names es) → (r : Name × V) → IsIn r es → find (slice_cmp nat_cmp) r.0 es ≡ Some r.1
  unfolding IsDistinct
  find_row [] d r at = absurd at
  find_row (e ∷ es) d r (inl is) = subst (λ (x : Name × V). find (slice_cmp nat_cmp) x.0 (e ∷ es) ≡ Some x.1) (sym is) (ap (λ b. cond b (Some e.1) (find (slice_cmp nat_cmp) e.0 es)) (sym (texts_ties e.0 e.0) ∙ itself e.0))
  find_row (e ∷ es) d r (inr at) =
      ap (λ b. cond b (Some e.1) (find (slice_cmp nat_cmp) r.0 es)) (sym (texts_ties r.0 e.0) ∙ apart e.0 r.0 (bytes_eq r.0 e.0) refl (all_at (λ y. bytes_eq e.0 y ≡ false) es r d.0 at))
      ∙ find_row es d.1 r at

  row_found : (a : Name) (v : V) (es : NamedList V) → find (slice_cmp nat_cmp) a es ≡ Some v → IsIn (a, v) es
  row_found a v [] h = absurd (none_is v h)
  row_found a v (e ∷ es) h = by_case (is_eq (slice_cmp nat_cmp a e.0)) refl h (row_found a v es)
    where
      by_case : (b : Bool) → is_eq (slice_cmp nat_cmp a e.0) ≡ b → cond b (Some e.1) (find (slice_cmp nat_cmp) a es) ≡ Some v
          → (find (slice_cmp nat_cmp) a es ≡ Some v → IsIn (a, v) es) → IsIn (a, v) (e ∷ es)
      by_case true is h rest = inl (λ i. (same_names a e.0 (texts_ties a e.0 ∙ is) i, sym (some_is e.1 v h) i))
      by_case false is h rest = inr (rest h)

  pub row_at : (es : NamedList V) → IsDistinct bytes_eq (names es) → (r : Name × V) → IsIn r es → get (table_of es) r.0 ≡ Some r.1
  row_at es d r at = get-from_entries nat_list_cmp_total es r.0 ∙ find_row es d r at

  pub at_row : (es : NamedList V) (a : Name) (v : V) → get (table_of es) a ≡ Some v → IsIn (a, v) es
  at_row es a v h = row_found a v es (sym (get-from_entries nat_list_cmp_total es a) ∙ h)

-- a table without rows has nothing
pub at_none : (n : Name) → at [] n ≡ None
at_none n = let rows : NamedList Cell = [] in get-from_entries nat_list_cmp_total rows n

-- no row is left behind the last
pub drop_end : {X : Type 0} (xs : List X) (i : ℕ) → length xs ≤ i → drop i xs ≡ []
drop_end [] zero h = refl
drop_end [] (suc i) h = refl
drop_end (x ∷ xs) zero h = absurd (omega (arith, h))
drop_end (x ∷ xs) (suc i) h = drop_end xs i (omega (arith, h))

pub take_end : {X : Type 0} (xs : List X) (i : ℕ) → length xs ≤ i → take i xs ≡ xs
take_end [] zero h = refl
take_end [] (suc i) h = refl
take_end (x ∷ xs) zero h = absurd (omega (arith, h))
take_end (x ∷ xs) (suc i) h = ap (λ l. x ∷ l) (take_end xs i (omega (arith, h)))

pub dropped : {X : Type 0} (xs : List X) (i : ℕ) (x : X) → slice_get xs i ≡ Some x → drop i xs ≡ x ∷ drop (suc i) xs
dropped [] i x at = absurd (none_is x at)
dropped (y ∷ xs) zero x at = ap (λ z. z ∷ xs) (some_is y x at)
dropped (y ∷ xs) (suc i) x at = dropped xs i x at

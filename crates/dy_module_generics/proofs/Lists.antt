-- Lists of which each item is such, and lists by name of which each value is.
use Rattle.std.proofs.Common.{◌≡◌, inl, inr, ℕ, zero, suc, Bool, true, false, if◌then◌else◌, List, [], ◌∷◌, ◌++◌, length, drop, replicate, Ordering, Less, Equal, Greater, sym, ap, ◌∙◌, subst, arith}
use Rattle.std.specs.Str.{bytes_eq}
use Rattle.std.specs.Cmp.Lexicographic.{slice_cmp, nat_list_cmp_total}
use Rattle.std.specs.Ordering.{nat_cmp}
use Rattle.std.specs.FinMap.{entries, put, len-entries, len-empty, entries-insert}
use Rattle.std.specs.FinMap.Entries.{by_order}
use Rattle.indexmap.specs.IndexMap.{insert_entry}
use Rattle.dy_base.specs.Tables.{NamedList, table_of}
use Rattle.dy_code.specs.Validity.{Every}
use Rattle.dy_modules.specs.Clauses.{Name, IsIn}

-- lists of which each item is such
pub every_both : {A : Type 0} (P : A → Type 0) (xs ys : List A) → Every P xs → Every P ys → Every P (xs ++ ys)
every_both P [] ys some others = others
every_both P (x ∷ xs) ys some others = (some.0, every_both P xs ys some.1 others)

pub every_dropped : {A : Type 0} (P : A → Type 0) (n : ℕ) (xs : List A) → Every P xs → Every P (drop n xs)
every_dropped P zero xs all = all
every_dropped P (suc n) [] all = tt
every_dropped P (suc n) (x ∷ xs) all = every_dropped P n xs all.1

pub every_same : {A : Type 0} (P : A → Type 0) (n : ℕ) (x : A) → P x → Every P (replicate n x)
every_same P zero x one = tt
every_same P (suc n) x one = (one, every_same P n x one)

-- lists by name of which each value is such
module _ {V : Type 0} (P : V → Type 0) where
  abbrev pub Rows : NamedList V → Type 0
  Rows list = Every (λ (row : Name × V). P row.1) list

  pub inserted : (list : NamedList V) (name : Name) (v : V) → P v → Rows list → Rows (insert_entry bytes_eq list name v)
  inserted [] name v one all = (one, tt)
  inserted (e ∷ list) name v one all = step (bytes_eq name e.0) (inserted list name v one all.1)
    where
      step : (b : Bool) → Rows (insert_entry bytes_eq list name v) → Rows (if b then (e.0, v) ∷ list else e ∷ insert_entry bytes_eq list name v)
      step true later = (one, all.1)
      step false later = (all.0, later)

  pub at_name : (list : NamedList V) (name : Name) (v : V) → IsIn (name, v) list → Rows list → P v
  at_name [] name v is all = absurd is
  at_name (e ∷ list) name v (inl same) all = subst P (sym (ap (λ (r : Name × V). r.1) same)) all.0
  at_name (e ∷ list) name v (inr is) all = at_name list name v is all.1

  put_in : (list : NamedList V) (name : Name) (v : V) → P v → Rows list → Rows (put (slice_cmp nat_cmp) name v list)
  put_in [] name v one all = (one, tt)
  put_in (e ∷ list) name v one all = step (slice_cmp nat_cmp name e.0) (put_in list name v one all.1)
    where
      step : (o : Ordering) → Rows (put (slice_cmp nat_cmp) name v list) → Rows (by_order o ((name, v) ∷ e ∷ list) ((e.0, v) ∷ list) (e ∷ put (slice_cmp nat_cmp) name v list))
      step Less later = (one, all)
      step Equal later = (one, all.1)
      step Greater later = (all.0, later)

  none : (list : NamedList V) → length list ≡ 0 → Rows list
  none [] few = tt
  none (e ∷ list) few = absurd (omega (arith, few))

  pub sorted : (list : NamedList V) → Rows list → Rows (entries (table_of list))
  sorted [] all = none (entries (table_of [])) (sym (len-entries (table_of [])) ∙ len-empty (slice_cmp nat_cmp) V)
  sorted (e ∷ list) all = subst Rows (sym (entries-insert nat_list_cmp_total (table_of list) e.0 e.1)) (put_in (entries (table_of list)) e.0 e.1 all.0 (sorted list all.1))

pub rows_mapped : {V : Type 0} (P Q : V → Type 0) → ((v : V) → P v → Q v) → (list : NamedList V) → Rows P list → Rows Q list
rows_mapped P Q one [] all = tt
rows_mapped P Q one (row ∷ list) all = (one row.1 all.0, rows_mapped P Q one list all.1)

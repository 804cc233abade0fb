-- What the modules of a library give names: names of their own, and what the libraries export that it
-- uses.
use Rattle.std.proofs.Common.{◌≡◌, ◌⊎◌, inl, inr, ℕ, zero, suc, ◌+◌, ◌<◌, ◌≤◌, List, [], ◌∷◌, ◌++◌, length, map, drop, replicate, Some, slice_get, refl, sym, subst, arith}
use Rattle.std.specs.Str.{bytes_eq}
use Rattle.std.proofs.lemmas.Option.{slice_get_within}
use Rattle.indexmap.specs.IndexMap.{insert_entry}
use Rattle.dy_base.specs.Tables.{NamedList}
use Rattle.dy_base.specs.declared.exports.Exports.{Exports}
use Rattle.dy_base.specs.declared.ids.BindingId.{BindingId}
use Rattle.dy_term.specs.declared.rows.LibraryRow.{LibraryRow}
use Rattle.dy_code.specs.Validity.{Every}
use Rattle.dy_module_forms.specs.declared.written.Clause.{Clause}
use Rattle.dy_module_forms.specs.declared.written.Clause.TheVariants as clauses
use Rattle.dy_module_forms.specs.declared.written.Placed.{Placed}
use Rattle.dy_module_forms.specs.declared.written.Form.{Form}
use Rattle.dy_modules.specs.declared.owner.Owner.{Owner}
use Rattle.dy_modules.specs.declared.owner.Owner.TheVariants.{Outside, Own}
use Rattle.dy_modules.specs.declared.clause.ModuleForm.{ModuleForm}
use Rattle.dy_modules.specs.Clauses.{Name, given_at}
use Rattle.dy_modules.proofs.Rows.{some_is, none_is, at_row}
use Rattle.dy_module_numbers.specs.Numbers.{Row, with_outside, given_form, outside_form, seen_rows, exported_rows, behind_own}
use Rattle.dy_module_numbers.specs.Modules.{with_created, created_by, created, module_forms}
use Rattle.dy_module_generics.specs.Behind.{IsThere, NamesAreThere, ExportsAreThere}
use Rattle.dy_module_generics.proofs.Lists.{every_both, every_dropped, every_same, Rows, inserted, at_name, rows_mapped}

-- what the library's own modules give
abbrev IsOwnOf : ℕ → Owner → Type 0
IsOwnOf m k = (n : Name) × (k ≡ Own m n)

all_created : (m : ℕ) (given : NamedList Owner) (names : List Name) → Rows (IsOwnOf m) given → Rows (IsOwnOf m) (with_created m given names)
all_created m given [] all = all
all_created m given (name ∷ names) all = all_created m (insert_entry bytes_eq given name (Own m name)) names (inserted (IsOwnOf m) given name (Own m name) (name, refl) all)

created_here : (m : ℕ) (given : NamedList Owner) (clause : Clause) → Rows (IsOwnOf m) given → Rows (IsOwnOf m) (created_by m given clause)
created_here m given (clauses.Create list) all = all_created m given list all
created_here m given (clauses.Export list) all = all
created_here m given (clauses.Use name options) all = all

created_all : (m : ℕ) (given : NamedList Owner) (list : List Placed) → Rows (IsOwnOf m) given → Rows (IsOwnOf m) (created m given list)
created_all m given [] all = all
created_all m given (clause ∷ rest) all = created_all m (created_by m given clause.clause) rest (created_here m given clause.clause all)

-- each module of a list, whose first has this number
abbrev Each : (ℕ → ModuleForm → Type 0) → ℕ → List ModuleForm → Type 0
Each Q m [] = Unit {0}
Each Q m (d ∷ ds) = Q m d × Each Q (m + 1) ds

each_at : (Q : ℕ → ModuleForm → Type 0) (m : ℕ) (ds : List ModuleForm) → Each Q m ds → (i : ℕ) (d : ModuleForm) → slice_get ds i ≡ Some d → Q (m + i) d
each_at Q m [] all i d e = absurd (none_is d e)
each_at Q m (x ∷ ds) all zero d e = let place : m ≡ m + 0 = omega arith in subst (λ k. Q k d) place (subst (Q m) (some_is x d e) all.0)
each_at Q m (x ∷ ds) all (suc i) d e = let place : m + 1 + i ≡ m + suc i = omega arith in subst (λ k. Q k d) place (each_at Q (m + 1) ds all.1 i d e)

-- all modules of a library by number
abbrev pub modules_of : List Name → NamedList ℕ → ℕ → List Form → List Exports → List ModuleForm
modules_of own imported nothing forms used =
    module_forms own imported nothing 0 forms ++ drop (length forms) (behind_own (replicate (length forms) (given_form [])) used)

-- The libraries in front: what the library uses is there.
module _ (before : List LibraryRow) where
  -- a module of a library that it uses
  abbrev RowKnown : Row → Type 0
  RowKnown row = NamesAreThere before row.1

  all_seen : (used : List Exports) → ExportsAreThere before used → Every RowKnown (seen_rows used)
  all_seen [] all = tt
  all_seen (library ∷ used) all = every_both RowKnown library.seen (seen_rows used) all.0.1 (all_seen used all.1)

  all_exported : (used : List Exports) → ExportsAreThere before used → Every RowKnown (exported_rows used)
  all_exported [] all = tt
  all_exported (library ∷ used) all = every_both RowKnown library.modules (exported_rows used) all.0.0 (all_exported used all.1)

  -- an owner from another library
  abbrev IsFromOutside : Owner → Type 0
  IsFromOutside k = (id : BindingId) × (k ≡ Outside id) × IsThere before id

  abbrev FromOutside : ModuleForm → Type 0
  FromOutside d = Rows IsFromOutside d.given

  outside_given : (given : NamedList Owner) (rows : NamedList BindingId) → Rows IsFromOutside given → Rows (IsThere before) rows → Rows IsFromOutside (with_outside given rows)
  outside_given given [] some all = some
  outside_given given (row ∷ rows) some all = outside_given (insert_entry bytes_eq given row.0 (Outside row.1)) rows (inserted IsFromOutside given row.0 (Outside row.1) (row.1, refl, all.0) some) all.1

  outside_forms : (rows : List Row) → Every RowKnown rows → Every FromOutside (map outside_form rows)
  outside_forms [] all = tt
  outside_forms (row ∷ rows) all = (outside_given [] row.1 tt all.0, outside_forms rows all.1)

  all_behind : (n : ℕ) (used : List Exports) → ExportsAreThere before used → Every FromOutside (behind_own (replicate n (given_form [])) used)
  all_behind n used all =
      let empty = replicate n (given_form []) in
      let seen = map outside_form (seen_rows used) in
      let shown = map outside_form (exported_rows used) in
      every_both FromOutside ((empty ++ seen) ++ shown) (given_form [] ∷ [])
      (every_both FromOutside (empty ++ seen) shown
      (every_both FromOutside empty seen (every_same FromOutside n (given_form []) tt) (outside_forms (seen_rows used) (all_seen used all)))
      (outside_forms (exported_rows used) (all_exported used all))) (tt, tt)

  -- what its modules are given by
  abbrev IsKnownAt : ℕ → Owner → Type 0
  IsKnownAt m k = IsOwnOf m k ⊎ IsFromOutside k

  abbrev GivesKnown : ℕ → ModuleForm → Type 0
  GivesKnown m d = Rows (IsKnownAt m) d.given

  each_behind : (m : ℕ) (ds : List ModuleForm) → Every FromOutside ds → Each GivesKnown m ds
  each_behind m [] all = tt
  each_behind m (d ∷ ds) all = (rows_mapped IsFromOutside (IsKnownAt m) (λ k h. inr h) d.given all.0, each_behind (m + 1) ds all.1)

  module _ (own : List Name) (imported : NamedList ℕ) (nothing : ℕ) where
    each_own : (m : ℕ) (forms : List Form) (others : List ModuleForm) → Every FromOutside others → Each GivesKnown m (module_forms own imported nothing m forms ++ others)
    each_own m [] others all = each_behind m others all
    each_own m (form ∷ forms) others all = (rows_mapped (IsOwnOf m) (IsKnownAt m) (λ k h. inl h) (created m [] form.clauses) (created_all m [] form.clauses tt), each_own (m + 1) forms others all)

  -- An owner that these modules know: from outside a generic function that is there, or none; or a
  -- name of one of them.
  abbrev pub IsKnown : List ModuleForm → Owner → Type 0
  IsKnown ms (Outside id) = IsThere before id
  IsKnown ms (Own c a) = c < length ms

  known_by : (ms : List ModuleForm) (m : ℕ) (k : Owner) → m < length ms → IsKnownAt m k → IsKnown ms k
  known_by ms m k within (inl h) = subst (IsKnown ms) (sym h.1) within
  known_by ms m k within (inr h) = subst (IsKnown ms) (sym h.1) h.2

  pub given_known : (own : List Name) (imported : NamedList ℕ) (nothing : ℕ) (forms : List Form) (used : List Exports) → ExportsAreThere before used
      → (m : ℕ) (d : ModuleForm) (n : Name) (k : Owner) → slice_get (modules_of own imported nothing forms used) m ≡ Some d → given_at d n ≡ Some k → IsKnown (modules_of own imported nothing forms used) k
  given_known own imported nothing forms used are m d n k at given =
      let ms = modules_of own imported nothing forms used in
      let others = behind_own (replicate (length forms) (given_form [])) used in
      let all = each_own own imported nothing 0 forms (drop (length forms) others) (every_dropped FromOutside (length forms) others (all_behind (length forms) used are)) in
      let place : 0 + m ≡ m = omega arith in
      let here : GivesKnown m d = subst (λ i. GivesKnown i d) place (each_at GivesKnown 0 ms all m d at) in
      known_by ms m k (slice_get_within ms m d at) (at_name (IsKnownAt m) d.given n k (at_row d.given n k given) here)

-- the library's own modules come first
own_length : (own : List Name) (imported : NamedList ℕ) (nothing m : ℕ) (forms : List Form) (others : List ModuleForm) → length forms ≤ length (module_forms own imported nothing m forms ++ others)
own_length own imported nothing m [] others = omega arith
own_length own imported nothing m (form ∷ forms) others = let less = own_length own imported nothing (m + 1) forms others in omega (arith, less)

pub own_within : (own : List Name) (imported : NamedList ℕ) (nothing : ℕ) (forms : List Form) (used : List Exports) → length forms ≤ length (modules_of own imported nothing forms used)
own_within own imported nothing forms used = own_length own imported nothing 0 forms (drop (length forms) (behind_own (replicate (length forms) (given_form [])) used))

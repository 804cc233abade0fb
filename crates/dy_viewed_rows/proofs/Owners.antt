-- What holds of each name that used libraries export holds of all that names of a library mean that
-- uses them, or they are its own.
use Rattle.std.proofs.Common.{◌≡◌, ◌⊎◌, inl, inr, ℕ, zero, suc, ◌+◌, ◌<◌, Bool, true, false, cond, List, [], ◌∷◌, ◌++◌, length, map, drop, replicate, Option, Some, slice_get, refl, sym, ap, ◌∙◌, subst, arith}
use Rattle.std.specs.Str.{bytes_eq}
use Rattle.std.proofs.lemmas.Option.{slice_get_within}
use Rattle.indexmap.specs.IndexMap.{insert_entry}
use Rattle.dy_base.specs.Folding.{folded}
use Rattle.dy_base.specs.Tables.{NamedList}
use Rattle.dy_base.specs.declared.exports.Exports.{Exports}
use Rattle.dy_base.specs.declared.ids.BindingId.{BindingId}
use Rattle.dy_tree.specs.declared.token.Token.{Token}
use Rattle.dy_code.specs.Validity.{Every}
use Rattle.dy_module_forms.specs.declared.written.Clause.{Clause}
use Rattle.dy_module_forms.specs.declared.written.Clause.TheVariants as clauses
use Rattle.dy_module_forms.specs.declared.written.Placed.{Placed}
use Rattle.dy_module_forms.specs.declared.written.Form.{Form as WrittenForm}
use Rattle.dy_modules.specs.declared.owner.Owner.{Owner}
use Rattle.dy_modules.specs.declared.owner.Owner.TheVariants.{Outside, Own}
use Rattle.dy_modules.specs.declared.clause.ModuleForm.{ModuleForm}
use Rattle.dy_modules.specs.Clauses.{Name, given_at}
use Rattle.dy_modules.proofs.Rows.{some_is, none_is, at_row}
use Rattle.dy_module_tables.specs.Graphs.{Graph, definition}
use Rattle.dy_module_numbers.specs.Numbers.{Row, with_outside, given_form, outside_form, seen_rows, exported_rows, behind_own}
use Rattle.dy_module_numbers.specs.Modules.{with_created, created_by, created, module_forms}
use Rattle.dy_graph.specs.Judged.{Given, IsTable, own_names, reading, nothing}
use Rattle.dy_definitions.specs.declared.definitions.Definition.{Definition}
use Rattle.dy_definitions.specs.declared.meanings.RowCounts.{RowCounts}
use Rattle.dy_definitions.specs.Names.{gives, what_made}
use Rattle.dy_definitions.specs.Means.{one_more, no_rows, with_rows, row_id, first_row, meanings_of}
use Rattle.dy_library_rows.specs.Libraries.{Form}
use Rattle.dy_module_names.specs.Definitions.{definitions}
use Rattle.dy_library_names.specs.Named.{Reading}
use Rattle.dy_module_generics.proofs.Lists.{every_both, every_dropped, every_same, Rows, inserted, at_name, rows_mapped}
use Rattle.dy_module_generics.proofs.Owners.{all_visible}
use Rattle.dy_module_generics.proofs.Outsides.{modules_of}

same_id : (a b : BindingId) → (◌≡◌ {A = Option BindingId} (Some a) (Some b)) → a ≡ b
same_id a b e = cc

-- What a name of the library means by its definitions is a row of the library.
module _ (library : ℕ) (ds : List Definition) where
  first_own : (c : ℕ) (a : List ℕ) (counts : RowCounts) (rest : List Definition) (b : BindingId) → first_row library ds c a counts rest ≡ Some b → b.at.library ≡ library
  first_own c a counts [] b e = absurd (none_is b e)
  first_own c a counts (d ∷ rest) b e = step (gives ds c a d) e (first_own c a (one_more (what_made d.role) counts) rest b)
    where
      step : (t : Bool) → cond t (Some (row_id library counts d)) (first_row library ds c a (one_more (what_made d.role) counts) rest) ≡ Some b
          → (first_row library ds c a (one_more (what_made d.role) counts) rest ≡ Some b → b.at.library ≡ library) → b.at.library ≡ library
      step true found later = ap (λ (i : BindingId). i.at.library) (sym (same_id (row_id library counts d) b found))
      step false found later = later found

  meaning_own : (c : ℕ) (a : List ℕ) (b : BindingId) → meanings_of library ds c a ≡ Some b → b.at.library ≡ library
  meaning_own c a b e = first_own c a no_rows (with_rows ds [] ds) b e

-- what the library's own modules give
abbrev IsOwnOf : ℕ → Owner → Type 0
IsOwnOf m k = (n : Name) × (k ≡ Own m n)

all_created : (m : ℕ) (given : NamedList Owner) (names : List Name) → Rows (IsOwnOf m) given → Rows (IsOwnOf m) (with_created m given names)
all_created m given [] all = all
all_created m given (name ∷ names) all = all_created m (insert_entry bytes_eq given name (Own m name)) names (inserted (IsOwnOf m) given name (Own m name) (name, refl) all)

created_here : (m : ℕ) (given : NamedList Owner) (clause : Clause) → Rows (IsOwnOf m) given → Rows (IsOwnOf m) (created_by m given clause)
created_here m given (clauses.Create list) all = all_created m given list all
created_here m given (clauses.Export list) all = all
created_here m given (clauses.Use name options) all = all

created_all : (m : ℕ) (given : NamedList Owner) (list : List Placed) → Rows (IsOwnOf m) given → Rows (IsOwnOf m) (created m given list)
created_all m given [] all = all
created_all m given (clause ∷ rest) all = created_all m (created_by m given clause.clause) rest (created_here m given clause.clause all)

-- each module of a list, whose first has this number
abbrev Each : (ℕ → ModuleForm → Type 0) → ℕ → List ModuleForm → Type 0
Each Q m [] = Unit {0}
Each Q m (d ∷ ds) = Q m d × Each Q (m + 1) ds

each_at : (Q : ℕ → ModuleForm → Type 0) (m : ℕ) (ds : List ModuleForm) → Each Q m ds → (i : ℕ) (d : ModuleForm) → slice_get ds i ≡ Some d → Q (m + i) d
each_at Q m [] all i d e = absurd (none_is d e)
each_at Q m (x ∷ ds) all zero d e = let place : m ≡ m + 0 = omega arith in subst (λ k. Q k d) place (subst (Q m) (some_is x d e) all.0)
each_at Q m (x ∷ ds) all (suc i) d e = let place : m + 1 + i ≡ m + suc i = omega arith in subst (λ k. Q k d) place (each_at Q (m + 1) ds all.1 i d e)

module _ (P : BindingId → Type 0) where
  abbrev ModulesAre : List (Name × NamedList BindingId) → Type 0
  ModulesAre modules = Every (λ (m : Name × NamedList BindingId). Rows P m.1) modules

  -- each name that these libraries export is such
  abbrev pub ExportsAre : List Exports → Type 0
  ExportsAre used = Every (λ (library : Exports). ModulesAre library.modules × ModulesAre library.seen) used

  -- a module of a library that is used
  abbrev RowIs : Row → Type 0
  RowIs row = Rows P row.1

  all_seen : (used : List Exports) → ExportsAre used → Every RowIs (seen_rows used)
  all_seen [] all = tt
  all_seen (library ∷ used) all = every_both RowIs library.seen (seen_rows used) all.0.1 (all_seen used all.1)

  all_exported : (used : List Exports) → ExportsAre used → Every RowIs (exported_rows used)
  all_exported [] all = tt
  all_exported (library ∷ used) all = every_both RowIs library.modules (exported_rows used) all.0.0 (all_exported used all.1)

  -- an owner from another library
  abbrev IsFromOutside : Owner → Type 0
  IsFromOutside k = (id : BindingId) × (k ≡ Outside id) × P id

  abbrev FromOutside : ModuleForm → Type 0
  FromOutside d = Rows IsFromOutside d.given

  outside_given : (given : NamedList Owner) (rows : NamedList BindingId) → Rows IsFromOutside given → Rows P rows → Rows IsFromOutside (with_outside given rows)
  outside_given given [] some all = some
  outside_given given (row ∷ rows) some all = outside_given (insert_entry bytes_eq given row.0 (Outside row.1)) rows (inserted IsFromOutside given row.0 (Outside row.1) (row.1, refl, all.0) some) all.1

  outside_forms : (rows : List Row) → Every RowIs rows → Every FromOutside (map outside_form rows)
  outside_forms [] all = tt
  outside_forms (row ∷ rows) all = (outside_given [] row.1 tt all.0, outside_forms rows all.1)

  all_behind : (n : ℕ) (used : List Exports) → ExportsAre used → Every FromOutside (behind_own (replicate n (given_form [])) used)
  all_behind n used all =
      let empty = replicate n (given_form []) in
      let seen = map outside_form (seen_rows used) in
      let shown = map outside_form (exported_rows used) in
      every_both FromOutside ((empty ++ seen) ++ shown) (given_form [] ∷ [])
      (every_both FromOutside (empty ++ seen) shown
      (every_both FromOutside empty seen (every_same FromOutside n (given_form []) tt) (outside_forms (seen_rows used) (all_seen used all)))
      (outside_forms (exported_rows used) (all_exported used all))) (tt, tt)

  -- what its modules are given by
  abbrev IsKnownAt : ℕ → Owner → Type 0
  IsKnownAt m k = IsOwnOf m k ⊎ IsFromOutside k

  abbrev GivesKnown : ℕ → ModuleForm → Type 0
  GivesKnown m d = Rows (IsKnownAt m) d.given

  each_behind : (m : ℕ) (ds : List ModuleForm) → Every FromOutside ds → Each GivesKnown m ds
  each_behind m [] all = tt
  each_behind m (d ∷ ds) all = (rows_mapped IsFromOutside (IsKnownAt m) (λ k h. inr h) d.given all.0, each_behind (m + 1) ds all.1)

  module _ (own : List Name) (imported : NamedList ℕ) (none : ℕ) where
    each_own : (m : ℕ) (forms : List WrittenForm) (others : List ModuleForm) → Every FromOutside others → Each GivesKnown m (module_forms own imported none m forms ++ others)
    each_own m [] others all = each_behind m others all
    each_own m (form ∷ forms) others all = (rows_mapped (IsOwnOf m) (IsKnownAt m) (λ k h. inl h) (created m [] form.clauses) (created_all m [] form.clauses tt), each_own (m + 1) forms others all)

  -- an owner that these modules know: from outside one that is such, or a name of one of them
  abbrev IsKnown : List ModuleForm → Owner → Type 0
  IsKnown ms (Outside id) = P id
  IsKnown ms (Own c a) = c < length ms

  known_by : (ms : List ModuleForm) (m : ℕ) (k : Owner) → m < length ms → IsKnownAt m k → IsKnown ms k
  known_by ms m k within (inl h) = subst (IsKnown ms) (sym h.1) within
  known_by ms m k within (inr h) = subst (IsKnown ms) (sym h.1) h.2

  abbrev KnowsGiven : List ModuleForm → Type 0
  KnowsGiven ms = (m : ℕ) (d : ModuleForm) (n : Name) (k : Owner) → slice_get ms m ≡ Some d → given_at d n ≡ Some k → IsKnown ms k

  given_known : (own : List Name) (imported : NamedList ℕ) (none : ℕ) (forms : List WrittenForm) (used : List Exports) → ExportsAre used → KnowsGiven (modules_of own imported none forms used)
  given_known own imported none forms used are m d n k at given =
      let ms = modules_of own imported none forms used in
      let others = behind_own (replicate (length forms) (given_form [])) used in
      let all = each_own own imported none 0 forms (drop (length forms) others) (every_dropped FromOutside (length forms) others (all_behind (length forms) used are)) in
      let place : 0 + m ≡ m = omega arith in
      let here : GivesKnown m d = subst (λ i. GivesKnown i d) place (each_at GivesKnown 0 ms all m d at) in
      known_by ms m k (slice_get_within ms m d at) (at_name (IsKnownAt m) d.given n k (at_row d.given n k given) here)

  -- So what a name means where a library is read is such, or a row of the library.
  module _ (number : ℕ) (given : Given) (form : WrittenForm) (table : Graph) (forms : List Form) (read : Reading table number forms) (used : ExportsAre given.used) (made : IsTable given form table) where
    abbrev ms : List ModuleForm
    ms = table.modules

    given_here : KnowsGiven ms
    given_here = subst KnowsGiven (sym made.modules) (given_known (own_names given) (reading given form).imported (nothing given) given.modules given.used used)

    own_here : (m : ℕ) (d : ModuleForm) (n : Name) → slice_get ms m ≡ Some d → IsKnown ms (Own m n)
    own_here m d n at = slice_get_within ms m d at

    by_owner : (b : BindingId) (k : Owner) → IsKnown ms k → definition read.defs k ≡ Some b → P b ⊎ (b.at.library ≡ number)
    by_owner b (Outside id) known e = inl (subst P (same_id id b e) known)
    by_owner b (Own c a) known e = inr (meaning_own number (definitions read.modules forms) c a b (sym (read.defined.each c a known) ∙ e))

    pub meant_are : (token : Token) (b : BindingId) → read.out.owner token ≡ Some b → P b ⊎ (b.at.library ≡ number)
    meant_are token b e =
        let means = (read.meant.owner token b).0 e in
        by_owner b means.0 (all_visible ms (IsKnown ms) given_here own_here token.«module» (folded token.text) means.0 means.1) means.2

-- The modules of forms whose names are in lower case have names in lower case, and export such names.
use Rattle.std.proofs.Common.{◌≡◌, inl, inr, ℕ, zero, suc, ◌+◌, Bool, true, false, cond, if◌then◌else◌, List, [], ◌∷◌, ◌++◌, length, map, drop, replicate, is_some, Option, Some, None, slice_get, refl, sym, ap, ◌∙◌, subst}
use Rattle.std.specs.List.{AllByRecursion}
use Rattle.std.specs.Prelude.{◌||◌}
use Rattle.std.specs.Str.{bytes_eq}
use Rattle.std.specs.FinMap.{entries, get}
use Rattle.std.proofs.lemmas.List.{map-append}
use Rattle.indexmap.specs.IndexMap.{insert_entry}
use Rattle.dy_base.specs.Folding.{folded, folded_byte}
use Rattle.dy_base.specs.Tables.{NameMap, NamedList, table_of}
use Rattle.dy_base.proofs.Letters.{folded-twice}
use Rattle.dy_base.specs.declared.exports.Exports.{Exports}
use Rattle.dy_base.specs.declared.ids.BindingId.{BindingId}
use Rattle.dy_module_forms.specs.declared.written.Member.{Member}
use Rattle.dy_module_forms.specs.declared.written.UseOption.{UseOption}
use Rattle.dy_module_forms.specs.declared.written.UseOption.TheVariants.{Import, Exclude, Rename, Prefix, Export}
use Rattle.dy_module_forms.specs.declared.written.Clause.{Clause}
use Rattle.dy_module_forms.specs.declared.written.Clause.TheVariants as clauses
use Rattle.dy_module_forms.specs.declared.written.Placed.{Placed}
use Rattle.dy_module_forms.specs.declared.written.Form.{Form}
use Rattle.dy_modules.specs.declared.owner.Owner.{Owner}
use Rattle.dy_modules.specs.declared.owner.Owner.TheVariants.{Outside, Own}
use Rattle.dy_modules.specs.declared.clause.UseClause.{UseClause}
use Rattle.dy_modules.specs.declared.clause.ModuleForm.{ModuleForm}
use Rattle.dy_modules.specs.Clauses.{Name, IsIn, is_one_of, is_chosen, named_anew, new_name, brought}
use Rattle.dy_modules.specs.Sees.{exports}
use Rattle.dy_modules.proofs.Rows.{some_is, none_is, at_row}
use Rattle.dy_modules.proofs.Step.{owned_named}
use Rattle.dy_module_numbers.specs.Sorting.{is_of_library, modules_without, modules}
use Rattle.dy_module_numbers.specs.Options as options
use Rattle.dy_module_numbers.specs.Options.{with_name, with_names, with_new, with_arrow, with_imports, new_or_own, with_renames, members_or_none, use_clause}
use Rattle.dy_module_numbers.specs.Numbers.{Row, with_outside, given_form, outside_form, seen_rows, exported_rows, behind_own}
use Rattle.dy_module_numbers.specs.Modules.{with_created, created_by, created, listed_by, listed, source_of, with_use, uses, module_form, module_forms}
use Rattle.dy_module_tables.specs.Graphs.{IsFolded, AreFolded, IsExported, AreExported, AllExported}
use Rattle.dy_module_tables.proofs.Exported.{names_folded}
use Rattle.dy_graph.specs.Judged.{given, own_names, reading, nothing, all_modules}
use Rattle.dy_built_in_exports.specs.Names.{names_of as row_names, folded_rows}
use Rattle.dy_folded_names.specs.Folded.{IsLower, AreLower, RowsAreLower, IsLowerIfThere, MembersAreLower, OptionIsLower, ClauseIsLower, FormIsLower, ModulesAreLower, ExportsAreLower, TablesAreFolded, ExportedAreLower, BuiltInAreLower}

-- lists of which each item is such
all_both : {A : Type 0} (P : A → Type 0) (xs ys : List A) → AllByRecursion P xs → AllByRecursion P ys → AllByRecursion P (xs ++ ys)
all_both P [] ys some others = others
all_both P (x ∷ xs) ys some others = (some.0, all_both P xs ys some.1 others)

all_dropped : {A : Type 0} (P : A → Type 0) (n : ℕ) (xs : List A) → AllByRecursion P xs → AllByRecursion P (drop n xs)
all_dropped P zero xs all = all
all_dropped P (suc n) [] all = tt
all_dropped P (suc n) (x ∷ xs) all = all_dropped P n xs all.1

all_same : {A : Type 0} (P : A → Type 0) (n : ℕ) (x : A) → P x → AllByRecursion P (replicate n x)
all_same P zero x one = tt
all_same P (suc n) x one = (one, all_same P n x one)

all_at : {A : Type 0} (P : A → Type 0) (xs : List A) (n : ℕ) (x : A) → slice_get xs n ≡ Some x → AllByRecursion P xs → P x
all_at P [] n x e all = absurd (none_is x e)
all_at P (y ∷ xs) zero x e all = subst P (some_is y x e) all.0
all_at P (y ∷ xs) (suc n) x e all = all_at P xs n x e all.1

all_in : {A : Type 0} (P : A → Type 0) (xs : List A) (x : A) → IsIn x xs → AllByRecursion P xs → P x
all_in P [] x is all = absurd is
all_in P (y ∷ xs) x (inl same) all = subst P (sym same) all.0
all_in P (y ∷ xs) x (inr is) all = all_in P xs x is all.1

-- one more row, with the name that stands there or this one
module _ {V : Type 0} where
  with_row : (list : NamedList V) (name : Name) (v : V) → IsLower name → RowsAreLower list → RowsAreLower (insert_entry bytes_eq list name v)
  with_row [] name v one all = (one, tt)
  with_row (e ∷ list) name v one all = step (bytes_eq name e.0) (with_row list name v one all.1)
    where
      step : (b : Bool) → RowsAreLower (insert_entry bytes_eq list name v) → RowsAreLower (if b then (e.0, v) ∷ list else e ∷ insert_entry bytes_eq list name v)
      step true later = (all.0, all.1)
      step false later = (all.0, later)

-- new names
abbrev NewAreLower : NamedList Name → Type 0
NewAreLower list = AllByRecursion (λ (row : Name × Name). IsLower row.1) list

new_row : (list : NamedList Name) (name new : Name) → IsLower new → NewAreLower list → NewAreLower (insert_entry bytes_eq list name new)
new_row [] name new one all = (one, tt)
new_row (e ∷ list) name new one all = step (bytes_eq name e.0) (new_row list name new one all.1)
  where
    step : (b : Bool) → NewAreLower (insert_entry bytes_eq list name new) → NewAreLower (if b then (e.0, new) ∷ list else e ∷ insert_entry bytes_eq list name new)
    step true later = (one, all.1)
    step false later = (all.0, later)

new_lower : (list : NamedList Name) (name new : Name) → IsLower new → NewAreLower list → NewAreLower (with_new list name new)
new_lower list name new one all = step (is_some (get (table_of list) name))
  where
    step : (b : Bool) → NewAreLower (if b then list else insert_entry bytes_eq list name new)
    step true = all
    step false = new_row list name new one all

arrow_lower : (list : NamedList Name) (member : Member) (new : Option Name) → IsLowerIfThere new → NewAreLower list → NewAreLower (with_arrow list member new)
arrow_lower list member None one all = all
arrow_lower list member (Some new) one all = new_lower list member.name new one all

imports_lower : (list : NamedList Name) (members : List Member) → MembersAreLower members → NewAreLower list → NewAreLower (with_imports list members)
imports_lower list [] lower all = all
imports_lower list (member ∷ members) lower all = imports_lower (with_arrow list member member.new) members lower.1 (arrow_lower list member member.new lower.0.1 all)

own_lower : (name : Name) (new : Option Name) → IsLower name → IsLowerIfThere new → IsLower (new_or_own name new)
own_lower name None one other = one
own_lower name (Some new) one other = other

renames_lower : (list : NamedList Name) (members : List Member) → MembersAreLower members → NewAreLower list → NewAreLower (with_renames list members)
renames_lower list [] lower all = all
renames_lower list (member ∷ members) lower all =
    let new = new_or_own member.name member.new in
    renames_lower (with_new list member.name new) members lower.1 (new_lower list member.name new (own_lower member.name member.new lower.0.0 lower.0.1) all)

-- what options say
imported_lower : (list : List UseOption) → AllByRecursion OptionIsLower list → MembersAreLower (members_or_none (options.imported list))
imported_lower [] all = tt
imported_lower (Import None ∷ list) all = tt
imported_lower (Import (Some members) ∷ list) all = all.0
imported_lower (Exclude names ∷ list) all = imported_lower list all.1
imported_lower (Rename members ∷ list) all = imported_lower list all.1
imported_lower (Prefix text ∷ list) all = imported_lower list all.1
imported_lower (Export set ∷ list) all = imported_lower list all.1

renamed_lower : (list : List UseOption) → AllByRecursion OptionIsLower list → MembersAreLower (options.renamed list)
renamed_lower [] all = tt
renamed_lower (Import set ∷ list) all = renamed_lower list all.1
renamed_lower (Exclude names ∷ list) all = renamed_lower list all.1
renamed_lower (Rename members ∷ list) all = all.0
renamed_lower (Prefix text ∷ list) all = renamed_lower list all.1
renamed_lower (Export set ∷ list) all = renamed_lower list all.1

prefix_lower : (list : List UseOption) → AllByRecursion OptionIsLower list → IsLower (options.prefix list)
prefix_lower [] all = refl
prefix_lower (Import set ∷ list) all = prefix_lower list all.1
prefix_lower (Exclude names ∷ list) all = prefix_lower list all.1
prefix_lower (Rename members ∷ list) all = prefix_lower list all.1
prefix_lower (Prefix text ∷ list) all = all.0
prefix_lower (Export set ∷ list) all = prefix_lower list all.1

-- a clause that makes lower names of lower ones
abbrev UseIsLower : UseClause → Type 0
UseIsLower u = IsLower u.prefix × NewAreLower u.renamed

use_lower : (source : ℕ) (list : List UseOption) → AllByRecursion OptionIsLower list → UseIsLower (use_clause source list)
use_lower source list all = (
  prefix_lower list all,
  renames_lower (with_imports [] (members_or_none (options.imported list))) (options.renamed list) (renamed_lower list all)
      (imports_lower [] (members_or_none (options.imported list)) (imported_lower list all) tt),
)

anew_lower : (u : UseClause) (a : Name) → UseIsLower u → IsLower a → IsLower (new_name u a)
anew_lower u a lower one = step (get (table_of u.renamed) a) refl
  where
    step : (o : Option Name) → get (table_of u.renamed) a ≡ o → IsLower (named_anew u.prefix a o)
    step None e = map-append folded_byte u.prefix a ∙ (λ i. lower.0 i ++ one i)
    step (Some new) e = all_in (λ (row : Name × Name). IsLower row.1) u.renamed (a, new) (at_row u.renamed a new e) lower.1

brought_lower : (u : UseClause) (a : Name) → UseIsLower u → IsLower a → IsLowerIfThere (brought u a)
unfolding brought
brought_lower u a lower one = step (is_one_of u.excluded a) (is_chosen u.chosen a)
  where
    step : (out within : Bool) → IsLowerIfThere (cond out None (cond within (Some (new_name u a)) None))
    step true within = tt
    step false true = anew_lower u a lower one
    step false false = tt

-- the clauses of a module
created_names : (m : ℕ) (list : NamedList Owner) (names : List Name) → AreLower names → RowsAreLower list → RowsAreLower (with_created m list names)
created_names m list [] lower all = all
created_names m list (name ∷ names) lower all = created_names m (insert_entry bytes_eq list name (Own m name)) names lower.1 (with_row list name (Own m name) lower.0 all)

created_here : (m : ℕ) (list : NamedList Owner) (clause : Clause) → ClauseIsLower clause → RowsAreLower list → RowsAreLower (created_by m list clause)
created_here m list (clauses.Create names) lower all = created_names m list names lower all
created_here m list (clauses.Export names) lower all = all
created_here m list (clauses.Use name chosen) lower all = all

abbrev AreLowerClauses : List Placed → Type 0
AreLowerClauses list = AllByRecursion (λ (placed : Placed). ClauseIsLower placed.clause) list

created_lower : (m : ℕ) (list : NamedList Owner) (placed : List Placed) → AreLowerClauses placed → RowsAreLower list → RowsAreLower (created m list placed)
created_lower m list [] lower all = all
created_lower m list (clause ∷ rest) lower all = created_lower m (created_by m list clause.clause) rest lower.1 (created_here m list clause.clause lower.0 all)

name_lower : (set : List Name) (name : Name) → IsLower name → AreLower set → AreLower (with_name set name)
name_lower set name one all = step (is_one_of set name)
  where
    step : (b : Bool) → AreLower (if b then set else set ++ name ∷ [])
    step true = all
    step false = all_both IsLower set (name ∷ []) all (one, tt)

names_lower : (set names : List Name) → AreLower names → AreLower set → AreLower (with_names set names)
names_lower set [] lower all = all
names_lower set (name ∷ names) lower all = names_lower (with_name set name) names lower.1 (name_lower set name lower.0 all)

listed_here : (set : List Name) (clause : Clause) → ClauseIsLower clause → AreLower set → AreLower (listed_by set clause)
listed_here set (clauses.Create names) lower all = all
listed_here set (clauses.Export names) lower all = names_lower set names lower all
listed_here set (clauses.Use name chosen) lower all = all

listed_lower : (set : List Name) (placed : List Placed) → AreLowerClauses placed → AreLower set → AreLower (listed set placed)
listed_lower set [] lower all = all
listed_lower set (clause ∷ rest) lower all = listed_lower (listed_by set clause.clause) rest lower.1 (listed_here set clause.clause lower.0 all)

module _ (own : List Name) (imported : NamedList ℕ) (nothing : ℕ) where
  use_here : (clause : Clause) (rest : List UseClause) → ClauseIsLower clause → AllByRecursion UseIsLower rest → AllByRecursion UseIsLower (with_use own imported nothing clause rest)
  use_here (clauses.Use name list) rest lower all = (use_lower (source_of own imported nothing name) list lower, all)
  use_here (clauses.Export names) rest lower all = all
  use_here (clauses.Create names) rest lower all = all

  uses_lower : (placed : List Placed) → AreLowerClauses placed → AllByRecursion UseIsLower (uses own imported nothing placed)
  uses_lower [] lower = tt
  uses_lower (clause ∷ rest) lower = use_here clause.clause (uses own imported nothing rest) lower.0 (uses_lower rest lower.1)

-- a module of such parts
folded_module : (d : ModuleForm) → RowsAreLower d.given → AreLower d.listed → AllByRecursion UseIsLower d.uses → IsFolded d
folded_module d rows names list = record {
  given = λ n k e. all_in (λ (row : Name × Owner). IsLower row.0) d.given (n, k) (at_row d.given n k e) rows;
  listed = λ n is. all_in IsLower d.listed n is names;
  brought = λ u a n is e one. subst IsLowerIfThere e (brought_lower u a (all_in UseIsLower d.uses u is list) one);
}

-- the library's own modules
module _ (own : List Name) (imported : NamedList ℕ) (nothing : ℕ) where
  own_folded : (m : ℕ) (forms : List Form) → AllByRecursion FormIsLower forms → AllByRecursion IsFolded (module_forms own imported nothing m forms)
  own_folded m [] lower = tt
  own_folded m (form ∷ forms) lower = (
    folded_module (module_form own imported nothing m form) (created_lower m [] form.clauses lower.0 tt) (listed_lower [] form.clauses lower.0 tt) (uses_lower own imported nothing form.clauses lower.0),
    own_folded (m + 1) forms lower.1,
  )

without_lower : (names : List Name) (forms : List Form) → AllByRecursion FormIsLower forms → AllByRecursion FormIsLower (modules_without names forms)
without_lower names [] lower = tt
without_lower names (form ∷ forms) lower =
    step (is_of_library form.kind || is_one_of names form.name) (without_lower names forms lower.1) (without_lower (names ++ form.name ∷ []) forms lower.1)
  where
    step : (b : Bool) → AllByRecursion FormIsLower (modules_without names forms) → AllByRecursion FormIsLower (modules_without (names ++ form.name ∷ []) forms)
        → AllByRecursion FormIsLower (if b then modules_without names forms else form ∷ modules_without (names ++ form.name ∷ []) forms)
    step true left more = left
    step false left more = (lower.0, more)

-- those of used libraries
outside_lower : (list : NamedList Owner) (rows : NamedList BindingId) → RowsAreLower rows → RowsAreLower list → RowsAreLower (with_outside list rows)
outside_lower list [] lower all = all
outside_lower list (row ∷ rows) lower all = outside_lower (insert_entry bytes_eq list row.0 (Outside row.1)) rows lower.1 (with_row list row.0 (Outside row.1) lower.0 all)

outside_folded : (rows : List Row) → ModulesAreLower rows → AllByRecursion IsFolded (map outside_form rows)
outside_folded [] all = tt
outside_folded (row ∷ rows) all = (folded_module (outside_form row) (outside_lower [] row.1 all.0 tt) tt tt, outside_folded rows all.1)

abbrev RowIsLower : Row → Type 0
RowIsLower row = RowsAreLower row.1

all_seen : (used : List Exports) → ExportsAreLower used → ModulesAreLower (seen_rows used)
all_seen [] all = tt
all_seen (library ∷ used) all = all_both RowIsLower library.seen (seen_rows used) all.0.1 (all_seen used all.1)

all_exported : (used : List Exports) → ExportsAreLower used → ModulesAreLower (exported_rows used)
all_exported [] all = tt
all_exported (library ∷ used) all = all_both RowIsLower library.modules (exported_rows used) all.0.0 (all_exported used all.1)

nothing_folded : IsFolded (given_form [])
nothing_folded = folded_module (given_form []) tt tt tt

behind_folded : (n : ℕ) (used : List Exports) → ExportsAreLower used → AllByRecursion IsFolded (behind_own (replicate n (given_form [])) used)
behind_folded n used all =
    let empty = replicate n (given_form []) in
    let seen = map outside_form (seen_rows used) in
    let shown = map outside_form (exported_rows used) in
    all_both IsFolded ((empty ++ seen) ++ shown) (given_form [] ∷ [])
    (all_both IsFolded (empty ++ seen) shown
    (all_both IsFolded empty seen (all_same IsFolded n (given_form []) nothing_folded) (outside_folded (seen_rows used) (all_seen used all)))
    (outside_folded (exported_rows used) (all_exported used all))) (nothing_folded, tt)

pub tables_are_folded : TablesAreFolded
tables_are_folded library headers forms used form table lower exported made =
    let g = given library headers forms used in
    let others = behind_own (replicate (length g.modules) (given_form [])) used in
    let mine = module_forms (own_names g) (reading g form).imported (nothing g) 0 g.modules in
    let all : AllByRecursion IsFolded (all_modules g form) =
    all_both IsFolded mine (drop (length g.modules) others) (own_folded (own_names g) (reading g form).imported (nothing g) 0 g.modules (without_lower [] forms lower))
    (all_dropped IsFolded (length g.modules) others (behind_folded (length g.modules) used exported)) in
    λ m d at. all_at IsFolded table.modules m d at (subst (AllByRecursion IsFolded) (sym made.modules) all)

-- what they export
module _ (ms : List ModuleForm) (defs : List (NameMap BindingId)) (are : AreFolded ms) where
  exported_name : (m : ℕ) (n : Name) (id : BindingId) → IsExported ms defs m n id → IsLower n
  exported_name m n id shown = names_folded ms are exports m n (owned_named ms exports m n shown.0 shown.1)

  rows_lower : (m : ℕ) (names some : NamedList BindingId) → ((n : Name) (id : BindingId) → IsIn (n, id) some → IsIn (n, id) names) → AreExported ms defs m names → RowsAreLower some
  rows_lower m names [] within all = tt
  rows_lower m names (row ∷ some) within all = (exported_name m row.0 row.1 (all.exact_to row.0 row.1 (within row.0 row.1 (inl refl))), rows_lower m names some (λ n id h. within n id (inr h)) all)

  modules_lower : (shown : List (Name × ℕ)) (list : List (Name × NamedList BindingId)) → AllExported ms defs shown list → ModulesAreLower list
  modules_lower [] list all = subst ModulesAreLower (sym all) tt
  modules_lower (one ∷ shown) [] all = tt
  modules_lower (one ∷ shown) (row ∷ list) all = (rows_lower one.1 row.1 row.1 (λ n id h. h) all.1, modules_lower shown list all.2)

pub exported_are_lower : ExportedAreLower
exported_are_lower ms defs shown list are all = modules_lower ms defs are shown list all

-- what a library exports that exports all its rows
folded_lower : (list : NamedList BindingId) → RowsAreLower (folded_rows (map Some list))
folded_lower [] = tt
folded_lower (row ∷ list) = (folded-twice row.0, folded_lower list)

pub built_in_are_lower : BuiltInAreLower
built_in_are_lower number name exported row = (((folded_lower (entries (table_of (row_names number row))), tt), tt), tt)

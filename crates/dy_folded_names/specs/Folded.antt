-- Names in lower case: those of forms that define a library and its modules, as they are read, those
-- of the modules that the forms come to, and those that libraries export.
use Rattle.std.specs.Prelude.{◌≡◌, ℕ, List, [], ◌∷◌, Option, Some, None, Ok}
use Rattle.std.specs.List.{AllByRecursion}
use Rattle.dy_base.specs.Folding.{folded}
use Rattle.dy_base.specs.Tables.{NameMap, NamedList}
use Rattle.dy_base.specs.declared.exports.Exports.{Exports}
use Rattle.dy_base.specs.declared.ids.BindingId.{BindingId}
use Rattle.dy_tree.specs.Fragments.{SeenFragment}
use Rattle.dy_term.specs.declared.rows.LibraryRow.{LibraryRow}
use Rattle.dy_module_forms.specs.declared.written.Member.{Member}
use Rattle.dy_module_forms.specs.declared.written.UseOption.{UseOption}
use Rattle.dy_module_forms.specs.declared.written.UseOption.TheVariants.{Import, Exclude, Rename}
use Rattle.dy_module_forms.specs.declared.written.UseOption.TheVariants.{Prefix, Export}
use Rattle.dy_module_forms.specs.declared.written.Clause.{Clause}
use Rattle.dy_module_forms.specs.declared.written.Clause.TheVariants as clauses
use Rattle.dy_module_forms.specs.declared.written.Form.{Form}
use Rattle.dy_module_forms.specs.Forms.{forms_of}
use Rattle.dy_modules.specs.declared.clause.ModuleForm.{ModuleForm}
use Rattle.dy_modules.specs.Clauses.{Name}
use Rattle.dy_module_tables.specs.Graphs.{Graph, AreFolded, AllExported}
use Rattle.dy_graph.specs.Judged.{given, IsTable}
use Rattle.dy_built_in_exports.specs.Names.{exports_of}

abbrev pub IsLower : Name → Type 0
IsLower name = folded name ≡ name

abbrev pub AreLower : List Name → Type 0
AreLower names = AllByRecursion IsLower names

-- so of the names of a list by name
abbrev pub RowsAreLower : {V : Type 0} → NamedList V → Type 0
RowsAreLower rows = AllByRecursion (λ row. IsLower row.0) rows

abbrev pub IsLowerIfThere : Option Name → Type 0
IsLowerIfThere None = Unit {0}
IsLowerIfThere (Some name) = IsLower name

abbrev pub MemberIsLower : Member → Type 0
MemberIsLower member = IsLower member.name × IsLowerIfThere member.new

abbrev pub MembersAreLower : List Member → Type 0
MembersAreLower members = AllByRecursion MemberIsLower members

abbrev pub SetIsLower : Option (List Member) → Type 0
SetIsLower None = Unit {0}
SetIsLower (Some members) = MembersAreLower members

-- so of what an option makes of names
abbrev pub OptionIsLower : UseOption → Type 0
OptionIsLower (Import set) = SetIsLower set
OptionIsLower (Exclude names) = Unit {0}
OptionIsLower (Rename members) = MembersAreLower members
OptionIsLower (Prefix text) = IsLower text
OptionIsLower (Export set) = Unit {0}

abbrev pub ClauseIsLower : Clause → Type 0
ClauseIsLower (clauses.Use name options) = AllByRecursion OptionIsLower options
ClauseIsLower (clauses.Export names) = AreLower names
ClauseIsLower (clauses.Create names) = AreLower names

abbrev pub FormIsLower : Form → Type 0
FormIsLower form = AllByRecursion (λ placed. ClauseIsLower placed.clause) form.clauses

-- so of what libraries export
abbrev pub ModulesAreLower : List (Name × NamedList BindingId) → Type 0
ModulesAreLower modules = AllByRecursion (λ m. RowsAreLower m.1) modules

abbrev pub ExportsAreLower : List Exports → Type 0
ExportsAreLower used =
    AllByRecursion (λ library. ModulesAreLower library.modules × ModulesAreLower library.seen) used

-- Forms that are read are so.
abbrev pub FormsAreLower : Type 0
FormsAreLower = (fragments : List SeenFragment) (forms : List Form) → forms_of fragments ≡ Ok forms
    → AllByRecursion FormIsLower forms

-- So are the modules that such forms come to, where those are that used libraries export.
abbrev pub TablesAreFolded : Type 0
TablesAreFolded = (library : Name) (headers : List Name) (forms : List Form) (used : List Exports)
    (form : Form) (table : Graph) → AllByRecursion FormIsLower forms → ExportsAreLower used
    → IsTable (given library headers forms used) form table → AreFolded table.modules

-- So are the names that such modules export.
abbrev pub ExportedAreLower : Type 0
ExportedAreLower = (ms : List ModuleForm) (defs : List (NameMap BindingId))
    (shown : List (Name × ℕ)) (exported : List (Name × NamedList BindingId)) → AreFolded ms
    → AllExported ms defs shown exported → ModulesAreLower exported

-- So are those of a library that exports all its rows.
abbrev pub BuiltInAreLower : Type 0
BuiltInAreLower = (number : ℕ) (name exported : List ℕ) (row : LibraryRow)
    → ExportsAreLower (exports_of number name exported row ∷ [])

-- A library that stands behind others, and whose names its modules give, by what libraries export
-- that it uses. Where the generic functions that these export are rows of the libraries in front,
-- those that its code calls are there, and those that it exports itself.
use Rattle.std.specs.Prelude.{◌≡◌, ℕ, List, [], ◌∷◌, ◌++◌, length, slice_get, Some, None}
use Rattle.dy_base.specs.Tables.{NamedList}
use Rattle.dy_base.specs.declared.exports.Exports.{Exports}
use Rattle.dy_base.specs.declared.fault.Fault.{Fault}
use Rattle.dy_base.specs.declared.ids.BindingId.{BindingId}
use Rattle.dy_base.specs.declared.ids.What.TheVariants as whats
use Rattle.dy_tree.specs.declared.words.Word.{Word}
use Rattle.dy_term.specs.declared.rows.LibraryRow.{LibraryRow}
use Rattle.dy_names.specs.Outside.{Outside}
use Rattle.dy_code.specs.Validity.{Every, IsValid}
use Rattle.dy_steps.specs.Standing.{EndsInTime}
use Rattle.dy_lowering_law.specs.Machines.{linked_program, machine_of}
use Rattle.dy_lowering_whole.specs.valid.Scoped.{IsScoped}
use Rattle.dy_lowering_whole.specs.valid.Valid.{GenericsAreThere}
use Rattle.dy_library_rows.specs.Libraries.{Form}
use Rattle.dy_assembly.specs.declared.library.Heading.{Heading}
use Rattle.dy_built_in_exports.specs.Names.{exports_of}
use Rattle.dy_module_forms.specs.declared.written.Form.{Form as ModuleForm}
use Rattle.dy_modules.specs.Clauses.{Name}
use Rattle.dy_module_tables.specs.Graphs.{Graph, AllExported}
use Rattle.dy_graph.specs.Judged.{Given, IsTable}
use Rattle.dy_definitions.specs.Redefined.{all_redefined}
use Rattle.dy_module_names.specs.Definitions.{definitions}
use Rattle.dy_library_names.specs.Named.{Reading, IsFirstFault, library_from}
use Rattle.dy_called_generics.specs.Views.{program_of, IsGenericOf, CallsAreThere}

-- What a name means is a row of one of these libraries if it is a generic function.
abbrev pub IsThere : List LibraryRow → BindingId → Type 0
IsThere libraries meant = meant.what ≡ whats.Generic → IsGenericOf libraries meant

abbrev pub NamesAreThere : List LibraryRow → NamedList BindingId → Type 0
NamesAreThere libraries names = Every (λ name. IsThere libraries name.1) names

-- so of the names of modules
abbrev pub ModulesAreThere : List LibraryRow → List (Name × NamedList BindingId) → Type 0
ModulesAreThere libraries modules = Every (λ m. NamesAreThere libraries m.1) modules

-- so of all that libraries export
abbrev pub ExportsAreThere : List LibraryRow → List Exports → Type 0
ExportsAreThere libraries used =
    Every (λ library. ModulesAreThere libraries library.modules
    × ModulesAreThere libraries library.seen) used

-- The modules of a library behind these others, so that its number is how many they are, and the
-- table that the modules have by the first form that defines the library. What the library uses is
-- there. By the forms of these modules names mean what is read there, and no definition is one too
-- many.
pub record AreReadBehind (before : List LibraryRow) (number : ℕ) (given : Given)
    (form : ModuleForm) (table : Graph) (words : List Word) (forms : List Form)
    (reading : Reading table number forms) : Type 0 where
  pub behind : number ≡ length before
  pub used : ExportsAreThere before given.used
  pub made : IsTable given form table
  pub once : all_redefined words (definitions reading.modules forms) ≡ []

-- It is so where no fault of the library's names is told.
abbrev pub FaultlessAreReadBehind : Type 0
FaultlessAreReadBehind = (before : List LibraryRow) (number : ℕ) (given : Given)
    (form : ModuleForm) (table : Graph) (words : List Word) (doubled : List Fault)
    (forms : List Form) (reading : Reading table number forms) → number ≡ length before
    → ExportsAreThere before given.used → IsTable given form table
    → IsFirstFault table number words doubled forms reading None
    → AreReadBehind before number given form table words forms reading

-- these libraries, and behind them the one of these forms, where names mean this
abbrev pub with_library : List LibraryRow → Heading → Outside → List Form → List LibraryRow
with_library before heading out forms = before ++ library_from heading out forms ∷ []

-- what holds of each library that is read behind others
abbrev pub ReadBehind : ((before : List LibraryRow) (heading : Heading) (table : Graph)
    (forms : List Form) (reading : Reading table heading.number forms) → Type 0) → Type 0
ReadBehind Holds = (before : List LibraryRow) (heading : Heading) (given : Given)
    (form : ModuleForm) (table : Graph) (words : List Word) (forms : List Form)
    (reading : Reading table heading.number forms)
    → AreReadBehind before heading.number given form table words forms reading
    → Holds before heading table forms reading

-- Each generic function that its code calls is a row of it, or of one in front.
abbrev pub CallsAreThereBehind : Type 0
CallsAreThereBehind = ReadBehind (λ before heading table forms reading. CallsAreThere
    (with_library before heading reading.out forms) (library_from heading reading.out forms))

-- So all are there where those are that the libraries in front call.
abbrev pub GenericsAreThereBehind : Type 0
GenericsAreThereBehind = ReadBehind (λ before heading table forms reading.
    GenericsAreThere (program_of before)
    → GenericsAreThere (program_of (with_library before heading reading.out forms)))

-- And so are those that it exports itself, by the names of its modules as they are defined.
abbrev pub ExportsAreThereBehind : Type 0
ExportsAreThereBehind = ReadBehind (λ before heading table forms reading.
    (exported : List (Name × NamedList BindingId))
    → AllExported table.modules reading.defs table.shown exported
    → ModulesAreThere (with_library before heading reading.out forms) exported)

-- What a library exports all rows of is there where it stands by its number, or another one that
-- has as many generic functions: so what `dylan` and `io` export.
abbrev pub BuiltInAreThere : Type 0
BuiltInAreThere = (libraries : List LibraryRow) (number : ℕ) (name exported : List ℕ)
    (row there : LibraryRow) → slice_get libraries number ≡ Some there
    → length there.generics ≡ length row.generics
    → ExportsAreThere libraries (exports_of number name exported row ∷ [])

-- What is there stays where more libraries stand behind.
abbrev pub ExportsStay : Type 0
ExportsStay = (libraries more : List LibraryRow) (used : List Exports)
    → ExportsAreThere libraries used → ExportsAreThere (libraries ++ more) used

-- So the code of the program may run, where its terms are in scope.
abbrev pub ProgramsMayRunBehind : Type 0
ProgramsMayRunBehind = ReadBehind (λ before heading table forms reading.
    GenericsAreThere (program_of before)
    → IsScoped (program_of (with_library before heading reading.out forms))
    → IsValid (linked_program (program_of (with_library before heading reading.out forms))))

-- So each run ends, within one step more than a stretch for each form and for each unit.
abbrev pub ProgramsEndBehind : Type 0
ProgramsEndBehind = ReadBehind (λ before heading table forms reading. (fuel : ℕ)
    → GenericsAreThere (program_of before)
    → IsScoped (program_of (with_library before heading reading.out forms))
    → EndsInTime (machine_of (program_of (with_library before heading reading.out forms))) fuel)

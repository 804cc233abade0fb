-- The code of a library mentions libraries of its view alone, where what the libraries export that
-- it uses names these alone; and what libraries of a view export to it does.
use Rattle.std.specs.Prelude.{◌≡◌, ◌<◌, ℕ, ◌+◌, ◌-◌, List, [], length, map, Some}
use Rattle.dy_base.specs.Tables.{NamedList}
use Rattle.dy_base.specs.declared.exports.Exports.{Exports}
use Rattle.dy_base.specs.declared.ids.BindingId.{BindingId}
use Rattle.dy_term.specs.declared.rows.LibraryRow.{LibraryRow}
use Rattle.dy_prims.specs.Rows.{dylan_row, io_row}
use Rattle.dy_code.specs.Validity.{Every}
use Rattle.dy_library_rows.specs.Libraries.{Form}
use Rattle.dy_assembly.specs.declared.library.Heading.{Heading}
use Rattle.dy_module_forms.specs.declared.written.Form.{Form as ModuleForm}
use Rattle.dy_modules.specs.Clauses.{Name}
use Rattle.dy_module_tables.specs.Graphs.{Graph}
use Rattle.dy_graph.specs.Judged.{Given, IsTable}
use Rattle.dy_library_names.specs.Named.{Reading, library_from}
use Rattle.dy_load_order.specs.LoadOrder.{place_in}
use Rattle.dy_views.specs.declared.compiled.Compiled.{Compiled}
use Rattle.dy_views.specs.Views.{exports_in, order_of, AreCompiled, AreThere}
use Rattle.dy_linked_rows.specs.Mentioned.{mentioned}

-- ---- among so many libraries

-- the owner of each name is a row of one of them
abbrev pub NamesAreWithin : ℕ → NamedList BindingId → Type 0
NamesAreWithin count names = Every (λ name. name.1.at.library < count) names

-- so of the names of modules
abbrev pub ModulesAreWithin : ℕ → List (Name × NamedList BindingId) → Type 0
ModulesAreWithin count modules = Every (λ m. NamesAreWithin count m.1) modules

-- so of all that libraries export
abbrev pub ExportsAreWithin : ℕ → List Exports → Type 0
ExportsAreWithin count used =
    Every (λ library. ModulesAreWithin count library.modules
    × ModulesAreWithin count library.seen) used

-- the code of a library mentions these alone
abbrev pub MentionsAreWithin : ℕ → LibraryRow → Type 0
MentionsAreWithin count library = Every (λ mention. mention < count) (mentioned library)

-- ---- laws

-- A library's number is how many libraries stand in front of it in its view. Where what it uses
-- exports names of these, its code mentions these and itself, and no other library.
abbrev pub MentionsAreInView : Type 0
MentionsAreInView = (heading : Heading) (given : Given) (form : ModuleForm) (table : Graph)
    (forms : List Form) (reading : Reading table heading.number forms)
    → ExportsAreWithin heading.number given.used → IsTable given form table
    → MentionsAreWithin (heading.number + 1) (library_from heading reading.out forms)

-- The library that is compiled next stands last in its view.
abbrev pub OwnIsLast : Type 0
OwnIsLast = (compiled : Compiled) (used : List ℕ) → AreCompiled compiled → AreThere compiled used
    → place_in (order_of compiled used) (length compiled.exports)
    ≡ Some (length (order_of compiled used) - 1)

-- Those that it uses export names to it of those in front alone.
abbrev pub UsedAreWithin : Type 0
UsedAreWithin = (compiled : Compiled) (used : List ℕ) → AreCompiled compiled
    → AreThere compiled used → ExportsAreWithin (length (order_of compiled used) - 1)
    (map (exports_in compiled (order_of compiled used)) used)

-- So the code of the library that is compiled next, with its place as its number, mentions
-- libraries of its view alone.
abbrev pub NextMentionsAreInView : Type 0
NextMentionsAreInView = (compiled : Compiled) (used : List ℕ) (heading : Heading) (given : Given)
    (form : ModuleForm) (table : Graph) (forms : List Form)
    (reading : Reading table heading.number forms) → AreCompiled compiled → AreThere compiled used
    → heading.number ≡ length (order_of compiled used) - 1
    → given.used ≡ map (exports_in compiled (order_of compiled used)) used
    → IsTable given form table
    → MentionsAreWithin (length (order_of compiled used))
    (library_from heading reading.out forms)

-- The code of what is built in mentions none.
abbrev pub BuiltInMentionNone : Type 0
BuiltInMentionNone = (mentioned dylan_row ≡ []) × (mentioned io_row ≡ [])

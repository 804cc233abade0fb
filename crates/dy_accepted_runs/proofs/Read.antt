-- What is known of a library that was read behind those that were compiled before it.
use Rattle.std.proofs.Common.{◌≡◌, ℕ, ◌-◌, true, List, [], length, map, Some, None}
use Rattle.dy_base.specs.declared.exports.Exports.{Exports}
use Rattle.dy_base.specs.declared.fault.Fault.{Fault}
use Rattle.dy_tree.specs.declared.words.Word.{Word}
use Rattle.dy_library_rows.specs.Libraries.{Form}
use Rattle.dy_assembly.specs.declared.library.Heading.{Heading}
use Rattle.dy_lowering_whole.specs.valid.Scoped.{is_library_scoped}
use Rattle.dy_lowering_whole.specs.Lowered.{is_library_lowered}
use Rattle.dy_module_forms.specs.declared.written.Form.{Form as Written}
use Rattle.dy_module_tables.specs.Graphs.{Graph, AllExported}
use Rattle.dy_graph.specs.Judged.{Given, IsTable}
use Rattle.dy_library_names.specs.Named.{Reading, IsFirstFault, library_from}
use Rattle.dy_views.specs.declared.compiled.Compiled.{Compiled}
use Rattle.dy_views.specs.Views.{exports_in, order_of, AreThere}
use Rattle.dy_verdict.specs.declared.library.ReadLibrary.{ReadLibrary}

-- It is the library of forms in which nothing is wrong, whose names its modules give by what the libraries
-- export to it that it uses. It stands last in its view.
pub record IsReadSo (compiled : Compiled) (read : ReadLibrary) : Type 0 where
  pub there : AreThere compiled read.uses
  pub order : read.order ≡ order_of compiled read.uses
  pub heading : Heading
  pub number : heading.number ≡ length read.order - 1
  pub given : Given
  pub form : Written
  pub table : Graph
  pub words : List Word
  pub doubled : List Fault
  pub forms : List Form
  pub reading : Reading table heading.number forms
  pub used : given.used ≡ map (exports_in compiled read.order) read.uses
  pub made : IsTable given form table
  pub fine : IsFirstFault table heading.number words doubled forms reading None
  pub row : read.row ≡ library_from heading reading.out forms
  pub exported : AllExported table.modules reading.defs table.shown read.exports.modules
  pub seen : read.exports.seen ≡ []
  pub name : read.row.name ≡ read.exports.library
  pub scoped : is_library_scoped read.row ≡ true
  pub lowered : is_library_lowered read.row ≡ true

-- So each generic function that code calls is there behind `dylan` and `io`.
use Rattle.std.proofs.Common.{◌≡◌, List, [], ◌∷◌, refl, sym, subst}
use Rattle.dy_base.specs.declared.exports.Exports.{Exports}
use Rattle.dy_tree.specs.declared.words.Word.{Word}
use Rattle.dy_term.specs.declared.rows.LibraryRow.{LibraryRow}
use Rattle.dy_prims.specs.Rows.{dylan_row, io_row}
use Rattle.dy_library_rows.specs.Libraries.{Form}
use Rattle.dy_assembly.specs.Libraries.{own_heading, program_with}
use Rattle.dy_lowering_whole.proofs.valid.Securing.{scoped_programs_may_run}
use Rattle.dy_machine_laws.proofs.Built.{valid_programs_end}
use Rattle.dy_module_forms.specs.declared.written.Form.{Form as WrittenForm}
use Rattle.dy_module_tables.specs.Graphs.{Graph}
use Rattle.dy_graph.specs.Judged.{Given}
use Rattle.dy_library_names.specs.Named.{Reading}
use Rattle.dy_called_generics.proofs.Views.{built_in_generics}
use Rattle.dy_module_generics.specs.Behind.{ExportsAreThere, AreReadBehind}
use Rattle.dy_module_generics.specs.Called.{named_library, AreRead, FaultlessAreRead, NamedGenericsAreThere, NamedProgramsMayRun, NamedProgramsEnd}
use Rattle.dy_module_generics.proofs.BuiltIn.{both_are_there}
use Rattle.dy_module_generics.proofs.Behind.{none_redefined, generics_are_there_behind}

abbrev built_in : List LibraryRow
built_in = dylan_row ∷ io_row ∷ []

read_behind : (given : Given) (form : WrittenForm) (table : Graph) (words : List Word) (forms : List Form) (read : Reading table 2 forms) → AreRead given form table words forms read
    → AreReadBehind built_in 2 given form table words forms read
read_behind given form table words forms read are = record {
  behind = refl;
  used = subst (ExportsAreThere built_in) (sym are.used) (both_are_there []);
  made = are.made;
  once = are.once;
}

pub faultless_are_read : FaultlessAreRead
faultless_are_read given form table words doubled forms read used made first =
    record { used = used; made = made; once = none_redefined table 2 words doubled forms read first }

pub named_generics_are_there : NamedGenericsAreThere
named_generics_are_there name given form table words forms read are =
    generics_are_there_behind built_in (own_heading name) given form table words forms read (read_behind given form table words forms read are) built_in_generics

pub named_programs_may_run : NamedProgramsMayRun
named_programs_may_run name given form table words forms read are scoped =
    scoped_programs_may_run (program_with (named_library name read.out forms)) scoped (named_generics_are_there name given form table words forms read are)

pub named_programs_end : NamedProgramsEnd
named_programs_end name given form table words forms read fuel are scoped =
    valid_programs_end (program_with (named_library name read.out forms)) fuel (named_programs_may_run name given form table words forms read are scoped)

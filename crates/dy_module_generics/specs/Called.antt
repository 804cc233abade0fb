-- In the program of a library whose names its modules give, the generic functions that code calls
-- are there; and what follows: its code may run, and each run of it ends in time.
use Rattle.std.specs.Prelude.{◌≡◌, ℕ, List, [], ◌∷◌, None, codes}
use Rattle.dy_base.specs.declared.exports.Exports.{Exports}
use Rattle.dy_base.specs.declared.fault.Fault.{Fault}
use Rattle.dy_tree.specs.declared.words.Word.{Word}
use Rattle.dy_term.specs.declared.rows.LibraryRow.{LibraryRow}
use Rattle.dy_prims.specs.Rows.{dylan_row, io_row}
use Rattle.dy_names.specs.Outside.{Outside}
use Rattle.dy_code.specs.Validity.{IsValid}
use Rattle.dy_steps.specs.Standing.{EndsInTime}
use Rattle.dy_lowering_law.specs.Machines.{linked_program, machine_of}
use Rattle.dy_lowering_whole.specs.valid.Scoped.{IsScoped}
use Rattle.dy_lowering_whole.specs.valid.Valid.{GenericsAreThere}
use Rattle.dy_library_rows.specs.Libraries.{Form, rows_of}
use Rattle.dy_assembly.specs.Libraries.{own_heading, drafts_of, library_of, program_with}
use Rattle.dy_built_in_exports.specs.Names.{exports_of}
use Rattle.dy_module_forms.specs.declared.written.Form.{Form as ModuleForm}
use Rattle.dy_module_tables.specs.Graphs.{Graph}
use Rattle.dy_graph.specs.Judged.{Given, IsTable}
use Rattle.dy_definitions.specs.Redefined.{all_redefined}
use Rattle.dy_module_names.specs.Definitions.{definitions}
use Rattle.dy_library_names.specs.Named.{Reading, IsFirstFault}

-- what the built-in libraries export
abbrev pub dylan_exports : Exports
dylan_exports = exports_of 0 (codes "dylan") (codes "dylan") dylan_row

abbrev pub io_exports : Exports
io_exports = exports_of 1 (codes "io") (codes "format-out") io_row

-- the library of this name of these forms, where names mean this outside of bodies
abbrev pub named_library : List ℕ → Outside → List Form → LibraryRow
named_library name out forms =
    library_of (own_heading name) out.owner (drafts_of forms) (rows_of out forms)

-- The modules of a library that uses `dylan` and `io` alone, and the table that they have by the
-- first form that defines the library. By the forms of these modules names mean what is read there,
-- and no definition is one too many.
pub record AreRead (given : Given) (form : ModuleForm) (table : Graph) (words : List Word)
    (forms : List Form) (reading : Reading table 2 forms) : Type 0 where
  pub used : given.used ≡ dylan_exports ∷ io_exports ∷ []
  pub made : IsTable given form table
  pub once : all_redefined words (definitions reading.modules forms) ≡ []

-- It is so where no fault of the library's names is told.
abbrev pub FaultlessAreRead : Type 0
FaultlessAreRead = (given : Given) (form : ModuleForm) (table : Graph) (words : List Word)
    (doubled : List Fault) (forms : List Form) (reading : Reading table 2 forms)
    → given.used ≡ dylan_exports ∷ io_exports ∷ [] → IsTable given form table
    → IsFirstFault table 2 words doubled forms reading None
    → AreRead given form table words forms reading

-- Each generic function that the code of such a library calls is a row.
abbrev pub NamedGenericsAreThere : Type 0
NamedGenericsAreThere = (name : List ℕ) (given : Given) (form : ModuleForm) (table : Graph)
    (words : List Word) (forms : List Form) (reading : Reading table 2 forms)
    → AreRead given form table words forms reading
    → GenericsAreThere (program_with (named_library name reading.out forms))

-- So the code of its program may run, where its terms are in scope.
abbrev pub NamedProgramsMayRun : Type 0
NamedProgramsMayRun = (name : List ℕ) (given : Given) (form : ModuleForm) (table : Graph)
    (words : List Word) (forms : List Form) (reading : Reading table 2 forms)
    → AreRead given form table words forms reading
    → IsScoped (program_with (named_library name reading.out forms))
    → IsValid (linked_program (program_with (named_library name reading.out forms)))

-- So each run ends, within one step more than a stretch for each form and for each unit.
abbrev pub NamedProgramsEnd : Type 0
NamedProgramsEnd = (name : List ℕ) (given : Given) (form : ModuleForm) (table : Graph)
    (words : List Word) (forms : List Form) (reading : Reading table 2 forms) (fuel : ℕ)
    → AreRead given form table words forms reading
    → IsScoped (program_with (named_library name reading.out forms))
    → EndsInTime (machine_of (program_with (named_library name reading.out forms))) fuel

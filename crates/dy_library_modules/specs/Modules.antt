-- The modules of a library, or the fault that is told of them (own in the order of faults).
use Rattle.std.specs.Prelude.{◌≡◌, ◌⊎◌, ℕ, List, [], map, Option, Some, None, Result, Ok, Err}
use Rattle.dy_base.specs.declared.exports.Exports.{Exports}
use Rattle.dy_base.specs.declared.fault.Fault.{Fault}
use Rattle.dy_base.specs.declared.fault.Place.{Place}
use Rattle.dy_base.specs.declared.fault.Refusal.{Refusal}
use Rattle.dy_base.specs.declared.fault.Refusal.TheVariants as refusals
use Rattle.dy_tree.specs.declared.words.Words.{Words}
use Rattle.dy_tree.specs.Fragments.{SeenFragment}
use Rattle.dy_lexer.specs.declared.source.Source.{Source}
use Rattle.dy_module_forms.specs.declared.written.Placed.{Placed}
use Rattle.dy_module_forms.specs.declared.written.Form.{Form}
use Rattle.dy_module_forms.specs.Forms.{forms_of, syntax_at}
use Rattle.dy_modules.specs.Clauses.{Name}
use Rattle.dy_module_numbers.specs.declared.sorting.Sorted.{Sorted}
use Rattle.dy_module_numbers.specs.Sorting.{libraries, modules, form_name}
use Rattle.dy_module_tables.specs.Graphs.{Graph}
use Rattle.dy_graph.specs.Judged.{Given, given, Gives, Refuses}
use Rattle.dy_doubled.specs.declared.doubled.TakenNames.{TakenNames}
use Rattle.dy_doubled.specs.Doubled.{first_form, redefined_in}
use Rattle.dy_views.specs.declared.compiled.Compiled.{Compiled}
use Rattle.dy_views.specs.Views.{used_numbers, order_of, exports_in}
use Rattle.dy_library_modules.specs.declared.own_modules.LibraryModules.{LibraryModules}
use Rattle.dy_library_modules.specs.Users.{AreUsers}

-- the modules that source files name, in the order of the files
abbrev pub headers_of : List Source → List Name
headers_of sources = map (λ (file : Source). file.«module») sources

-- ---- what the library sees of those that were compiled before it

-- the clauses of a form, and none where there is no form
abbrev pub clauses_in : Option Form → List Placed
clauses_in None = []
clauses_in (Some form) = form.clauses

-- those of the first form of the library
abbrev pub clauses_of : List Form → List Placed
clauses_of forms = clauses_in (first_form (libraries forms))

-- the libraries that its use clauses name, in their order, each once
abbrev pub uses_of : Compiled → List Form → List ℕ
uses_of compiled forms = used_numbers compiled.exports (clauses_of forms)

-- its view, in load order
abbrev pub order_by : Compiled → List Form → List ℕ
order_by compiled forms = order_of compiled (uses_of compiled forms)

-- what the libraries that it uses export, by the places of its view
abbrev pub used_by : Compiled → List Form → List Exports
used_by compiled forms =
    map (exports_in compiled (order_by compiled forms)) (uses_of compiled forms)

-- What it defines though the name is taken: itself, where any library that was compiled has its
-- name, and modules, by what it imports of those that it uses.
abbrev pub taken_by : Name → Compiled → List Form → TakenNames
taken_by library compiled forms =
    redefined_in library forms (used_by compiled forms) compiled.exports

-- ---- its modules

-- what the forms of a library give: its view and what it uses, the table of its modules in which
-- nothing is defined, their names in the order of their numbers, and the faults of modules whose
-- names are taken
pub record HasModules (library : Name) (headers : List Name) (compiled : Compiled)
    (forms : List Form) (found : LibraryModules) : Type 0 where
  pub table : Gives (given library headers forms (used_by compiled forms)) (libraries forms)
      found.table
  pub untaken : (taken_by library compiled forms).library ≡ None
  pub names : found.names ≡ map form_name (modules forms)
  pub doubled : found.doubled ≡ (taken_by library compiled forms).modules
  pub order : found.order ≡ order_by compiled forms
  pub uses : found.uses ≡ uses_of compiled forms

module _ (library : Name) (headers : List Name) (compiled : Compiled) where
  -- the fault of the modules; or, where they have a table, that of the library, whose name is taken
  abbrev pub RefusesForms : List Form → Fault → Type 0
  RefusesForms forms fault =
      Refuses (given library headers forms (used_by compiled forms)) (libraries forms) fault
      ⊎ ((table : Graph)
      × Gives (given library headers forms (used_by compiled forms)) (libraries forms) table
      × ((taken_by library compiled forms).library ≡ Some fault))

  -- the same where the forms are still to be read
  abbrev pub RefusesRead : Result (List Form) Place → Fault → Type 0
  RefusesRead (Ok forms) fault = RefusesForms forms fault
  RefusesRead (Err place) fault = fault ≡ syntax_at place

  abbrev pub GivesRead : Result (List Form) Place → LibraryModules → Type 0
  GivesRead (Ok forms) found = HasModules library headers compiled forms found
  GivesRead (Err place) found = ⊥

  -- what a call gave; want of memory says nothing
  abbrev pub AnswersRead : Result (List Form) Place → Result LibraryModules Refusal → Type 0
  AnswersRead read (Ok found) = GivesRead read found
  AnswersRead read (Err (refusals.Fault fault)) = RefusesRead read fault
  AnswersRead read (Err refusals.Memory) = Unit {0}

module _ (words : Words) (library : Name) (sources : List Source) (compiled : Compiled) where
  -- the fault of the files that define the library, or of what they define
  abbrev pub RefusesModules : Fault → Type 0
  RefusesModules fault = AreUsers words sources (Err fault)
      ⊎ ((trees : List SeenFragment) × AreUsers words sources (Ok trees)
      × RefusesRead library (headers_of sources) compiled (forms_of trees) fault)

  -- the modules that they define
  abbrev pub GivesModules : LibraryModules → Type 0
  GivesModules found = (trees : List SeenFragment) × AreUsers words sources (Ok trees)
      × GivesRead library (headers_of sources) compiled (forms_of trees) found

  abbrev pub AnswersModules : Result LibraryModules Refusal → Type 0
  AnswersModules (Ok found) = GivesModules found
  AnswersModules (Err (refusals.Fault fault)) = RefusesModules fault
  AnswersModules (Err refusals.Memory) = Unit {0}

-- what a call gave of the forms of the library and the names of its modules
abbrev pub AnswersSorted : Result (List Form) Place → Result Sorted Refusal → Type 0
AnswersSorted (Ok forms) (Ok sorted) =
    (sorted.libraries ≡ libraries forms) × (sorted.names ≡ map form_name (modules forms))
AnswersSorted (Ok forms) (Err (refusals.Fault fault)) = ⊥
AnswersSorted (Ok forms) (Err refusals.Memory) = Unit {0}
AnswersSorted (Err place) (Ok sorted) = ⊥
AnswersSorted (Err place) (Err (refusals.Fault fault)) = fault ≡ syntax_at place
AnswersSorted (Err place) (Err refusals.Memory) = Unit {0}

-- that the forms of a library have one table, or one fault that is told
abbrev pub TablesAreOne : Type 0
TablesAreOne = (g : Given) (one other : Graph) → Gives g g.libraries one
    → Gives g g.libraries other → one ≡ other

abbrev pub TableFaultsAreOne : Type 0
TableFaultsAreOne = (g : Given) (one other : Fault) → Refuses g g.libraries one
    → Refuses g g.libraries other → one ≡ other

-- What the forms of a library come to: the table of its modules, or the first of all faults.
use Rattle.std.specs.Prelude.{◌≡◌, ◌≢◌, ◌⊎◌, ℕ, ◌+◌, false, List, [], ◌∷◌, ◌++◌, map, length}
use Rattle.std.specs.Prelude.{drop, replicate, slice_get, true, Option, Some, None, T}
use Rattle.std.specs.Prelude.{Result, Ok, Err}
use Rattle.std.specs.FinMap as finite
use Rattle.dy_base.specs.Folding.{folded}
use Rattle.dy_base.specs.Tables.{NamedList, by_bytes, table_of}
use Rattle.dy_base.specs.declared.kind.Kind.{Kind}
use Rattle.dy_base.specs.declared.kind.Kind.TheVariants.{UnknownLibrary}
use Rattle.dy_base.specs.declared.fault.Place.{Place}
use Rattle.dy_base.specs.declared.fault.Fault.{Fault}
use Rattle.dy_base.specs.declared.fault.Refusal.{Refusal}
use Rattle.dy_base.specs.declared.fault.Refusal.TheVariants as refusals
use Rattle.dy_base.specs.declared.exports.Exports.{Exports}
use Rattle.dy_module_forms.specs.declared.written.Clause.{Clause}
use Rattle.dy_module_forms.specs.declared.written.Clause.TheVariants as clauses
use Rattle.dy_module_forms.specs.declared.written.Placed.{Placed}
use Rattle.dy_module_forms.specs.declared.written.Form.{Form}
use Rattle.dy_module_forms.specs.Forms.{syntax_at}
use Rattle.dy_module_tables.specs.declared.promise.Promise.{Promise}
use Rattle.dy_module_tables.specs.Graphs.{Graph}
use Rattle.dy_modules.specs.declared.clause.UseClause.{UseClause}
use Rattle.dy_modules.specs.declared.clause.ModuleForm.{ModuleForm}
use Rattle.dy_modules.specs.Clauses.{Name, IsIn, brought}
use Rattle.dy_modules.specs.Sees.{exports, Named}
use Rattle.dy_module_numbers.specs.Sorting.{libraries, modules, form_name}
use Rattle.dy_module_numbers.specs.Options.{use_clause, exported}
use Rattle.dy_module_numbers.specs.Numbers.{given_form, behind_own, first_exported, library_numbers}
use Rattle.dy_module_numbers.specs.Numbers.{nothing_number}
use Rattle.dy_module_numbers.specs.Modules.{module_forms, source_of}
use Rattle.dy_library_form.specs.declared.found.Found.{Found}
use Rattle.dy_library_form.specs.declared.library.Reading.{Reading}
use Rattle.dy_graph.specs.declared.table.Begun.{Begun}
use Rattle.dy_modules.specs.declared.table.Cell.{Cell}
use Rattle.dy_modules.specs.declared.rounds.ModuleTables.{ModuleTables}
use Rattle.dy_modules.specs.Order.{is_made}
use Rattle.dy_library_form.specs.Library.{after_clauses, nothing_read, unknown_exports}
use Rattle.dy_library_form.specs.Library.{shown_modules, with_unit}
use Rattle.dy_library_form.specs.Told.{is_before, misnamed, doubled, unknown_headers}
use Rattle.dy_graph.specs.Faults.{AreModuleFaults, IsRingFault}

-- a library: its name, the modules that its files name, the forms of these files by what they are
-- about, each module once, and what used libraries export
pub record Given : Type 0 where
  pub library : Name
  pub headers : List Name
  pub libraries : List Form
  pub modules : List Form
  pub used : List Exports

abbrev pub given : Name → List Name → List Form → List Exports → Given
given library headers forms used = record {
  library = library;
  headers = headers;
  libraries = libraries forms;
  modules = modules forms;
  used = used;
}

abbrev pub own_names : Given → List Name
own_names g = map form_name g.modules

-- the modules of used libraries by number, behind those of the library
abbrev pub begun : Given → List ModuleForm
begun g = behind_own (replicate (length g.modules) (given_form [])) g.used

abbrev pub numbers : Given → List (NamedList ℕ)
numbers g = library_numbers (first_exported (length g.modules) g.used) g.used

-- the number of the module that exports nothing
abbrev pub nothing : Given → ℕ
nothing g = nothing_number (length g.modules) g.used

-- what the use clauses of the library's form come to
abbrev pub reading : Given → Form → Reading
reading g form = after_clauses g.used (numbers g) (begun g) form.clauses nothing_read

-- all modules by number
abbrev pub all_modules : Given → Form → List ModuleForm
all_modules g form = module_forms (own_names g) (reading g form).imported (nothing g) 0
    g.modules ++ drop (length g.modules) (begun g)

-- the faults of a library whose first form is this one
pub data HasFault (g : Given) (form : Form) : Found → Type 0 where
  -- the use and export clauses of the library
  in_library : (f : Found) → IsIn f (reading g form).found → HasFault g form f
  in_exports : (f : Found) → IsIn f
      (unknown_exports (own_names g) (reading g form).imported form.clauses) → HasFault g form f
  misnamed_form : (f : Found) → IsIn f (misnamed g.library form) → HasFault g form f
  doubled_form : (f : Found) → IsIn f (doubled (drop 1 g.libraries)) → HasFault g form f
  in_headers : (f : Found) → IsIn f (unknown_headers (own_names g) 0 g.headers) → HasFault g form f
  in_modules : (f : Found) → AreModuleFaults (own_names g) (reading g form).imported
      (all_modules g form) g.modules f → HasFault g form f
  on_ring : (f : Found) → IsRingFault (all_modules g form) g.modules f → HasFault g form f

-- the fault that is told: no other is told before it
pub record IsTold (g : Given) (form : Form) (f : Found) : Type 0 where
  pub fault : HasFault g form f
  pub first : (other : Found) → HasFault g form other → is_before other f ≡ false

-- the names that a clause brings of what a module exports, sorted by bytes and each once
abbrev pub as_units : List Name → NamedList (Unit {0})
as_units [] = []
as_units (name ∷ names) = (name, tt) ∷ as_units names

pub record AreBrought (ms : List ModuleForm) (u : UseClause) (names : List Name) : Type 0 where
  pub sorted : T (finite.is_sorted by_bytes (as_units names))
  pub to : (n : Name) → IsIn n names → (a : Name) × Named ms exports u.source a
      × (brought u a ≡ Some n)
  pub from : (a n : Name) → Named ms exports u.source a → brought u a ≡ Some n → IsIn n names

-- the names that a clause of a module promises
abbrev pub AreAgain : List ModuleForm → UseClause → Option (List Name) → List Name → Type 0
AreAgain ms u (Some names) list = list ≡ names
AreAgain ms u None list = (names : List Name) × AreBrought ms u names × (list ≡ map folded names)

abbrev pub ArePromisedBy : List Name → NamedList ℕ → ℕ → List ModuleForm → Clause → List Name
    → Type 0
ArePromisedBy own imported nothing ms (clauses.Export names) list = list ≡ names
ArePromisedBy own imported nothing ms (clauses.Create names) list = list ≡ names
ArePromisedBy own imported nothing ms (clauses.Use name options) list =
    AreAgain ms (use_clause (source_of own imported nothing name) options) (exported options) list

abbrev pub promise_of : ℕ → Place → Name → Promise
promise_of m place name = record { number = m; name = name; place = place }

-- the promises of these clauses of module m, in their order
abbrev pub ArePromises : List Name → NamedList ℕ → ℕ → List ModuleForm → ℕ → List Placed
    → List Promise → Type 0
ArePromises own imported nothing ms m [] list = list ≡ []
ArePromises own imported nothing ms m (clause ∷ rest) list =
    (names : List Name) × (others : List Promise)
    × ArePromisedBy own imported nothing ms clause.clause names
    × ArePromises own imported nothing ms m rest others
    × (list ≡ map (promise_of m clause.place) names ++ others)

-- those of all modules, numbered from a number on
abbrev pub AreAllPromises : List Name → NamedList ℕ → ℕ → List ModuleForm → ℕ → List Form
    → List Promise → Type 0
AreAllPromises own imported nothing ms m [] list = list ≡ []
AreAllPromises own imported nothing ms m (form ∷ rest) list = (here others : List Promise)
    × ArePromises own imported nothing ms m form.clauses here
    × AreAllPromises own imported nothing ms (m + 1) rest others × (list ≡ here ++ others)

-- modules by their names in lower case
abbrev pub in_lower_case : Name × ℕ → Name × ℕ
in_lower_case row = (folded row.0, row.1)

-- a table in which nothing is defined yet
pub record IsTable (g : Given) (form : Form) (t : Graph) : Type 0 where
  pub modules : t.modules ≡ all_modules g form
  pub own : t.own ≡ length g.modules
  pub defined : t.defined ≡ replicate (length (all_modules g form)) finite.empty
  pub promised : AreAllPromises (own_names g) (reading g form).imported (nothing g)
      (all_modules g form) 0 g.modules t.promised
  -- the modules that the library exports, sorted by bytes
  pub shown : t.shown ≡ map in_lower_case (finite.entries
      (table_of (shown_modules g.used (numbers g) (own_names g) (reading g form).imported
      [] form.clauses)))

abbrev pub fault_at : Kind → Option Place → Name → Fault
fault_at kind place name =
    record { kind = kind; library = []; place = place; shown = name ∷ []; numbers = [] }

abbrev pub fault_of : Found → Fault
fault_of f = fault_at f.kind (Some f.place) f.name

-- where no form defines the library: line 1 of the first file, if there is one
abbrev pub first_line : List Name → Option Place
first_line [] = None
first_line (name ∷ names) = Some (record { file = 0; offset = 0 })

abbrev pub no_library : Name → List Name → Fault
no_library library headers = fault_at UnknownLibrary (first_line headers) library

-- the first fault of these forms, or the table of their modules
abbrev pub Refuses : Given → List Form → Fault → Type 0
Refuses g [] fault = fault ≡ no_library g.library g.headers
Refuses g (form ∷ forms) fault = (f : Found) × IsTold g form f × (fault ≡ fault_of f)

abbrev pub Gives : Given → List Form → Graph → Type 0
Gives g [] t = ⊥
Gives g (form ∷ forms) t = ((f : Found) → HasFault g form f → ⊥) × IsTable g form t

-- what is answered; want of memory says nothing
abbrev pub IsJudged : Given → Result Graph Refusal → Type 0
IsJudged g (Ok t) = Gives g g.libraries t
IsJudged g (Err (refusals.Fault fault)) = Refuses g g.libraries fault
IsJudged g (Err refusals.Memory) = Unit {0}

-- the same where the forms are still to be read
abbrev pub IsSyntax : Place → Result Graph Refusal → Type 0
IsSyntax place (Ok t) = ⊥
IsSyntax place (Err (refusals.Fault fault)) = fault ≡ syntax_at place
IsSyntax place (Err refusals.Memory) = Unit {0}

abbrev pub IsAnswer : Name → List Name → Result (List Form) Place → List Exports
    → Result Graph Refusal → Type 0
IsAnswer library headers (Ok forms) used result =
    IsJudged (given library headers forms used) result
IsAnswer library headers (Err place) used result = IsSyntax place result

-- forms have one answer, a table or a fault, where memory suffices
abbrev pub AnswersAreOne : Type 0
AnswersAreOne = (library : Name) (headers : List Name) (forms : Result (List Form) Place)
    (used : List Exports) (a b : Result Graph Refusal) → IsAnswer library headers forms used a
    → IsAnswer library headers forms used b → (a ≢ Err refusals.Memory)
    → (b ≢ Err refusals.Memory) → a ≡ b

-- the modules of a library before their tables are made
pub record IsBegun (g : Given) (form : Form) (b : Begun) (list : List Found) : Type 0 where
  pub own : b.naming.own ≡ own_names g
  pub imported : b.naming.imported ≡ (reading g form).imported
  pub nothing_is : b.naming.nothing ≡ nothing g
  pub modules : b.modules ≡ all_modules g form
  pub libraries_are : b.libraries.items ≡ numbers g
  pub found_are : list ≡ (reading g form).found

-- the faults but for those of the library's use clauses
abbrev pub IsOtherFault : Name → List Name → List Name → NamedList ℕ → List ModuleForm → Form
    → List Form → List Form → Found → Type 0
IsOtherFault library headers own imported ms form others forms f =
    IsIn f (misnamed library form ++ doubled others)
    ⊎ IsIn f (unknown_exports own imported form.clauses) ⊎ IsIn f (unknown_headers own 0 headers)
    ⊎ IsRingFault ms forms f ⊎ AreModuleFaults own imported ms forms f

-- what the code does row by row
abbrev pub with_lower : List (Name × ℕ) → Option (Name × ℕ) → List (Name × ℕ)
with_lower list None = list
with_lower list (Some row) = list ++ in_lower_case row ∷ []

abbrev pub all_lower : List (Name × ℕ) → List (Option (Name × ℕ)) → List (Name × ℕ)
all_lower list [] = list
all_lower list (row ∷ rows) = all_lower (with_lower list row) rows

abbrev pub with_new : Option Name → NamedList (Unit {0}) → NamedList (Unit {0})
with_new None list = list
with_new (Some name) list = with_unit list name

abbrev pub with_new_row : UseClause → Option (Name × Cell) → NamedList (Unit {0})
    → NamedList (Unit {0})
with_new_row u None list = list
with_new_row u (Some row) list = with_new (brought u row.0) list

abbrev pub new_rows : UseClause → NamedList (Unit {0}) → NamedList Cell → NamedList (Unit {0})
new_rows u list [] = list
new_rows u list (row ∷ rows) = new_rows u (with_new_row u (Some row) list) rows

abbrev pub promise_of_row : ℕ → Place → Option (Name × Unit {0}) → List Promise
promise_of_row m place None = []
promise_of_row m place (Some row) = promise_of m place (folded row.0) ∷ []

abbrev pub promises_of_rows : ℕ → Place → List (Option (Name × Unit {0})) → List Promise
promises_of_rows m place [] = []
promises_of_rows m place (row ∷ rows) =
    promise_of_row m place row ++ promises_of_rows m place rows

abbrev pub promises_of_table : ℕ → Place → UseClause → NamedList Cell → List Promise
promises_of_table m place u table =
    promises_of_rows m place (map Some (finite.entries (table_of (new_rows u [] table))))

-- the promises of these names come to others
abbrev pub Promises : ℕ → Place → List Promise → List Promise → (List Name → Type 0) → Type 0
Promises m place old new P = (names : List Name) × P names
    × (new ≡ old ++ map (promise_of m place) names)

-- the tables of all modules that clauses can use are made
abbrev pub AreReady : List Name → NamedList ℕ → ℕ → List (Option ModuleTables) → Type 0
AreReady own imported nothing done = (name : Name)
    → is_made (slice_get done (source_of own imported nothing name)) ≡ true

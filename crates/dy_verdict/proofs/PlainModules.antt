-- No fault of the modules of a library says that a file is absent.
use Rattle.std.proofs.Common.{◌≡◌, ◌≢◌, ◌⊎◌, ℕ, ◌+◌, Bool, true, false, List, [], ◌∷◌, ◌++◌, Option, Some, None, sym, ap, subst, ◌∙◌, inl, inr}
use Rattle.std.specs.Prelude.{◌%◌, if◌then◌else◌, slice_get, drop}
use Rattle.std.proofs.lemmas.Bool.{cond_both}
use Rattle.std.specs.Str.{bytes_eq}
use Rattle.dy_base.specs.Tables.{NamedList}
use Rattle.dy_base.specs.declared.kind.Kind.{Kind}
use Rattle.dy_base.specs.declared.kind.Kind.TheVariants.{NoFile, UnknownLibrary, UnknownModule, NameClash, NotExported, Cycle}
use Rattle.dy_base.specs.declared.exports.Exports.{Exports}
use Rattle.dy_base.specs.declared.fault.Place.{Place}
use Rattle.dy_base.specs.declared.fault.Fault.{Fault}
use Rattle.dy_module_forms.specs.declared.written.UseOption.{UseOption}
use Rattle.dy_module_forms.specs.declared.written.Clause.{Clause}
use Rattle.dy_module_forms.specs.declared.written.Clause.TheVariants as clauses
use Rattle.dy_module_forms.specs.declared.written.Placed.{Placed}
use Rattle.dy_module_forms.specs.declared.written.Form.{Form}
use Rattle.dy_modules.specs.declared.clause.ModuleForm.{ModuleForm}
use Rattle.dy_modules.specs.declared.clause.UseClause.{UseClause}
use Rattle.dy_modules.specs.Clauses.{Name, IsIn, is_one_of}
use Rattle.dy_module_numbers.specs.Options.{use_clause}
use Rattle.dy_module_numbers.specs.Numbers.{number_of, brought_modules}
use Rattle.dy_library_form.specs.declared.found.Found.{Found}
use Rattle.dy_library_form.specs.declared.library.Reading.{Reading}
use Rattle.dy_library_form.specs.Told.{found, told_at, missing, brought_names, not_exported, misnamed, doubled, is_own_header, unknown_header, unknown_headers}
use Rattle.dy_library_form.specs.Library.{place_of, names_of, least_name, clashing_list, with_clash, told_clash, with_imports, after_rows, after_modules, after_library, after_clause, after_clauses, nothing_read, unknown_name, unknown_in, unknown_exports}
use Rattle.dy_graph.specs.Faults.{IsUseFault, IsClauseFault, AreModuleFaults}
use Rattle.dy_graph.specs.Judged.{Given, HasFault, in_library, in_exports, misnamed_form, doubled_form, in_headers, in_modules, on_ring, own_names, reading, all_modules, numbers, begun}

abbrev pub IsOpen : Found → Type 0
IsOpen f = f.kind ≢ NoFile

abbrev AllOpen : List Found → Type 0
AllOpen [] = Unit {0}
AllOpen (f ∷ list) = IsOpen f × AllOpen list

both_open : (some more : List Found) → AllOpen some → AllOpen more → AllOpen (some ++ more)
both_open [] more s m = m
both_open (f ∷ some) more s m = (s.0, both_open some more s.1 m)

same_open : (f : Found) (kind : Kind) (place : Place) (name : Name) → kind ≢ NoFile → f ≡ found kind place name → IsOpen f
same_open f kind place name other is e = other (sym (ap (λ (g : Found). g.kind) is) ∙ e)

told_open : (kind : Kind) (place : Place) (name : Option Name) → kind ≢ NoFile → AllOpen (told_at kind place name)
told_open kind place None other = tt
told_open kind place (Some name) other = (other, tt)

in_open : (f : Found) (list : List Found) → IsIn f list → AllOpen list → IsOpen f
in_open f [] among o = absurd among
in_open f (g ∷ list) (inl same) o = subst IsOpen (sym same) o.0
in_open f (g ∷ list) (inr more) o = in_open f list more o.1

-- ---- the form of the library

clash_open : (r : Reading) (place : Place) (name : Option Name) → AllOpen r.found → AllOpen (with_clash r place name).found
clash_open r place None o = o
clash_open r place (Some name) o = both_open r.found (found NameClash place name ∷ []) o ((λ e. cc), tt)

by_clashing : (b : Bool) (r : Reading) (place : Place) (name : Option Name) → AllOpen r.found → AllOpen (if b then r else with_clash r place name).found
by_clashing true r place name o = o
by_clashing false r place name o = clash_open r place name o

rows_open : (forms : List ModuleForm) (place : Place) (u : UseClause) (options : List UseOption) (modules : NamedList ℕ) (r : Reading) → AllOpen r.found → AllOpen (after_rows forms place u options modules r).found
rows_open forms place u options modules r o =
    let pairs = brought_modules u modules in
    let imports = with_imports pairs r in
    both_open (told_clash forms place pairs imports).found (not_exported place u (names_of modules) options)
    (by_clashing imports.is_clashing imports place (least_name (clashing_list forms imports.imported pairs)) o)
    (told_open NotExported place (missing (names_of modules) (brought_names u (names_of modules)) options) (λ e. cc))

modules_open : (forms : List ModuleForm) (place : Place) (library : ℕ) (options : List UseOption) (modules : Option (NamedList ℕ)) (r : Reading) → AllOpen r.found → AllOpen (after_modules forms place library options modules r).found
modules_open forms place library options None r o = o
modules_open forms place library options (Some modules) r o = rows_open forms place (use_clause library options) options modules r o

library_open : (forms : List ModuleForm) (libraries : List (NamedList ℕ)) (place : Place) (name : Name) (options : List UseOption) (at : Option ℕ) (r : Reading) → AllOpen r.found
    → AllOpen (after_library forms libraries place name options at r).found
library_open forms libraries place name options None r o = both_open r.found (found UnknownLibrary place name ∷ []) o ((λ e. cc), tt)
library_open forms libraries place name options (Some library) r o = modules_open forms place library options (slice_get libraries library) r o

clause_open : (used : List Exports) (libraries : List (NamedList ℕ)) (forms : List ModuleForm) (place : Place) (clause : Clause) (r : Reading) → AllOpen r.found → AllOpen (after_clause used libraries forms place clause r).found
clause_open used libraries forms place (clauses.Use name options) r o = library_open forms libraries place name options (place_of used name) r o
clause_open used libraries forms place (clauses.Export names) r o = o
clause_open used libraries forms place (clauses.Create names) r o = o

clauses_open : (used : List Exports) (libraries : List (NamedList ℕ)) (forms : List ModuleForm) (list : List Placed) (r : Reading) → AllOpen r.found → AllOpen (after_clauses used libraries forms list r).found
clauses_open used libraries forms [] r o = o
clauses_open used libraries forms (clause ∷ rest) r o =
    clauses_open used libraries forms rest (after_clause used libraries forms clause.place clause.clause r) (clause_open used libraries forms clause.place clause.clause r o)

unknown_open : (own : List Name) (imported : NamedList ℕ) (place : Place) (clause : Clause) → AllOpen (unknown_in own imported place clause)
unknown_open own imported place (clauses.Export names) = told_open UnknownModule place (unknown_name own imported names) (λ e. cc)
unknown_open own imported place (clauses.Use name options) = tt
unknown_open own imported place (clauses.Create names) = tt

exports_open : (own : List Name) (imported : NamedList ℕ) (list : List Placed) → AllOpen (unknown_exports own imported list)
exports_open own imported [] = tt
exports_open own imported (clause ∷ rest) =
    both_open (unknown_in own imported clause.place clause.clause) (unknown_exports own imported rest) (unknown_open own imported clause.place clause.clause) (exports_open own imported rest)

misnamed_open : (library : Name) (form : Form) → AllOpen (misnamed library form)
misnamed_open library form = cond_both (bytes_eq form.name library) [] (found UnknownLibrary form.place form.name ∷ []) AllOpen (λ t. tt) (λ t. ((λ e. cc), tt))

doubled_open : (forms : List Form) → AllOpen (doubled forms)
doubled_open [] = tt
doubled_open (form ∷ forms) = ((λ e. cc), doubled_open forms)

header_open : (own : List Name) (file : ℕ) (name : Name) → AllOpen (unknown_header own file name)
header_open own file name =
    cond_both (is_own_header own name) [] (found UnknownModule (record { file = file; offset = 0 }) name ∷ []) AllOpen (λ t. tt) (λ t. ((λ e. cc), tt))

headers_open : (own : List Name) (file : ℕ) (names : List Name) → AllOpen (unknown_headers own file names)
headers_open own file [] = tt
headers_open own file (name ∷ rest) = both_open (unknown_header own file name) (unknown_headers own ((file + 1) % 4294967296) rest) (header_open own file name) (headers_open own ((file + 1) % 4294967296) rest)

-- ---- the modules

use_open : (ms : List ModuleForm) (m : ℕ) (place : Place) (name : Name) (options : List UseOption) (source : Option ℕ) (f : Found) → IsUseFault ms m place name options source f → IsOpen f
use_open ms m place name options None f is = same_open f UnknownModule place name (λ e. cc) is
use_open ms m place name options (Some source) f (leads, (n, lacks, is)) = same_open f NotExported place n (λ e. cc) is

in_clause_open : (own : List Name) (imported : NamedList ℕ) (ms : List ModuleForm) (m : ℕ) (place : Place) (clause : Clause) (f : Found) → IsClauseFault own imported ms m place clause f → IsOpen f
in_clause_open own imported ms m place (clauses.Use name options) f is = use_open ms m place name options (number_of own imported name) f is
in_clause_open own imported ms m place (clauses.Export names) f is = absurd is
in_clause_open own imported ms m place (clauses.Create names) f is = absurd is

module_open : (own : List Name) (imported : NamedList ℕ) (ms : List ModuleForm) (forms : List Form) (f : Found) → AreModuleFaults own imported ms forms f → IsOpen f
module_open own imported ms forms f (m, form, at, inl (clause, among, is)) = in_clause_open own imported ms m clause.place clause.clause f is
module_open own imported ms forms f (m, form, at, inr (d, here, leads, (i, place, n, clash, placed, is))) = same_open f NameClash place n (λ e. cc) is

pub fault_open : (g : Given) (form : Form) (f : Found) → HasFault g form f → IsOpen f
fault_open g form _ (in_library f among) =
    in_open f (reading g form).found among (clauses_open g.used (numbers g) (begun g) form.clauses nothing_read tt)
fault_open g form _ (in_exports f among) =
    in_open f (unknown_exports (own_names g) (reading g form).imported form.clauses) among (exports_open (own_names g) (reading g form).imported form.clauses)
fault_open g form _ (misnamed_form f among) = in_open f (misnamed g.library form) among (misnamed_open g.library form)
fault_open g form _ (doubled_form f among) = in_open f (doubled (drop 1 g.libraries)) among (doubled_open (drop 1 g.libraries))
fault_open g form _ (in_headers f among) = in_open f (unknown_headers (own_names g) 0 g.headers) among (headers_open (own_names g) 0 g.headers)
fault_open g form _ (in_modules f are) = module_open (own_names g) (reading g form).imported (all_modules g form) g.modules f are
fault_open g form _ (on_ring f (m, of, at, first, leads, is)) = same_open f Cycle of.place of.name (λ e. cc) is

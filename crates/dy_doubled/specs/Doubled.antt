-- Modules that a library defines twice, or defines and imports, and libraries of one name (DRM 4,
-- "Modules" and "Libraries"; own in which form is told).
use Rattle.std.specs.Prelude.{◌≡◌, ◌≢◌, ℕ, Bool, not, ◌&&◌, ◌||◌, cond, is_some, position}
use Rattle.std.specs.Prelude.{slice_get, List, [], ◌∷◌, ◌++◌, Option, Some, None, Result, Ok, Err}
use Rattle.std.specs.List.{list_any}
use Rattle.std.specs.Str.{bytes_eq}
use Rattle.dy_base.specs.declared.exports.Exports.{Exports}
use Rattle.dy_base.specs.declared.fault.Fault.{Fault as FaultData}
use Rattle.dy_base.specs.declared.fault.Place.{Place}
use Rattle.dy_base.specs.declared.fault.Refusal.{Refusal}
use Rattle.dy_base.specs.declared.fault.Refusal.TheVariants.{Fault, Memory}
use Rattle.dy_base.specs.declared.kind.Kind.TheVariants as kinds
use Rattle.dy_module_forms.specs.declared.written.Clause.{Clause}
use Rattle.dy_module_forms.specs.declared.written.Clause.TheVariants as clauses
use Rattle.dy_module_forms.specs.declared.written.UseOption.{UseOption}
use Rattle.dy_module_forms.specs.declared.written.Placed.{Placed}
use Rattle.dy_module_forms.specs.declared.written.Form.{Form}
use Rattle.dy_module_forms.specs.Forms.{syntax_at}
use Rattle.dy_modules.specs.declared.clause.UseClause.{UseClause}
use Rattle.dy_modules.specs.Clauses.{Name, is_one_of, brought}
use Rattle.dy_module_numbers.specs.Options.{use_clause, with_name}
use Rattle.dy_module_numbers.specs.Numbers.{Row}
use Rattle.dy_module_numbers.specs.Sorting.{is_of_library, libraries}
use Rattle.dy_doubled.specs.declared.doubled.TakenNames.{TakenNames}

abbrev pub is_library : Name → Exports → Bool
is_library name library = bytes_eq library.library name

-- the place of the library of a name among others
abbrev pub place_of : List Exports → Name → Option ℕ
place_of others name = position (is_library name) others

abbrev pub with_first : Option Name → List Name → List Name
with_first None names = names
with_first (Some name) names = name ∷ names

-- the names of modules that a clause brings
abbrev pub brought_names : UseClause → List Row → List Name
brought_names u [] = []
brought_names u (row ∷ rows) = with_first (brought u row.0) (brought_names u rows)

abbrev pub library_at : List Exports → Option ℕ → Option Exports
library_at used None = None
library_at used (Some place) = slice_get used place

abbrev pub imported_of : List UseOption → Option Exports → List Name
imported_of options None = []
imported_of options (Some library) = brought_names (use_clause 0 options) library.modules

abbrev pub imported_by : List Exports → Clause → List Name
imported_by used (clauses.Use name options) =
    imported_of options (library_at used (place_of used name))
imported_by used (clauses.Export names) = []
imported_by used (clauses.Create names) = []

-- the names of the modules that clauses of a library import
abbrev pub imported : List Exports → List Placed → List Name
imported used [] = []
imported used (clause ∷ rest) = imported_by used clause.clause ++ imported used rest

abbrev pub first_form : List Form → Option Form
first_form [] = None
first_form (form ∷ forms) = Some form

abbrev pub imported_in : List Exports → Option Form → List Name
imported_in used None = []
imported_in used (Some form) = imported used form.clauses

-- a form of the module of this name
abbrev pub defines : Name → Form → Bool
defines name form = not (is_of_library form.kind) && bytes_eq name form.name

-- a form of a module of which the library imports another, or that has a form in front of it
abbrev pub is_doubled : List Name → List Form → Form → Bool
is_doubled imported before form = not (is_of_library form.kind)
    && (is_one_of imported form.name || list_any (defines form.name) before)

-- a fault at a form, which shows its name
abbrev pub redefined : Form → FaultData
redefined form = record {
  kind = kinds.Redefined;
  library = [];
  place = Some form.place;
  shown = form.name ∷ [];
  numbers = [];
}

-- those of these forms, in their order, where others stand in front of them
abbrev pub doubled_behind : List Name → List Form → List Form → List FaultData
doubled_behind imported before [] = []
doubled_behind imported before (form ∷ forms) = cond (is_doubled imported before form)
    (redefined form ∷ doubled_behind imported (before ++ form ∷ []) forms)
    (doubled_behind imported (before ++ form ∷ []) forms)

-- a library, at its form, where another one that is given has its name
abbrev pub library_fault : List Exports → Name → Option Form → Option FaultData
library_fault given library None = None
library_fault given library (Some form) =
    cond (is_some (place_of given library)) (Some (redefined form)) None

-- What is defined though the name is taken: the library, where any other that is given has its
-- name, and modules, by what is imported of those that are used.
abbrev pub redefined_in : Name → List Form → (used given : List Exports) → TakenNames
redefined_in library forms used given = record {
  library = library_fault given library (first_form (libraries forms));
  modules = doubled_behind (imported_in used (first_form (libraries forms))) [] forms;
}

-- what is answered; want of memory says nothing
abbrev pub IsRead : TakenNames → Result TakenNames Refusal → Type 0
IsRead redefined (Ok r) = r ≡ redefined
IsRead redefined (Err (Fault fault)) = ⊥
IsRead redefined (Err Memory) = Unit {0}

-- the same where the forms are still to be read
abbrev pub IsSyntax : Place → Result TakenNames Refusal → Type 0
IsSyntax place (Ok r) = ⊥
IsSyntax place (Err (Fault fault)) = fault ≡ syntax_at place
IsSyntax place (Err Memory) = Unit {0}

abbrev pub IsAnswer : Name → Result (List Form) Place → (used given : List Exports)
    → Result TakenNames Refusal → Type 0
IsAnswer library (Ok forms) used given result =
    IsRead (redefined_in library forms used given) result
IsAnswer library (Err place) used given result = IsSyntax place result

-- forms have one answer where memory suffices
abbrev pub AnswersAreOne : Type 0
AnswersAreOne = (library : Name) (forms : Result (List Form) Place) (used given : List Exports)
    (a b : Result TakenNames Refusal) → IsAnswer library forms used given a
    → IsAnswer library forms used given b → (a ≢ Err Memory) → (b ≢ Err Memory) → a ≡ b

-- what the code adds row by row
abbrev pub with_new : List Name → Option Name → List Name
with_new set None = set
with_new set (Some name) = with_name set name

abbrev pub with_brought : UseClause → List Name → Name → List Name
with_brought u set name = with_new set (brought u name)

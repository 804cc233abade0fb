-- What the form of a library imports and exports.
use Rattle.std.specs.Prelude.{ℕ, Bool, true, false, if◌then◌else◌, List, []}
use Rattle.std.specs.Prelude.{◌∷◌, ◌++◌, position, slice_get, is_some, Option, Some, None}
use Rattle.std.specs.FinMap as finite
use Rattle.std.specs.Str.{bytes_eq}
use Rattle.indexmap.specs.IndexMap.{insert_entry}
use Rattle.dy_base.specs.Tables.{NamedList, table_of, names}
use Rattle.dy_base.specs.declared.exports.Exports.{Exports}
use Rattle.dy_modules.specs.declared.clause.ModuleForm.{ModuleForm}
use Rattle.dy_modules.specs.declared.clause.UseClause.{UseClause}
use Rattle.dy_modules.specs.Clauses.{Name}
use Rattle.dy_modules.specs.Cells.{picked}
use Rattle.dy_base.specs.declared.kind.Kind.TheVariants.{UnknownLibrary, UnknownModule, NameClash}
use Rattle.dy_base.specs.declared.fault.Place.{Place}
use Rattle.dy_module_forms.specs.declared.written.UseOption.{UseOption}
use Rattle.dy_module_forms.specs.declared.written.Clause.{Clause}
use Rattle.dy_module_forms.specs.declared.written.Clause.TheVariants as clauses
use Rattle.dy_module_forms.specs.declared.written.Placed.{Placed}
use Rattle.dy_library_form.specs.declared.found.Found.{Found}
use Rattle.dy_library_form.specs.declared.library.Reading.{Reading}
use Rattle.dy_module_numbers.specs.Options.{with_names, use_clause}
use Rattle.dy_module_numbers.specs.Numbers.{is_other, number_of, brought_modules}
use Rattle.dy_module_numbers.specs.Numbers.{with_modules}
use Rattle.dy_library_form.specs.Told.{found, told_at, not_exported}

abbrev pub is_library : Name → Exports → Bool
is_library name library = bytes_eq library.library name

-- the place of a library among those that are used
abbrev pub place_of : List Exports → Name → Option ℕ
place_of used name = position (is_library name) used

abbrev pub names_of : NamedList ℕ → List Name
names_of modules = with_names [] (names modules)

abbrev pub with_unit : NamedList (Unit {0}) → Name → NamedList (Unit {0})
with_unit list name = insert_entry bytes_eq list name tt

abbrev pub clashing_after : NamedList (Unit {0}) → List ModuleForm → NamedList ℕ → NamedList ℕ
    → NamedList (Unit {0})
clashing_after list forms visible [] = list
clashing_after list forms visible (pair ∷ pairs) =
    clashing_after (if is_other forms (finite.get (table_of visible) pair.0) pair.1
    then with_unit list pair.0 else list) forms visible pairs

abbrev pub clashing_list : List ModuleForm → NamedList ℕ → NamedList ℕ → NamedList (Unit {0})
clashing_list forms visible pairs = clashing_after [] forms visible pairs

-- the first name by its bytes
abbrev pub first_name : NamedList (Unit {0}) → Option Name
first_name [] = None
first_name (entry ∷ rest) = Some entry.0

abbrev pub least_name : NamedList (Unit {0}) → Option Name
least_name list = first_name (finite.entries (table_of list))

-- the name at a place of a list
abbrev pub row_name : Option (Name × Unit {0}) → Option Name
row_name None = None
row_name (Some row) = Some row.0

abbrev pub name_at : NamedList (Unit {0}) → Option ℕ → Option Name
name_at list None = None
name_at list (Some place) = row_name (slice_get list place)

-- a clash is told once
abbrev pub with_clash : Reading → Place → Option Name → Reading
with_clash reading place None = reading
with_clash reading place (Some name) =
    record {
      imported = reading.imported;
      is_clashing = true;
      found =
          reading.found ++ found NameClash place name ∷ [];
    }

abbrev pub told_clash : List ModuleForm → Place → NamedList ℕ → Reading → Reading
told_clash forms place pairs reading =
    if reading.is_clashing then reading
    else with_clash reading place (least_name (clashing_list forms reading.imported pairs))

abbrev pub with_imports : NamedList ℕ → Reading → Reading
with_imports pairs reading =
    record {
      imported = with_modules reading.imported pairs;
      is_clashing =
          reading.is_clashing;
      found = reading.found;
    }

abbrev pub with_found : List Found → Reading → Reading
with_found list reading =
    record {
      imported = reading.imported;
      is_clashing = reading.is_clashing;
      found =
          reading.found ++ list;
    }

-- what is known after a use clause of a library that exports these modules
abbrev pub after_rows : List ModuleForm → Place → UseClause → List UseOption → NamedList ℕ
    → Reading → Reading
after_rows forms place u options modules reading =
    with_found (not_exported place u (names_of modules) options)
    (told_clash forms place (brought_modules u modules)
    (with_imports (brought_modules u modules) reading))

abbrev pub after_modules : List ModuleForm → Place → ℕ → List UseOption → Option (NamedList ℕ)
    → Reading → Reading
after_modules forms place library options None reading = reading
after_modules forms place library options (Some modules) reading =
    after_rows forms place (use_clause library options) options modules reading

abbrev pub after_library : List ModuleForm → List (NamedList ℕ) → Place → Name → List UseOption
    → Option ℕ → Reading → Reading
after_library forms libraries place name options None reading =
    with_found (found UnknownLibrary place name ∷ []) reading
after_library forms libraries place name options (Some library) reading =
    after_modules forms place library options (slice_get libraries library) reading

abbrev pub after_clause : List Exports → List (NamedList ℕ) → List ModuleForm → Place → Clause
    → Reading → Reading
after_clause used libraries forms place (clauses.Use name options) reading =
    after_library forms libraries place name options (place_of used name) reading
after_clause used libraries forms place (clauses.Export names) reading = reading
after_clause used libraries forms place (clauses.Create names) reading = reading

abbrev pub after_clauses : List Exports → List (NamedList ℕ) → List ModuleForm → List Placed
    → Reading → Reading
after_clauses used libraries forms [] reading = reading
after_clauses used libraries forms (clause ∷ rest) reading =
    after_clauses used libraries forms rest
    (after_clause used libraries forms clause.place clause.clause reading)

abbrev pub nothing_read : Reading
nothing_read = record { imported = []; is_clashing = false; found = [] }

-- the first of these names that means no module
abbrev pub unknown_name : List Name → NamedList ℕ → List Name → Option Name
unknown_name own imported [] = None
unknown_name own imported (name ∷ rest) =
    if is_some (number_of own imported name) then unknown_name own imported rest else Some name

abbrev pub unknown_in : List Name → NamedList ℕ → Place → Clause → List Found
unknown_in own imported place (clauses.Export names) =
    told_at UnknownModule place (unknown_name own imported names)
unknown_in own imported place (clauses.Use name options) = []
unknown_in own imported place (clauses.Create names) = []

-- the faults of export clauses
abbrev pub unknown_exports : List Name → NamedList ℕ → List Placed → List Found
unknown_exports own imported [] = []
unknown_exports own imported (clause ∷ rest) =
    unknown_in own imported clause.place clause.clause ++ unknown_exports own imported rest

-- modules that are exported, by their names
abbrev pub with_shown : NamedList ℕ → Name → Option ℕ → NamedList ℕ
with_shown shown name None = shown
with_shown shown name (Some number) = insert_entry bytes_eq shown name number

abbrev pub shown_names : List Name → NamedList ℕ → NamedList ℕ → List Name → NamedList ℕ
shown_names own imported shown [] = shown
shown_names own imported shown (name ∷ rest) =
    shown_names own imported (with_shown shown name (number_of own imported name)) rest

abbrev pub with_again : NamedList ℕ → Option Name → ℕ → NamedList ℕ
with_again shown None number = shown
with_again shown (Some name) number = insert_entry bytes_eq shown name number

abbrev pub shown_again : UseClause → NamedList ℕ → NamedList ℕ → NamedList ℕ
shown_again u shown [] = shown
shown_again u shown (row ∷ rows) = shown_again u (with_again shown (picked true u row.0) row.1) rows

abbrev pub shown_row : UseClause → NamedList ℕ → Option (Name × ℕ) → NamedList ℕ
shown_row u shown None = shown
shown_row u shown (Some row) = with_again shown (picked true u row.0) row.1

abbrev pub shown_of : UseClause → NamedList ℕ → Option (NamedList ℕ) → NamedList ℕ
shown_of u shown None = shown
shown_of u shown (Some modules) = shown_again u shown modules

abbrev pub shown_used : List (NamedList ℕ) → List UseOption → NamedList ℕ → Option ℕ → NamedList ℕ
shown_used libraries options shown None = shown
shown_used libraries options shown (Some library) =
    shown_of (use_clause library options) shown (slice_get libraries library)

abbrev pub shown_by : List Exports → List (NamedList ℕ) → List Name → NamedList ℕ → NamedList ℕ
    → Clause → NamedList ℕ
shown_by used libraries own imported shown (clauses.Export names) =
    shown_names own imported shown names
shown_by used libraries own imported shown (clauses.Use name options) =
    shown_used libraries options shown (place_of used name)
shown_by used libraries own imported shown (clauses.Create names) = shown

abbrev pub shown_modules : List Exports → List (NamedList ℕ) → List Name → NamedList ℕ → NamedList ℕ
    → List Placed → NamedList ℕ
shown_modules used libraries own imported shown [] = shown
shown_modules used libraries own imported shown (clause ∷ rest) =
    shown_modules used libraries own imported
    (shown_by used libraries own imported shown clause.clause) rest

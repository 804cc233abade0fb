-- The faults of a library's forms, and which is told (DRM 4, "Modules" and "Libraries"; own in the
-- order of faults).
use Rattle.std.specs.Prelude.{◌≡◌, ℕ, ◌+◌, ◌%◌, Bool, true, false, ◌||◌}
use Rattle.std.specs.Prelude.{if◌then◌else◌, is_some, List, [], ◌∷◌, ◌++◌}
use Rattle.std.specs.Prelude.{Option, Some, None}
use Rattle.std.specs.Ordering.{is_lt, nat_cmp, ordering_then}
use Rattle.std.specs.Str.{bytes_eq}
use Rattle.std.specs.declared.cmp.Ordering.{Ordering}
use Rattle.dy_base.specs.Kinds.{code_of}
use Rattle.dy_base.specs.Tables.{by_bytes}
use Rattle.dy_base.specs.declared.kind.Kind.{Kind}
use Rattle.dy_base.specs.declared.kind.Kind.TheVariants.{UnknownLibrary, UnknownModule}
use Rattle.dy_base.specs.declared.kind.Kind.TheVariants.{NotExported}
use Rattle.dy_base.specs.declared.fault.Place.{Place}
use Rattle.dy_module_forms.specs.declared.written.Member.{Member}
use Rattle.dy_module_forms.specs.declared.written.UseOption.{UseOption}
use Rattle.dy_module_forms.specs.declared.written.UseOption.TheVariants.{Import, Exclude, Rename}
use Rattle.dy_module_forms.specs.declared.written.UseOption.TheVariants.{Prefix, Export}
use Rattle.dy_module_forms.specs.declared.written.Form.{Form}
use Rattle.dy_modules.specs.declared.clause.UseClause.{UseClause}
use Rattle.dy_modules.specs.declared.table.Cell.{Cell}
use Rattle.dy_modules.specs.declared.table.Cell.TheVariants.{One, Many}
use Rattle.dy_modules.specs.Clauses.{Name, IsIn, is_one_of, brought}
use Rattle.dy_library_form.specs.declared.found.Found.{Found}
use Rattle.dy_module_numbers.specs.Options.{with_name}

abbrev pub found : Kind → Place → Name → Found
found kind place name = record { kind = kind; place = place; name = name }

-- by the file, then by the byte
abbrev pub place_cmp : Place → Place → Ordering
place_cmp a b = ordering_then (nat_cmp a.file b.file) (nat_cmp a.offset b.offset)

-- by the place, then by the number of the kind, then by the bytes of the name
abbrev pub found_cmp : Found → Found → Ordering
found_cmp a b =
    ordering_then (ordering_then (place_cmp a.place b.place)
    (nat_cmp (code_of a.kind) (code_of b.kind))) (by_bytes a.name b.name)

abbrev pub is_before : Found → Found → Bool
is_before a b = is_lt (found_cmp a b)

abbrev pub better : Found → Option Found → Found
better first None = first
better first (Some other) = if is_before other first then other else first

-- the first of these that is told before all others
abbrev pub first_with : List Found → Option Found → Option Found
first_with [] best = best
first_with (one ∷ rest) best = Some (better one (first_with rest best))

abbrev pub first : List Found → Option Found
first list = first_with list None

-- one of these that no other is told before, or none where there is none
abbrev pub IsTold : List Found → Option Found → Type 0
IsTold list None = list ≡ []
IsTold list (Some fault) = IsIn fault list
    × ((other : Found) → IsIn other list → is_before other fault ≡ false)

-- the first name that is not among others
abbrev pub absent : List Name → List Name → Option Name
absent set [] = None
absent set (name ∷ rest) = if is_one_of set name then absent set rest else Some name

abbrev pub absent_member : List Name → List Member → Option Name
absent_member set [] = None
absent_member set (member ∷ rest) =
    if is_one_of set member.name then absent_member set rest else Some member.name

abbrev pub missing_of : List Name → List Name → UseOption → Option Name
missing_of exported brought (Import None) = None
missing_of exported brought (Import (Some members)) = absent_member exported members
missing_of exported brought (Exclude names) = absent exported names
missing_of exported brought (Rename members) = absent_member exported members
missing_of exported brought (Prefix text) = None
missing_of exported brought (Export None) = None
missing_of exported brought (Export (Some names)) = absent brought names

-- whether an option names something that can be missing
abbrev pub names_something : UseOption → Bool
names_something (Import set) = is_some set
names_something (Exclude names) = true
names_something (Rename members) = true
names_something (Prefix text) = false
names_something (Export set) = is_some set

abbrev pub name_or : Option Name → Option Name → Option Name
name_or None other = other
name_or (Some name) other = Some name

-- the first name of the options that is not exported to them, or that they export again and do not
-- bring
abbrev pub missing : List Name → List Name → List UseOption → Option Name
missing exported brought [] = None
missing exported brought (option ∷ options) =
    name_or (missing_of exported brought option) (missing exported brought options)

abbrev pub with_found_name : List Name → Option Name → List Name
with_found_name set None = set
with_found_name set (Some name) = with_name set name

abbrev pub with_new_name : UseClause → Option Name → List Name → List Name
with_new_name u None set = set
with_new_name u (Some name) set = with_found_name set (brought u name)

abbrev pub brought_after : UseClause → List Name → List Name → List Name
brought_after u set [] = set
brought_after u set (name ∷ rest) = brought_after u (with_new_name u (Some name) set) rest

abbrev pub brought_names : UseClause → List Name → List Name
brought_names u exported = brought_after u [] exported

-- a fault of this kind at this place, where a name is to be shown
abbrev pub told_at : Kind → Place → Option Name → List Found
told_at kind place None = []
told_at kind place (Some name) = found kind place name ∷ []

-- the names of options that are not exported to a clause over these names
abbrev pub not_exported : Place → UseClause → List Name → List UseOption → List Found
not_exported place u exported options =
    told_at NotExported place (missing exported (brought_names u exported) options)

-- which faults the forms of libraries have in themselves
abbrev pub misnamed : Name → Form → List Found
misnamed library form = if bytes_eq form.name library then []
    else found UnknownLibrary form.place form.name ∷ []

abbrev pub doubled : List Form → List Found
doubled [] = []
doubled (form ∷ forms) = found UnknownLibrary form.place form.name ∷ doubled forms

abbrev pub is_own_header : List Name → Name → Bool
is_own_header own name = bytes_eq name
    (100 ∷ 121 ∷ 108 ∷ 97 ∷ 110 ∷ 45 ∷ 117 ∷ 115 ∷ 101 ∷ 114 ∷ []) || is_one_of own name

abbrev pub unknown_header : List Name → ℕ → Name → List Found
unknown_header own file name = if is_own_header own name then []
    else found UnknownModule (record { file = file; offset = 0 }) name ∷ []

-- the header modules of files, from one on, that the library does not have; files are counted in
-- 32 bits
abbrev pub unknown_headers : List Name → ℕ → List Name → List Found
unknown_headers own file [] = []
unknown_headers own file (name ∷ rest) =
    unknown_header own file name ++ unknown_headers own ((file + 1) % 4294967296) rest

abbrev pub name_at_two : Name → Cell → Option Name
name_at_two name (One owner) = None
name_at_two name Many = Some name

-- the name of a row that has two owners
abbrev pub name_of_two : Option (Name × Cell) → Option Name
name_of_two None = None
name_of_two (Some row) = name_at_two row.0 row.1

-- the first of these rows that has two owners
abbrev pub first_of_two : List (Option (Name × Cell)) → Option Name
first_of_two [] = None
first_of_two (row ∷ rows) = name_or (name_of_two row) (first_of_two rows)

-- a name of a row that joins others
abbrev pub with_row_name : {A : Type 0} → List Name → Option (Name × A) → List Name
with_row_name set None = set
with_row_name set (Some row) = with_name set row.0

-- The modules that the forms of a library can name, by their numbers.
use Rattle.std.specs.Prelude.{◌≡◌, ℕ, suc, ◌+◌, Bool, true, false, not, ◌&&◌, if◌then◌else◌}
use Rattle.std.specs.Prelude.{is_some, List, [], ◌∷◌, ◌++◌, map, length, replicate, position}
use Rattle.std.specs.Prelude.{slice_get, Option, Some, None}
use Rattle.std.specs.FinMap as finite
use Rattle.std.specs.Str.{bytes_eq}
use Rattle.indexmap.specs.IndexMap.{insert_entry}
use Rattle.dy_base.specs.Tables.{NamedList, table_of}
use Rattle.dy_base.specs.declared.ids.BindingId.{BindingId}
use Rattle.dy_base.specs.declared.exports.Exports.{Exports}
use Rattle.dy_modules.specs.declared.owner.Owner.{Owner}
use Rattle.dy_modules.specs.declared.owner.Owner.TheVariants.{Outside}
use Rattle.dy_modules.specs.declared.clause.UseClause.{UseClause}
use Rattle.dy_modules.specs.declared.clause.ModuleForm.{ModuleForm}
use Rattle.dy_modules.specs.Clauses.{Name, brought, is_again, is_same_owner}

-- a module with its names, as another library exports it
abbrev pub Row : Type 0
Row = Name × NamedList BindingId

abbrev pub with_outside : NamedList Owner → NamedList BindingId → NamedList Owner
with_outside given [] = given
with_outside given (row ∷ rows) =
    with_outside (insert_entry bytes_eq given row.0 (Outside row.1)) rows

-- a module that only exports names with owners
abbrev pub given_form : NamedList Owner → ModuleForm
given_form given = record { given = given; listed = []; uses = [] }

abbrev pub outside_form : Row → ModuleForm
outside_form row = given_form (with_outside [] row.1)

-- modules by their names, numbered from a number on
abbrev pub numbered_after : NamedList ℕ → ℕ → List Row → NamedList ℕ
numbered_after numbers from [] = numbers
numbered_after numbers from (row ∷ rows) =
    numbered_after (insert_entry bytes_eq numbers row.0 from) (from + 1) rows

abbrev pub seen_rows : List Exports → List Row
seen_rows [] = []
seen_rows (library ∷ libraries) = library.seen ++ seen_rows libraries

abbrev pub exported_rows : List Exports → List Row
exported_rows [] = []
exported_rows (library ∷ libraries) = library.modules ++ exported_rows libraries

-- for each used library its modules by name, where the first of all has this number
abbrev pub library_numbers : ℕ → List Exports → List (NamedList ℕ)
library_numbers from [] = []
library_numbers from (library ∷ libraries) =
    numbered_after [] from library.modules
    ∷ library_numbers (from + length library.modules) libraries

abbrev pub library_name : Exports → Name
library_name library = library.library

-- what a clause makes of the modules of a library
abbrev pub with_brought : Option Name → ℕ → NamedList ℕ → NamedList ℕ
with_brought None number rest = rest
with_brought (Some name) number rest = (name, number) ∷ rest

abbrev pub brought_modules : UseClause → NamedList ℕ → NamedList ℕ
brought_modules u [] = []
brought_modules u (row ∷ rows) = with_brought (brought u row.0) row.1 (brought_modules u rows)

-- a module under a name that has none yet
abbrev pub with_module : NamedList ℕ → Name → ℕ → NamedList ℕ
with_module modules name number =
    if is_some (finite.get (table_of modules) name) then modules
    else insert_entry bytes_eq modules name number

abbrev pub with_modules : NamedList ℕ → NamedList ℕ → NamedList ℕ
with_modules modules [] = modules
with_modules modules (pair ∷ pairs) = with_modules (with_module modules pair.0 pair.1) pairs

abbrev pub or_else : Option ℕ → Option ℕ → Option ℕ
or_else (Some number) other = Some number
or_else None other = other

-- the number of the module that a name means: one of the library's own first, and then an imported
-- one
abbrev pub number_of : List Name → NamedList ℕ → Name → Option ℕ
number_of own imported name =
    or_else (position (bytes_eq name) own) (finite.get (table_of imported) name)

-- two modules are one where they export the same names with the same owners
abbrev pub same_given : NamedList Owner → NamedList Owner → Bool
same_given [] [] = true
same_given [] (b ∷ bs) = false
same_given (a ∷ as_) [] = false
same_given (a ∷ as_) (b ∷ bs) =
    if bytes_eq a.0 b.0 then (if is_same_owner a.1 b.1 then same_given as_ bs else false) else false

abbrev pub given_of : Option ModuleForm → NamedList Owner
given_of None = []
given_of (Some form) = form.given

abbrev pub rows_or_none : Option (NamedList Owner) → NamedList Owner
rows_or_none None = []
rows_or_none (Some rows) = rows

abbrev pub is_same_module : List ModuleForm → ℕ → ℕ → Bool
is_same_module forms a b = same_given (given_of (slice_get forms a)) (given_of (slice_get forms b))

-- whether a name means another module already
abbrev pub is_other : List ModuleForm → Option ℕ → ℕ → Bool
is_other forms None number = false
is_other forms (Some before) number = not (is_same_module forms before number)

-- the names that mean two modules
abbrev pub clashing : List ModuleForm → NamedList ℕ → NamedList ℕ → List Name
clashing forms visible [] = []
clashing forms visible (pair ∷ pairs) =
    if is_other forms (finite.get (table_of visible) pair.0) pair.1 then pair.0
    ∷ clashing forms visible pairs else clashing forms visible pairs

-- the modules of used libraries, behind as many empty ones as the library has of its own, and one
-- more that exports nothing
abbrev pub behind_own : List ModuleForm → List Exports → List ModuleForm
behind_own own used = own ++ map outside_form (seen_rows used)
    ++ map outside_form (exported_rows used) ++ given_form [] ∷ []

abbrev pub first_exported : ℕ → List Exports → ℕ
first_exported own used = own + length (seen_rows used)

-- the number of the module that exports nothing
abbrev pub nothing_number : ℕ → List Exports → ℕ
nothing_number own used = first_exported own used + length (exported_rows used)

pub record IsOutside (own : ℕ) (used : List Exports) (forms : List ModuleForm)
    (libraries : List (NamedList ℕ)) (nothing : ℕ) : Type 0 where
  pub forms_are : forms ≡ behind_own (replicate own (given_form [])) used
  pub libraries_are : libraries ≡ library_numbers (first_exported own used) used
  pub nothing_is : nothing ≡ nothing_number own used

-- what the code does library by library
abbrev pub after_seen : List ModuleForm → List Exports → List ModuleForm
after_seen forms [] = forms
after_seen forms (library ∷ libraries) =
    after_seen (forms ++ map outside_form library.seen) libraries

abbrev pub after_exported : List ModuleForm → List Exports → List ModuleForm
after_exported forms [] = forms
after_exported forms (library ∷ libraries) =
    after_exported (forms ++ map outside_form library.modules) libraries

-- and row by row
abbrev pub with_row : NamedList ℕ → UseClause → Option (Name × ℕ) → NamedList ℕ
with_row pairs u None = pairs
with_row pairs u (Some row) = pairs ++ with_brought (brought u row.0) row.1 []

abbrev pub is_same_row : Option (Name × Owner) → Option (Name × Owner) → Bool
is_same_row (Some a) (Some b) = bytes_eq a.0 b.0 && is_same_owner a.1 b.1
is_same_row (Some a) None = false
is_same_row None (Some b) = false
is_same_row None None = true

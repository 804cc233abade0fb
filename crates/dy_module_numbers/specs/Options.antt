-- What the options of a use clause say (DRM 4, "Modules").
use Rattle.std.specs.Prelude.{ℕ, Bool, true, false, if◌then◌else◌, is_some, List, [], ◌∷◌, ◌++◌}
use Rattle.std.specs.Prelude.{map, Option, Some, None, option_map}
use Rattle.std.specs.FinMap as finite
use Rattle.std.specs.Str.{bytes_eq}
use Rattle.indexmap.specs.IndexMap.{insert_entry}
use Rattle.dy_base.specs.Tables.{NamedList, table_of}
use Rattle.dy_module_forms.specs.declared.written.Member.{Member}
use Rattle.dy_module_forms.specs.declared.written.UseOption.{UseOption}
use Rattle.dy_module_forms.specs.declared.written.UseOption.TheVariants.{Import, Exclude, Rename}
use Rattle.dy_module_forms.specs.declared.written.UseOption.TheVariants.{Prefix, Export}
use Rattle.dy_modules.specs.declared.clause.UseClause.{UseClause}
use Rattle.dy_modules.specs.Clauses.{Name, is_one_of}

-- what one of the options says, by its kind
abbrev pub import_of : UseOption → Option (Option (List Member))
import_of (Import set) = Some set
import_of (Exclude names) = None
import_of (Rename members) = None
import_of (Prefix text) = None
import_of (Export set) = None

abbrev pub exclude_of : UseOption → Option (List Name)
exclude_of (Import set) = None
exclude_of (Exclude names) = Some names
exclude_of (Rename members) = None
exclude_of (Prefix text) = None
exclude_of (Export set) = None

abbrev pub rename_of : UseOption → Option (List Member)
rename_of (Import set) = None
rename_of (Exclude names) = None
rename_of (Rename members) = Some members
rename_of (Prefix text) = None
rename_of (Export set) = None

abbrev pub prefix_of : UseOption → Option Name
prefix_of (Import set) = None
prefix_of (Exclude names) = None
prefix_of (Rename members) = None
prefix_of (Prefix text) = Some text
prefix_of (Export set) = None

abbrev pub export_of : UseOption → Option (Option (List Name))
export_of (Import set) = None
export_of (Exclude names) = None
export_of (Rename members) = None
export_of (Prefix text) = None
export_of (Export set) = Some set

abbrev pub value_or : {A : Type 0} → Option A → A → A
value_or None other = other
value_or (Some value) other = value

-- the members of `import:`, or nothing where all names come in
abbrev pub imported : List UseOption → Option (List Member)
imported [] = None
imported (option ∷ options) = value_or (import_of option) (imported options)

abbrev pub excluded : List UseOption → List Name
excluded [] = []
excluded (option ∷ options) = value_or (exclude_of option) (excluded options)

abbrev pub renamed : List UseOption → List Member
renamed [] = []
renamed (option ∷ options) = value_or (rename_of option) (renamed options)

abbrev pub prefix : List UseOption → Name
prefix [] = []
prefix (option ∷ options) = value_or (prefix_of option) (prefix options)

-- the names of `export:`, or nothing for `all`; without the option no name
abbrev pub exported : List UseOption → Option (List Name)
exported [] = Some []
exported (option ∷ options) = value_or (export_of option) (exported options)

abbrev pub member_name : Member → Name
member_name member = member.name

-- names that join others, each once
abbrev pub with_name : List Name → Name → List Name
with_name set name = if is_one_of set name then set else set ++ name ∷ []

abbrev pub with_names : List Name → List Name → List Name
with_names set [] = set
with_names set (name ∷ names) = with_names (with_name set name) names

abbrev pub set_of : List Name → List Name
set_of names = with_names [] names

-- a new name for a name that has none yet
abbrev pub with_new : NamedList Name → Name → Name → NamedList Name
with_new news name new = if is_some (finite.get (table_of news) name) then news
    else insert_entry bytes_eq news name new

-- what a member of `import:` gives: a new name where it has one
abbrev pub with_arrow : NamedList Name → Member → Option Name → NamedList Name
with_arrow news member None = news
with_arrow news member (Some new) = with_new news member.name new

abbrev pub with_imports : NamedList Name → List Member → NamedList Name
with_imports news [] = news
with_imports news (member ∷ members) = with_imports (with_arrow news member member.new) members

-- what a member of `rename:` gives: a new name, or its own without the prefix
abbrev pub new_or_own : Name → Option Name → Name
new_or_own own None = own
new_or_own own (Some new) = new

abbrev pub with_renames : NamedList Name → List Member → NamedList Name
with_renames news [] = news
with_renames news (member ∷ members) =
    with_renames (with_new news member.name (new_or_own member.name member.new)) members

abbrev pub members_or_none : Option (List Member) → List Member
members_or_none None = []
members_or_none (Some members) = members

abbrev pub chosen : Option (List Member) → Option (List Name)
chosen None = None
chosen (Some members) = Some (set_of (map member_name members))

abbrev pub is_all : Option (List Name) → Bool
is_all None = true
is_all (Some names) = false

abbrev pub names_or_none : Option (List Name) → List Name
names_or_none None = []
names_or_none (Some names) = names

-- the new names; those of `import:` count before those of `rename:`
abbrev pub news : List UseOption → NamedList Name
news options = with_renames (with_imports [] (members_or_none (imported options))) (renamed options)

-- what the options make of the names of a source
abbrev pub use_clause : ℕ → List UseOption → UseClause
use_clause source options = record {
  source = source;
  chosen = chosen (imported options);
  excluded = set_of (excluded options);
  renamed = news options;
  prefix = prefix options;
  again_all = is_all (exported options);
  again = set_of (names_or_none (exported options));
}

-- The modules of a library as data, made of their forms (DRM 4, "Modules" and "Libraries").
use Rattle.std.specs.Prelude.{◌≡◌, ℕ, suc, ◌+◌, Bool, true, false, if◌then◌else◌, List, [], ◌∷◌}
use Rattle.std.specs.Prelude.{◌++◌, map, length, Option, Some, None}
use Rattle.std.specs.FinMap as finite
use Rattle.std.specs.Str.{bytes_eq}
use Rattle.indexmap.specs.IndexMap.{insert_entry}
use Rattle.dy_base.specs.Tables.{NamedList, table_of, names}
use Rattle.dy_base.specs.declared.exports.Exports.{Exports}
use Rattle.dy_module_forms.specs.declared.written.Clause.{Clause}
use Rattle.dy_module_forms.specs.declared.written.Clause.TheVariants as clauses
use Rattle.dy_module_forms.specs.declared.written.Placed.{Placed}
use Rattle.dy_module_forms.specs.declared.written.Form.{Form}
use Rattle.dy_modules.specs.declared.owner.Owner.{Owner}
use Rattle.dy_modules.specs.declared.owner.Owner.TheVariants.{Own}
use Rattle.dy_modules.specs.declared.clause.UseClause.{UseClause}
use Rattle.dy_modules.specs.declared.clause.ModuleForm.{ModuleForm}
use Rattle.dy_modules.specs.Clauses.{Name}
use Rattle.dy_module_numbers.specs.Options.{use_clause, with_names}
use Rattle.dy_module_numbers.specs.Numbers.{number_of}

-- names that a module creates
abbrev pub with_created : ℕ → NamedList Owner → List Name → NamedList Owner
with_created m given [] = given
with_created m given (name ∷ rest) =
    with_created m (insert_entry bytes_eq given name (Own m name)) rest

abbrev pub created_by : ℕ → NamedList Owner → Clause → NamedList Owner
created_by m given (clauses.Create list) = with_created m given list
created_by m given _ = given

abbrev pub created : ℕ → NamedList Owner → List Placed → NamedList Owner
created m given [] = given
created m given (clause ∷ rest) = created m (created_by m given clause.clause) rest

abbrev pub listed_by : List Name → Clause → List Name
listed_by set (clauses.Export list) = with_names set list
listed_by set _ = set

abbrev pub listed : List Name → List Placed → List Name
listed set [] = set
listed set (clause ∷ rest) = listed (listed_by set clause.clause) rest

-- the module that a clause uses; where there is none of this name, the one that exports nothing
abbrev pub source_or : ℕ → Option ℕ → ℕ
source_or nothing None = nothing
source_or nothing (Some number) = number

abbrev pub source_of : List Name → NamedList ℕ → ℕ → Name → ℕ
source_of own imported nothing name = source_or nothing (number_of own imported name)

abbrev pub with_use : List Name → NamedList ℕ → ℕ → Clause → List UseClause → List UseClause
with_use own imported nothing (clauses.Use name options) rest =
    use_clause (source_of own imported nothing name) options ∷ rest
with_use own imported nothing _ rest = rest

abbrev pub uses : List Name → NamedList ℕ → ℕ → List Placed → List UseClause
uses own imported nothing [] = []
uses own imported nothing (clause ∷ rest) =
    with_use own imported nothing clause.clause (uses own imported nothing rest)

abbrev pub module_form : List Name → NamedList ℕ → ℕ → ℕ → Form → ModuleForm
module_form own imported nothing m form = record {
  given = created m [] form.clauses;
  listed = listed [] form.clauses;
  uses = uses own imported nothing form.clauses;
}

-- the forms of modules, numbered from a number on
abbrev pub module_forms : List Name → NamedList ℕ → ℕ → ℕ → List Form → List ModuleForm
module_forms own imported nothing m [] = []
module_forms own imported nothing m (form ∷ forms) =
    module_form own imported nothing m form ∷ module_forms own imported nothing (m + 1) forms

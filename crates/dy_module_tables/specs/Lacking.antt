-- Promised names that are not defined.
use Rattle.std.specs.Prelude.{◌≡◌, ◌⊎◌, List, [], ◌∷◌, ◌++◌, Option, Some, None, slice_get}
use Rattle.dy_base.specs.Tables.{NameMap}
use Rattle.dy_base.specs.declared.ids.BindingId.{BindingId}
use Rattle.dy_base.specs.declared.fault.Place.{Place}
use Rattle.dy_modules.specs.declared.clause.ModuleForm.{ModuleForm}
use Rattle.dy_modules.specs.declared.rounds.ModuleTables.{ModuleTables}
use Rattle.dy_modules.specs.Clauses.{Name}
use Rattle.dy_module_tables.specs.declared.promise.Promise.{Promise}
use Rattle.dy_module_tables.specs.Graphs.{IsExported}
use Rattle.dy_module_tables.specs.Looking.{maybe_definition, export_in}

-- those of these promised names that are not defined, in their order, with the places of their
-- clauses
abbrev pub AreLacking : List ModuleForm → List (NameMap BindingId) → List Promise
    → List (Name × Place) → Type 0
AreLacking ms defs [] list = list ≡ []
AreLacking ms defs (p ∷ ps) list =
    (((id : BindingId) → IsExported ms defs p.number p.name id → ⊥)
    × (rest : List (Name × Place)) × (list ≡ (p.name, p.place) ∷ rest) × AreLacking ms defs ps rest)
    ⊎ (((id : BindingId) × IsExported ms defs p.number p.name id) × AreLacking ms defs ps list)

-- the same as the tables say it, behind those that are found
abbrev pub lacking_by : Option BindingId → Promise → List (Name × Place) → List (Name × Place)
lacking_by None p list = list ++ (p.name, p.place) ∷ []
lacking_by (Some id) p list = list

abbrev pub with_lacking : List (Option ModuleTables) → List (NameMap BindingId) → List Promise
    → List (Name × Place) → List (Name × Place)
with_lacking done defs [] list = list
with_lacking done defs (p ∷ ps) list = with_lacking done defs ps
    (lacking_by (maybe_definition defs (export_in (slice_get done p.number) p.name)) p list)

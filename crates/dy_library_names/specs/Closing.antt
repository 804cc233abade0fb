-- What the names of modules are defined as, put into their table.
use Rattle.std.specs.Prelude.{◌≡◌, ℕ, ◌<◌, List, [], ◌∷◌, length, Option, Some, None}
use Rattle.dy_base.specs.Tables.{NameMap}
use Rattle.dy_base.specs.declared.ids.BindingId.{BindingId}
use Rattle.dy_modules.specs.declared.owner.Owner.{Owner}
use Rattle.dy_modules.specs.declared.owner.Owner.TheVariants.{Outside, Own}
use Rattle.dy_modules.specs.declared.clause.ModuleForm.{ModuleForm}
use Rattle.dy_module_tables.specs.Graphs.{Graph, definition, put_in}
use Rattle.dy_definitions.specs.declared.definitions.Definition.{Definition}
use Rattle.dy_definitions.specs.Means.{Meanings}

-- what the own names of each module are defined as
abbrev pub Definitions : Type 0
Definitions = List (NameMap BindingId)

-- the names of the modules have these meanings, and no others have any
pub record AreDefined (ms : List ModuleForm) (defs : Definitions) (meanings : Meanings)
    : Type 0 where
  pub count : length defs ≡ length ms
  pub each : (c : ℕ) (a : List ℕ) → c < length ms → definition defs (Own c a) ≡ meanings c a

abbrev pub with_definitions : Graph → Definitions → Graph
with_definitions g defs = record {
  modules = g.modules;
  own = g.own;
  defined = defs;
  promised = g.promised;
  shown = g.shown;
}

-- the definitions after a name of module c got its meaning
abbrev pub put_meaning : ℕ → List ℕ → Option BindingId → Definitions → Definitions
put_meaning c a None defs = defs
put_meaning c a (Some id) defs = put_in defs c a id

abbrev pub put_owned : Meanings → Option Owner → Definitions → Definitions
put_owned meanings None defs = defs
put_owned meanings (Some (Outside id)) defs = defs
put_owned meanings (Some (Own c a)) defs = put_meaning c a (meanings c a) defs

-- the same after the names of all these definitions did
abbrev pub put_all : Meanings → List Definition → Definitions → Definitions
put_all meanings [] defs = defs
put_all meanings (d ∷ ds) defs = put_all meanings ds (put_owned meanings d.owner defs)

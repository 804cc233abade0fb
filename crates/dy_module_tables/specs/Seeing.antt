-- What lent tables say that modules see names defined as.
use Rattle.std.specs.Prelude.{ℕ, Option}
use Rattle.dy_base.specs.declared.ids.BindingId.{BindingId}
use Rattle.dy_modules.specs.Clauses.{Name}
use Rattle.dy_module_tables.specs.declared.lent.LentNames.{LentNames}
use Rattle.dy_module_tables.specs.Looking.{seen_definition}

abbrev pub seen_in : LentNames → ℕ → Name → Option BindingId
seen_in names m n = seen_definition names.modules.now names.tables.now.items
    names.defined.now.items m n

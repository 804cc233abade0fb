use Rattle.std.proofs.Common.{◌≡◌, ◌↔◌, ℕ, Some, subst}
use Rattle.dy_base.specs.declared.ids.BindingId.{BindingId}
use Rattle.dy_modules.specs.Clauses.{Name}
use Rattle.dy_module_tables.specs.Graphs.{Graph, Means}
use Rattle.dy_module_tables.specs.Looking.{seen_definition}
use Rattle.dy_module_tables.proofs.Meanings.{seen_to, seen_from}
use Rattle.dy_module_tables.proofs.module_table.ModuleTable.names.Goals as goal

pub returns : goal.returns
returns c =
    let t = c.self.inside in
    record {
      exact = subst (λ (g : Graph). (m : ℕ) (n : Name) (id : BindingId)
          → (seen_definition t.modules t.tables.items t.defined.items m n ≡ Some id)
          ↔ Means g.modules g.defined m n id) c.self.view_is
          (λ m n id. (
            seen_to t.modules t.own t.tables.items t.defined.items c.self.invariant m n id,
            seen_from t.modules t.own t.tables.items t.defined.items c.self.invariant m n id,
          ));
    }

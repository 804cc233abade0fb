use Rattle.std.proofs.Common.{◌≡◌, ◌↔◌, Some, sym, subst, ◌∙◌}
use Rattle.dy_base.specs.declared.ids.BindingId.{BindingId}
use Rattle.dy_module_tables.specs.Graphs.{Graph, Means}
use Rattle.dy_module_tables.proofs.Meanings.{seen_to, seen_from}
use Rattle.dy_module_tables.proofs.module_table.ModuleTable.owner.Goals as goal

pub returns : goal.returns
returns c =
    let t = c.self.inside in
    let n = c.args.name.now in
    record {
      exact = subst (λ (g : Graph). (id : BindingId) → (c.seen_definition.result ≡ Some id) ↔ Means g.modules g.defined c.args.number n id) c.self.view_is
          (λ id. (
            λ e. seen_to t.modules t.own t.tables.items t.defined.items c.self.invariant c.args.number n id (sym c.seen_definition.ensures ∙ e),
            λ w. c.seen_definition.ensures ∙ seen_from t.modules t.own t.tables.items t.defined.items c.self.invariant c.args.number n id w,
          ));
    }

use Rattle.std.proofs.Common.{◌≡◌, List, [], sym, ap, subst, ◌∙◌}
use Rattle.dy_base.specs.declared.fault.Place.{Place}
use Rattle.dy_modules.specs.Clauses.{Name}
use Rattle.dy_module_tables.specs.Graphs.{Graph}
use Rattle.dy_module_tables.specs.Lacking.{AreLacking, with_lacking}
use Rattle.dy_module_tables.proofs.Lacks.{are_lacking}
use Rattle.dy_module_tables.proofs.module_table.ModuleTable.lacking.Goals as goal

pub returns : goal.returns
returns c =
    let t = c.self.inside in
    let list = c.in_ok-list.list in
    let same : list ≡ with_lacking t.tables.items t.defined.items t.promised [] =
    c.in_ok-list.ensures ∙ ap (λ l. with_lacking t.tables.items t.defined.items l []) c.as_slice-promised.ensures in
    subst (λ (g : Graph). AreLacking g.modules g.defined g.promised list) c.self.view_is
    (subst (AreLacking t.modules t.defined.items t.promised) (sym same)
    (are_lacking t.modules t.own t.tables.items t.defined.items c.self.invariant t.promised))

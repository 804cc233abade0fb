use Rattle.std.proofs.Common.{◌≡◌, ◌≤◌, List, length, sym, ap, subst, ◌∙◌, arith}
use Rattle.dy_module_tables.specs.Graphs.{Graph, put_in}
use Rattle.dy_module_tables.proofs.Targets.{whole_put}
use Rattle.dy_module_tables.proofs.Past.{put_past, same_graph, whole_after}
use Rattle.dy_module_tables.proofs.module_table.ModuleTable.put.Goals as goal

-- a name of no module
pub returns-then-number-len-clause-put : goal.returns-then-number-len-clause-put
returns-then-number-len-clause-put c =
    let t = c.self.inside in
    let past : length t.defined.items ≤ c.args.number = omega arith in
    let n = c.args.number in
    let same : put_in t.defined.items n c.args.name.now c.args.id ≡ t.defined.items = put_past t.defined.items n c.args.name.now c.args.id past in
    same_graph c.args.self.now n c.args.name.now c.args.id (subst (λ (g : Graph). put_in g.defined n c.args.name.now c.args.id ≡ g.defined) c.self.view_is same)

-- the tables of the modules stay
pub invariant_of-self : goal.invariant_of-self
invariant_of-self c =
    let t = c.self.inside in
    whole_after c.put_in.result t.modules t.own t.tables.items t.defined.items c.put_in.new.defined.items c.args.number c.args.name.now c.args.id c.put_in.ensures.put c.put_in.ensures.err c.self.invariant

use Rattle.std.proofs.Common.{◌≡◌, ◌↔◌, ℕ, ◌<◌, true, false, true≢false, List, Option, Some, None, refl, sym, ap, subst, ◌∙◌, arith}
use Rattle.dy_base.specs.Tables.{NameMap}
use Rattle.dy_base.specs.declared.ids.BindingId.{BindingId}
use Rattle.dy_modules.specs.Clauses.{Name}
use Rattle.dy_module_tables.specs.Graphs.{Graph, IsTaken, put_in}
use Rattle.dy_module_tables.specs.Looking.{IsWhole}
use Rattle.dy_module_tables.proofs.Targets.{whole_put, target_taken, target_open, with_definition, defines}
use Rattle.dy_module_tables.proofs.module_table.ModuleTable.define.Goals as goal

-- what is defined is a name of a module that is there
pub put_in-requires : goal.put_in-requires
put_in-requires c =
    let t = c.self.inside in
    let within : c.args.number < t.own = omega arith in
    let found = target_open t.modules t.own t.tables.items t.defined.items c.self.invariant c.args.number c.args.name.now within (c.in-Some.at, c.in-Some.a) (sym c.in_ok-found.ensures ∙ c.in-Some.is) in
    found.0.2

-- the tables of the modules stay
pub invariant_of-self : goal.invariant_of-self
invariant_of-self c =
    let t = c.self.inside in
    subst (λ (l : List (NameMap BindingId)). IsWhole t.modules t.own t.tables.items l) (sym c.in_err-put_in-in-Some.ensures.err) c.self.invariant

pub invariant_of-self-in-Some : goal.invariant_of-self-in-Some
invariant_of-self-in-Some c =
    let t = c.self.inside in
    subst (λ (l : List (NameMap BindingId)). IsWhole t.modules t.own t.tables.items l) (sym c.in_ok-put_in-in-Some.ensures.put) (whole_put t.modules t.own t.tables.items t.defined.items c.in-Some.at c.bytes.result.now c.args.id c.self.invariant)

pub returns-in_ok-put_in-in-Some-clause-defined : goal.returns-in_ok-put_in-in-Some-clause-defined
returns-in_ok-put_in-in-Some-clause-defined c = λ _.
    let t = c.self.inside in
    let within : c.args.number < t.own = omega arith in
    let found = target_open t.modules t.own t.tables.items t.defined.items c.self.invariant c.args.number c.args.name.now within (c.in-Some.at, c.in-Some.a) (sym c.in_ok-found.ensures ∙ c.in-Some.is) in
    let before : Graph = record { modules = t.modules; own = t.own; defined = t.defined.items; promised = t.promised; shown = t.shown } in
    let after : Graph = record { modules = t.modules; own = t.own; defined = c.put_in.new.defined.items; promised = t.promised; shown = t.shown } in
    let put : c.put_in.new.defined.items ≡ put_in t.defined.items c.in-Some.at c.in-Some.a c.args.id =
    c.in_ok-put_in-in-Some.ensures.put ∙ ap (λ x. put_in t.defined.items c.in-Some.at x c.args.id) c.bytes.ensures in
    let same : after ≡ with_definition before c.in-Some.at c.in-Some.a c.args.id =
    ap (λ (l : List (NameMap BindingId)). let g : Graph = record { modules = t.modules; own = t.own; defined = l; promised = t.promised; shown = t.shown } in g) put in
    defines before c.args.self.now after c.args.number c.args.name.now c.in-Some.at c.in-Some.a c.args.id c.self.view_is found.0 same

pub returns-in_ok-put_in-in-Some-clause-taken : goal.returns-in_ok-put_in-in-Some-clause-taken
returns-in_ok-put_in-in-Some-clause-taken c =
    let t = c.self.inside in
    let within : c.args.number < t.own = omega arith in
    let found = target_open t.modules t.own t.tables.items t.defined.items c.self.invariant c.args.number c.args.name.now within (c.in-Some.at, c.in-Some.a) (sym c.in_ok-found.ensures ∙ c.in-Some.is) in (
      λ e. absurd (true≢false e),
      λ taken. absurd (found.1 (subst (λ (g : Graph). IsTaken g.modules g.own g.defined c.args.number c.args.name.now) (sym c.self.view_is) taken)),
    )

pub returns-in-None-clause-taken : goal.returns-in-None-clause-taken
returns-in-None-clause-taken c =
    let t = c.self.inside in
    let within : c.args.number < t.own = omega arith in
    let taken = target_taken t.modules t.own t.tables.items t.defined.items c.self.invariant c.args.number c.args.name.now within (sym c.in_ok-found.ensures ∙ c.in-None.is) in (
      λ _. subst (λ (g : Graph). IsTaken g.modules g.own g.defined c.args.number c.args.name.now) c.self.view_is taken,
      λ _. refl,
    )

use Rattle.std.proofs.Common.{◌≡◌, ◌+◌, ◌≤◌, Option, Some, None, length, drop, slice_get, sym, subst, refl, ◌∙◌, rules, arith}
use Rattle.std.proofs.lemmas.Option.{slice_get_read}
use Rattle.dy_base.specs.declared.fault.Place.{Place}
use Rattle.dy_modules.specs.Clauses.{Name}
use Rattle.dy_module_tables.specs.Graphs.{Graph, FirstLacking}
use Rattle.dy_module_tables.specs.Looking.{maybe_definition, export_in}
use Rattle.dy_modules.proofs.Rows.{none_is, drop_end}
use Rattle.dy_module_tables.proofs.Exported.{exported_to, exported_from}
use Rattle.dy_module_tables.proofs.Promises.{kept, lacking}
use Rattle.dy_module_tables.proofs.Targets.{has_some}
use Rattle.dy_module_tables.proofs.module_table.ModuleTable.undefined.Goals as goal

-- the first promise that is not kept
pub returns-then-is_none : goal.returns-then-is_none
returns-then-is_none c =
    let t = c.self.inside in
    let i = c.loop-promise.promise-index in
    let p = c.promise-item.result in
    let at : slice_get t.promised i ≡ Some p =
    subst (λ l. slice_get l i ≡ Some p) c.as_slice-promise-items.ensures (slice_get_read c.as_slice-promise-items.result.now (length c.as_slice-promise-items.result.now) i p refl c.loop-promise-test.true c.promise-item.is) in
    let none : maybe_definition t.defined.items (export_in (slice_get t.tables.items p.number) p.name) ≡ None = search rules in
    c.loop-promise.invariant (Some (p.name, p.place))
    (subst (λ (g : Graph). FirstLacking g.modules g.defined (drop i g.promised) (Some (p.name, p.place))) c.self.view_is
    (lacking t.modules t.defined.items t.promised i p at (λ id w. none_is id (sym none ∙ exported_from t.modules t.own t.tables.items t.defined.items c.self.invariant p.number p.name id w))))

-- one that is kept
pub loop-promise-preserved : goal.loop-promise-preserved
loop-promise-preserved c = λ o h.
    let t = c.self.inside in
    let i = c.loop-promise.promise-index in
    let p = c.promise-item.result in
    let at : slice_get t.promised i ≡ Some p =
    subst (λ l. slice_get l i ≡ Some p) c.as_slice-promise-items.ensures (slice_get_read c.as_slice-promise-items.result.now (length c.as_slice-promise-items.result.now) i p refl c.loop-promise-test.true c.promise-item.is) in
    let found = has_some (maybe_definition t.defined.items (export_in (slice_get t.tables.items p.number) p.name)) (search rules) in
    let is = exported_to t.modules t.own t.tables.items t.defined.items c.self.invariant p.number p.name found.0 found.1 in
    let rest = subst (λ (g : Graph). FirstLacking g.modules g.defined (drop (i + 1) g.promised) o) (sym c.self.view_is) h in
    c.loop-promise.invariant o
    (subst (λ (g : Graph). FirstLacking g.modules g.defined (drop i g.promised) o) c.self.view_is (kept t.modules t.defined.items t.promised i p at found.0 is o rest))

pub returns : goal.returns
returns c =
    let t = c.self.inside in
    let i = c.loop-promise.promise-index in
    let nothing : Option (Name × Place) = None in
    let past : length t.promised ≤ i = subst (λ l. length l ≤ i) c.as_slice-promise-items.ensures (omega arith) in
    c.loop-promise.invariant nothing
    (subst (λ (g : Graph). FirstLacking g.modules g.defined (drop i g.promised) nothing) c.self.view_is
    (subst (λ l. FirstLacking t.modules t.defined.items l nothing) (sym (drop_end t.promised i past)) refl))

use Rattle.std.proofs.Common.{◌≡◌, ◌≤◌, ◌+◌, Some, length, slice_get, sym, ap, subst, refl, ◌∙◌, arith}
use Rattle.dy_base.specs.Folding.{folded}
use Rattle.std.proofs.lemmas.Option.{slice_get_read}
use Rattle.dy_module_tables.specs.Graphs.{Graph, AreFolded, AreExported}
use Rattle.dy_module_tables.proofs.Exported.{all_exported, Goes, shown_step, shown_end}
use Rattle.dy_module_tables.proofs.module_table.ModuleTable.exports.Goals as goal

-- one module more
pub loop-name-preserved : goal.loop-name-preserved
loop-name-preserved c = λ folds.
    let t = c.self.inside in
    let i = c.loop-name.name-index in
    let s = c.loop-name-item.result in
    let folds_here = subst (λ (g : Graph). AreFolded g.modules) (sym c.self.view_is) folds in
    let goes = subst (λ (g : Graph). Goes g.modules g.defined g.shown i c.loop-name.list) (sym c.self.view_is) (c.loop-name.invariant folds) in
    let at : slice_get t.shown i ≡ Some s =
    subst (λ l. slice_get l i ≡ Some s) c.as_slice-name-items.ensures (slice_get_read c.as_slice-name-items.result.now (length c.as_slice-name-items.result.now) i s refl c.loop-name-test.true c.loop-name-item.is) in
    let are : AreExported t.modules t.defined.items s.1 c.in_ok-names.names = subst (AreExported t.modules t.defined.items s.1) (sym c.in_ok-names.ensures) (all_exported t.modules t.own t.tables.items t.defined.items c.self.invariant folds_here s.1) in
    subst (λ (g : Graph). Goes g.modules g.defined g.shown (i + 1) c.push.new.self) c.self.view_is
    (subst (Goes t.modules t.defined.items t.shown (i + 1)) (sym c.in_ok-push.ensures.ok)
    (shown_step t.modules t.defined.items t.shown i s (c.in_ok-fold.field-0, c.in_ok-names.names) c.loop-name.list at (c.in_ok-fold.ensures.folded ∙ ap folded c.bytes.ensures.bytes ∙ c.bytes.ensures.folded) are goes))

pub returns : goal.returns
returns c = λ folds.
    let t = c.self.inside in
    let i = c.loop-name.name-index in
    let past : length t.shown ≤ i = subst (λ l. length l ≤ i) c.as_slice-name-items.ensures (omega arith) in
    shown_end c.args.self.now.modules c.args.self.now.defined c.args.self.now.shown i c.loop-name.list (subst (λ (g : Graph). length g.shown ≤ i) c.self.view_is past) (c.loop-name.invariant folds)

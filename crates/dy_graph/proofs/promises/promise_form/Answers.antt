use Rattle.std.proofs.Common.{◌≡◌, ◌≤◌, length, Some, slice_get, refl, subst, arith}
use Rattle.std.proofs.lemmas.Option.{slice_get_read}
use Rattle.dy_graph.proofs.Promised.{going_start, going_more, going_end}
use Rattle.dy_graph.proofs.promises.promise_form.Goals as goal

pub loop-placed-init : goal.loop-placed-init
loop-placed-init c =
    let naming = c.args.naming.now in
    going_start naming.own naming.imported naming.nothing c.args.made.modules.now c.args.number c.args.form.now.clauses c.args.promises.now

pub loop-placed-preserved : goal.loop-placed-preserved
loop-placed-preserved c =
    let naming = c.args.naming.now in
    let list = c.args.form.now.clauses in
    let i = c.loop-placed.placed-index in
    let clause = c.placed-item.result in
    let items = c.as_slice-placed-items.result.now in
    let at : slice_get list i ≡ Some clause =
    subst (λ l. slice_get l i ≡ Some clause) c.as_slice-placed-items.ensures (slice_get_read items (length items) i clause refl c.loop-placed-test.true c.placed-item.is) in
    going_more naming.own naming.imported naming.nothing c.args.made.modules.now c.args.number list c.args.promises.now c.loop-placed.promises c.promise_clause.new.promises i clause at c.in_ok-promise_clause.ensures c.loop-placed.invariant

pub returns : goal.returns
returns c =
    let naming = c.args.naming.now in
    let list = c.args.form.now.clauses in
    let i = c.loop-placed.placed-index in
    let past : length list ≤ i = subst (λ l. length l ≤ i) c.as_slice-placed-items.ensures (omega arith) in
    going_end naming.own naming.imported naming.nothing c.args.made.modules.now c.args.number list c.args.promises.now c.loop-placed.promises i past c.loop-placed.invariant

use Rattle.std.proofs.Common.{◌≡◌, ◌≤◌, length, Some, slice_get, refl, subst, arith}
use Rattle.std.proofs.lemmas.Option.{slice_get_read}
use Rattle.dy_graph.proofs.Added.{adds_start, adds_more, index_in}
use Rattle.dy_graph.proofs.Clauses.{ClauseFault, adds_clauses}
use Rattle.dy_graph.proofs.Sources.{ready_clause}
use Rattle.dy_graph.proofs.judging.tell_clauses.Goals as goal

pub loop-placed-init : goal.loop-placed-init
loop-placed-init c =
    let naming = c.args.naming.now in
    let list = c.args.form.now.clauses in
    adds_start list (ClauseFault naming.own naming.imported c.args.made.modules.now c.args.number list) c.args.found.now

pub tell_clause-requires-clause-ready : goal.tell_clause-requires-clause-ready
tell_clause-requires-clause-ready c =
    let naming = c.args.naming.now in
    let form = c.args.form.now in
    let i = c.loop-placed.placed-index in
    let clause = c.placed-item.result in
    let items = c.as_slice-placed-items.result.now in
    let at : slice_get form.clauses i ≡ Some clause =
    subst (λ l. slice_get l i ≡ Some clause) c.as_slice-placed-items.ensures (slice_get_read items (length items) i clause refl c.loop-placed-test.true c.placed-item.is) in
    ready_clause c.args.made.modules.now c.args.made.tables.now c.requires.made naming.own naming.imported naming.nothing c.args.number form c.requires.of clause (index_in form.clauses clause i at)

pub loop-placed-preserved : goal.loop-placed-preserved
loop-placed-preserved c =
    let naming = c.args.naming.now in
    let list = c.args.form.now.clauses in
    let i = c.loop-placed.placed-index in
    let clause = c.placed-item.result in
    let items = c.as_slice-placed-items.result.now in
    let at : slice_get list i ≡ Some clause =
    subst (λ l. slice_get l i ≡ Some clause) c.as_slice-placed-items.ensures (slice_get_read items (length items) i clause refl c.loop-placed-test.true c.placed-item.is) in
    adds_more list (ClauseFault naming.own naming.imported c.args.made.modules.now c.args.number list) i clause c.args.found.now c.loop-placed.found c.tell_clause.new.found at c.loop-placed.invariant c.in_ok-tell_clause.ensures

pub returns : goal.returns
returns c =
    let naming = c.args.naming.now in
    let list = c.args.form.now.clauses in
    let i = c.loop-placed.placed-index in
    let past : length list ≤ i = subst (λ l. length l ≤ i) c.as_slice-placed-items.ensures (omega arith) in
    adds_clauses naming.own naming.imported c.args.made.modules.now c.args.number list i c.args.found.now c.loop-placed.found past c.loop-placed.invariant

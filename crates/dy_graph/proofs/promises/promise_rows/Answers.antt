use Rattle.std.proofs.Common.{◌+◌, ◌++◌, map, drop, slice_get, ap, ◌∙◌}
use Rattle.dy_graph.specs.Judged.{promise_of_row, promises_of_rows}
use Rattle.dy_graph.proofs.Steps.{promises_more}
use Rattle.dy_graph.proofs.promises.promise_rows.Goals as goal

pub loop-at-init : goal.loop-at-init
loop-at-init c =
    let old = c.args.promises.now in
    let list = c.args.list.now in
    ap (λ ps. old ++ promises_of_rows c.args.number c.args.place (map (slice_get list) ps)) c.deref-at-items.ensures.value
    ∙ ap (λ rows. old ++ promises_of_rows c.args.number c.args.place rows) c.in_ok-places.ensures

pub loop-at-preserved : goal.loop-at-preserved
loop-at-preserved c =
    let m = c.args.number in
    let place = c.args.place in
    let list = c.args.list.now in
    let places = c.deref-at-items.result.now in
    let i = c.loop-at.at-index in
    let old = c.loop-at.promises in
    ap (λ l. l ++ promises_of_rows m place (map (slice_get list) (drop (i + 1) places))) (c.in_ok-promise_row.ensures ∙ ap (λ r. old ++ promise_of_row m place r) c.at.ensures)
    ∙ promises_more m place list places i c.loop-at-test.true old ∙ c.loop-at.invariant

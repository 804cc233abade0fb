use Rattle.std.proofs.Common.{◌+◌, [], map, drop, slice_get, sym, ap, ◌∙◌}
use Rattle.dy_graph.specs.Judged.{with_lower, all_lower}
use Rattle.dy_graph.proofs.Steps.{lower_more}
use Rattle.dy_graph.proofs.table.sorted_modules.Goals as goal

pub loop-place-init : goal.loop-place-init
loop-place-init c =
    let rows = c.args.modules.now in
    ap (λ l. all_lower l (map (slice_get rows) c.deref-place-items.result.now)) c.new-list.ensures ∙ ap (λ ps. all_lower [] (map (slice_get rows) ps)) c.deref-place-items.ensures.value ∙ ap (all_lower []) c.in_ok-places.ensures

pub loop-place-preserved : goal.loop-place-preserved
loop-place-preserved c =
    let rows = c.args.modules.now in
    let places = c.deref-place-items.result.now in
    let i = c.loop-place.place-index in
    let list = c.loop-place.list in
    ap (λ l. all_lower l (map (slice_get rows) (drop (i + 1) places))) (c.in_ok-push_row.ensures ∙ ap (with_lower list) c.at.ensures) ∙ sym (lower_more rows places i c.loop-place-test.true list) ∙ c.loop-place.invariant

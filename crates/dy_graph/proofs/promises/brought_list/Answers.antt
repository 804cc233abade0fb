use Rattle.std.proofs.Common.{◌+◌, drop, ap, ◌∙◌}
use Rattle.dy_graph.specs.Judged.{with_new_row, new_rows}
use Rattle.dy_graph.proofs.Steps.{new_more}
use Rattle.dy_graph.proofs.promises.brought_list.Goals as goal

pub loop-place-preserved : goal.loop-place-preserved
loop-place-preserved c =
    let u = c.args.u.now in
    let rows = c.args.table.now in
    let i = c.loop-place.place in
    let list = c.loop-place.list in
    ap (λ l. new_rows u l (drop (i + 1) rows)) (c.in_ok-add_brought.ensures ∙ ap (λ r. with_new_row u r list) c.at.ensures) ∙ new_more u list rows i ∙ c.loop-place.invariant

use Rattle.std.proofs.Common.{◌≡◌, ◌+◌, ◌≤◌, ◌&&◌, false, not, length, drop, slice_get, sym, ap, ◌∙◌, arith}
use Rattle.dy_modules.specs.Builds.{is_clear_row, is_clear}
use Rattle.dy_modules.proofs.Rows.{drop_end}
use Rattle.dy_modules.proofs.Clear.{clear_more}
use Rattle.dy_library_form.specs.Told.{name_of_two}
use Rattle.dy_graph.proofs.Steps.{clear_by}
use Rattle.dy_graph.proofs.clash.is_single.Goals as goal

pub returns-then-is_some : goal.returns-then-is_some
returns-then-is_some c =
    let rows = c.args.table.now in
    let i = c.loop-place.place in
    let row : is_clear_row (slice_get rows i) ≡ not c.is_some.result = clear_by _ c.name_of_two.result (slice_get rows i) c.is_some.result (c.name_of_two.ensures ∙ ap name_of_two c.at.ensures) c.is_some.ensures in
    sym (clear_more rows i ∙ ap (λ b. b && is_clear (drop (i + 1) rows)) (row ∙ ap not c.if-is_some.true)) ∙ c.loop-place.invariant

pub loop-place-preserved : goal.loop-place-preserved
loop-place-preserved c =
    let rows = c.args.table.now in
    let i = c.loop-place.place in
    let row : is_clear_row (slice_get rows i) ≡ not c.is_some.result = clear_by _ c.name_of_two.result (slice_get rows i) c.is_some.result (c.name_of_two.ensures ∙ ap name_of_two c.at.ensures) c.is_some.ensures in
    sym (clear_more rows i ∙ ap (λ b. b && is_clear (drop (i + 1) rows)) (row ∙ ap not c.if-is_some.false)) ∙ c.loop-place.invariant

pub returns : goal.returns
returns c =
    let rows = c.args.table.now in
    let i = c.loop-place.place in
    let past : length rows ≤ i = omega (arith, c.loop-place-test.false, c.len-place-end.ensures.len) in
    sym (ap is_clear (drop_end rows i past)) ∙ c.loop-place.invariant

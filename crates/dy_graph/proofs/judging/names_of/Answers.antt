use Rattle.std.proofs.Common.{◌+◌, drop, ap, ◌∙◌}
use Rattle.dy_base.specs.Tables.{names}
use Rattle.dy_module_numbers.specs.Options.{with_names}
use Rattle.dy_library_form.specs.Told.{with_row_name}
use Rattle.dy_library_form.proofs.OneMore.{names_more}
use Rattle.dy_graph.proofs.judging.names_of.Goals as goal

pub loop-place-preserved : goal.loop-place-preserved
loop-place-preserved c =
    let rows = c.args.table.now in
    let i = c.loop-place.place in
    let set = c.loop-place.set in
    ap (λ s. with_names s (names (drop (i + 1) rows))) (c.in_ok-add_name.ensures ∙ ap (with_row_name set) c.at.ensures) ∙ names_more set rows i ∙ c.loop-place.invariant

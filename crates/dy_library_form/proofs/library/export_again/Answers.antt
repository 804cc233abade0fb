use Rattle.std.proofs.Common.{◌+◌, drop, ap, ◌∙◌}
use Rattle.dy_library_form.specs.Library.{shown_row, shown_again}
use Rattle.dy_library_form.proofs.OneMore.{shown_more}
use Rattle.dy_library_form.proofs.library.export_again.Goals as goal

pub loop-place-preserved : goal.loop-place-preserved
loop-place-preserved c =
    let u = c.args.u.now in
    let rows = c.args.modules.now in
    let i = c.loop-place.place in
    let shown = c.loop-place.shown in
    ap (λ s. shown_again u s (drop (i + 1) rows)) (c.in_ok-export_row.ensures ∙ ap (shown_row u shown) c.at.ensures) ∙ shown_more u shown rows i ∙ c.loop-place.invariant

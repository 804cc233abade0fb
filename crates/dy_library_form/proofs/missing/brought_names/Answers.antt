use Rattle.std.proofs.Common.{◌+◌, drop, ap, ◌∙◌}
use Rattle.dy_library_form.specs.Told.{with_new_name, brought_after}
use Rattle.dy_library_form.proofs.OneMore.{brought_more}
use Rattle.dy_library_form.proofs.missing.brought_names.Goals as goal

pub loop-place-preserved : goal.loop-place-preserved
loop-place-preserved c =
    let u = c.args.u.now in
    let names = c.args.exported.now in
    let i = c.loop-place.place in
    let set = c.loop-place.set in
    ap (λ s. brought_after u s (drop (i + 1) names)) (c.in_ok-add_brought.ensures ∙ ap (λ o. with_new_name u o set) c.at.ensures) ∙ brought_more u set names i ∙ c.loop-place.invariant

use Rattle.std.proofs.Common.{◌≡◌, ◌+◌, ◌++◌, drop, ap, ◌∙◌}
use Rattle.dy_module_numbers.specs.Numbers.{with_row, brought_modules}
use Rattle.dy_module_numbers.proofs.Givens.{brought_more}
use Rattle.dy_module_numbers.proofs.naming.brought_modules.Goals as goal

pub loop-place-preserved : goal.loop-place-preserved
loop-place-preserved c =
    let u = c.args.u.now in
    let rows = c.args.modules.now in
    let i = c.loop-place.place in
    let rest = brought_modules u (drop (i + 1) rows) in
    ap (λ l. l ++ rest) (c.in_ok-add_brought.ensures ∙ ap (with_row c.loop-place.pairs u) c.at.ensures) ∙ brought_more u c.loop-place.pairs rows i ∙ c.loop-place.invariant

use Rattle.std.proofs.Common.{◌≡◌, false, ap, ◌∙◌}
use Rattle.dy_modules.specs.Cells.{at, after_uses}
use Rattle.dy_modules.specs.Order.{all_rows}
use Rattle.dy_modules.proofs.Rows.{at_none}
use Rattle.dy_modules.proofs.rounds.imports_of.Goals as goal

pub returns : goal.returns
returns c = λ n.
    let rows = all_rows c.args.done.now in
    let us = c.args.form.now.uses in
    c.in_ok-bring_all.ensures n
    ∙ ap (λ l. after_uses false l rows n (at c.new-table.result n)) c.as_slice.ensures
    ∙ ap (λ t. after_uses false us rows n (at t n)) c.new-table.ensures
    ∙ ap (after_uses false us rows n) (at_none n)

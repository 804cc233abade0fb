use Rattle.std.proofs.Common.{◌≡◌, true, ap, ◌∙◌}
use Rattle.dy_modules.specs.Clauses.{given_at}
use Rattle.dy_modules.specs.Cells.{at, after_uses, after_listed, over}
use Rattle.dy_modules.specs.Order.{all_rows}
use Rattle.dy_modules.proofs.Rows.{at_none}
use Rattle.dy_modules.proofs.rounds.exports_of.Goals as goal

pub returns : goal.returns
returns c = λ n.
    let rows = all_rows c.args.done.now in
    let d = c.args.form.now in
    let imported = at c.args.imports.now in
    let listed : at c.add_listed.new.into n ≡ after_listed c.args.m imported d.listed n (at c.new-table.result n) = c.in_ok-add_listed.ensures n in
    c.in_ok-put_given.ensures n
    ∙ ap (over (given_at d n)) (
    c.in_ok-bring_all.ensures n
    ∙ ap (λ l. after_uses true l rows n (at c.add_listed.new.into n)) c.as_slice.ensures
    ∙ ap (after_uses true d.uses rows n) (
    listed
    ∙ ap (λ t. after_listed c.args.m imported d.listed n (at t n)) c.new-table.ensures
    ∙ ap (after_listed c.args.m imported d.listed n) (at_none n)))

use Rattle.std.proofs.Common.{◌≡◌, ◌+◌, ◌≤◌, length, drop, sym, ap, ◌∙◌, arith}
use Rattle.dy_modules.specs.Cells.{comes, cell_of, after_one, after_rows, at}
use Rattle.dy_modules.proofs.Rows.{step_all, drop_end}
use Rattle.dy_modules.proofs.rounds.bring.Goals as goal

pub loop-place-preserved : goal.loop-place-preserved
loop-place-preserved c = λ n.
    let rows = c.args.from.now in
    let place = c.loop-place.place in
    let only = c.args.again_only in
    let u = c.args.u.now in
    ap (after_rows only u (drop (place + 1) rows) n) (c.in_ok-bring_row.ensures n ∙ ap (λ r. after_one (comes only u n) cell_of r (at c.loop-place.into n)) c.at.ensures)
    ∙ step_all (comes only u n) cell_of rows place (at c.loop-place.into n)
    ∙ c.loop-place.invariant n

pub returns : goal.returns
returns c = λ n.
    let rows = c.args.from.now in
    let place = c.loop-place.place in
    let past : length rows ≤ place = omega (arith, c.loop-place-test.false, c.len-place-end.ensures.len) in
    sym (ap (λ rs. after_rows c.args.again_only c.args.u.now rs n (at c.loop-place.into n)) (drop_end rows place past)) ∙ c.loop-place.invariant n

use Rattle.std.proofs.Common.{◌≡◌, ◌+◌, ◌≤◌, length, drop, sym, ap, ◌∙◌, arith}
use Rattle.std.specs.Str.{bytes_eq}
use Rattle.dy_modules.specs.Clauses.{Name}
use Rattle.dy_modules.specs.declared.table.Cell.{Cell}
use Rattle.dy_modules.specs.Cells.{owner_or, after_one, after_listed, at}
use Rattle.dy_modules.proofs.Rows.{step_all, drop_end}
use Rattle.dy_modules.proofs.rounds.add_listed.Goals as goal

pub loop-place-preserved : goal.loop-place-preserved
loop-place-preserved c = λ n.
    let names = c.args.listed.now in
    let place = c.loop-place.place in
    let cell = λ (g : Name). owner_or c.args.m g (at c.args.imports.now g) in
    ap (after_listed c.args.m (at c.args.imports.now) (drop (place + 1) names) n) (c.in_ok-add_name.ensures n ∙ ap (λ r. after_one (bytes_eq n) cell r (at c.loop-place.into n)) c.at.ensures)
    ∙ step_all (bytes_eq n) cell names place (at c.loop-place.into n)
    ∙ c.loop-place.invariant n

pub returns : goal.returns
returns c = λ n.
    let names = c.args.listed.now in
    let place = c.loop-place.place in
    let past : length names ≤ place = omega (arith, c.loop-place-test.false, c.len-place-end.ensures) in
    sym (ap (λ rs. after_listed c.args.m (at c.args.imports.now) rs n (at c.loop-place.into n)) (drop_end names place past)) ∙ c.loop-place.invariant n

use Rattle.std.proofs.Common.{◌≡◌, ◌+◌, ◌≤◌, length, drop, nat_cmp, sym, ap, ◌∙◌, arith}
use Rattle.std.specs.Cmp.Lexicographic.{slice_cmp, nat_list_cmp_total}
use Rattle.std.specs.FinMap.{find, get-from_entries}
use Rattle.dy_modules.specs.Cells.{over, over_one, at}
use Rattle.dy_modules.proofs.Rows.{step_over, drop_end}
use Rattle.dy_modules.proofs.rounds.put_given.Goals as goal

pub loop-place-preserved : goal.loop-place-preserved
loop-place-preserved c = λ n.
    let rows = c.args.given.now in
    let place = c.loop-place.place in
    ap (over (find (slice_cmp nat_cmp) n (drop (place + 1) rows))) (c.in_ok-put_owner.ensures n ∙ ap (λ r. over_one n r (at c.loop-place.into n)) c.at.ensures)
    ∙ step_over rows c.len-place-end.ensures.distinct place n (at c.loop-place.into n)
    ∙ c.loop-place.invariant n

pub returns : goal.returns
returns c = λ n.
    let rows = c.args.given.now in
    let place = c.loop-place.place in
    let past : length rows ≤ place = omega (arith, c.loop-place-test.false, c.len-place-end.ensures.len) in
    sym (ap (λ rs. over (find (slice_cmp nat_cmp) n rs) (at c.loop-place.into n)) (drop_end rows place past)) ∙ c.loop-place.invariant n
    ∙ ap (λ o. over o (at c.args.into.now n)) (sym (get-from_entries nat_list_cmp_total rows n))

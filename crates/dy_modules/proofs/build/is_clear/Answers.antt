use Rattle.std.proofs.Common.{◌≡◌, ◌+◌, ◌≤◌, ◌&&◌, true, false, length, drop, slice_get, sym, ap, ◌∙◌, rules, arith}
use Rattle.dy_modules.specs.Builds.{is_clear_row, is_clear}
use Rattle.dy_modules.proofs.Rows.{drop_end}
use Rattle.dy_modules.proofs.Clear.{clear_more}
use Rattle.dy_modules.proofs.build.is_clear.Goals as goal

pub returns-then-not-is_clear_row : goal.returns-then-not-is_clear_row
returns-then-not-is_clear_row c =
    let rows = c.args.table.now in
    let place = c.loop-place.place in
    let row : is_clear_row (slice_get rows place) ≡ false = search rules in
    sym (clear_more rows place ∙ ap (λ b. b && is_clear (drop (place + 1) rows)) row) ∙ c.loop-place.invariant

pub loop-place-preserved : goal.loop-place-preserved
loop-place-preserved c =
    let rows = c.args.table.now in
    let place = c.loop-place.place in
    let row : is_clear_row (slice_get rows place) ≡ true = search rules in
    sym (clear_more rows place ∙ ap (λ b. b && is_clear (drop (place + 1) rows)) row) ∙ c.loop-place.invariant

pub returns : goal.returns
returns c =
    let rows = c.args.table.now in
    let place = c.loop-place.place in
    let past : length rows ≤ place = omega (arith, c.loop-place-test.false, c.len-place-end.ensures.len) in
    sym (ap is_clear (drop_end rows place past)) ∙ c.loop-place.invariant

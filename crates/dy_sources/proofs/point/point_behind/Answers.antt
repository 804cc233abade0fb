use Rattle.std.proofs.Common.{◌≡◌, ◌<◌, true, false, refl, get_or, length, arith}
use Rattle.std.proofs.lemmas.Bool.{ne_eqb}
use Rattle.std.proofs.lemmas.List.Sums.{count_by_more_yes, count_by_more_no}
use Rattle.dy_sources.specs.Layout.{is_line_feed}
use Rattle.dy_sources.proofs.Points.{column_after, column_more}
use Rattle.dy_sources.proofs.point.point_behind.Goals as goal
use Rattle.dy_sources.proofs.point.point_behind.Goals.{then-byte-eq10, else-byte-eq10}

pub loop-byte-preserved : goal.loop-byte-preserved
loop-byte-preserved c =
    let bytes = c.args.bytes.now in
    let i = c.loop-byte.byte-index in
    let lt : i < length bytes = c.loop-byte-test.true in
    let line = c.loop-byte.invariant.line in
    let column = c.loop-byte.invariant.column in
    let few_lines = c.loop-byte.invariant.few_lines in
    let few_columns = c.loop-byte.invariant.few_columns in
    elim c.if-byte-eq10.branch [
      | then-byte-eq10 w ↦
          let ends : is_line_feed (get_or bytes i 0) ≡ true = rw w.if-byte-eq10.true refl in
          let lines = count_by_more_yes is_line_feed bytes i 0 lt ends in
          let columns = column_after bytes i lt ends in
          rw w.point-is (record { line = omega arith; column = omega arith; few_lines = omega arith; few_columns = omega arith })
      | else-byte-eq10 w ↦
          let goes_on : is_line_feed (get_or bytes i 0) ≡ false = ne_eqb (get_or bytes i 0) 10 w.if-byte-eq10.false in
          let lines = count_by_more_no is_line_feed bytes i 0 lt goes_on in
          let columns = column_more bytes i lt goes_on in
          rw w.point-is (record { line = omega arith; column = omega arith; few_lines = omega arith; few_columns = omega arith })
    ]

use Rattle.std.proofs.Common.{arith}
use Rattle.dy_widths.proofs.Measures.{element, left_part, falls_by}
use Rattle.dy_show_rows.proofs.print.+write.Goals as goal

pub write_arms-write_arm-requires : goal.write_arms-write_arm-requires
write_arms-write_arm-requires t c = (
  falls_by 4 2 3 _ _ t (omega arith)
      (element _ c.args.arms.now c.as_slice-arm-items.result.now c.loop-arm.arm-index
      c.arm-item.result c.loop-arm-test.true c.arm-item.is c.as_slice-arm-items.ensures)
      c.decreases,
  tt,
)

pub write_arm-write_all-requires : goal.write_arm-write_all-requires
write_arm-write_all-requires t c =
    (falls_by 4 1 2 _ _ t (omega arith) (left_part _ _) c.decreases, tt)

use Rattle.std.proofs.Common.{arith}
use Rattle.dy_widths.proofs.Measures.{element, left_part, falls_by}
use Rattle.dy_widths.proofs.lambdas.+wide.Goals as goal

pub any_arm-is_wide_arm-requires : goal.any_arm-is_wide_arm-requires
any_arm-is_wide_arm-requires t c = (
  falls_by 4 2 3 _ _ t (omega arith)
      (element _ c.args.arms.now c.as_slice-arm-items.result.now c.loop-arm.arm-index
      c.arm-item.result c.loop-arm-test.true c.arm-item.is c.as_slice-arm-items.ensures)
      c.decreases,
  tt,
)

pub is_wide_arm-any_term-requires : goal.is_wide_arm-any_term-requires
is_wide_arm-any_term-requires t c =
    (falls_by 4 1 2 _ _ t (omega arith) (left_part _ _) c.decreases, tt)

use Rattle.std.proofs.Common.{arith}
use Rattle.dy_join.proofs.Numbered.{longest_more}
use Rattle.dy_join.proofs.units.longest.Goals.{then-most-unit, else-most-unit}
use Rattle.dy_join.proofs.units.longest.Goals as goal

pub loop-unit-preserved : goal.loop-unit-preserved
loop-unit-preserved c =
    let more = longest_more c.args.units.now c.loop-unit.unit-index c.unit-item.result
    c.loop-unit-test.true c.unit-item.is in
    elim c.if-most-unit.branch [
      | then-most-unit w ↦
          omega (arith, w.if-most-unit.true, w.most-is, more, c.loop-unit.invariant)
      | else-most-unit w ↦
          omega (arith, w.if-most-unit.false, w.most-is, more, c.loop-unit.invariant)
    ]

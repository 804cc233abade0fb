use Rattle.std.proofs.Common.{arith}
use Rattle.dy_lower.proofs.Bodies.{longest_more}
use Rattle.dy_lower.proofs.unit.longest.Goals.{then-most-body, else-most-body}
use Rattle.dy_lower.proofs.unit.longest.Goals as goal

pub loop-body-preserved : goal.loop-body-preserved
loop-body-preserved c =
    let more = longest_more c.args.bodies.now c.loop-body.body-index c.body-item.result
    c.loop-body-test.true c.body-item.is in
    elim c.if-most-body.branch [
      | then-most-body w ↦
          omega (arith, w.if-most-body.true, w.most-is, more, c.loop-body.invariant)
      | else-most-body w ↦
          omega (arith, w.if-most-body.false, w.most-is, more, c.loop-body.invariant)
    ]

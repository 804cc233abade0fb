use Rattle.std.proofs.Common.{[], ◌∷◌, ◌++◌, sym, ◌∙◌}
use Rattle.dy_lowered.specs.Units.{body_of}
use Rattle.dy_lower_lists.specs.Listed.{tables}
use Rattle.dy_lower.proofs.Bodies.{written_more}
use Rattle.dy_lower.proofs.unit.all_written.Goals as goal

pub loop-body-preserved : goal.loop-body-preserved
loop-body-preserved c =
    c.in_ok-push.ensures.ok
    ∙ (λ i. c.loop-body.invariant i ++ c.in_ok-written.ensures i ∷ [])
    ∙ sym (written_more (body_of (tables c.args.lists.now)) c.args.bodies.now c.loop-body.body-index
    c.body-item.result c.loop-body-test.true c.body-item.is)

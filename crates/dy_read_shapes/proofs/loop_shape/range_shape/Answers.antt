use Rattle.dy_read_shapes.proofs.LoopShapes.{first_within}
use Rattle.dy_read_shapes.proofs.loop_shape.range_shape.Goals as goal

pub returns-in-Some-limit_at-clause-nested : goal.returns-in-Some-limit_at-clause-nested
returns-in-Some-limit_at-clause-nested c n all =
    let within = first_within n c.args.others.now c.in-Some.behind.now c.in-Some.piece.now c.in-Some.ensures.cases.0 all in
    (c.in-Some-limit_at.ensures.nested n within.0, c.step_piece.ensures.nested n within.1)

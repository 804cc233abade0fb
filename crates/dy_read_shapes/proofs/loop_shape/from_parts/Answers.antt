use Rattle.dy_read_shapes.proofs.LoopShapes.{first_within}
use Rattle.dy_read_shapes.proofs.loop_shape.from_parts.Goals as goal

pub returns-in-Some-clause-nested : goal.returns-in-Some-clause-nested
returns-in-Some-clause-nested c n all =
    let within = first_within n c.args.others.now c.in-Some.behind.now c.in-Some.piece.now c.in-Some.ensures.cases.0 all in
    (within.0, c.range_shape.ensures.nested n within.1)

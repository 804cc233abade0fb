use Rattle.dy_read_shapes.proofs.ItemShapes.{method_followed}
use Rattle.dy_read_shapes.proofs.item_shape.method_alone.Goals as goal

pub returns-else-is_empty-clause-found : goal.returns-else-is_empty-clause-found
returns-else-is_empty-clause-found c = method_followed c.args.fragments.now c.in-Some.first.now c.in-Some.rest.now c.in-Some.ensures.cases.0 c.if-is_empty.ensures

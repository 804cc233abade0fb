use Rattle.dy_tree.specs.Fragments.{seen_fragment, seen_fragments}
use Rattle.std.proofs.Common.{ap}
use Rattle.dy_rules.specs.Fragments.{items_of}
use Rattle.dy_read_shapes.proofs.ItemShapes.{bound_let}
use Rattle.dy_read_shapes.proofs.item_shape.bound_shape.Goals as goal

pub returns-else-is_handler-clause-shape : goal.returns-else-is_handler-clause-shape
returns-else-is_handler-clause-shape c = λ words.
    bound_let words c.args.word.now (seen_fragments c.args.sides.before.now) (seen_fragment c.in-Some.first.now) (seen_fragments c.in-Some.condition.now) (items_of (seen_fragments c.args.sides.after.now)) (ap seen_fragments c.in-Some.ensures.cases.0) c.if-is_handler.ensures

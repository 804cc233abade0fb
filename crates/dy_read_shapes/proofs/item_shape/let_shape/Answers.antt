use Rattle.std.proofs.Common.{true, false, ◌∙◌}
use Rattle.dy_tree.specs.Fragments.{seen_fragments}
use Rattle.dy_rules.specs.Fragments.{items_of}
use Rattle.dy_read_shapes.proofs.ItemShapes.{let_plain}
use Rattle.dy_read_shapes.proofs.item_shape.let_shape.Goals as goal

pub returns-then-binds_plainly-clause-shape : goal.returns-then-binds_plainly-clause-shape
returns-then-binds_plainly-clause-shape c =
    let words = c.args.words in
    let rest = items_of (seen_fragments c.args.rest.now) in
    let_plain words c.args.word.now rest (seen_fragments c.in-Some.sides.before.now) (seen_fragments c.in-Some.sides.after.now) true c.in-Some.ensures.sides c.if-binds_plainly.ensures
    ∙ c.bound_shape.ensures.shape words

pub returns-else-binds_plainly-clause-shape : goal.returns-else-binds_plainly-clause-shape
returns-else-binds_plainly-clause-shape c =
    let_plain c.args.words c.args.word.now (items_of (seen_fragments c.args.rest.now)) (seen_fragments c.in-Some.sides.before.now) (seen_fragments c.in-Some.sides.after.now) false c.in-Some.ensures.sides c.if-binds_plainly.ensures

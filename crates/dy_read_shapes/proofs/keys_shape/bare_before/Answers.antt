use Rattle.dy_tree.specs.Fragments.{seen_fragment, seen_fragments}
use Rattle.dy_rules.specs.Fragments.{items_of}
use Rattle.dy_read_shapes.proofs.Keys.{bare_several}
use Rattle.dy_read_shapes.proofs.keys_shape.bare_before.Goals as goal

pub returns-in-Some : goal.returns-in-Some
returns-in-Some c all =
    let division = c.in-Some.field-0 in
    bare_several (seen_fragments c.args.fragments.now) (items_of (seen_fragments division.piece.now)) (seen_fragment division.separator.now) (seen_fragments division.behind.now) c.in-Some.ensures.pieces

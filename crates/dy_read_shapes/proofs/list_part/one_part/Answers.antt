use Rattle.std.proofs.Common.{[], ◌∷◌}
use Rattle.dy_tree.specs.Fragments.{seen_fragment, seen_fragments}
use Rattle.dy_rules.specs.Arguments.{is_comma_fragment}
use Rattle.dy_rules.specs.Fragments.{items_of}
use Rattle.dy_read_parts.specs.Pieces.{others_in}
use Rattle.dy_read_shapes.proofs.ListParts.{plain_read}
use Rattle.dy_read_shapes.proofs.list_part.one_part.Goals as goal

pub returns-in-Some-clause-part : goal.returns-in-Some-clause-part
returns-in-Some-clause-part c word not_key =
    let division = c.in-Some.division in
    let others = others_in is_comma_fragment (seen_fragment division.separator.now ∷ seen_fragments division.behind.now) in
    plain_read c.args.word (seen_fragments c.args.fragments.now) (items_of (seen_fragments division.piece.now)) others word not_key c.in-Some.ensures.pieces

pub returns-in-None-clause-part : goal.returns-in-None-clause-part
returns-in-None-clause-part c word not_key =
    let fragments = seen_fragments c.args.fragments.now in
    plain_read c.args.word fragments (items_of fragments) [] word not_key c.in-None.ensures.pieces

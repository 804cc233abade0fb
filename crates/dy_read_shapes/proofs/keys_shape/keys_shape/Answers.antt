use Rattle.std.proofs.Common.{◌∙◌}
use Rattle.dy_tree.specs.Fragments.{seen_fragment, seen_fragments}
use Rattle.dy_read_shapes.proofs.Keys.{mark_followed, several_keys, no_keys, one_key}
use Rattle.dy_read_shapes.proofs.keys_shape.keys_shape.Goals as goal

pub returns-then-is_empty : goal.returns-then-is_empty
returns-then-is_empty c =
    let all = seen_fragments c.args.fragments.now in
    let division = c.in-Some.division in
    mark_followed all division.piece.now (seen_fragment division.separator.now) (seen_fragments division.behind.now) c.in-Some.ensures.pieces c.if-is_empty.ensures ∙ c.bare_before.ensures all

pub returns-else-is_empty : goal.returns-else-is_empty
returns-else-is_empty c =
    let division = c.in-Some.division in
    several_keys (seen_fragments c.args.fragments.now) division.piece.now (seen_fragment division.separator.now) (seen_fragments division.behind.now) c.in-Some.ensures.pieces c.if-is_empty.ensures

pub returns-then-is_empty-2 : goal.returns-then-is_empty-2
returns-then-is_empty-2 c = no_keys c.args.fragments.now c.if-is_empty-2.ensures

pub returns-else-is_empty-2 : goal.returns-else-is_empty-2
returns-else-is_empty-2 c = one_key c.args.fragments.now c.in-None.ensures.pieces c.if-is_empty-2.ensures

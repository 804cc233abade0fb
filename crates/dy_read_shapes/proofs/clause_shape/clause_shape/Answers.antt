use Rattle.std.proofs.Common.{List, true, false, map, option_map, option_and_then, refl, sym, ap, ◌∙◌}
use Rattle.dy_tree.specs.Fragments.{seen_fragments}
use Rattle.dy_rules.specs.Cutting.{Pieces}
use Rattle.dy_rules.specs.Fragments.{items_of}
use Rattle.dy_rules.specs.Loops.{clause_with, clause_pieces}
use Rattle.dy_rules.specs.TypeReading.{variable_front}
use Rattle.dy_rules_depth.specs.Changes.{changed_for}
use Rattle.dy_rules_depth.specs.Capping.{capping}
use Rattle.dy_read_parts.specs.declared.pieces.Piece.{Piece}
use Rattle.dy_read_parts.specs.Cut.{seen_piece}
use Rattle.dy_read_shapes.proofs.ClauseShapes.{plainly_read}
use Rattle.dy_read_shapes.proofs.clause_shape.clause_shape.Goals as goal

pub returns-then-binds_plainly-clause-read : goal.returns-then-binds_plainly-clause-read
returns-then-binds_plainly-clause-read c =
    let pieces = c.in_ok-pieces.pieces in
    let first = seen_fragments pieces.first.now in
    c.shape_behind.ensures.read (variable_front (items_of first)) c.in_ok-front.ensures.front
    ∙ ap (λ (others : List Piece). option_map (changed_for capping) (option_and_then (clause_with (map seen_piece others)) (variable_front (items_of first)))) c.deref.ensures.value
    ∙ plainly_read true pieces first refl (sym c.binds_plainly.ensures ∙ c.if-binds_plainly.true)
    ∙ ap (λ (found : Pieces). option_map (changed_for capping) (clause_pieces found)) c.in_ok-pieces.ensures.pieces

pub returns-then-binds_plainly-clause-depth : goal.returns-then-binds_plainly-clause-depth
returns-then-binds_plainly-clause-depth c = c.shape_behind.ensures.depth c.args.depth.now c.variable_front.new.depth c.in_ok-front.ensures.depth

pub returns-clause-read : goal.returns-clause-read
returns-clause-read c =
    let pieces = c.in_ok-pieces.pieces in
    let first = seen_fragments pieces.first.now in
    plainly_read false pieces first refl (sym c.binds_plainly.ensures ∙ c.if-binds_plainly.false)
    ∙ ap (λ (found : Pieces). option_map (changed_for capping) (clause_pieces found)) c.in_ok-pieces.ensures.pieces

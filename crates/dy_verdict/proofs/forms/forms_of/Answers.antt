use Rattle.std.specs.Vec.Iter.{into_iter_items}
use Rattle.dy_verdict.proofs.PiecesRead.{item_reached, piece_more, piece_faulty}
use Rattle.dy_verdict.proofs.forms.forms_of.Goals as goal

pub loop-piece-preserved : goal.loop-piece-preserved
loop-piece-preserved c =
    let one = piece_more c.loop-piece.yielded c.in-Some.piece c.loop-piece.forms.items c.push.new.self.items c.in_ok-draft.field-0 c.in-Fits.draft c.place_of-place.result
    c.in-Fits.is c.in_ok-draft.ensures c.place_of-place.ensures c.in_ok-push-in-Fits.ensures.items c.loop-piece.invariant.fine c.loop-piece.invariant.read in
    record { fine = one.0; read = one.1 }

pub returns-in-Faulty : goal.returns-in-Faulty
returns-in-Faulty c =
    piece_faulty c.args.pieces.items c.loop-piece.yielded (into_iter_items c.next.new.self) c.in-Some.piece c.in_ok-draft.field-0 c.in-Faulty.kind c.place_of-place.result c.fault_at.result
    (item_reached c.args.pieces.items c.into_iter-piece-iterator.result c.loop-piece.yielded c.loop-piece.piece-iterator c.next.new.self c.in-Some.piece c.into_iter-piece-iterator.ensures.into_iter_gives.0 c.loop-piece.yielded_by c.in-Some.ensures.steps)
    c.in-Faulty.is c.in_ok-draft.ensures c.place_of-place.ensures c.fault_at.ensures c.loop-piece.invariant.fine

use Rattle.dy_verdict.proofs.Grouping.{pieces_more}
use Rattle.dy_verdict.proofs.pieces.pieces_of_files.Goals as goal

pub loop-file-preserved : goal.loop-file-preserved
loop-file-preserved c =
    pieces_more c.loop-file.yielded c.in-Some.file c.loop-file.pieces.items c.in_ok-more.more.items c.append.new.pieces.items c.loop-file.invariant c.in_ok-more.ensures c.in_ok-append.ensures

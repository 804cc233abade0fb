use Rattle.std.proofs.Common.{◌∙◌, arith}
use Rattle.dy_pieces.proofs.Steps.{name_len-graphic}
use Rattle.dy_pieces.proofs.piece.name_len.Goals as goal

pub loop-i-preserved : goal.loop-i-preserved
loop-i-preserved c = c.loop-i.invariant ∙ name_len-graphic c.args.bytes.now c.loop-i.i (omega arith) c.in-Graphic.ensures

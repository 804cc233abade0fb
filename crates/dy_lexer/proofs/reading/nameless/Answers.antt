use Rattle.std.proofs.Common.{arith}
use Rattle.dy_lexer.proofs.Nameless.{graphic_more}
use Rattle.dy_lexer.proofs.reading.nameless.Goals as goal

pub loop-i-preserved : goal.loop-i-preserved
loop-i-preserved c = graphic_more c.args.bytes.now c.loop-i.i (omega arith) c.in-Graphic.ensures c.loop-i.invariant

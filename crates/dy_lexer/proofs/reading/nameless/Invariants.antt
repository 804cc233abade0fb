use Rattle.dy_lexer.proofs.Nameless.{IsGraphicTo}
use Rattle.dy_lexer.proofs.reading.nameless.Given as goal

abbrev pub invariant-loop-i : goal.invariant-loop-i
invariant-loop-i l = IsGraphicTo l.i l.bytes

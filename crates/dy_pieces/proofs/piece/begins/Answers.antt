use Rattle.std.proofs.Common.{sym, ◌∙◌, arith}
use Rattle.dy_pieces.proofs.Steps.{begins-ended}
use Rattle.dy_pieces.proofs.piece.begins.Goals as goal

pub returns-then-bytes-i-clause-value : goal.returns-then-bytes-i-clause-value
returns-then-bytes-i-clause-value c = sym (c.loop-i.invariant.same ∙ begins-ended c.args.word.now c.args.bytes.now c.loop-i.i (omega arith) (omega arith))

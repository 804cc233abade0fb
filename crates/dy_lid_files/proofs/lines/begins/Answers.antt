use Rattle.std.proofs.Common.{sym, ◌∙◌, arith}
use Rattle.dy_pieces.proofs.Steps.{begins-ended}
use Rattle.dy_lid_files.proofs.lines.begins.Goals as goal

pub returns-then-line-i-clause-value : goal.returns-then-line-i-clause-value
returns-then-line-i-clause-value c = sym (c.loop-i.invariant.same ∙ begins-ended c.args.word.now c.args.line.now c.loop-i.i (omega arith) (omega arith))

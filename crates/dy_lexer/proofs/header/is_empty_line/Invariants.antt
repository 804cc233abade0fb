use Rattle.std.proofs.Common.{◌≡◌, drop}
use Rattle.dy_lexer.specs.Headers.{is_empty_line}
use Rattle.dy_lexer.proofs.header.is_empty_line.Given as goal

abbrev pub invariant-loop-b : goal.invariant-loop-b
invariant-loop-b l = is_empty_line l.fn.line ≡ is_empty_line (drop l.b-index l.line)

use Rattle.std.proofs.Common.{◌≡◌, drop}
use Rattle.dy_lexer.specs.Headers.{is_printable}
use Rattle.dy_lexer.proofs.header.is_printable.Given as goal

abbrev pub invariant-loop-b : goal.invariant-loop-b
invariant-loop-b l = is_printable l.fn.bytes ≡ is_printable (drop l.b-index l.bytes)

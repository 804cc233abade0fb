use Rattle.std.proofs.Common.{◌≡◌, drop}
use Rattle.dy_lexer.specs.Headers.{is_empty_line}
use Rattle.dy_lid_files.proofs.lines.is_empty_line.Given as goal

abbrev pub invariant-loop-byte : goal.invariant-loop-byte
invariant-loop-byte l = is_empty_line l.fn.line ≡ is_empty_line (drop l.byte-index l.line)

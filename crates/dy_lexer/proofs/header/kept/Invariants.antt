use Rattle.std.proofs.Common.{◌≡◌, ◌≤◌, drop}
use Rattle.dy_lexer.specs.Headers.{kept}
use Rattle.dy_lexer.proofs.header.kept.Given as goal

abbrev pub invariant-loop-i : goal.invariant-loop-i
invariant-loop-i l = record {
  within : l.end ≤ l.i;
  same : kept 0 0 l.fn.bytes ≡ kept l.end l.i (drop l.i l.bytes);
}

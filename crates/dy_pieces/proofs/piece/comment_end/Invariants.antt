use Rattle.std.proofs.Common.{◌≡◌, drop, ◌≤◌, ◌+◌}
use Rattle.dy_pieces.specs.Scan.{plus, comment_end}
use Rattle.dy_pieces.proofs.piece.comment_end.Given as goal

abbrev pub invariant-loop-i : goal.invariant-loop-i
invariant-loop-i l = record {
  some : 1 ≤ l.depth;
  few : l.depth ≤ l.i + 1;
  same : comment_end 1 0 l.fn.bytes ≡ plus l.i (comment_end l.depth l.before (drop l.i l.bytes));
}

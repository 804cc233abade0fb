use Rattle.std.proofs.Common.{◌≡◌, ◌≤◌, length, drop}
use Rattle.dy_pieces.specs.Words.{begins}
use Rattle.dy_pieces.proofs.piece.begins.Given as goal

abbrev pub invariant-loop-i : goal.invariant-loop-i
invariant-loop-i l = record {
  room : l.i ≤ length l.bytes;
  same : begins l.fn.word l.bytes ≡ begins (drop l.i l.word) (drop l.i l.bytes);
}

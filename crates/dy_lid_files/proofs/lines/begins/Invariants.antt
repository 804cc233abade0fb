use Rattle.std.proofs.Common.{◌≡◌, ◌≤◌, length, drop}
use Rattle.dy_pieces.specs.Words.{begins}
use Rattle.dy_lid_files.proofs.lines.begins.Given as goal

abbrev pub invariant-loop-i : goal.invariant-loop-i
invariant-loop-i l = record {
  room : l.i ≤ length l.line;
  same : begins l.fn.word l.line ≡ begins (drop l.i l.word) (drop l.i l.line);
}

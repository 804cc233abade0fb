use Rattle.std.proofs.Common.{◌≡◌, drop}
use Rattle.dy_pieces.specs.Scan.{plus}
use Rattle.dy_pieces.specs.Pieces.{name_len}
use Rattle.dy_pieces.proofs.piece.name_len.Given as goal

abbrev pub invariant-loop-i : goal.invariant-loop-i
invariant-loop-i l = name_len l.fn.bytes ≡ plus l.i (name_len (drop l.i l.bytes))

use Rattle.std.proofs.Common.{◌≡◌, false, drop}
use Rattle.dy_pieces.specs.Scan.{plus, literal_end}
use Rattle.dy_pieces.proofs.piece.literal_end.Given as goal

abbrev pub invariant-loop-i : goal.invariant-loop-i
invariant-loop-i l = literal_end l.quote false l.fn.bytes ≡ plus l.i (literal_end l.quote l.escaped (drop l.i l.bytes))

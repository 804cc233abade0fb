use Rattle.std.proofs.Common.{◌≡◌, drop}
use Rattle.dy_pieces.specs.Scan.{decoded, decoded_from, IsSmall}
use Rattle.dy_pieces.specs.Literals.{appended}
use Rattle.dy_pieces.proofs.literal.decoded.Given as goal

abbrev pub invariant-loop-b : goal.invariant-loop-b
invariant-loop-b l = record {
  small : IsSmall l.state;
  same : appended l.values.items (decoded_from l.tabs l.state (drop l.b-index l.bytes)) ≡ appended l.fn.into.items (decoded l.tabs l.fn.bytes);
}

use Rattle.std.proofs.Common.{◌≡◌, ◌≤◌, drop}
use Rattle.dy_pieces.specs.Numbers.{value_from}
use Rattle.dy_pieces.proofs.literal.value_from.Given as goal

abbrev pub invariant-loop-b : goal.invariant-loop-b
invariant-loop-b l = record {
  small : l.n ≤ 9223372036854775807;
  same : value_from l.base 0 l.fn.digits ≡ value_from l.base l.n (drop l.b-index l.digits);
}

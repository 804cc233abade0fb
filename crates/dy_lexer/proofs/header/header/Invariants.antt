use Rattle.std.proofs.Common.{◌≡◌, ℕ, ◌+◌, ◌≤◌, length, drop}
use Rattle.dy_lexer.specs.Headers.{header_from, start}
use Rattle.dy_lexer.proofs.header.header.Given as goal

abbrev pub invariant-loop-rest : goal.invariant-loop-rest
invariant-loop-rest l = record {
  place : l.at + length l.rest ≡ length l.fn.text;
  back : l.rest ≡ drop l.at l.fn.text;
  same : (n : ℕ) → length l.fn.text ≤ n → (m : ℕ) × (length l.rest ≤ m) × (header_from l.lid n start 0 l.fn.text ≡ header_from l.lid m l.head l.at l.rest);
}

abbrev pub decreases-loop-rest : goal.decreases-loop-rest
decreases-loop-rest l = length l.rest

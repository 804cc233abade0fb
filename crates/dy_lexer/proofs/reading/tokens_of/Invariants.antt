use Rattle.std.proofs.Common.{◌≡◌, ℕ, ◌+◌, ◌≤◌, length, []}
use Rattle.dy_pieces.specs.Pieces.{IsNameless}
use Rattle.dy_lexer.specs.Tokens.{tokens_of, joined_after}
use Rattle.dy_lexer.proofs.reading.tokens_of.Given as goal

abbrev pub invariant-loop-rest : goal.invariant-loop-rest
invariant-loop-rest l = record {
  place : l.at + length l.rest ≡ l.fn.start + length l.fn.text;
  bare : IsNameless l.bare l.rest;
  same : (n : ℕ) → length l.fn.text ≤ n → (m : ℕ) × (length l.rest ≤ m) × (joined_after [] (tokens_of n l.file l.fn.start l.fn.text) ≡ joined_after l.tokens.items (tokens_of m l.file l.at l.rest));
}

abbrev pub decreases-loop-rest : goal.decreases-loop-rest
decreases-loop-rest l = length l.rest

use Rattle.std.proofs.Common.{◌≡◌, ℕ, ◌+◌, ◌++◌, drop, length}
use Rattle.dy_meaning.specs.Layouts.{Layout}
use Rattle.dy_lowered.specs.Turns.{all_operands, tests}
use Rattle.dy_lower_parts.specs.Seen.{seen_code}
use Rattle.dy_lower_turns.specs.ClauseCode.{clauses_code}
use Rattle.dy_lower_turns.proofs.clauses.put_tests.Given as goal

abbrev pub invariant-loop-index : goal.invariant-loop-index
invariant-loop-index l = record {
  above : (layout : Layout) (n : ℕ) → l.above ≡ all_operands (clauses_code layout (drop l.index l.all) n);
  code : (layout : Layout) (n far : ℕ) → far + l.exit ≡ length (seen_code l.fn.code)
      → seen_code l.code ≡ tests (clauses_code layout (drop l.index l.all) n) far ++ seen_code l.fn.code;
}

use Rattle.std.proofs.Common.{◌≡◌, ℕ, drop}
use Rattle.dy_meaning.specs.Layouts.{Layout}
use Rattle.dy_lowered.specs.Turns.{all_operands}
use Rattle.dy_lower_turns.specs.ClauseCode.{clauses_code}
use Rattle.dy_lower_turns.proofs.clauses.all_operands.Given as goal

abbrev pub invariant-loop-index : goal.invariant-loop-index
invariant-loop-index l = (layout : Layout) (n : ℕ) → l.count ≡ all_operands (clauses_code layout (drop l.index l.all) n)

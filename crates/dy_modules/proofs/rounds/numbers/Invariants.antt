use Rattle.std.proofs.Common.{ℕ, ◌<◌, ◌↔◌}
use Rattle.dy_modules.specs.Clauses.{IsIn}
use Rattle.dy_modules.proofs.rounds.numbers.Given as goal

abbrev pub invariant-loop-i : goal.invariant-loop-i
invariant-loop-i l = (m : ℕ) → IsIn m l.v.items ↔ (m < l.i)

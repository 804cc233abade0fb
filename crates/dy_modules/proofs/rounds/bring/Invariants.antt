use Rattle.std.proofs.Common.{◌≡◌, drop}
use Rattle.dy_modules.specs.Clauses.{Name}
use Rattle.dy_modules.specs.Cells.{after_rows, at}
use Rattle.dy_modules.proofs.rounds.bring.Given as goal

-- what the rest brings to the table is what all brings to the first
abbrev pub invariant-loop-place : goal.invariant-loop-place
invariant-loop-place l = (n : Name) → after_rows l.again_only l.u (drop l.place l.from) n (at l.into n) ≡ after_rows l.fn.again_only l.fn.u l.fn.from n (at l.fn.into n)

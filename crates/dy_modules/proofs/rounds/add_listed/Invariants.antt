use Rattle.std.proofs.Common.{◌≡◌, drop}
use Rattle.dy_modules.specs.Clauses.{Name}
use Rattle.dy_modules.specs.Cells.{after_listed, at}
use Rattle.dy_modules.proofs.rounds.add_listed.Given as goal

abbrev pub invariant-loop-place : goal.invariant-loop-place
invariant-loop-place l = (n : Name) → after_listed l.m (at l.imports) (drop l.place l.listed) n (at l.into n)
    ≡ after_listed l.fn.m (at l.fn.imports) l.fn.listed n (at l.fn.into n)

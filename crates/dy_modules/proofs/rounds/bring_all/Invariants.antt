use Rattle.std.proofs.Common.{◌≡◌, drop}
use Rattle.dy_modules.specs.Clauses.{Name}
use Rattle.dy_modules.specs.Cells.{after_uses, at}
use Rattle.dy_modules.specs.Order.{all_rows}
use Rattle.dy_modules.proofs.rounds.bring_all.Given as goal

abbrev pub invariant-loop-u : goal.invariant-loop-u
invariant-loop-u l = (n : Name) → after_uses l.again_only (drop l.u-index l.uses) (all_rows l.done) n (at l.into n)
    ≡ after_uses l.fn.again_only l.fn.uses (all_rows l.fn.done) n (at l.fn.into n)

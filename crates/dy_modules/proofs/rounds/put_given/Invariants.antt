use Rattle.std.proofs.Common.{◌≡◌, drop, nat_cmp}
use Rattle.std.specs.Cmp.Lexicographic.{slice_cmp}
use Rattle.std.specs.FinMap.{find}
use Rattle.dy_modules.specs.Clauses.{Name}
use Rattle.dy_modules.specs.Cells.{over, at}
use Rattle.dy_modules.proofs.rounds.put_given.Given as goal

abbrev pub invariant-loop-place : goal.invariant-loop-place
invariant-loop-place l = (n : Name) → over (find (slice_cmp nat_cmp) n (drop l.place l.given)) (at l.into n) ≡ over (find (slice_cmp nat_cmp) n l.fn.given) (at l.fn.into n)

use Rattle.std.proofs.Common.{◌≡◌, false, None, drop}
use Rattle.dy_modules.specs.Clauses.{Name}
use Rattle.dy_modules.specs.Cells.{at, after_uses}
use Rattle.dy_modules.specs.Order.{all_rows}
use Rattle.dy_graph.proofs.clash.name_of_clash.Given as goal

abbrev pub invariant-loop-u : goal.invariant-loop-u
invariant-loop-u l = (n : Name) → after_uses false (drop l.u-index l.uses) (all_rows l.tables) n (at l.table n) ≡ after_uses false l.uses (all_rows l.tables) n None

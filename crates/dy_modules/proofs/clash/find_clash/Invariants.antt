use Rattle.std.proofs.Common.{◌≡◌, ◌≢◌, false, take, None, Some}
use Rattle.dy_modules.specs.Clauses.{Name}
use Rattle.dy_modules.specs.declared.table.Cell.TheVariants.{Many}
use Rattle.dy_modules.specs.Cells.{after_uses, at}
use Rattle.dy_modules.specs.Order.{all_rows}
use Rattle.dy_modules.proofs.clash.find_clash.Given as goal

abbrev pub invariant-loop-i : goal.invariant-loop-i
invariant-loop-i l = record {
  table : (n : Name) → at l.table n ≡ after_uses false (take l.i l.fn.uses) (all_rows l.fn.done) n None;
  clear : (n : Name) → at l.table n ≢ Some Many;
}

use Rattle.std.proofs.Common.{◌++◌}
use Rattle.dy_order.specs.Methods.{methods_below, methods_upto}
use Rattle.dy_order.specs.Precedence.{IsApplicable}
use Rattle.dy_order.specs.Sorting.{Filtered}
use Rattle.dy_order.proofs.sorting.applicable.Given as goal

abbrev pub invariant-loop-library : goal.invariant-loop-library
invariant-loop-library l = Filtered (IsApplicable l.program l.generic l.args) (methods_below l.program l.library) l.found.items

abbrev pub invariant-loop-row : goal.invariant-loop-row
invariant-loop-row l =
    Filtered (IsApplicable l.program l.generic l.args) (methods_below l.program l.library ++ methods_upto l.library l.row) l.found.items

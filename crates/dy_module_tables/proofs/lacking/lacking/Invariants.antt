use Rattle.std.proofs.Common.{◌≡◌, [], drop}
use Rattle.dy_module_tables.specs.Lacking.{with_lacking}
use Rattle.dy_module_tables.proofs.lacking.lacking.Given as goal

abbrev pub invariant-loop-promise : goal.invariant-loop-promise
invariant-loop-promise l =
    with_lacking l.tables.items l.defined.items (drop l.promise-index l.promised) l.list
    ≡ with_lacking l.fn.tables.items l.fn.defined.items l.fn.promised []

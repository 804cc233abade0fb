use Rattle.std.proofs.Common.{◌≡◌, drop, []}
use Rattle.dy_module_numbers.specs.Options.{with_names}
use Rattle.dy_doubled.specs.Doubled.{imported}
use Rattle.dy_doubled.proofs.imported.imported.Given as goal

abbrev pub invariant-loop-placed : goal.invariant-loop-placed
invariant-loop-placed l =
    with_names [] (imported l.used l.clauses)
    ≡ with_names l.set (imported l.used (drop l.placed-index l.clauses))

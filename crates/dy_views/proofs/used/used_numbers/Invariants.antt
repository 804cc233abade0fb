use Rattle.std.proofs.Common.{◌≡◌, drop, []}
use Rattle.dy_views.specs.Views.{used_names, with_numbers}
use Rattle.dy_views.proofs.used.used_numbers.Given as goal

abbrev pub invariant-loop-placed : goal.invariant-loop-placed
invariant-loop-placed l =
    with_numbers l.compiled [] (used_names l.clauses)
    ≡ with_numbers l.compiled l.numbers (used_names (drop l.placed-index l.clauses))

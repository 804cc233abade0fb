use Rattle.std.proofs.Common.{◌≡◌, drop}
use Rattle.dy_definitions.specs.Passes.{with_all, no_tallies}
use Rattle.dy_definitions.specs.Seen.{tallies_in}
use Rattle.dy_definitions.proofs.counting.count_all.Given as goal

abbrev pub invariant-loop-definition : goal.invariant-loop-definition
invariant-loop-definition l =
    with_all l.definitions no_tallies
    ≡ with_all (drop l.definition-index l.definitions) (tallies_in l.table)

use Rattle.std.proofs.Common.{◌≡◌, [], drop}
use Rattle.dy_definitions.specs.Passes.{no_tallies}
use Rattle.dy_definitions.specs.Passes.{with_refused}
use Rattle.dy_definitions.specs.Seen.{tallies_in}
use Rattle.dy_definitions.proofs.redefined.all_redefined.Given as goal

abbrev pub invariant-loop-definition : goal.invariant-loop-definition
invariant-loop-definition l =
    with_refused l.words (tallies_in l.all) no_tallies l.definitions []
    ≡ with_refused l.words (tallies_in l.all) (tallies_in l.earlier)
    (drop l.definition-index l.definitions) l.list

use Rattle.std.proofs.Common.{◌≡◌, drop}
use Rattle.dy_definitions.specs.Means.{no_rows}
use Rattle.dy_definitions.specs.Passes.{meanings_with, no_meanings}
use Rattle.dy_definitions.specs.Seen.{tallies_in, meanings_in}
use Rattle.dy_definitions.proofs.meanings.meanings_of.Given as goal

abbrev pub invariant-loop-definition : goal.invariant-loop-definition
invariant-loop-definition l =
    meanings_with l.library (tallies_in l.all) l.definitions no_rows no_meanings
    ≡ meanings_with l.library (tallies_in l.all) (drop l.definition-index l.definitions) l.rows
    (meanings_in l.meanings)

use Rattle.std.proofs.Common.{◌≡◌, drop}
use Rattle.dy_definitions.specs.Passes.{no_tallies}
use Rattle.dy_definitions.specs.Seen.{tallies_in}
use Rattle.dy_library_names.specs.Passes.{told_again}
use Rattle.dy_library_names.proofs.early.tell_again.Given as goal

abbrev pub invariant-loop-definition : goal.invariant-loop-definition
invariant-loop-definition l =
    told_again no_tallies l.definitions l.fn.progress
    ≡ told_again (tallies_in l.earlier) (drop l.definition-index l.definitions) l.progress

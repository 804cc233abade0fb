use Rattle.std.proofs.Common.{◌≡◌, ◌++◌, drop}
use Rattle.dy_libraries.specs.Programs.{others_in}
use Rattle.dy_libraries.proofs.program.others_of.Given as goal

abbrev pub invariant-loop-other : goal.invariant-loop-other
invariant-loop-other l =
    l.others ++ others_in l.compiled l.number (drop l.other-index l.other-items) ≡ others_in l.compiled l.number l.other-items

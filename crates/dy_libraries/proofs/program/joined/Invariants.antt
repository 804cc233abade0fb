use Rattle.std.proofs.Common.{◌≡◌, map}
use Rattle.dy_libraries.specs.Parts.{joined_library}
use Rattle.dy_libraries.proofs.program.joined.Given as goal

abbrev pub invariant-loop-row : goal.invariant-loop-row
invariant-loop-row l = l.all.items ≡ map joined_library l.yielded

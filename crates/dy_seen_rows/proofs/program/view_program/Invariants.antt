use Rattle.std.proofs.Common.{◌≡◌, map}
use Rattle.dy_seen_rows.specs.Rows.{class_library}
use Rattle.dy_seen_rows.proofs.program.view_program.Given as goal

abbrev pub invariant-loop-classes : goal.invariant-loop-classes
invariant-loop-classes l = l.libraries ≡ map class_library l.yielded

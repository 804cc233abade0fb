use Rattle.std.proofs.Common.{◌≡◌, map}
use Rattle.dy_linked_rows.specs.Programs.{units}
use Rattle.dy_running.specs.Runs.{viewed}
use Rattle.dy_running.proofs.linking.lower_libraries.Given as goal

abbrev pub invariant-loop-library : goal.invariant-loop-library
invariant-loop-library l = l.all.items ≡ units (map viewed l.yielded)

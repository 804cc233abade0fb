use Rattle.std.proofs.Common.{◌≡◌}
use Rattle.dy_library_names.specs.Passes.{told_all}
use Rattle.dy_library_names.proofs.telling.tell_all.Given as goal

abbrev pub invariant-loop-fault : goal.invariant-loop-fault
invariant-loop-fault l = l.progress ≡ told_all l.yielded l.fn.progress

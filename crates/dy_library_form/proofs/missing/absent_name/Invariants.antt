use Rattle.std.proofs.Common.{◌≡◌, ◌+◌, ◌++◌, [], drop, take, map, length, replicate}
use Rattle.dy_library_form.specs.Told.{absent}
use Rattle.dy_library_form.proofs.missing.absent_name.Given as goal

abbrev pub invariant-loop-name : goal.invariant-loop-name
invariant-loop-name l = absent l.set (drop l.name-index l.names) ≡ absent l.set l.names

use Rattle.std.proofs.Common.{◌≡◌, map, drop}
use Rattle.dy_library_names.specs.Named.{undefined}
use Rattle.dy_library_names.specs.Passes.{told_all}
use Rattle.dy_library_names.proofs.telling.tell_undefined.Given as goal

abbrev pub invariant-loop-name : goal.invariant-loop-name
invariant-loop-name l =
    told_all (map undefined l.names) l.fn.progress
    ≡ told_all (map undefined (drop l.name-index l.names)) l.progress

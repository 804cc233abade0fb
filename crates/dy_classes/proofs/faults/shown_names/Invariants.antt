use Rattle.std.proofs.Common.{◌≡◌, ◌++◌, drop, map}
use Rattle.dy_classes.specs.Rows.{name_at}
use Rattle.dy_classes.proofs.faults.shown_names.Given as goal

abbrev pub invariant-loop-class : goal.invariant-loop-class
invariant-loop-class l = l.names ++ map (name_at l.program) (drop l.class-index l.classes) ≡ map (name_at l.program) l.classes

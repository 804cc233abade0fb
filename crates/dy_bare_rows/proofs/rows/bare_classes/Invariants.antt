use Rattle.std.proofs.Common.{◌≡◌, map}
use Rattle.dy_lowered.specs.Units.{bare_class}
use Rattle.dy_bare_rows.proofs.rows.bare_classes.Given as goal

abbrev pub invariant-loop-class : goal.invariant-loop-class
invariant-loop-class l = l.bare ≡ map bare_class l.yielded

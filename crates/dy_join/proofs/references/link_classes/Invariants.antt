use Rattle.std.proofs.Common.{◌≡◌, map}
use Rattle.dy_lowered.specs.Linking.{linked_class}
use Rattle.dy_join.specs.Numbering.{placed}
use Rattle.dy_join.proofs.references.link_classes.Given as goal

abbrev pub invariant-loop-class : goal.invariant-loop-class
invariant-loop-class l = l.linked ≡ map (linked_class (placed l.places)) l.yielded

use Rattle.std.proofs.Common.{◌≡◌, map}
use Rattle.dy_lowered.specs.Linking.{linked_method}
use Rattle.dy_join.specs.Numbering.{placed}
use Rattle.dy_join.proofs.references.link_methods.Given as goal

abbrev pub invariant-loop-method : goal.invariant-loop-method
invariant-loop-method l = l.linked ≡ map (linked_method (placed l.places)) l.yielded

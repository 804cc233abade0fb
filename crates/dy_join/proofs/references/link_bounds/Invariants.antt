use Rattle.std.proofs.Common.{◌≡◌, map}
use Rattle.dy_lowered.specs.Linking.{linked_bound}
use Rattle.dy_join.specs.Numbering.{placed}
use Rattle.dy_join.proofs.references.link_bounds.Given as goal

abbrev pub invariant-loop-methods : goal.invariant-loop-methods
invariant-loop-methods l = l.linked ≡ map (linked_bound (placed l.places)) l.yielded

use Rattle.std.proofs.Common.{◌≡◌, map}
use Rattle.dy_lowered.specs.Linking.{linked_type}
use Rattle.dy_join.specs.Numbering.{placed}
use Rattle.dy_join.proofs.types.link_types.Given as goal

abbrev pub invariant-loop-declared : goal.invariant-loop-declared
invariant-loop-declared l = l.linked ≡ map (linked_type (placed l.places)) l.yielded

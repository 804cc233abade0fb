use Rattle.std.proofs.Common.{◌≡◌, map}
use Rattle.dy_lowered.specs.Linking.{linked_name}
use Rattle.dy_join.specs.Numbering.{placed}
use Rattle.dy_join.proofs.references.link_names.Given as goal

abbrev pub invariant-loop-named : goal.invariant-loop-named
invariant-loop-named l = l.linked ≡ map (linked_name (placed l.places)) l.yielded

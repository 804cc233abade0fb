use Rattle.std.proofs.Common.{◌≡◌, map}
use Rattle.dy_lowered.specs.Linking.{linked_results}
use Rattle.dy_join.specs.Numbering.{placed}
use Rattle.dy_join.proofs.types.link_results.Given as goal

abbrev pub invariant-loop-results : goal.invariant-loop-results
invariant-loop-results l = l.linked ≡ map (linked_results (placed l.places)) l.yielded

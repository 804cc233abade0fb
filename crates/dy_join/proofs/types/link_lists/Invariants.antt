use Rattle.std.proofs.Common.{◌≡◌, map}
use Rattle.dy_lowered.specs.Linking.{linked_params}
use Rattle.dy_join.specs.Numbering.{placed}
use Rattle.dy_join.proofs.types.link_lists.Given as goal

abbrev pub invariant-loop-params : goal.invariant-loop-params
invariant-loop-params l = l.linked ≡ map (linked_params (placed l.places)) l.yielded

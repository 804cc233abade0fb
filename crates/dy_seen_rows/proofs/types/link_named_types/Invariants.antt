use Rattle.std.proofs.Common.{◌≡◌, map, take}
use Rattle.std.specs.Option.{option_map}
use Rattle.dy_lowered.specs.Linking.{linked_type}
use Rattle.dy_seen_rows.specs.Places.{placed}
use Rattle.dy_seen_rows.proofs.types.link_named_types.Given as goal

abbrev pub invariant-loop-named : goal.invariant-loop-named
invariant-loop-named l = l.linked ≡ map (option_map (linked_type (placed l.places))) (take l.named-index l.types)

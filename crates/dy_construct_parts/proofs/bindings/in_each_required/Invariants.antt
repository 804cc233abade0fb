use Rattle.std.proofs.Common.{◌≡◌, flat_map, map, take}
use Rattle.dy_rules.specs.SeenTypes.{seen_required}
use Rattle.dy_construct_parts.specs.Table.{first_absent}
use Rattle.dy_construct_parts.specs.Parts.{in_required}
use Rattle.dy_construct_parts.proofs.bindings.in_each_required.Given as goal

abbrev pub invariant-loop-one : goal.invariant-loop-one
invariant-loop-one l = l.found ≡ first_absent (flat_map in_required (map seen_required (take l.one-index l.one-items)))

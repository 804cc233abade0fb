use Rattle.std.proofs.Common.{◌≡◌, flat_map, map, take}
use Rattle.dy_rules.specs.SeenTypes.{seen_type}
use Rattle.dy_construct_parts.specs.Table.{first_absent}
use Rattle.dy_construct_parts.specs.Parts.{in_type}
use Rattle.dy_construct_parts.proofs.types.+types.Given as goal

abbrev pub invariant-in_types-loop-form : goal.invariant-in_types-loop-form
invariant-in_types-loop-form l = l.found ≡ first_absent (flat_map in_type (map seen_type (take l.form-index l.form-items)))

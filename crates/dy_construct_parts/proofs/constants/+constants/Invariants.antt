use Rattle.std.proofs.Common.{◌≡◌, flat_map, map, take}
use Rattle.dy_rules.specs.SeenTypes.{seen_constant}
use Rattle.dy_construct_parts.specs.Table.{first_absent}
use Rattle.dy_construct_parts.specs.Parts.{in_constant}
use Rattle.dy_construct_parts.proofs.constants.+constants.Given as goal

abbrev pub invariant-in_constants-loop-form : goal.invariant-in_constants-loop-form
invariant-in_constants-loop-form l = l.found ≡ first_absent (flat_map in_constant (map seen_constant (take l.form-index l.form-items)))

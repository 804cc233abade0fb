use Rattle.std.proofs.Common.{◌≡◌, flat_map, map, take}
use Rattle.dy_rules.specs.SeenTypes.{seen_variable}
use Rattle.dy_construct_parts.specs.Table.{first_absent}
use Rattle.dy_construct_parts.specs.Parts.{in_variable}
use Rattle.dy_construct_parts.proofs.bindings.in_variables.Given as goal

abbrev pub invariant-loop-variable : goal.invariant-loop-variable
invariant-loop-variable l = l.found ≡ first_absent (flat_map (in_variable l.fn.typed) (map seen_variable (take l.variable-index l.variable-items)))

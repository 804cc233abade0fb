use Rattle.std.proofs.Common.{◌≡◌, flat_map, map, take}
use Rattle.dy_rules.specs.SeenForms.{seen_argument}
use Rattle.dy_construct_parts.specs.Table.{first_absent}
use Rattle.dy_constructs.specs.Bodies.{in_argument}
use Rattle.dy_constructs.proofs.forms.in_rest.Given as goal

abbrev pub invariant-loop-argument : goal.invariant-loop-argument
invariant-loop-argument l = l.found ≡ first_absent (flat_map in_argument (map seen_argument (take l.argument-index l.arguments)))

use Rattle.std.proofs.Common.{◌≡◌, flat_map, map, take}
use Rattle.dy_rules.specs.SeenForms.{seen_option}
use Rattle.dy_construct_parts.specs.Table.{first_absent}
use Rattle.dy_constructs.specs.Forms.{in_option}
use Rattle.dy_constructs.proofs.forms.in_options.Given as goal

abbrev pub invariant-loop-option : goal.invariant-loop-option
invariant-loop-option l = l.found ≡ first_absent (flat_map in_option (map seen_option (take l.option-index l.option-items)))

use Rattle.std.proofs.Common.{◌≡◌, ◌+◌, ◌*◌, ◌++◌, map, drop}
use Rattle.std.specs.Prelude.{option_map}
use Rattle.dy_term.specs.Types.{seen_type}
use Rattle.dy_rules.specs.SeenForms.{seen_argument}
use Rattle.dy_rules.specs.Trees.{arguments_of}
use Rattle.dy_surface.specs.TypeConstants.{types_in}
use Rattle.dy_surface.proofs.type_constants.+types.Given as goal

-- A part is smaller than the tree that holds it. Where a call passes on all that it was given, the added number falls.
abbrev pub decreases-form_type : goal.decreases-form_type
decreases-form_type l = 3 * goal.size-form_type l + 2

abbrev pub decreases-type_in : goal.decreases-type_in
decreases-type_in l = 3 * goal.size-type_in l + 0

abbrev pub decreases-types_in : goal.decreases-types_in
decreases-types_in l = 3 * goal.size-types_in l + 1

abbrev pub decreases-argument_type : goal.decreases-argument_type
decreases-argument_type l = 3 * goal.size-argument_type l + 0

-- the types so far and those of the arguments that are left
abbrev pub invariant-types_in-loop-argument : goal.invariant-types_in-loop-argument
invariant-types_in-loop-argument l =
    option_map (λ rest. map seen_type l.types.items ++ rest) (types_in (arguments_of (map seen_argument (drop l.argument-index l.argument-items)))) ≡ types_in (arguments_of (map seen_argument l.argument-items))

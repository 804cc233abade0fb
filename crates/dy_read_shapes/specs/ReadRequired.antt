-- Required parameters, as the reader gives them.
use Rattle.std.specs.Prelude.{◌≡◌, ℕ, max, ⊤, List, [], ◌∷◌, Option, Some, None, option_map}
use Rattle.dy_tree.specs.declared.variables.Required.{Required}
use Rattle.dy_tree.specs.Fragments.{seen_fragment, seen_fragments}
use Rattle.dy_rules.specs.SeenTypes.{seen_required}
use Rattle.dy_rules.specs.Types.{RequiredTree, required_variable}
use Rattle.dy_rules.specs.Cutting.{Item}
use Rattle.dy_rules.specs.Depth.{required_depth}
use Rattle.dy_rules.specs.Signatures.{single_at}
use Rattle.dy_rules.specs.TypeReading.{single_in, variable_items}
use Rattle.dy_rules_depth.specs.Changes.{changed_required}
use Rattle.dy_rules_depth.specs.Capping.{capping, filling}
use Rattle.dy_read_shapes.specs.declared.required.Identity.{Identity}

abbrev pub read_required : Required → RequiredTree
read_required form = changed_required filling (seen_required form)

abbrev pub capped_required : RequiredTree → RequiredTree
capped_required required = changed_required capping required

-- a parameter that is compared, or a variable
abbrev pub required_read : List Item → Option Identity → Option RequiredTree
required_read items None = option_map required_variable (variable_items items)
required_read items (Some identity) =
    single_at (seen_fragment identity.parameter.now) (single_in (seen_fragments identity.value.now))

-- how deep it is with what was read before
abbrev pub RequiredDepth : ℕ → ℕ → Option Required → Type 0
RequiredDepth old new None = ⊤
RequiredDepth old new (Some required) = new ≡ max old (required_depth (read_required required ∷ []))

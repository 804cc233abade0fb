-- Required parameters.
use Rattle.std.proofs.Common.{◌≡◌, ◌∙◌, ap, Option, Some, None, option_map, option_and_then, refl}
use Rattle.dy_tree.specs.declared.token.Token.{Token}
use Rattle.dy_tree.specs.Fragments.{SeenFragment, one, group}
use Rattle.dy_tree.specs.declared.roles.Role.{Role}
use Rattle.dy_tree.specs.declared.roles.Role.TheVariants as roles
use Rattle.dy_rules.specs.Roles.{role_of}
use Rattle.dy_rules.specs.Signatures.{single_named, single_at}
use Rattle.dy_rules.specs.Types.{Single, VariableTree, RequiredTree, required_variable, required_single}
use Rattle.dy_rules.specs.TypeReading.{named_token}
use Rattle.dy_read_parts.specs.Names.{name_at}
use Rattle.dy_read_shapes.specs.ReadRequired.{capped_required}
use Rattle.dy_read_types.specs.VariableFronts.{capped_variable}

-- a parameter of this name that is compared with a value
abbrev pub compared : Option Single → Token → Option RequiredTree
compared single token = option_map (required_single token) single

by_role : (role : Role) (token : Token) (single : Option Single) → single_named role token single ≡ option_and_then (compared single) (named_token role token)
by_role roles.Named token single = refl
by_role role token single = refl

by_name : (parameter : SeenFragment) (single : Option Single) → single_at parameter single ≡ option_and_then (compared single) (name_at parameter)
by_name (one token) single = by_role (role_of token) token single
by_name (group opener inner closer) single = refl

kept : (single : Option Single) (token : Option Token) → option_map capped_required (option_and_then (compared single) token) ≡ option_and_then (compared single) token
kept single None = refl
kept None (Some token) = refl
kept (Some single) (Some token) = refl

pub single_named_at : (parameter : SeenFragment) (single : Option Single) → option_map capped_required (single_at parameter single) ≡ option_and_then (compared single) (name_at parameter)
single_named_at parameter single = ap (option_map capped_required) (by_name parameter single) ∙ kept single (name_at parameter)

pub any_changed : (found : Option VariableTree) → option_map required_variable (option_map capped_variable found) ≡ option_map capped_required (option_map required_variable found)
any_changed None = refl
any_changed (Some variable) = refl

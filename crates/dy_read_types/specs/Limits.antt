-- The class and the bounds of limited types, as the definitions see them.
use Rattle.std.specs.Prelude.{Bool, true, false, List, map, Option, Some, None, option_map}
use Rattle.std.specs.Prelude.{option_and_then}
use Rattle.std.specs.Global.{Vec}
use Rattle.dy_tree.specs.declared.token.Token.{Token}
use Rattle.dy_tree.specs.declared.types.BoundForm.{BoundForm}
use Rattle.dy_tree.specs.Fragments.{SeenFragment}
use Rattle.dy_rules.specs.Cutting.{Limits}
use Rattle.dy_rules.specs.Roles.{role_of}
use Rattle.dy_rules.specs.SeenTypes.{seen_bound}
use Rattle.dy_rules.specs.Types.{Bound}
use Rattle.dy_rules.specs.TypeReading.{is_integer_class, limits_of}
use Rattle.dy_read_words.specs.Alone.{token_alone}
use Rattle.dy_read_types.specs.declared.limits.Limits.{Limits as Found}

abbrev pub seen_bounds : Vec BoundForm → List Bound
seen_bounds bounds = map seen_bound bounds.items

abbrev pub seen_limits : Found → Limits
seen_limits found = limits_of found.class (seen_bounds found.bounds)

abbrev pub class_if : Bool → Token → Option Token
class_if true class = Some class
class_if false class = None

abbrev pub class_of : Token → Option Token
class_of token = class_if (is_integer_class (role_of token) token) token

-- the class in front of the bounds
abbrev pub class_in : List SeenFragment → Option Token
class_in fragments = option_and_then class_of (token_alone fragments)

-- the class with the bounds behind it
abbrev pub with_bounds : Option (List Bound) → Token → Option Limits
with_bounds bounds class = option_map (limits_of class) bounds

-- The bodies and statements that items stand for, by functions that compute.
use Rattle.std.specs.Prelude.{Bool, true, false, List, [], ◌∷◌, Option, Some, None, option_map}
use Rattle.std.specs.Prelude.{option_and_then}
use Rattle.dy_tree.specs.declared.token.Token.{Token}
use Rattle.dy_tree.specs.Fragments.{SeenFragment, one, group}
use Rattle.dy_tree.specs.declared.roles.Role.{Role}
use Rattle.dy_tree.specs.declared.roles.Role.TheVariants as roles
use Rattle.dy_tree.specs.declared.brackets.Keyword.TheVariants as keywords
use Rattle.dy_tree.specs.declared.brackets.Bracket.{Bracket}
use Rattle.dy_tree.specs.declared.brackets.Bracket.TheVariants as brackets
use Rattle.dy_tree.specs.declared.splitters.Splitting.{Splitting}
use Rattle.dy_rules.specs.Trees.{Tree, ItemTree, let_item, handler_item, expression_item, body_of}
use Rattle.dy_rules.specs.Trees.{local_item, LocalMethod, local_method, methods_of, parameters_of}
use Rattle.dy_rules.specs.Types.{is_equals, TypeTree, binds_plainly, TargetTree}
use Rattle.dy_rules.specs.TypeReading.{type_items, target_items}
use Rattle.dy_rules.specs.Roles.{role_of, bracket_of}
use Rattle.dy_rules.specs.Cutting.{Item, is_semicolon, cut, each, without_end, Sides, first_cut}
use Rattle.dy_rules.specs.Cutting.{fragments_in, NamedFound}
use Rattle.dy_rules.specs.Reading.{expression_items}
use Rattle.dy_rules.specs.Arguments.{is_comma_fragment}

-- how an item begins
pub data ItemFront : Type 0 where
  let_front : (word : Token) → ItemFront
  local_front : (word : Token) → ItemFront
  other_front : ItemFront

abbrev pub front_by : Role → Token → ItemFront
front_by roles.Lets word = let_front word
front_by roles.Locals word = local_front word
front_by _ word = other_front

abbrev pub front_of_item : SeenFragment → ItemFront
front_of_item (one token) = front_by (role_of token) token
front_of_item (group opener inner closer) = other_front

abbrev pub is_equals_at : SeenFragment → Bool
is_equals_at (one token) = is_equals token
is_equals_at (group opener inner closer) = false

abbrev pub is_handler_role : Role → Bool
is_handler_role roles.Handlers = true
is_handler_role _ = false

abbrev pub is_handler : SeenFragment → Bool
is_handler (one token) = is_handler_role (role_of token)
is_handler (group opener inner closer) = false

abbrev pub let_of : Token → TargetTree → Tree → ItemTree
let_of word target assigned = let_item word target assigned

abbrev pub handler_of : Token → TypeTree → Tree → ItemTree
handler_of word condition handler = handler_item word condition handler

abbrev pub let_with : Splitting → Token → List Item → TargetTree → Option ItemTree
let_with words word after target = option_map (let_of word target) (expression_items words after)

abbrev pub handler_with : Splitting → Token → List Item → TypeTree → Option ItemTree
handler_with words word after condition =
    option_map (handler_of word condition) (expression_items words after)

-- what is bound, which begins with this item
abbrev pub bound_at : Bool → Splitting → Token → Item → List Item → List Item → Option ItemTree
bound_at true words word item rest after =
    option_and_then (handler_with words word after) (type_items rest)
bound_at false words word item rest after =
    option_and_then (let_with words word after) (target_items (item ∷ rest))

abbrev pub bound_from : Splitting → Token → List Item → List Item → Option ItemTree
bound_from words word [] after = None
bound_from words word (item ∷ rest) after =
    bound_at (is_handler item.fragment) words word item rest after

abbrev pub let_if : Bool → Splitting → Token → Sides → Option ItemTree
let_if true words word sides = bound_from words word sides.before sides.after
let_if false words word sides = None

abbrev pub let_sides : Splitting → Token → Sides → Option ItemTree
let_sides words word sides =
    let_if (binds_plainly words (fragments_in sides.before)) words word sides

abbrev pub method_tree_of : Token → NamedFound → LocalMethod
method_tree_of word named =
    local_method word named.token (parameters_of named.method.found named.method.results)
    (body_of named.method.trees)

abbrev pub method_in : Bracket → Token → Option NamedFound → Option LocalMethod
method_in (brackets.Statement keywords.Method) word named = option_map (method_tree_of word) named
method_in _ word named = None

abbrev pub method_at : SeenFragment → Option NamedFound → Option LocalMethod
method_at (one token) named = None
method_at (group opener inner closer) named = method_in (bracket_of opener closer) opener named

-- one method alone
abbrev pub method_alone : List Item → Option LocalMethod
method_alone (item ∷ []) = method_at item.fragment item.found.named_method
method_alone _ = None

abbrev pub local_of : Token → List LocalMethod → ItemTree
local_of word methods = local_item word (methods_of methods)

abbrev pub item_by : ItemFront → Splitting → Item → List Item → Option ItemTree
item_by (let_front word) words item rest =
    option_and_then (let_sides words word) (first_cut is_equals_at rest)
item_by (local_front word) words item rest =
    option_map (local_of word) (each method_alone (cut is_comma_fragment false rest))
item_by other_front words item rest =
    option_map expression_item (expression_items words (item ∷ rest))

abbrev pub item_items : Splitting → List Item → Option ItemTree
item_items words [] = None
item_items words (item ∷ rest) = item_by (front_of_item item.fragment) words item rest

abbrev pub nonempty_body : Splitting → List Item → Option (List ItemTree)
nonempty_body words [] = Some []
nonempty_body words (first ∷ rest) = each (item_items words) (cut is_semicolon false (first ∷ rest))

abbrev pub body_items : Splitting → List Item → Option (List ItemTree)
body_items words items = nonempty_body words (without_end items)

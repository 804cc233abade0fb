-- The list or vector that the inside of a group stands for, by functions that compute, fragment by
-- fragment.
use Rattle.std.specs.Prelude.{List, [], ◌∷◌, ◌++◌, Option, Some, None, option_map, option_and_then}
use Rattle.dy_tree.specs.declared.token.Token.{Token}
use Rattle.dy_tree.specs.declared.types.LiteralForm.{LiteralForm}
use Rattle.dy_tree.specs.Fragments.{SeenFragment, one, group, SeenFragments, no_fragment}
use Rattle.dy_tree.specs.Fragments.{fragment_and}
use Rattle.dy_tree.specs.declared.roles.Role.{Role}
use Rattle.dy_tree.specs.declared.roles.Role.TheVariants as roles
use Rattle.dy_tree.specs.declared.brackets.Bracket.{Bracket}
use Rattle.dy_tree.specs.declared.brackets.Bracket.TheVariants as brackets
use Rattle.dy_rules.specs.Roles.{role_of, negative, bracket_of}
use Rattle.dy_rules.specs.ConstantTrees.{Constant, literal_item, list_item, vector_item}
use Rattle.dy_rules.specs.ConstantTrees.{constants_of, tail_of}
use Rattle.dy_rules.specs.Constants.{token_literal}

pub data Element : Type 0 where
  -- a constant comes
  comes : Element
  -- a minus was read
  after_sign : (sign : Token) → Element
  known : (value : Constant) → Element

pub data Listing : Type 0 where
  -- nothing was read
  started : Listing
  element : (items : List Constant) (state : Element) → Listing
  -- a dot was read
  ending : (items : List Constant) (state : Element) → Listing

-- the items of a list, and what follows the dot
pub record Inside : Type 0 where
  pub items : List Constant
  pub last : Option Constant

abbrev pub inside : List Constant → Option Constant → Inside
inside items last = record { items = items; last = last }

abbrev pub list_found : Listing → Option Inside
list_found started = Some (inside [] None)
list_found (element items (known value)) = Some (inside (items ++ value ∷ []) None)
list_found (element items state) = None
list_found (ending items (known value)) = Some (inside items (Some value))
list_found (ending items state) = None

abbrev pub vector_found : Listing → Option (List Constant)
vector_found started = Some []
vector_found (element items (known value)) = Some (items ++ value ∷ [])
vector_found (element items state) = None
vector_found (ending items state) = None

-- a fragment, whose inside was read
pub data ConstantItem : Type 0 where
  token_of : (token : Token) → ConstantItem
  group_of : (kind : Bracket) (opener : Token) (found : Option Listing) → ConstantItem

abbrev pub known_literal : LiteralForm → Element
known_literal form = known (literal_item form)

abbrev pub known_list : Token → Inside → Element
known_list opener found = known (list_item opener (constants_of found.items) (tail_of found.last))

abbrev pub known_vector : Token → List Constant → Element
known_vector opener items = known (vector_item opener (constants_of items))

abbrev pub at_element : Role → Token → Option Element
at_element roles.Minus token = Some (after_sign token)
at_element role token = option_map known_literal (token_literal role token)

abbrev pub at_digits : Role → Token → Token → Option Element
at_digits roles.Integer sign token = Some (known_literal (negative sign token))
at_digits _ sign token = None

abbrev pub group_element : Bracket → Token → Option Listing → Option Element
group_element brackets.SharpRound opener found =
    option_map (known_list opener) (option_and_then list_found found)
group_element brackets.SharpSquare opener found =
    option_map (known_vector opener) (option_and_then vector_found found)
group_element _ opener found = None

abbrev pub element_step : Element → ConstantItem → Option Element
element_step comes (token_of token) = at_element (role_of token) token
element_step comes (group_of kind opener found) = group_element kind opener found
element_step (after_sign sign) (token_of token) = at_digits (role_of token) sign token
element_step (after_sign sign) (group_of kind opener found) = None
element_step (known value) item = None

abbrev pub behind_constant : Role → List Constant → Option Listing
behind_constant roles.Comma items = Some (element items comes)
behind_constant roles.Dot items = Some (ending items comes)
behind_constant _ items = None

abbrev pub listing_step : Listing → ConstantItem → Option Listing
listing_step started item = option_map (element []) (element_step comes item)
listing_step (element items (known value)) (token_of token) =
    behind_constant (role_of token) (items ++ value ∷ [])
listing_step (element items (known value)) (group_of kind opener found) = None
listing_step (element items comes) item = option_map (element items) (element_step comes item)
listing_step (element items (after_sign sign)) item =
    option_map (element items) (element_step (after_sign sign) item)
listing_step (ending items state) item = option_map (ending items) (element_step state item)

abbrev mutual
  pub constant_item : SeenFragment → ConstantItem
  constant_item (one token) = token_of token
  constant_item (group opener inner closer) =
      group_of (bracket_of opener closer) opener (listed started inner)

  pub listed : Listing → SeenFragments → Option Listing
  listed listing no_fragment = Some listing
  listed listing (fragment_and first rest) =
      option_and_then (λ next. listed next rest) (listing_step listing (constant_item first))

abbrev pub list_in : SeenFragments → Option Inside
list_in inner = option_and_then list_found (listed started inner)

abbrev pub vector_in : SeenFragments → Option (List Constant)
vector_in inner = option_and_then vector_found (listed started inner)

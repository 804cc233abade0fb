-- How a constant begins, and what stands behind it.
use Rattle.std.specs.Prelude.{◌≡◌, ◌<◌, ◌≤◌, ⊤, ℕ, length, List, [], ◌∷◌, Option, Some, None}
use Rattle.std.specs.Prelude.{option_map}
use Rattle.dy_tree.specs.declared.token.Token.{Token}
use Rattle.dy_tree.specs.declared.types.LiteralForm.{LiteralForm}
use Rattle.dy_tree.specs.Fragments.{SeenFragment, pack, seen_fragments}
use Rattle.dy_tree.specs.declared.roles.Role.{Role}
use Rattle.dy_tree.specs.declared.roles.Role.TheVariants as roles
use Rattle.dy_tree.specs.declared.brackets.Bracket.{Bracket}
use Rattle.dy_tree.specs.declared.brackets.Bracket.TheVariants as brackets
use Rattle.dy_rules.specs.Roles.{role_of, negative}
use Rattle.dy_rules.specs.Constants.{token_literal}
use Rattle.dy_rules.specs.ConstantTrees.{Constant, literal_item, list_item, vector_item}
use Rattle.dy_rules.specs.ConstantTrees.{constants_of, tail_of}
use Rattle.dy_rules.specs.ConstantReading.{Inside, list_in, vector_in}
use Rattle.dy_rules_depth.specs.Capping.{filled_literal}
use Rattle.dy_read_constants.specs.declared.constant_shape.ConstantShape.{ConstantShape}
use Rattle.dy_read_constants.specs.declared.constant_shape.ConstantShape.TheVariants as shapes
use Rattle.dy_read_parts.specs.FragmentParts.{SeenPart, token_part, group_part, part_of}
use Rattle.dy_read_parts.specs.Nesting.{nesting}

pub data SeenShape : Type 0 where
  no_shape : SeenShape
  literal_shape : (form : LiteralForm) (rest : List SeenFragment) → SeenShape
  group_shape : (bracket : Bracket) (opener : Token) (inner rest : List SeenFragment) → SeenShape

abbrev pub seen_shape : ConstantShape → SeenShape
seen_shape shapes.Nothing = no_shape
seen_shape (shapes.Literal form rest) = literal_shape form (seen_fragments rest.now)
seen_shape (shapes.Group bracket opener inner rest) =
    group_shape bracket opener.now (seen_fragments inner.now) (seen_fragments rest.now)

abbrev pub literal_or_none : Option LiteralForm → List SeenFragment → SeenShape
literal_or_none None rest = no_shape
literal_or_none (Some form) rest = literal_shape form rest

abbrev pub shape_of_digits : Role → Token → Token → List SeenFragment → SeenShape
shape_of_digits roles.Integer sign digits rest = literal_shape (negative sign digits) rest
shape_of_digits _ sign digits rest = no_shape

abbrev pub shape_from_sign : Token → SeenPart → List SeenFragment → SeenShape
shape_from_sign sign (token_part digits) rest = shape_of_digits (role_of digits) sign digits rest
shape_from_sign sign (group_part bracket opener inner) rest = no_shape

abbrev pub shape_behind_sign : Token → List SeenFragment → SeenShape
shape_behind_sign sign [] = no_shape
shape_behind_sign sign (second ∷ others) = shape_from_sign sign (part_of second) others

abbrev pub shape_of_token : Role → Token → List SeenFragment → SeenShape
shape_of_token roles.Minus token rest = shape_behind_sign token rest
shape_of_token role token rest = literal_or_none (token_literal role token) rest

abbrev pub shape_at : SeenPart → List SeenFragment → SeenShape
shape_at (token_part token) rest = shape_of_token (role_of token) token rest
shape_at (group_part bracket opener inner) rest = group_shape bracket opener inner rest

abbrev pub shape_of : List SeenFragment → SeenShape
shape_of [] = no_shape
shape_of (first ∷ rest) = shape_at (part_of first) rest

-- A literal is no leaf that stands for something too deep.
abbrev pub IsPresent : ConstantShape → Type 0
IsPresent shapes.Nothing = ⊤
IsPresent (shapes.Literal form rest) = filled_literal form ≡ literal_item form
IsPresent (shapes.Group bracket opener inner rest) = ⊤

-- What is inside is nested less than these fragments, and what stands behind is a part of them.
abbrev pub IsShallower : ℕ → ConstantShape → Type 0
IsShallower n shapes.Nothing = ⊤
IsShallower n (shapes.Literal form rest) = nesting (seen_fragments rest.now) ≤ n
IsShallower n (shapes.Group bracket opener inner rest) = (nesting (seen_fragments inner.now) < n)
    × (nesting (seen_fragments rest.now) ≤ n)

abbrev pub IsShorter : ℕ → ConstantShape → Type 0
IsShorter n shapes.Nothing = ⊤
IsShorter n (shapes.Literal form rest) = length rest.now < n
IsShorter n (shapes.Group bracket opener inner rest) = length rest.now < n

-- a list, of what stands inside of it
abbrev pub list_of : Token → Inside → Constant
list_of opener found = list_item opener (constants_of found.items) (tail_of found.last)

abbrev pub vector_of : Token → List Constant → Constant
vector_of opener items = vector_item opener (constants_of items)

-- the constant that a group is
abbrev pub group_read : Bracket → Token → List SeenFragment → Option Constant
group_read brackets.SharpRound opener inner = option_map (list_of opener) (list_in (pack inner))
group_read brackets.SharpSquare opener inner =
    option_map (vector_of opener) (vector_in (pack inner))
group_read _ opener inner = None

-- a constant at the front of fragments, and what stands behind it
pub record Front : Type 0 where
  pub value : Constant
  pub rest : List SeenFragment

abbrev pub in_front : List SeenFragment → Constant → Front
in_front rest value = record { value = value; rest = rest }

abbrev pub shape_read : SeenShape → Option Front
shape_read no_shape = None
shape_read (literal_shape form rest) = Some (in_front rest (literal_item form))
shape_read (group_shape bracket opener inner rest) =
    option_map (in_front rest) (group_read bracket opener inner)

abbrev pub constant_front : List SeenFragment → Option Front
constant_front fragments = shape_read (shape_of fragments)

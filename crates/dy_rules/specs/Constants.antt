-- Literals, and lists and vectors of them (DRM, appendix A).
--     literal = int | CHAR | STRING | BOOL | SYMBOL
--     int     = [ "-" ] INT
--     const   = literal | list | vector
--     list    = "#(" [ const { "," const } [ "." const ] ] ")"
--     vector  = "#[" [ const { "," const } ] "]"
use Rattle.std.specs.Prelude.{◌≡◌, List, [], ◌∷◌, ◌++◌, Option, Some, None}
use Rattle.dy_tree.specs.declared.token.Token.{Token}
use Rattle.dy_tree.specs.declared.types.LiteralForm.{LiteralForm}
use Rattle.dy_tree.specs.declared.types.LiteralForm.TheVariants as literals
use Rattle.dy_tree.specs.Fragments.{SeenFragment, one, group, SeenFragments, row}
use Rattle.dy_tree.specs.declared.roles.Role.{Role}
use Rattle.dy_tree.specs.declared.roles.Role.TheVariants as roles
use Rattle.dy_tree.specs.declared.brackets.Bracket.TheVariants as brackets
use Rattle.dy_rules.specs.ConstantTrees.{Constant, literal_item, list_item, vector_item}
use Rattle.dy_rules.specs.ConstantTrees.{constants_of, tail_of}
use Rattle.dy_rules.specs.Roles.{role_of, bracket_of, positive, negative}

-- one token that is a literal
abbrev pub token_literal : Role → Token → Option LiteralForm
token_literal roles.Integer token = Some (positive token)
token_literal roles.Character token = Some (literals.Char token)
token_literal roles.Text token = Some (literals.Str token)
token_literal roles.Boolean token = Some (literals.Bool token)
token_literal roles.Symbol token = Some (literals.Symbol token)
token_literal _ token = None

pub data IsLiteral : LiteralForm → List SeenFragment → Type 0 where
  one_token : (token : Token) (form : LiteralForm) → token_literal (role_of token) token ≡ Some form
      → IsLiteral form (one token ∷ [])
  negative_integer : (sign digits : Token) → role_of sign ≡ roles.Minus
      → role_of digits ≡ roles.Integer
      → IsLiteral (negative sign digits) (one sign ∷ one digits ∷ [])

-- the nonterminals, each with what it stands for
pub data ConstantSort : Type 0 where
  constant : (value : Constant) → ConstantSort
  some_constants : (items : List Constant) → ConstantSort
  in_list : (items : List Constant) (last : Option Constant) → ConstantSort
  in_vector : (items : List Constant) → ConstantSort

pub data IsConstant : ConstantSort → List SeenFragment → Type 0 where
  literal_constant : (form : LiteralForm) (fragments : List SeenFragment) → IsLiteral form fragments
      → IsConstant (constant (literal_item form)) fragments
  list_constant : (items : List Constant) (last : Option Constant) (opener : Token)
      (inner : SeenFragments) (closer : Token) → bracket_of opener closer ≡ brackets.SharpRound
      → IsConstant (in_list items last) (row inner)
      → IsConstant (constant (list_item opener (constants_of items) (tail_of last)))
      (group opener inner closer ∷ [])
  vector_constant : (items : List Constant) (opener : Token) (inner : SeenFragments)
      (closer : Token) → bracket_of opener closer ≡ brackets.SharpSquare
      → IsConstant (in_vector items) (row inner)
      → IsConstant (constant (vector_item opener (constants_of items)))
      (group opener inner closer ∷ [])
  one_constant : (value : Constant) (fragments : List SeenFragment)
      → IsConstant (constant value) fragments → IsConstant (some_constants (value ∷ [])) fragments
  more_constants : (items : List Constant) (value : Constant) (separator : Token)
      (before after all : List SeenFragment) → all ≡ before ++ one separator ∷ after
      → role_of separator ≡ roles.Comma
      → IsConstant (some_constants items) before → IsConstant (constant value) after
      → IsConstant (some_constants (items ++ value ∷ [])) all
  empty_list : IsConstant (in_list [] None) []
  proper_list : (items : List Constant) (fragments : List SeenFragment)
      → IsConstant (some_constants items) fragments → IsConstant (in_list items None) fragments
  improper_list : (items : List Constant) (last : Constant) (point : Token)
      (before after all : List SeenFragment) → all ≡ before ++ one point ∷ after
      → role_of point ≡ roles.Dot
      → IsConstant (some_constants items) before → IsConstant (constant last) after
      → IsConstant (in_list items (Some last)) all
  empty_vector : IsConstant (in_vector []) []
  full_vector : (items : List Constant) (fragments : List SeenFragment)
      → IsConstant (some_constants items) fragments → IsConstant (in_vector items) fragments

-- Types and variables (DRM, appendix A).
--     type     = NAME | "singleton" "(" single ")" | "type-union" "(" type { "," type } ")"
--              | "limited" "(" "<integer>" { "," (min: | max:) int } ")"
--     single   = literal | "#(" ")" | NAME
--     var      = NAME [ "::" type ]
--     vars     = var { "," var } [ "," "#rest" NAME ] | "#rest" NAME
--     target   = var | "(" [ vars ] ")"
--     required = var | NAME "==" single
--     results  = "(" [ rvars ] ")" | var
--     rvars    = var { "," var } [ "," "#rest" var ] | "#rest" var
use Rattle.std.specs.Prelude.{◌≡◌, ℕ, Bool, true, false, not, ◌&&◌, ◌||◌, if◌then◌else◌, List, []}
use Rattle.std.specs.Prelude.{◌∷◌, ◌++◌, codes, Option, Some, None}
use Rattle.std.specs.List.{list_any}
use Rattle.dy_tree.specs.declared.token.TokenKind.{TokenKind}
use Rattle.dy_tree.specs.declared.token.TokenKind.TheVariants as kinds
use Rattle.dy_tree.specs.declared.token.Token.{Token}
use Rattle.dy_tree.specs.declared.types.LiteralForm.{LiteralForm}
use Rattle.dy_tree.specs.declared.types.IntegerForm.{IntegerForm}
use Rattle.dy_tree.specs.Fragments.{SeenFragment, one, group, SeenFragments, no_fragment, row}
use Rattle.dy_tree.specs.declared.roles.Role.{Role}
use Rattle.dy_tree.specs.declared.roles.Role.TheVariants as roles
use Rattle.dy_tree.specs.declared.roles.Precedence.TheVariants as precedences
use Rattle.dy_tree.specs.declared.brackets.Bracket.{Bracket}
use Rattle.dy_tree.specs.declared.brackets.Bracket.TheVariants as brackets
use Rattle.dy_tree.specs.declared.splitters.Splitting.{Splitting}
use Rattle.dy_tree.specs.declared.type_words.TypeWord.{TypeWord}
use Rattle.dy_tree.specs.declared.type_words.TypeWord.TheVariants as type_words
use Rattle.dy_tree.specs.declared.type_words.PartWord.{PartWord}
use Rattle.dy_tree.specs.declared.type_words.PartWord.TheVariants as part_words
use Rattle.dy_tree.specs.Spelling.{is_spelled}
use Rattle.dy_rules.specs.Roles.{role_of, bracket_of, splits}
use Rattle.dy_rules.specs.Constants.{IsLiteral}
use Rattle.dy_rules.specs.Tests.{at_most_one}

abbrev pub is_mark_kind : TokenKind → Bool
is_mark_kind kinds.Mark = true
is_mark_kind _ = false

abbrev pub is_symbol_kind : TokenKind → Bool
is_symbol_kind kinds.Symbol = true
is_symbol_kind _ = false

abbrev pub is_operator_kind : TokenKind → Bool
is_operator_kind kinds.Operator = true
is_operator_kind _ = false

-- `#rest`, `#next`, `#key` or `#all-keys`
abbrev pub is_mark : List ℕ → Token → Bool
is_mark text token = is_mark_kind token.kind && is_spelled text token

abbrev pub is_symbol_of : List ℕ → Token → Bool
is_symbol_of text token = is_symbol_kind token.kind && is_spelled text token

abbrev pub is_operator : List ℕ → Token → Bool
is_operator text token = is_operator_kind token.kind && is_spelled text token

abbrev pub is_comparison : Role → Bool
is_comparison (roles.Operator precedences.Comparison) = true
is_comparison _ = false

abbrev pub is_identity : Token → Bool
is_identity token = is_comparison (role_of token) && is_spelled (codes "==") token

abbrev pub is_equals : Token → Bool
is_equals token = is_comparison (role_of token) && is_spelled (codes "=") token

pub data Single : Type 0 where
  literal_single : (value : LiteralForm) → Single
  empty_single : (opener : Token) → Single
  name_single : (token : Token) → Single

pub data IsSingle : Single → List SeenFragment → Type 0 where
  of_literal : (form : LiteralForm) (fragments : List SeenFragment) → IsLiteral form fragments
      → IsSingle (literal_single form) fragments
  of_empty_list : (opener closer : Token) → bracket_of opener closer ≡ brackets.SharpRound
      → IsSingle (empty_single opener) (group opener no_fragment closer ∷ [])
  of_name : (token : Token) → role_of token ≡ roles.Named
      → IsSingle (name_single token) (one token ∷ [])

-- `min:` or `max:` with its number
pub record Bound : Type 0 where
  pub keyword : Token
  pub number : IntegerForm

abbrev pub is_bound : Token → Bool
is_bound token = is_symbol_of (codes "min") token || is_symbol_of (codes "max") token

pub data IsInteger : IntegerForm → List SeenFragment → Type 0 where
  plain_number : (digits : Token) → role_of digits ≡ roles.Integer
      → IsInteger (record { minus = None; digits = digits }) (one digits ∷ [])
  negative_number : (sign digits : Token) → role_of sign ≡ roles.Minus
      → role_of digits ≡ roles.Integer
      → IsInteger (record { minus = Some sign; digits = digits }) (one sign ∷ one digits ∷ [])

abbrev pub is_bound_of : List ℕ → Bound → Bool
is_bound_of text bound = is_spelled text bound.keyword

-- `min:` once at most, and `max:` too, in either order
abbrev pub each_once : List Bound → Bool
each_once bounds = at_most_one (is_bound_of (codes "min")) bounds
    && at_most_one (is_bound_of (codes "max")) bounds

-- each bound behind a comma
pub data AreBounds : List Bound → List SeenFragment → Type 0 where
  no_bound : AreBounds [] []
  bound_and : (separator keyword : Token) (number : IntegerForm) (bounds : List Bound)
      (digits after all : List SeenFragment)
      → all ≡ one separator ∷ one keyword ∷ (digits ++ after) → role_of separator ≡ roles.Comma
      → is_bound keyword ≡ true
      → IsInteger number digits → AreBounds bounds after
      → AreBounds (record { keyword = keyword; number = number } ∷ bounds) all

mutual
  pub data TypeTree : Type 0 where
    named_type : (token : Token) → TypeTree
    singleton_type : (word : Token) (single : Single) → TypeTree
    union_type : (word : Token) (types : TypeTrees) → TypeTree
    limited_type : (word : Token) (class : Token) (bounds : List Bound) → TypeTree

  pub data TypeTrees : Type 0 where
    no_type : TypeTrees
    type_and : (first : TypeTree) (rest : TypeTrees) → TypeTrees

abbrev pub types_of : List TypeTree → TypeTrees
types_of [] = no_type
types_of (first ∷ rest) = type_and first (types_of rest)

abbrev pub spelled_type_word : Token → TypeWord
spelled_type_word token =
    if is_spelled (codes "singleton") token then type_words.Singleton
    else if is_spelled (codes "type-union") token then type_words.Union
    else if is_spelled (codes "limited") token then type_words.Limited else type_words.Absent

-- An escaped name is none of them.
abbrev pub type_word_by : TokenKind → Token → TypeWord
type_word_by kinds.Name token = spelled_type_word token
type_word_by _ token = type_words.Absent

abbrev pub type_word : Token → TypeWord
type_word token = type_word_by token.kind token

pub data TypeSort : Type 0 where
  a_type : (type : TypeTree) → TypeSort
  some_types : (types : List TypeTree) → TypeSort

pub data IsType : TypeSort → List SeenFragment → Type 0 where
  by_name : (token : Token) → role_of token ≡ roles.Named
      → IsType (a_type (named_type token)) (one token ∷ [])
  by_singleton : (word : Token) (single : Single) (opener : Token) (inner : SeenFragments)
      (closer : Token) → role_of word ≡ roles.Named → type_word word ≡ type_words.Singleton
      → bracket_of opener closer ≡ brackets.Round
      → IsSingle single (row inner)
      → IsType (a_type (singleton_type word single)) (one word ∷ group opener inner closer ∷ [])
  by_union : (word : Token) (types : List TypeTree) (opener : Token) (inner : SeenFragments)
      (closer : Token) → role_of word ≡ roles.Named → type_word word ≡ type_words.Union
      → bracket_of opener closer ≡ brackets.Round
      → IsType (some_types types) (row inner)
      → IsType (a_type (union_type word (types_of types)))
      (one word ∷ group opener inner closer ∷ [])
  by_limits : (word class : Token) (bounds : List Bound) (opener : Token) (inner : SeenFragments)
      (closer : Token) (after : List SeenFragment)
      → role_of word ≡ roles.Named → type_word word ≡ type_words.Limited
      → bracket_of opener closer ≡ brackets.Round → row inner ≡ one class ∷ after
      → role_of class ≡ roles.Named → is_spelled (codes "<integer>") class ≡ true
      → AreBounds bounds after → each_once bounds ≡ true
      → IsType (a_type (limited_type word class bounds))
      (one word ∷ group opener inner closer ∷ [])
  one_type : (type : TypeTree) (fragments : List SeenFragment) → IsType (a_type type) fragments
      → IsType (some_types (type ∷ [])) fragments
  more_types : (type : TypeTree) (others : List TypeTree) (separator : Token)
      (before after all : List SeenFragment) → all ≡ before ++ one separator ∷ after
      → role_of separator ≡ roles.Comma
      → IsType (a_type type) before → IsType (some_types others) after
      → IsType (some_types (type ∷ others)) all

abbrev pub is_round : Bracket → Bool
is_round brackets.Round = true
is_round _ = false

-- round brackets stand here
abbrev pub begins_round : List SeenFragment → Bool
begins_round (group opener inner closer ∷ rest) = is_round (bracket_of opener closer)
begins_round _ = false

abbrev pub is_type_word : TypeWord → Bool
is_type_word type_words.Absent = false
is_type_word _ = true

-- the type is a name of the three forms, and brackets behind it would belong to it
abbrev pub takes_brackets : TypeTree → Bool
takes_brackets (named_type token) = is_type_word (type_word token)
takes_brackets _ = false

pub record VariableTree : Type 0 where
  pub variable : Token
  pub declared : Option TypeTree

abbrev pub declares_brackets : Option TypeTree → Bool
declares_brackets None = false
declares_brackets (Some type) = takes_brackets type

pub data IsVariable : VariableTree → List SeenFragment → Type 0 where
  untyped : (token : Token) → role_of token ≡ roles.Named
      → IsVariable (record { variable = token; declared = None }) (one token ∷ [])
  typed : (token sign : Token) (type : TypeTree) (after : List SeenFragment)
      → role_of token ≡ roles.Named → role_of sign ≡ roles.Colons
      → IsType (a_type type) after
      → IsVariable (record { variable = token; declared = Some type })
      (one token ∷ one sign ∷ after)

abbrev pub is_splitting : Splitting → SeenFragment → Bool
is_splitting words (one token) = splits words token
is_splitting words (group opener inner closer) = false

-- Behind the name that is bound no word splits the statement.
abbrev pub binds_plainly : Splitting → List SeenFragment → Bool
binds_plainly words [] = true
binds_plainly words (first ∷ rest) = not (list_any (is_splitting words) rest)

-- variables with commas between them, the last of which may take the rest
pub data Bind : List VariableTree → Option Token → List SeenFragment → Type 0 where
  last_bound : (variable : VariableTree) (fragments : List SeenFragment)
      → IsVariable variable fragments → Bind (variable ∷ []) None fragments
  rest_bound : (mark rest : Token) → is_mark (codes "#rest") mark ≡ true
      → role_of rest ≡ roles.Named → Bind [] (Some rest) (one mark ∷ one rest ∷ [])
  more_bound : (variable : VariableTree) (others : List VariableTree) (rest : Option Token)
      (separator : Token) (before after all : List SeenFragment)
      → all ≡ before ++ one separator ∷ after → role_of separator ≡ roles.Comma
      → IsVariable variable before → Bind others rest after → Bind (variable ∷ others) rest all

pub data TargetTree : Type 0 where
  one_target : (variable : VariableTree) → TargetTree
  several : (variables : List VariableTree) (rest : Option Token) → TargetTree

pub data IsTarget : TargetTree → List SeenFragment → Type 0 where
  by_variable : (variable : VariableTree) (fragments : List SeenFragment)
      → IsVariable variable fragments → IsTarget (one_target variable) fragments
  by_nothing : (opener closer : Token) → bracket_of opener closer ≡ brackets.Round
      → IsTarget (several [] None) (group opener no_fragment closer ∷ [])
  by_brackets : (variables : List VariableTree) (rest : Option Token) (opener : Token)
      (inner : SeenFragments) (closer : Token) → bracket_of opener closer ≡ brackets.Round
      → Bind variables rest (row inner)
      → IsTarget (several variables rest) (group opener inner closer ∷ [])

pub data RequiredTree : Type 0 where
  required_variable : (variable : VariableTree) → RequiredTree
  required_single : (token : Token) (single : Single) → RequiredTree

pub data IsRequired : RequiredTree → List SeenFragment → Type 0 where
  any_value : (variable : VariableTree) (fragments : List SeenFragment)
      → IsVariable variable fragments → IsRequired (required_variable variable) fragments
  one_value : (token sign : Token) (single : Single) (after : List SeenFragment)
      → role_of token ≡ roles.Named → is_identity sign ≡ true
      → IsSingle single after → IsRequired (required_single token single)
      (one token ∷ one sign ∷ after)

pub data ResultTree : Type 0 where
  several_results : (variables : List VariableTree) (rest : Option VariableTree) → ResultTree
  one_result : (variable : VariableTree) → ResultTree

-- the results in brackets, of which the rest may have a type
pub data Give : List VariableTree → Option VariableTree → List SeenFragment → Type 0 where
  last_given : (variable : VariableTree) (fragments : List SeenFragment)
      → IsVariable variable fragments → Give (variable ∷ []) None fragments
  rest_given : (mark : Token) (rest : VariableTree) (after : List SeenFragment)
      → is_mark (codes "#rest") mark ≡ true → IsVariable rest after
      → Give [] (Some rest) (one mark ∷ after)
  more_given : (variable : VariableTree) (others : List VariableTree) (rest : Option VariableTree)
      (separator : Token) (before after all : List SeenFragment)
      → all ≡ before ++ one separator ∷ after → role_of separator ≡ roles.Comma
      → IsVariable variable before → Give others rest after → Give (variable ∷ others) rest all

pub data AreResults : ResultTree → List SeenFragment → Type 0 where
  by_result : (variable : VariableTree) (fragments : List SeenFragment)
      → IsVariable variable fragments → AreResults (one_result variable) fragments
  by_no_results : (opener closer : Token) → bracket_of opener closer ≡ brackets.Round
      → AreResults (several_results [] None) (group opener no_fragment closer ∷ [])
  by_results : (variables : List VariableTree) (rest : Option VariableTree) (opener : Token)
      (inner : SeenFragments) (closer : Token) → bracket_of opener closer ≡ brackets.Round
      → Give variables rest (row inner)
      → AreResults (several_results variables rest) (group opener inner closer ∷ [])

abbrev pub is_colons_role : Role → Bool
is_colons_role roles.Colons = true
is_colons_role _ = false

abbrev pub is_arrow_role : Role → Bool
is_arrow_role roles.Arrow = true
is_arrow_role _ = false

abbrev pub begins_with : (Role → Bool) → List SeenFragment → Bool
begins_with is (one token ∷ rest) = is (role_of token)
begins_with is _ = false

abbrev pub variable_apart : Option TypeTree → List SeenFragment → Bool
variable_apart None after = not (begins_with is_colons_role after)
variable_apart (Some type) after = not (takes_brackets type && begins_round after)

-- Nothing of what follows belongs to the results. Brackets behind a name of the three forms of type
-- belong to the type.
abbrev pub apart : Option ResultTree → List SeenFragment → Bool
apart None after = not (begins_with is_arrow_role after)
apart (Some (several_results variables rest)) after = true
apart (Some (one_result variable)) after = variable_apart variable.declared after

-- the results behind the parameters
pub data ResultsPart : Option ResultTree → List SeenFragment → Type 0 where
  no_results : ResultsPart None []
  some_results : (sign : Token) (results : ResultTree) (after : List SeenFragment)
      → role_of sign ≡ roles.Arrow → AreResults results after
      → ResultsPart (Some results) (one sign ∷ after)

-- a semicolon, or nothing
pub data EndPart : List SeenFragment → Type 0 where
  no_end : EndPart []
  an_end : (separator : Token) → role_of separator ≡ roles.Semicolon → EndPart (one separator ∷ [])

abbrev pub spelled_part_word : Token → PartWord
spelled_part_word token =
    if is_spelled (codes "#next") token then part_words.Next
    else if is_spelled (codes "#rest") token then part_words.Rest
    else if is_spelled (codes "#key") token then part_words.Key
    else if is_spelled (codes "#all-keys") token then part_words.AllKeys else part_words.Absent

abbrev pub part_word_by : TokenKind → Token → PartWord
part_word_by kinds.Mark token = spelled_part_word token
part_word_by _ token = part_words.Absent

abbrev pub part_word : Token → PartWord
part_word token = part_word_by token.kind token

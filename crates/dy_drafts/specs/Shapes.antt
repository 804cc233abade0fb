-- Literals, types and parameter lists of the source, in the core (DRM 3, "Literal constants"; DRM
-- 4, "Types"; DRM 6, "Parameter lists").
use Rattle.std.specs.Prelude.{ℕ, ℤ, pos, negsuc, Bool, true, false, ◌||◌, List, [], ◌∷◌, map, codes}
use Rattle.std.specs.Prelude.{Option, Some, None, if◌then◌else◌}
use Rattle.std.specs.Option.{option_map}
use Rattle.std.specs.Int.{int_wrapping_neg, w64}
use Rattle.dy_base.specs.Folding.{folded}
use Rattle.dy_tree.specs.declared.token.Token.{Token}
use Rattle.dy_tree.specs.declared.token.TokenKind.TheVariants as kinds
use Rattle.dy_tree.specs.declared.types.IntegerForm.{IntegerForm}
use Rattle.dy_tree.specs.declared.types.LiteralForm.{LiteralForm}
use Rattle.dy_tree.specs.declared.types.LiteralForm.TheVariants.{Int, Char, Str, Bool as Truth}
use Rattle.dy_tree.specs.declared.types.LiteralForm.TheVariants.{Symbol}
use Rattle.dy_tree.specs.Spelling.{is_spelled}
use Rattle.dy_rules.specs.ConstantTrees as source
use Rattle.dy_rules.specs.Types as source_types
use Rattle.dy_rules.specs.Types.{Single, literal_single, empty_single, name_single, Bound, TypeTree}
use Rattle.dy_rules.specs.Types.{named_type, singleton_type, union_type, limited_type, TypeTrees}
use Rattle.dy_rules.specs.Types.{VariableTree, TargetTree, one_target, several, RequiredTree}
use Rattle.dy_rules.specs.Types.{required_variable, required_single, ResultTree, one_result}
use Rattle.dy_rules.specs.Types.{several_results}
use Rattle.dy_term.specs.declared.draft.Local.{Local}
use Rattle.dy_term.specs.declared.draft.Local.TheVariants.{Named}
use Rattle.dy_term.specs.declared.literal.Literal.{Literal}
use Rattle.dy_term.specs.declared.literal.Literal as core
use Rattle.dy_term.specs.Types.{CoreType, object, named, single, single_name, union, range}
use Rattle.dy_term.specs.Types.{CoreTypes, no_type, type_and, CoreKey, CoreParams, CoreResults}

-- whether one of the adjectives of a definition or a slot has this text
abbrev pub has : List ℕ → List Token → Bool
has text [] = false
has text (word ∷ words) = is_spelled text word || has text words

-- a name that is not written, with the place, the origin and the module of a token
abbrev pub name_at : List ℕ → Token → Token
name_at text token = record token { kind = kinds.Name; text = text }

-- the least integer of 64 bits, -(2 ^ 63), and the greatest one, 2 ^ 63 - 1
abbrev pub least : ℤ
least = negsuc 9223372036854775807

abbrev pub greatest : ℤ
greatest = pos 9223372036854775807

-- the number of digits, which is below 2 ^ 63, or its negative after a minus
abbrev pub integer_of : IntegerForm → ℤ
integer_of form = elim form.minus as (λ _. ℤ) [
  | None ↦ form.digits.number
  | Some minus ↦ int_wrapping_neg w64 form.digits.number
]

abbrev pub byte_of : List ℕ → ℕ
byte_of [] = 0
byte_of (byte ∷ bytes) = byte

abbrev pub literal_of : LiteralForm → Literal
literal_of (Int form) = core.Int (integer_of form)
literal_of (Char token) = core.Char (byte_of token.text)
literal_of (Str token) = core.Str token.text
literal_of (Truth token) = core.Bool (is_spelled (codes "#t") token)
literal_of (Symbol token) = core.Symbol (folded token.text)

-- `#()` is the empty list. A list with items ends in what follows its dot.
abbrev pub list_of : List Literal → Option Literal → Literal
list_of [] last = core.Nil
list_of (first ∷ rest) last = core.List (first ∷ rest) last

abbrev mutual
  pub constant_of : source.Constant → Literal
  constant_of (source.literal_item value) = literal_of value
  constant_of (source.list_item opener items last) = list_of (constants_of items) (tail_of last)
  constant_of (source.vector_item opener items) = core.Vector (constants_of items)

  pub constants_of : source.Constants → List Literal
  constants_of source.no_constant = []
  constants_of (source.constant_and first rest) = constant_of first ∷ constants_of rest

  pub tail_of : source.Tail → Option Literal
  tail_of source.no_tail = None
  tail_of (source.tail value) = Some (constant_of value)

-- the only value of a singleton type. A fault of a class's name is told at the given token.
abbrev pub single_of : Token → Single → CoreType
single_of told (literal_single value) = single (literal_of value)
single_of told (empty_single opener) = single core.Nil
single_of told (name_single token) = single_name told token

-- the number of the first bound with this keyword, or the one that is the limit without it
abbrev pub bound_of : List ℕ → ℤ → List Bound → ℤ
bound_of text other [] = other
bound_of text other (bound ∷ bounds) =
    if is_spelled text bound.keyword then integer_of bound.number else bound_of text other bounds

abbrev mutual
  pub type_of : TypeTree → CoreType
  type_of (named_type token) = named token
  type_of (singleton_type word value) = single_of word value
  type_of (union_type word types) = union word (types_of types)
  type_of (limited_type word class bounds) =
      range word (bound_of (codes "min") least bounds) (bound_of (codes "max") greatest bounds)

  pub types_of : TypeTrees → CoreTypes
  types_of source_types.no_type = no_type
  types_of (source_types.type_and first rest) = type_and (type_of first) (types_of rest)

-- a type that may be left out
abbrev pub declared_or : CoreType → Option TypeTree → CoreType
declared_or other None = other
declared_or other (Some tree) = type_of tree

abbrev pub declared_of : VariableTree → CoreType
declared_of variable = declared_or object variable.declared

-- a variable with its type, as a parameter and as a local
abbrev pub typed_of : VariableTree → Token × CoreType
typed_of variable = (variable.variable, declared_of variable)

abbrev pub local_of : VariableTree → Local × CoreType
local_of variable = (Named variable.variable, declared_of variable)

-- what a `let` binds
abbrev pub locals_of : TargetTree → List (Local × CoreType)
locals_of (one_target variable) = local_of variable ∷ []
locals_of (several variables rest) = map local_of variables

abbrev pub rest_of : TargetTree → Option Local
rest_of (one_target variable) = None
rest_of (several variables rest) = option_map Named rest

-- the type of the parameter in `name == value`. A fault of a class's name is told at that name.
abbrev pub only_of : Single → CoreType
only_of (literal_single value) = single (literal_of value)
only_of (empty_single opener) = single core.Nil
only_of (name_single class) = single_name class class

abbrev pub required_of : RequiredTree → Token × CoreType
required_of (required_variable variable) = typed_of variable
required_of (required_single token value) = (token, only_of value)

-- Without a list of results there may be any values.
abbrev pub results_of : Option ResultTree → CoreResults
results_of None = record { required = []; rest = Some object }
results_of (Some (one_result variable)) =
    record { required = declared_of variable ∷ []; rest = None }
results_of (Some (several_results variables rest)) =
    record { required = map declared_of variables; rest = option_map declared_of rest }

-- the keyword of a keyword parameter, which is the variable's name where none is written
abbrev pub keyword_of : Option Token → VariableTree → Token
keyword_of None variable = variable.variable
keyword_of (Some symbol) variable = symbol

abbrev pub key_of : Option Token → VariableTree → CoreKey
key_of symbol variable = record {
  keyword = keyword_of symbol variable;
  variable = variable.variable;
  declared = declared_of variable;
}

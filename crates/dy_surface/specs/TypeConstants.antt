-- Expressions that are written as types are, and so make their constant stand for a type (own; the
-- forms of DRM 4, "Types").
use Rattle.std.specs.Prelude.{ℕ, ℤ, Bool, false, List, [], ◌∷◌, codes, Option, Some, None}
use Rattle.std.specs.Prelude.{if◌then◌else◌}
use Rattle.dy_tree.specs.declared.token.Token.{Token}
use Rattle.dy_tree.specs.declared.types.LiteralForm.TheVariants as forms
use Rattle.dy_tree.specs.Spelling.{is_spelled, is_word}
use Rattle.dy_rules.specs.ConstantTrees.{is_nil}
use Rattle.dy_rules.specs.Trees as source
use Rattle.dy_rules.specs.Trees.{Tree, Arguments, Argument}
use Rattle.dy_term.specs.declared.literal.Literal as constants
use Rattle.dy_term.specs.Types.{CoreType, named, single, single_name, union, range, types_of}
use Rattle.dy_drafts.specs.Shapes.{integer_of, literal_of, least, greatest}
use Rattle.dy_desugar.specs.Table.{name_in}

-- `singleton(value)`: of a literal, of `#()`, or of the class that a name means
abbrev pub only_value : Token → Tree → Option CoreType
only_value word (source.literal form) = Some (single (literal_of form))
only_value word (source.list opener items last) =
    if is_nil items last then Some (single constants.Nil) else None
only_value word (source.name token) = Some (single_name word token)
only_value word _ = None

abbrev pub singleton_type : Token → List Argument → Option CoreType
singleton_type word (source.value tree ∷ []) = only_value word tree
singleton_type word _ = None

-- `type-union(type, ..)`, of the types that the arguments are
abbrev pub union_type : Token → Option (List CoreType) → Option CoreType
union_type word (Some (first ∷ rest)) = Some (union word (types_of (first ∷ rest)))
union_type word _ = None

-- the number that an expression is
abbrev pub number_in : Tree → Option ℤ
number_in (source.literal (forms.Int form)) = Some (integer_of form)
number_in _ = None

-- the number of the keyword argument with this keyword
abbrev pub limit_in : List ℕ → Argument → Option ℤ
limit_in text (source.keyword symbol tree) = if is_spelled text symbol then number_in tree else None
limit_in text (source.value tree) = None

-- from a least to a greatest number, where there is one
abbrev pub between : Token → Option ℤ → Option ℤ → Option CoreType
between word (Some first) (Some last) = Some (range word first last)
between word _ _ = None

abbrev pub either_type : Option CoreType → Option CoreType → Option CoreType
either_type (Some found) other = Some found
either_type None other = other

abbrev pub bounded_by : Token → Argument → Option CoreType
bounded_by word one = either_type (between word (limit_in (codes "min") one) (Some greatest))
    (between word (Some least) (limit_in (codes "max") one))

abbrev pub bounded_by_both : Token → Argument → Argument → Option CoreType
bounded_by_both word one other =
    either_type (between word (limit_in (codes "min") one) (limit_in (codes "max") other))
    (between word (limit_in (codes "min") other) (limit_in (codes "max") one))

-- each of the bounds once at most, in either order
abbrev pub bounded : Token → List Argument → Option CoreType
bounded word [] = Some (range word least greatest)
bounded word (one ∷ []) = bounded_by word one
bounded word (one ∷ other ∷ []) = bounded_by_both word one other
bounded word _ = None

-- `limited(<integer>, min: number, max: number)`
abbrev pub reads_integer : Option Token → Bool
reads_integer None = false
reads_integer (Some token) = is_spelled (codes "<integer>") token

abbrev pub is_integer_class : Argument → Bool
is_integer_class (source.keyword symbol tree) = false
is_integer_class (source.value tree) = reads_integer (name_in tree)

abbrev pub limited_type : Token → List Argument → Option CoreType
limited_type word [] = None
limited_type word (class ∷ bounds) = if is_integer_class class then bounded word bounds else None

-- a call of one of the three words, from its arguments, and from the types that they are where all
-- are types
abbrev pub form_type : Token → List Argument → Option (List CoreType) → Option CoreType
form_type word arguments types =
    if is_word (codes "singleton") word then singleton_type word arguments
    else if is_word (codes "type-union") word then union_type word types
    else if is_word (codes "limited") word then limited_type word arguments
    else None

abbrev pub listed : Arguments → List Argument
listed source.no_argument = []
listed (source.argument_and first rest) = first ∷ listed rest

abbrev pub both_types : Option CoreType → Option (List CoreType) → Option (List CoreType)
both_types (Some first) (Some rest) = Some (first ∷ rest)
both_types _ _ = None

-- the type that an expression is written as: a name, or one of the three forms
abbrev mutual
  pub type_in : Tree → Option CoreType
  type_in (source.name token) = Some (named token)
  type_in (source.call (source.name word) arguments) =
      form_type word (listed arguments) (types_in arguments)
  type_in _ = None

  -- the types that arguments are, where all are types
  pub types_in : Arguments → Option (List CoreType)
  types_in source.no_argument = Some []
  types_in (source.argument_and first rest) = both_types (argument_type first) (types_in rest)

  pub argument_type : Argument → Option CoreType
  argument_type (source.keyword symbol tree) = None
  argument_type (source.value tree) = type_in tree

-- The type that a constant with this value stands for. A name alone is a value.
abbrev pub constant_type : Tree → Option CoreType
constant_type (source.call function arguments) = type_in (source.call function arguments)
constant_type _ = None

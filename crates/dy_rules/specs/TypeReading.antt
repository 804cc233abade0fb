-- The types and variables that items stand for, by functions that compute.
use Rattle.std.specs.Prelude.{ℕ, Bool, true, false, List, [], ◌∷◌, codes, Option, Some, None}
use Rattle.std.specs.Prelude.{option_map, option_and_then}
use Rattle.dy_tree.specs.declared.token.Token.{Token}
use Rattle.dy_tree.specs.declared.types.IntegerForm.{IntegerForm}
use Rattle.dy_tree.specs.Fragments.{SeenFragment, one, group, SeenFragments, no_fragment, row}
use Rattle.dy_tree.specs.declared.roles.Role.{Role}
use Rattle.dy_tree.specs.declared.roles.Role.TheVariants as roles
use Rattle.dy_tree.specs.declared.brackets.Bracket.{Bracket}
use Rattle.dy_tree.specs.declared.brackets.Bracket.TheVariants as brackets
use Rattle.dy_tree.specs.declared.type_words.TypeWord.{TypeWord}
use Rattle.dy_tree.specs.declared.type_words.TypeWord.TheVariants as type_words
use Rattle.dy_tree.specs.Spelling.{is_spelled}
use Rattle.dy_rules.specs.Roles.{role_of, negative, bracket_of}
use Rattle.dy_rules.specs.Constants.{token_literal}
use Rattle.dy_rules.specs.Arguments.{is_comma_fragment}
use Rattle.dy_rules.specs.Tests.{if_passes}
use Rattle.dy_rules.specs.Types.{is_mark, Single, literal_single, empty_single, name_single, Bound}
use Rattle.dy_rules.specs.Types.{is_bound, each_once, TypeTree, named_type, singleton_type}
use Rattle.dy_rules.specs.Types.{union_type, limited_type, types_of, type_word, VariableTree}
use Rattle.dy_rules.specs.Types.{TargetTree, one_target, several, is_colons_role}
use Rattle.dy_rules.specs.Cutting.{Limits, Ending, Found, Item, Piece, Pieces, cut, each}
use Rattle.dy_rules.specs.Cutting.{each_other, fragments_in, ending}

abbrev pub single_token : Role → Token → Option Single
single_token roles.Named token = Some (name_single token)
single_token role token = option_map literal_single (token_literal role token)

abbrev pub negative_single : Role → Role → Token → Token → Option Single
negative_single roles.Minus roles.Integer sign digits = Some (literal_single (negative sign digits))
negative_single _ _ sign digits = None

abbrev pub single_group : Bracket → SeenFragments → Token → Option Single
single_group brackets.SharpRound no_fragment opener = Some (empty_single opener)
single_group _ _ opener = None

abbrev pub single_in : List SeenFragment → Option Single
single_in (one token ∷ []) = single_token (role_of token) token
single_in (one sign ∷ one digits ∷ []) = negative_single (role_of sign) (role_of digits) sign digits
single_in (group opener inner closer ∷ []) = single_group (bracket_of opener closer) inner opener
single_in _ = None

abbrev pub plain_integer : Role → Token → Option IntegerForm
plain_integer roles.Integer digits = Some (record { minus = None; digits = digits })
plain_integer _ digits = None

abbrev pub negative_integer_of : Role → Role → Token → Token → Option IntegerForm
negative_integer_of roles.Minus roles.Integer sign digits =
    Some (record { minus = Some sign; digits = digits })
negative_integer_of _ _ sign digits = None

abbrev pub integer_in : List SeenFragment → Option IntegerForm
integer_in (one digits ∷ []) = plain_integer (role_of digits) digits
integer_in (one sign ∷ one digits ∷ []) =
    negative_integer_of (role_of sign) (role_of digits) sign digits
integer_in _ = None

abbrev pub bound_of : Token → IntegerForm → Bound
bound_of keyword number = record { keyword = keyword; number = number }

abbrev pub bound_if : Bool → Token → List SeenFragment → Option Bound
bound_if true keyword digits = option_map (bound_of keyword) (integer_in digits)
bound_if false keyword digits = None

abbrev pub bound_in : List SeenFragment → Option Bound
bound_in (one keyword ∷ digits) = bound_if (is_bound keyword) keyword digits
bound_in _ = None

abbrev pub bound_items : List Item → Option Bound
bound_items items = bound_in (fragments_in items)

abbrev pub is_integer_class : Role → Token → Bool
is_integer_class roles.Named class = is_spelled (codes "<integer>") class
is_integer_class _ class = false

abbrev pub limits_of : Token → List Bound → Limits
limits_of class bounds = record { class = class; bounds = bounds }

abbrev pub limits_if : Bool → Token → Option (List Bound) → Option Limits
limits_if true class bounds = option_map (limits_of class) bounds
limits_if false class bounds = None

abbrev pub limits_in : List SeenFragment → Option (List Bound) → Option Limits
limits_in (one class ∷ []) bounds = limits_if (is_integer_class (role_of class) class) class bounds
limits_in _ bounds = None

abbrev pub bounds_in : List Piece → Option (List Bound)
bounds_in others = option_and_then (if_passes each_once) (each_other bound_items others)

abbrev pub limits_pieces : Pieces → Option Limits
limits_pieces pieces = limits_in (fragments_in pieces.first) (bounds_in pieces.others)

abbrev pub limits_items : List Item → Option Limits
limits_items items = limits_pieces (cut is_comma_fragment false items)

-- a type at the front, and what stands behind it
pub record TypeFront : Type 0 where
  pub type : TypeTree
  pub rest : List Item

abbrev pub in_front : List Item → TypeTree → TypeFront
in_front rest type = record { type = type; rest = rest }

abbrev pub name_front : Token → List Item → Option TypeFront
name_front token rest = Some (in_front rest (named_type token))

abbrev pub union_of : Token → List TypeTree → TypeTree
union_of word types = union_type word (types_of types)

abbrev pub limited_of : Token → Limits → TypeTree
limited_of word limits = limited_type word limits.class limits.bounds

-- brackets of one of the three forms
abbrev pub form_type : TypeWord → Token → SeenFragments → Found → Option TypeTree
form_type type_words.Singleton word inner found =
    option_map (singleton_type word) (single_in (row inner))
form_type type_words.Union word inner found = option_map (union_of word) found.types
form_type type_words.Limited word inner found = option_map (limited_of word) found.limits
form_type type_words.Absent word inner found = None

abbrev pub word_front : TypeWord → Token → SeenFragments → Item → List Item → Option TypeFront
word_front type_words.Absent word inner item rest = name_front word (item ∷ rest)
word_front form word inner item rest =
    option_map (in_front rest) (form_type form word inner item.found)

abbrev pub group_front : Bracket → Token → SeenFragments → Item → List Item → Option TypeFront
group_front brackets.Round word inner item rest = word_front (type_word word) word inner item rest
group_front _ word inner item rest = name_front word (item ∷ rest)

abbrev pub front_behind : Token → SeenFragment → Item → List Item → Option TypeFront
front_behind word (one token) item rest = name_front word (item ∷ rest)
front_behind word (group opener inner closer) item rest =
    group_front (bracket_of opener closer) word inner item rest

abbrev pub type_from : Token → List Item → Option TypeFront
type_from word [] = name_front word []
type_from word (item ∷ rest) = front_behind word item.fragment item rest

abbrev pub type_named : Role → Token → List Item → Option TypeFront
type_named roles.Named word rest = type_from word rest
type_named _ word rest = None

abbrev pub type_at : SeenFragment → List Item → Option TypeFront
type_at (one word) rest = type_named (role_of word) word rest
type_at (group opener inner closer) rest = None

abbrev pub type_front : List Item → Option TypeFront
type_front [] = None
type_front (item ∷ rest) = type_at item.fragment rest

abbrev pub if_whole : {A : Type 0} → A → List Item → Option A
if_whole found [] = Some found
if_whole found (item ∷ rest) = None

abbrev pub whole_type : TypeFront → Option TypeTree
whole_type front = if_whole front.type front.rest

-- the type that the items stand for
abbrev pub type_items : List Item → Option TypeTree
type_items items = option_and_then whole_type (type_front items)

abbrev pub types_items : List Item → Option (List TypeTree)
types_items items = each type_items (cut is_comma_fragment false items)

-- a variable at the front, and what stands behind it
pub record VariableFront : Type 0 where
  pub variable : VariableTree
  pub rest : List Item

abbrev pub untyped_front : Token → List Item → VariableFront
untyped_front token rest =
    record { variable = record { variable = token; declared = None }; rest = rest }

abbrev pub typed_front : Token → TypeFront → VariableFront
typed_front token front =
    record { variable = record { variable = token; declared = Some front.type }; rest = front.rest }

abbrev pub is_colons : SeenFragment → Bool
is_colons (one token) = is_colons_role (role_of token)
is_colons (group opener inner closer) = false

abbrev pub variable_if : Bool → Token → Item → List Item → Option VariableFront
variable_if true token item rest = option_map (typed_front token) (type_front rest)
variable_if false token item rest = Some (untyped_front token (item ∷ rest))

abbrev pub variable_from : Token → List Item → Option VariableFront
variable_from token [] = Some (untyped_front token [])
variable_from token (item ∷ rest) = variable_if (is_colons item.fragment) token item rest

abbrev pub variable_named : Role → Token → List Item → Option VariableFront
variable_named roles.Named token rest = variable_from token rest
variable_named _ token rest = None

abbrev pub variable_at : SeenFragment → List Item → Option VariableFront
variable_at (one token) rest = variable_named (role_of token) token rest
variable_at (group opener inner closer) rest = None

abbrev pub variable_front : List Item → Option VariableFront
variable_front [] = None
variable_front (item ∷ rest) = variable_at item.fragment rest

abbrev pub whole_variable : VariableFront → Option VariableTree
whole_variable front = if_whole front.variable front.rest

abbrev pub variable_items : List Item → Option VariableTree
variable_items items = option_and_then whole_variable (variable_front items)

-- the mark at the front of a part
abbrev pub is_marked : List ℕ → SeenFragment → Bool
is_marked text (one token) = is_mark text token
is_marked text (group opener inner closer) = false

abbrev pub marked : List ℕ → List Item → Bool
marked text [] = false
marked text (item ∷ rest) = is_marked text item.fragment

abbrev pub named_token : Role → Token → Option Token
named_token roles.Named token = Some token
named_token _ token = None

-- the name behind a mark
abbrev pub name_in : List SeenFragment → Option Token
name_in (one mark ∷ one token ∷ []) = named_token (role_of token) token
name_in _ = None

abbrev pub name_items : List Item → Option Token
name_items items = name_in (fragments_in items)

abbrev pub bound_pieces : Pieces → Option (Ending VariableTree Token)
bound_pieces pieces = ending (marked (codes "#rest")) variable_items name_items pieces

abbrev pub bind_items : List Item → Option (Ending VariableTree Token)
bind_items items = bound_pieces (cut is_comma_fragment false items)

abbrev pub several_of : Ending VariableTree Token → TargetTree
several_of bound = several bound.parts bound.last

abbrev pub target_in : Bracket → SeenFragments → Option (Ending VariableTree Token)
    → Option TargetTree
target_in brackets.Round no_fragment bound = Some (several [] None)
target_in brackets.Round inner bound = option_map several_of bound
target_in _ inner bound = None

abbrev pub target_group : SeenFragment → Found → Option TargetTree
target_group (one token) found = None
target_group (group opener inner closer) found =
    target_in (bracket_of opener closer) inner found.bound

abbrev pub target_one : Item → List Item → Option TargetTree
target_one item rest = option_map one_target (variable_items (item ∷ rest))

abbrev pub target_if : Option TargetTree → Item → List Item → Option TargetTree
target_if (Some target) item [] = Some target
target_if _ item rest = target_one item rest

abbrev pub target_items : List Item → Option TargetTree
target_items [] = None
target_items (item ∷ rest) = target_if (target_group item.fragment item.found) item rest

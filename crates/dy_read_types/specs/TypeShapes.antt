-- How a type begins, and what stands behind it.
use Rattle.std.specs.Prelude.{◌≡◌, ◌<◌, ◌≤◌, ⊤, ℕ, false, List, [], ◌∷◌, Option, None, option_map}
use Rattle.dy_tree.specs.declared.token.Token.{Token}
use Rattle.dy_tree.specs.Fragments.{SeenFragment, seen_fragments}
use Rattle.dy_tree.specs.declared.roles.Role.{Role}
use Rattle.dy_tree.specs.declared.roles.Role.TheVariants as roles
use Rattle.dy_tree.specs.declared.brackets.Bracket.{Bracket}
use Rattle.dy_tree.specs.declared.brackets.Bracket.TheVariants as brackets
use Rattle.dy_tree.specs.declared.type_words.TypeWord.{TypeWord}
use Rattle.dy_tree.specs.declared.type_words.TypeWord.TheVariants as type_words
use Rattle.dy_rules.specs.Roles.{role_of}
use Rattle.dy_rules.specs.Types.{TypeTree, singleton_type, type_word}
use Rattle.dy_rules.specs.TypeReading.{TypeFront, in_front, name_front, single_in, union_of}
use Rattle.dy_rules.specs.TypeReading.{limited_of, limits_items, types_items}
use Rattle.dy_rules.specs.Fragments.{items_of}
use Rattle.dy_read_types.specs.declared.type_shape.TypeShape.{TypeShape}
use Rattle.dy_read_types.specs.declared.type_shape.TypeShape.TheVariants as shapes
use Rattle.dy_read_parts.specs.FragmentParts.{SeenPart, token_part, group_part, part_of}
use Rattle.dy_read_parts.specs.Nesting.{nesting}
use Rattle.dy_rules_depth.specs.Capping.{is_absent}

pub data SeenShape : Type 0 where
  no_shape : SeenShape
  name_shape : (word : Token) (rest : List SeenFragment) → SeenShape
  form_shape : (form : TypeWord) (word : Token) (inner rest : List SeenFragment) → SeenShape

abbrev pub seen_shape : TypeShape → SeenShape
seen_shape shapes.Nothing = no_shape
seen_shape (shapes.Name word rest) = name_shape word.now (seen_fragments rest.now)
seen_shape (shapes.Form form word inner rest) =
    form_shape form word.now (seen_fragments inner.now) (seen_fragments rest.now)

abbrev pub shape_by : TypeWord → Token → List SeenFragment → List SeenFragment → List SeenFragment
    → SeenShape
shape_by type_words.Absent word inner behind others = name_shape word behind
shape_by type_words.Singleton word inner behind others =
    form_shape type_words.Singleton word inner others
shape_by type_words.Union word inner behind others = form_shape type_words.Union word inner others
shape_by type_words.Limited word inner behind others =
    form_shape type_words.Limited word inner others

abbrev pub shape_in : Bracket → Token → List SeenFragment → List SeenFragment → List SeenFragment
    → SeenShape
shape_in brackets.Round word inner behind others =
    shape_by (type_word word) word inner behind others
shape_in _ word inner behind others = name_shape word behind

abbrev pub shape_behind : Token → SeenPart → List SeenFragment → List SeenFragment → SeenShape
shape_behind word (token_part token) behind others = name_shape word behind
shape_behind word (group_part bracket opener inner) behind others =
    shape_in bracket word inner behind others

abbrev pub shape_from : Token → List SeenFragment → SeenShape
shape_from word [] = name_shape word []
shape_from word (second ∷ others) = shape_behind word (part_of second) (second ∷ others) others

abbrev pub shape_named : Role → Token → List SeenFragment → SeenShape
shape_named roles.Named word rest = shape_from word rest
shape_named _ word rest = no_shape

abbrev pub shape_at : SeenPart → List SeenFragment → SeenShape
shape_at (token_part word) rest = shape_named (role_of word) word rest
shape_at (group_part bracket opener inner) rest = no_shape

abbrev pub shape_of : List SeenFragment → SeenShape
shape_of [] = no_shape
shape_of (first ∷ rest) = shape_at (part_of first) rest

-- the type that a form with brackets stands for
abbrev pub form_read : TypeWord → Token → List SeenFragment → Option TypeTree
form_read type_words.Singleton word inner = option_map (singleton_type word) (single_in inner)
form_read type_words.Union word inner = option_map (union_of word) (types_items (items_of inner))
form_read type_words.Limited word inner =
    option_map (limited_of word) (limits_items (items_of inner))
form_read type_words.Absent word inner = None

abbrev pub shape_read : SeenShape → Option TypeFront
shape_read no_shape = None
shape_read (name_shape word rest) = name_front word (items_of rest)
shape_read (form_shape form word inner rest) =
    option_map (in_front (items_of rest)) (form_read form word inner)

-- The word of a name is no leaf that stands for something too deep.
abbrev pub IsPresent : SeenShape → Type 0
IsPresent no_shape = ⊤
IsPresent (name_shape word rest) = is_absent word ≡ false
IsPresent (form_shape form word inner rest) = ⊤

-- what stands between the brackets of a form is nested at most so deep
abbrev pub IsNested : ℕ → SeenShape → Type 0
IsNested n no_shape = ⊤
IsNested n (name_shape word rest) = ⊤
IsNested n (form_shape form word inner rest) = nesting inner ≤ n

abbrev pub IsShallower : ℕ → SeenShape → Type 0
IsShallower n no_shape = ⊤
IsShallower n (name_shape word rest) = ⊤
IsShallower n (form_shape form word inner rest) = nesting inner < n

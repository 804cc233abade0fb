-- What is read of a type is what is read of how it begins.
use Rattle.std.proofs.Common.{◌≡◌, List, [], ◌∷◌, Option, Some, None, option_map, option_and_then, refl, ap}
use Rattle.dy_tree.specs.declared.token.Token.{Token}
use Rattle.dy_tree.specs.Fragments.{SeenFragment, one, group, SeenFragments, row}
use Rattle.dy_tree.specs.declared.roles.Role.{Role}
use Rattle.dy_tree.specs.declared.roles.Role.TheVariants as roles
use Rattle.dy_tree.specs.declared.brackets.Bracket.{Bracket}
use Rattle.dy_tree.specs.declared.brackets.Bracket.TheVariants as brackets
use Rattle.dy_tree.specs.declared.type_words.TypeWord.{TypeWord}
use Rattle.dy_tree.specs.declared.type_words.TypeWord.TheVariants as type_words
use Rattle.dy_rules.specs.Roles.{role_of, bracket_of}
use Rattle.dy_rules.specs.Types.{TypeTree, type_word}
use Rattle.dy_rules.specs.Cutting.{Item}
use Rattle.dy_rules.specs.TypeReading.{TypeFront, in_front, if_whole, whole_type, word_front, group_front, type_from, type_named, type_front, union_of, limited_of, types_items, limits_items}
use Rattle.dy_rules.specs.Fragments.{item_of, items_of}
use Rattle.dy_rules.proofs.Lists.{items_row}
use Rattle.dy_rules_depth.specs.Capping.{capped_type}
use Rattle.dy_read_types.specs.TypeFronts.{capped_front}
use Rattle.dy_read_types.specs.TypeShapes.{shape_by, shape_in, shape_from, shape_named, shape_of, shape_read}

module _ (word : Token) (opener : Token) (inner : SeenFragments) (closer : Token) (others : List SeenFragment) where
  abbrev it : SeenFragment
  it = group opener inner closer

  by_word : (form : TypeWord) → word_front form word inner (item_of it) (items_of others) ≡ shape_read (shape_by form word (row inner) (it ∷ others) others)
  by_word type_words.Singleton = refl
  by_word type_words.Union = ap (λ (items : List Item). option_map (in_front (items_of others)) (option_map (union_of word) (types_items items))) (items_row inner)
  by_word type_words.Limited = ap (λ (items : List Item). option_map (in_front (items_of others)) (option_map (limited_of word) (limits_items items))) (items_row inner)
  by_word type_words.Absent = refl

  by_bracket : (bracket : Bracket) → group_front bracket word inner (item_of it) (items_of others) ≡ shape_read (shape_in bracket word (row inner) (it ∷ others) others)
  by_bracket brackets.Round = by_word (type_word word)
  by_bracket brackets.Square = refl
  by_bracket brackets.Hidden = refl
  by_bracket brackets.SharpRound = refl
  by_bracket brackets.SharpSquare = refl
  by_bracket (brackets.Statement kind) = refl
  by_bracket brackets.Special = refl

behind_word : (word : Token) (rest : List SeenFragment) → type_from word (items_of rest) ≡ shape_read (shape_from word rest)
behind_word word [] = refl
behind_word word (one token ∷ others) = refl
behind_word word (group opener inner closer ∷ others) = by_bracket word opener inner closer others (bracket_of opener closer)

by_role : (role : Role) (word : Token) (rest : List SeenFragment) → type_named role word (items_of rest) ≡ shape_read (shape_named role word rest)
by_role roles.Integer word rest = refl
by_role roles.Character word rest = refl
by_role roles.Text word rest = refl
by_role roles.Boolean word rest = refl
by_role roles.Symbol word rest = refl
by_role roles.Named word rest = behind_word word rest
by_role (roles.Operator precedence) word rest = refl
by_role roles.Minus word rest = refl
by_role roles.Tilde word rest = refl
by_role roles.Assigns word rest = refl
by_role roles.Dot word rest = refl
by_role roles.Comma word rest = refl
by_role roles.Semicolon word rest = refl
by_role roles.Arrow word rest = refl
by_role roles.Colons word rest = refl
by_role roles.Lets word rest = refl
by_role roles.Locals word rest = refl
by_role roles.Handlers word rest = refl
by_role roles.Remains word rest = refl
by_role roles.Defines word rest = refl
by_role roles.Other word rest = refl

pub shape_reads : (fragments : List SeenFragment) → type_front (items_of fragments) ≡ shape_read (shape_of fragments)
shape_reads [] = refl
shape_reads (one word ∷ rest) = by_role (role_of word) word rest
shape_reads (group opener inner closer ∷ rest) = refl

pub in_front_changed : (rest : List Item) (found : Option TypeTree) → option_map (in_front rest) (option_map capped_type found) ≡ option_map capped_front (option_map (in_front rest) found)
in_front_changed rest None = refl
in_front_changed rest (Some type) = refl

whole_if : (type : TypeTree) (rest : List Item) → if_whole (capped_type type) rest ≡ option_map capped_type (if_whole type rest)
whole_if type [] = refl
whole_if type (item ∷ rest) = refl

pub whole_changed : (front : Option TypeFront) → option_and_then whole_type (option_map capped_front front) ≡ option_map capped_type (option_and_then whole_type front)
whole_changed None = refl
whole_changed (Some front) = whole_if front.type front.rest

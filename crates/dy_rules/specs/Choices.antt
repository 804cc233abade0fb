-- The arms of a case or a select, by functions that compute. The pieces between the semicolons are
-- read from the end on.
use Rattle.std.specs.Prelude.{Bool, true, false, List, [], ◌∷◌, Option, Some, None, option_map}
use Rattle.std.specs.Prelude.{option_and_then}
use Rattle.dy_tree.specs.Fragments.{SeenFragment, one, group}
use Rattle.dy_tree.specs.declared.roles.Role.{Role}
use Rattle.dy_tree.specs.declared.roles.Role.TheVariants as roles
use Rattle.dy_tree.specs.declared.splitters.Splitting.{Splitting}
use Rattle.dy_tree.specs.declared.splitters.Splitting.TheVariants as splittings
use Rattle.dy_rules.specs.Trees.{Tree, ItemTree, body_of, Otherwise, no_otherwise, otherwise, Arm}
use Rattle.dy_rules.specs.Trees.{arm, tests_of}
use Rattle.dy_rules.specs.Roles.{role_of}
use Rattle.dy_rules.specs.Arguments.{is_comma_fragment}
use Rattle.dy_rules.specs.Productions.{suits}
use Rattle.dy_rules.specs.Cutting.{Head, Item, Piece, Pieces, is_semicolon, is_arrow, is_splitter}
use Rattle.dy_rules.specs.Cutting.{cut, each, without_end}
use Rattle.dy_rules.specs.Reading.{expression_items}
use Rattle.dy_rules.specs.Bodies.{item_items}

abbrev pub is_remains_role : Role → Bool
is_remains_role roles.Remains = true
is_remains_role _ = false

-- `otherwise`
abbrev pub is_remains : SeenFragment → Bool
is_remains (one token) = is_remains_role (role_of token)
is_remains (group opener inner closer) = false

-- what stands between two semicolons
pub data PieceKind : Type 0 where
  item_piece : PieceKind
  arm_piece : (before after : List Item) → PieceKind
  otherwise_piece : (rest : List Item) → PieceKind
  no_piece : PieceKind

abbrev pub arrow_left : Bool → Item → List Item → List Item
arrow_left true item rest = rest
arrow_left false item rest = item ∷ rest

abbrev pub without_arrow : List Item → List Item
without_arrow [] = []
without_arrow (item ∷ rest) = arrow_left (is_arrow item.fragment) item rest

abbrev pub kind_behind : List Item → List Piece → PieceKind
kind_behind first [] = item_piece
kind_behind first (piece ∷ []) = arm_piece first piece.items
kind_behind first (piece ∷ second ∷ others) = no_piece

abbrev pub kind_at : Bool → List Item → Pieces → PieceKind
kind_at true rest pieces = otherwise_piece (without_arrow rest)
kind_at false rest pieces = kind_behind pieces.first pieces.others

abbrev pub kind_of : List Item → PieceKind
kind_of [] = item_piece
kind_of (item ∷ rest) = kind_at (is_remains item.fragment) rest (cut is_arrow false (item ∷ rest))

-- items of the arm that began before, arms, and the last of them
pub record Choices : Type 0 where
  pub lead : List ItemTree
  pub arms : List Arm
  pub last : Otherwise

abbrev pub choices_of : List ItemTree → List Arm → Otherwise → Choices
choices_of lead arms last = record { lead = lead; arms = arms; last = last }

abbrev pub no_choices : Choices
no_choices = choices_of [] [] no_otherwise

abbrev pub lead_before : List ItemTree → ItemTree → List ItemTree
lead_before lead tree = tree ∷ lead

abbrev pub with_lead : Choices → ItemTree → Choices
with_lead rest tree = choices_of (tree ∷ rest.lead) rest.arms rest.last

-- the body of an arm, of which these items stand beside the arrow
abbrev pub body_with : Splitting → List Item → List ItemTree → Option (List ItemTree)
body_with words [] [] = Some []
body_with words [] (tree ∷ lead) = None
body_with words (item ∷ rest) lead = option_map (lead_before lead) (item_items words (item ∷ rest))

abbrev pub tests_items : List Item → Option (List Tree)
tests_items items = each (expression_items splittings.Nothing) (cut is_comma_fragment false items)

abbrev pub arm_of : List Tree → List Arm → Otherwise → List ItemTree → Choices
arm_of trees arms last body = choices_of [] (arm (tests_of trees) (body_of body) ∷ arms) last

abbrev pub arm_if : Bool → List Tree → Choices → Option (List ItemTree) → Option Choices
arm_if true trees rest body = option_map (arm_of trees rest.arms rest.last) body
arm_if false trees rest body = None

abbrev pub arm_with : Bool → Choices → Option (List ItemTree) → List Tree → Option Choices
arm_with single rest body trees = arm_if (suits single trees) trees rest body

abbrev pub last_of : List ItemTree → Choices
last_of body = choices_of [] [] (otherwise (body_of body))

abbrev pub last_with : List Arm → Otherwise → Option (List ItemTree) → Option Choices
last_with [] no_otherwise body = option_map last_of body
last_with _ _ body = None

-- a piece in front of what was read
abbrev pub choice_at : Splitting → Bool → PieceKind → List Item → Choices → Option Choices
choice_at words single item_piece items rest = option_map (with_lead rest) (item_items words items)
choice_at words single (arm_piece before after) items rest =
    option_and_then (arm_with single rest (body_with words after rest.lead)) (tests_items before)
choice_at words single (otherwise_piece after) items rest =
    last_with rest.arms rest.last (body_with words after rest.lead)
choice_at words single no_piece items rest = None

abbrev pub choices_behind : Splitting → Bool → List Piece → Option Choices
choices_behind words single [] = Some no_choices
choices_behind words single (piece ∷ others) =
    option_and_then (choice_at words single (kind_of piece.items) piece.items)
    (choices_behind words single others)

abbrev pub choices_pieces : Splitting → Bool → Pieces → Option Choices
choices_pieces words single pieces =
    option_and_then (choice_at words single (kind_of pieces.first) pieces.first)
    (choices_behind words single pieces.others)

abbrev pub finished_lead : List ItemTree → Choices → Option Choices
finished_lead [] found = Some found
finished_lead (tree ∷ lead) found = None

abbrev pub finished_choices : Choices → Option Choices
finished_choices found = finished_lead found.lead found

abbrev pub some_arms_items : Bool → List Item → Option Choices
some_arms_items single [] = None
some_arms_items single (item ∷ rest) =
    option_and_then finished_choices
    (choices_pieces splittings.Nothing single (cut is_semicolon false (item ∷ rest)))

abbrev pub arms_items : Bool → List Item → Option Choices
arms_items single [] = Some no_choices
arms_items single (item ∷ rest) = some_arms_items single (without_end (item ∷ rest))

abbrev pub head_alone : Tree → Head
head_alone selected = record { selected = selected; test = None }

abbrev pub head_by : Tree → Tree → Head
head_by selected test = record { selected = selected; test = Some test }

abbrev pub head_with : List Item → Tree → Option Head
head_with items selected = option_map (head_by selected) (expression_items splittings.Tests items)

abbrev pub head_behind : List Item → List Piece → Option Head
head_behind first [] = option_map head_alone (expression_items splittings.Tests first)
head_behind first (piece ∷ []) =
    option_and_then (head_with piece.items) (expression_items splittings.Tests first)
head_behind first (piece ∷ second ∷ others) = None

abbrev pub head_pieces : Pieces → Option Head
head_pieces pieces = head_behind pieces.first pieces.others

-- what stands between the brackets of a select
abbrev pub head_items : List Item → Option Head
head_items items = head_pieces (cut (is_splitter splittings.Tests) false items)

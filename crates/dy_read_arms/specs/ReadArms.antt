-- The arms of a `case` or a `select`, as they are read from the last one on.
use Rattle.std.specs.Prelude.{◌≡◌, ⊤, ℕ, max, Bool, true, false, List, [], ◌∷◌, map, reverse}
use Rattle.std.specs.Prelude.{Option, Some, None, option_map, option_and_then}
use Rattle.std.specs.Global.{Vec, Box}
use Rattle.dy_tree.specs.declared.expression.Arm.{Arm}
use Rattle.dy_tree.specs.declared.expression.Expression.{Expression}
use Rattle.dy_tree.specs.declared.expression.Item.{Item}
use Rattle.dy_tree.specs.declared.token.Token.{Token}
use Rattle.dy_tree.specs.declared.splitters.Splitting.TheVariants as splittings
use Rattle.dy_rules.specs.Bodies.{item_items}
use Rattle.dy_rules.specs.Choices.{PieceKind, item_piece, arm_piece, otherwise_piece, no_piece}
use Rattle.dy_rules.specs.Choices.{kind_of, Choices, choices_of, no_choices, with_lead, arm_if}
use Rattle.dy_rules.specs.Choices.{last_of, last_with, tests_items}
use Rattle.dy_rules.specs.Cutting as cutting
use Rattle.dy_rules.specs.Cutting.{Head, Piece, Pieces}
use Rattle.dy_rules.specs.Depth.{item_depth, body_depth, tests_depth, arms_depth, otherwise_depth}
use Rattle.dy_rules.specs.Productions.{suits}
use Rattle.dy_rules.specs.StatementReading.{case_of, select_of}
use Rattle.dy_rules.specs.Trees as trees
use Rattle.dy_rules.specs.Trees.{Tree, ItemTree, no_otherwise, arm, arms_of, body_of, tests_of}
use Rattle.dy_rules_depth.specs.Capping.{capped}
use Rattle.dy_read_arms.specs.ReadBodies.{read_item, read_items, read_last, read_list}
use Rattle.dy_read_arms.specs.ReadItems.{capped_item}
use Rattle.dy_read_outers.specs.ReadTrees.{read_tree}

abbrev pub read_tests : Vec Expression → List Tree
read_tests tests = map read_tree tests.items

abbrev pub read_arm : Arm → trees.Arm
read_arm form = arm (tests_of (read_tests form.tests)) (body_of (read_items form.body))

abbrev pub read_boxed : Option (Box Expression) → Option Tree
read_boxed test = option_map (λ boxed. read_tree boxed.value) test

-- the item behind an arrow, where one stands there
abbrev pub read_first : Option Item → Option ItemTree
read_first first = option_map read_item first

abbrev pub first_depth : Option ItemTree → ℕ
first_depth None = 0
first_depth (Some tree) = item_depth tree

abbrev pub capped_first : List cutting.Item → Option (Option ItemTree)
capped_first [] = Some None
capped_first (item ∷ rest) =
    option_map Some (option_map capped_item (item_items splittings.Nothing (item ∷ rest)))

-- how deep it is with what was read before
abbrev pub FirstDepth : ℕ → ℕ → Option (Option Item) → Type 0
FirstDepth old new None = ⊤
FirstDepth old new (Some first) = new ≡ max old (first_depth (read_first first))

abbrev pub TestsDepth : ℕ → ℕ → Option (Vec Expression) → Type 0
TestsDepth old new None = ⊤
TestsDepth old new (Some tests) = new ≡ max old (tests_depth (tests_of (read_tests tests)))

abbrev pub ArmDepth : ℕ → Option (Vec Expression) → Option (Option Item) → Type 0
ArmDepth n None first = ⊤
ArmDepth n (Some tests) None = ⊤
ArmDepth n (Some tests) (Some first) =
    n ≡ max (tests_depth (tests_of (read_tests tests))) (first_depth (read_first first))

abbrev pub choices_depth : Choices → ℕ
choices_depth found = max (body_depth (body_of found.lead))
    (max (arms_depth (arms_of found.arms)) (otherwise_depth found.last))

-- what was read of the end, the last of it first
abbrev pub choices_behind : List Item → List Arm → Option (Vec Item) → Choices
choices_behind lead arms last =
    choices_of (read_list (reverse lead)) (map read_arm (reverse arms)) (read_last last)

abbrev pub choices_in : List Arm → Option (Vec Item) → Choices
choices_in arms last = choices_of [] (map read_arm arms) (read_last last)

-- a body of what stands behind an arrow, and of the items behind it
abbrev pub body_without : List ItemTree → Option (List ItemTree)
body_without [] = Some []
body_without (tree ∷ lead) = None

abbrev pub body_before : List ItemTree → Option ItemTree → Option (List ItemTree)
body_before lead None = body_without lead
body_before lead (Some tree) = Some (tree ∷ lead)

-- whether there is neither an arm nor an `otherwise`
abbrev pub ends_with : List trees.Arm → trees.Otherwise → Bool
ends_with [] no_otherwise = true
ends_with _ _ = false

abbrev pub ends : Choices → Bool
ends found = ends_with found.arms found.last

-- a body behind all arms, where it may stand there
abbrev pub last_if : Bool → List ItemTree → Option Choices
last_if true body = Some (last_of body)
last_if false body = None

-- pieces in front of what was read, to the limit
abbrev pub arm_read : Bool → Choices → Option (List Tree) → Option (Option ItemTree)
    → Option Choices
arm_read single rest None first = None
arm_read single rest (Some trees) first =
    arm_if (suits single trees) trees rest (option_and_then (body_before rest.lead) first)

abbrev pub last_read : Choices → Option (Option ItemTree) → Option Choices
last_read rest first = last_with rest.arms rest.last (option_and_then (body_before rest.lead) first)

abbrev pub capped_trees : List Tree → List Tree
capped_trees trees = map capped trees

abbrev pub capped_choice : Bool → PieceKind → List cutting.Item → Choices → Option Choices
capped_choice single item_piece items rest =
    option_map (with_lead rest) (option_map capped_item (item_items splittings.Nothing items))
capped_choice single (arm_piece before after) items rest =
    arm_read single rest (option_map capped_trees (tests_items before)) (capped_first after)
capped_choice single (otherwise_piece after) items rest = last_read rest (capped_first after)
capped_choice single no_piece items rest = None

abbrev pub capped_piece : Bool → List cutting.Item → Choices → Option Choices
capped_piece single items rest = capped_choice single (kind_of items) items rest

abbrev pub choices_on : Bool → List Piece → Option Choices → Option Choices
choices_on single [] found = found
choices_on single (piece ∷ others) found =
    option_and_then (capped_piece single piece.items) (choices_on single others found)

abbrev pub capped_pieces : Bool → Pieces → Option Choices
capped_pieces single pieces =
    option_and_then (capped_piece single pieces.first)
    (choices_on single pieces.others (Some no_choices))

abbrev pub capped_case : Token → Choices → Tree
capped_case word found = capped (case_of word found)

abbrev pub capped_select : Token → Head → Choices → Tree
capped_select word head found = capped (select_of word head found)

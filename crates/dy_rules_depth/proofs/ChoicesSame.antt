-- The arms of a case or a select and its head are read the same to the limit, whatever stands in the place of trees that are too deep.
use Rattle.std.proofs.Common.{◌≡◌, Bool, true, false, List, [], ◌∷◌, map, Option, Some, option_map, refl, sym, ap, ◌∙◌}
use Rattle.dy_tree.specs.declared.splitters.Splitting.{Splitting}
use Rattle.dy_tree.specs.declared.splitters.Splitting.TheVariants as splittings
use Rattle.dy_rules.specs.Trees.{Tree, ItemTree, Otherwise, no_otherwise, otherwise, Arm}
use Rattle.dy_rules.specs.Arguments.{is_comma_fragment}
use Rattle.dy_rules.specs.Productions.{suits}
use Rattle.dy_rules.specs.Cutting.{Head, Item, Piece, Pieces, is_semicolon, is_arrow, is_splitter, cut, without_end}
use Rattle.dy_rules.specs.Reading.{expression_items}
use Rattle.dy_rules.specs.Bodies.{item_items}
use Rattle.dy_rules.specs.Choices.{is_remains, PieceKind, item_piece, arm_piece, otherwise_piece, no_piece, arrow_left, without_arrow, kind_behind, kind_at, kind_of, Choices, choices_of, lead_before, with_lead, body_with, tests_items, arm_of, arm_if, arm_with, last_of, last_with, choice_at, choices_behind, choices_pieces, finished_lead, finished_choices, some_arms_items, arms_items, head_alone, head_by, head_with, head_behind, head_pieces, head_items}
use Rattle.dy_rules_depth.specs.Changes.{Change, changed_item, changed_otherwise, changed_arm}
use Rattle.dy_rules_depth.specs.ReaderChanges.{changed_head, changed_items, changed_item_of, changed_piece, changed_pieces, changed_kind, changed_choices}
use Rattle.dy_rules_depth.specs.Capping.{capped, capping}
use Rattle.dy_rules_depth.proofs.Same.{SameTrees}
use Rattle.dy_rules_depth.proofs.Options.{lifted, map_same, then_same}
use Rattle.dy_rules_depth.proofs.Rows.{body_changed, tests_changed}
use Rattle.dy_rules_depth.proofs.CutsSame.{cut_changed, without_end_changed, Reads, each_cut_same}
use Rattle.dy_rules_depth.proofs.BodiesSame.{item_items_same}
use Rattle.dy_rules_depth.proofs.Expressions.{expression_same}

-- what stands between two semicolons

module _ (change : Change) where
  arrow_left_changed : (is : Bool) (item : Item) (rest : List Item) → arrow_left is (changed_item_of change item) (changed_items change rest) ≡ changed_items change (arrow_left is item rest)
  arrow_left_changed true item rest = refl
  arrow_left_changed false item rest = refl

  without_arrow_changed : (items : List Item) → without_arrow (changed_items change items) ≡ changed_items change (without_arrow items)
  without_arrow_changed [] = refl
  without_arrow_changed (item ∷ rest) = arrow_left_changed (is_arrow item.fragment) item rest

  kind_behind_changed : (first : List Item) (others : List Piece) → kind_behind (changed_items change first) (map (changed_piece change) others) ≡ changed_kind change (kind_behind first others)
  kind_behind_changed first [] = refl
  kind_behind_changed first (piece ∷ []) = refl
  kind_behind_changed first (piece ∷ second ∷ others) = refl

  kind_at_changed : (is : Bool) (rest : List Item) (pieces : Pieces) → kind_at is (changed_items change rest) (changed_pieces change pieces) ≡ changed_kind change (kind_at is rest pieces)
  kind_at_changed true rest pieces = ap otherwise_piece (without_arrow_changed rest)
  kind_at_changed false rest pieces = kind_behind_changed pieces.first pieces.others

  pub kind_changed : (items : List Item) → kind_of (changed_items change items) ≡ changed_kind change (kind_of items)
  kind_changed [] = refl
  kind_changed (item ∷ rest) =
      ap (kind_at (is_remains item.fragment) (changed_items change rest)) (cut_changed change is_arrow false (item ∷ rest)) ∙ kind_at_changed (is_remains item.fragment) rest (cut is_arrow false (item ∷ rest))

-- arms

abbrev pub SameBody : Option (List ItemTree) → Option (List ItemTree) → Type 0
SameBody body other = option_map (map (changed_item capping)) body ≡ option_map (map (changed_item capping)) other

abbrev pub SameArms : List Arm → List Arm → Type 0
SameArms arms others = map (changed_arm capping) arms ≡ map (changed_arm capping) others

abbrev pub SameChoices : Option Choices → Option Choices → Type 0
SameChoices found other = option_map (changed_choices capping) found ≡ option_map (changed_choices capping) other

pub with_lead_same : (rest other : Choices) → changed_choices capping rest ≡ changed_choices capping other → (tree more : ItemTree) → changed_item capping tree ≡ changed_item capping more
    → changed_choices capping (with_lead rest tree) ≡ changed_choices capping (with_lead other more)
with_lead_same rest other e tree more f = cc (ap (λ (c : Choices). c.lead) e, ap (λ (c : Choices). c.arms) e, ap (λ (c : Choices). c.last) e)

body_with_same : (words : Splitting) (items : List Item) (lead other : List ItemTree) → SameTrees lead other → SameBody (body_with words (changed_items capping items) lead) (body_with words items other)
body_with_same words [] [] [] e = refl
body_with_same words [] (tree ∷ lead) (more ∷ other) e = refl
body_with_same words [] lead other e = absurd cc
body_with_same words (item ∷ rest) lead other e =
    map_same (changed_item capping) (map (changed_item capping)) (lead_before lead) (lead_before other) (item_items words (changed_items capping (item ∷ rest))) (item_items words (item ∷ rest)) (λ tree more f. cc) (item_items_same words (item ∷ rest))

pub tests_same : Reads (map capped) tests_items
tests_same items = each_cut_same capped (expression_items splittings.Nothing) (expression_same splittings.Nothing) is_comma_fragment false items

-- what suits depends on no tree
suits_on : (single : Bool) (trees : List Tree) → suits single (map capped trees) ≡ suits single trees
suits_on true [] = refl
suits_on true (first ∷ []) = refl
suits_on true (first ∷ second ∷ rest) = refl
suits_on false trees = refl

pub suits_kept : (single : Bool) (trees others : List Tree) → map capped trees ≡ map capped others → suits single trees ≡ suits single others
suits_kept single trees others e = lifted (map capped) (λ b. b) (suits single) (suits_on single) trees others e

pub arm_of_same : (trees others : List Tree) (arms more : List Arm) (last end : Otherwise) → map capped trees ≡ map capped others → SameArms arms more → changed_otherwise capping last ≡ changed_otherwise capping end
    → (body other : List ItemTree) → SameTrees body other → changed_choices capping (arm_of trees arms last body) ≡ changed_choices capping (arm_of others more end other)
arm_of_same trees others arms more last end e f g body other h = cc (tests_changed trees others e, body_changed body other h)

arm_if_same : (is : Bool) (trees others : List Tree) (rest more : Choices) (body other : Option (List ItemTree)) → map capped trees ≡ map capped others → changed_choices capping rest ≡ changed_choices capping more → SameBody body other
    → SameChoices (arm_if is trees rest body) (arm_if is others more other)
arm_if_same true trees others rest more body other e f g =
    map_same (map (changed_item capping)) (changed_choices capping) (arm_of trees rest.arms rest.last) (arm_of others more.arms more.last) body other
    (arm_of_same trees others rest.arms more.arms rest.last more.last e (ap (λ (c : Choices). c.arms) f) (ap (λ (c : Choices). c.last) f)) g
arm_if_same false trees others rest more body other e f g = refl

pub arm_with_same : (single : Bool) (rest more : Choices) (body other : Option (List ItemTree)) → changed_choices capping rest ≡ changed_choices capping more → SameBody body other → (trees others : List Tree) → map capped trees ≡ map capped others
    → SameChoices (arm_with single rest body trees) (arm_with single more other others)
arm_with_same single rest more body other f g trees others e =
    ap (λ (is : Bool). option_map (changed_choices capping) (arm_if is trees rest body)) (suits_kept single trees others e) ∙ arm_if_same (suits single others) trees others rest more body other e f g

pub last_of_same : (body other : List ItemTree) → SameTrees body other → changed_choices capping (last_of body) ≡ changed_choices capping (last_of other)
last_of_same body other e = ap (λ body. choices_of [] [] (otherwise body)) (body_changed body other e)

last_with_on : (arms : List Arm) (last : Otherwise) (body other : Option (List ItemTree)) → SameBody body other → SameChoices (last_with (map (changed_arm capping) arms) (changed_otherwise capping last) body) (last_with arms last other)
last_with_on [] no_otherwise body other e = map_same (map (changed_item capping)) (changed_choices capping) last_of last_of body other last_of_same e
last_with_on [] (otherwise trees) body other e = refl
last_with_on (first ∷ rest) last body other e = refl

pub last_with_same : (rest more : Choices) (body other : Option (List ItemTree)) → changed_choices capping rest ≡ changed_choices capping more → SameBody body other → SameChoices (last_with rest.arms rest.last body) (last_with more.arms more.last other)
last_with_same rest more body other e f =
    sym (last_with_on rest.arms rest.last body body refl) ∙ ap (λ (c : Choices). option_map (changed_choices capping) (last_with c.arms c.last body)) e ∙ last_with_on more.arms more.last body other f

choice_at_same : (words : Splitting) (single : Bool) (kind : PieceKind) (items : List Item) (rest more : Choices) → changed_choices capping rest ≡ changed_choices capping more
    → SameChoices (choice_at words single (changed_kind capping kind) (changed_items capping items) rest) (choice_at words single kind items more)
choice_at_same words single item_piece items rest more e =
    map_same (changed_item capping) (changed_choices capping) (with_lead rest) (with_lead more) (item_items words (changed_items capping items)) (item_items words items) (with_lead_same rest more e) (item_items_same words items)
choice_at_same words single (arm_piece before after) items rest more e =
    then_same (map capped) (changed_choices capping) (arm_with single rest (body_with words (changed_items capping after) rest.lead)) (arm_with single more (body_with words after more.lead)) (tests_items (changed_items capping before)) (tests_items before)
    (arm_with_same single rest more (body_with words (changed_items capping after) rest.lead) (body_with words after more.lead) e (body_with_same words after rest.lead more.lead (ap (λ (c : Choices). c.lead) e))) (tests_same before)
choice_at_same words single (otherwise_piece after) items rest more e =
    last_with_same rest more (body_with words (changed_items capping after) rest.lead) (body_with words after more.lead) e (body_with_same words after rest.lead more.lead (ap (λ (c : Choices). c.lead) e))
choice_at_same words single no_piece items rest more e = refl

piece_same : (words : Splitting) (single : Bool) (items : List Item) (rest more : Choices) → changed_choices capping rest ≡ changed_choices capping more
    → SameChoices (choice_at words single (kind_of (changed_items capping items)) (changed_items capping items) rest) (choice_at words single (kind_of items) items more)
piece_same words single items rest more e =
    ap (λ (kind : PieceKind). option_map (changed_choices capping) (choice_at words single kind (changed_items capping items) rest)) (kind_changed capping items) ∙ choice_at_same words single (kind_of items) items rest more e

choices_behind_same : (words : Splitting) (single : Bool) (others : List Piece) → SameChoices (choices_behind words single (map (changed_piece capping) others)) (choices_behind words single others)
choices_behind_same words single [] = refl
choices_behind_same words single (piece ∷ others) =
    then_same (changed_choices capping) (changed_choices capping) (choice_at words single (kind_of (changed_items capping piece.items)) (changed_items capping piece.items)) (choice_at words single (kind_of piece.items) piece.items)
    (choices_behind words single (map (changed_piece capping) others)) (choices_behind words single others) (piece_same words single piece.items) (choices_behind_same words single others)

choices_pieces_same : (words : Splitting) (single : Bool) (pieces : Pieces) → SameChoices (choices_pieces words single (changed_pieces capping pieces)) (choices_pieces words single pieces)
choices_pieces_same words single pieces =
    then_same (changed_choices capping) (changed_choices capping) (choice_at words single (kind_of (changed_items capping pieces.first)) (changed_items capping pieces.first)) (choice_at words single (kind_of pieces.first) pieces.first)
    (choices_behind words single (map (changed_piece capping) pieces.others)) (choices_behind words single pieces.others) (piece_same words single pieces.first) (choices_behind_same words single pieces.others)

pub finished_lead_same : (lead other : List ItemTree) (found more : Choices) → SameTrees lead other → changed_choices capping found ≡ changed_choices capping more → SameChoices (finished_lead lead found) (finished_lead other more)
finished_lead_same [] [] found more e f = ap Some f
finished_lead_same (tree ∷ lead) (next ∷ other) found more e f = refl
finished_lead_same lead other found more e f = absurd cc

pub finished_choices_same : (found more : Choices) → changed_choices capping found ≡ changed_choices capping more → SameChoices (finished_choices found) (finished_choices more)
finished_choices_same found more e = finished_lead_same found.lead more.lead found more (ap (λ (c : Choices). c.lead) e) e

some_arms_same : (single : Bool) → Reads (changed_choices capping) (some_arms_items single)
some_arms_same single [] = refl
some_arms_same single (item ∷ rest) =
    then_same (changed_choices capping) (changed_choices capping) finished_choices finished_choices (choices_pieces splittings.Nothing single (cut is_semicolon false (changed_items capping (item ∷ rest)))) (choices_pieces splittings.Nothing single (cut is_semicolon false (item ∷ rest)))
    finished_choices_same
    (ap (λ (pieces : Pieces). option_map (changed_choices capping) (choices_pieces splittings.Nothing single pieces)) (cut_changed capping is_semicolon false (item ∷ rest)) ∙ choices_pieces_same splittings.Nothing single (cut is_semicolon false (item ∷ rest)))

pub arms_same : (single : Bool) → Reads (changed_choices capping) (arms_items single)
arms_same single [] = refl
arms_same single (item ∷ rest) = ap (λ (ended : List Item). option_map (changed_choices capping) (some_arms_items single ended)) (without_end_changed capping (item ∷ rest)) ∙ some_arms_same single (without_end (item ∷ rest))

-- heads

abbrev SameHead : Option Head → Option Head → Type 0
SameHead head other = option_map (changed_head capping) head ≡ option_map (changed_head capping) other

head_with_same : (items : List Item) (selected other : Tree) → capped selected ≡ capped other → SameHead (head_with (changed_items capping items) selected) (head_with items other)
head_with_same items selected other e =
    map_same capped (changed_head capping) (head_by selected) (head_by other) (expression_items splittings.Tests (changed_items capping items)) (expression_items splittings.Tests items) (λ test more f. cc) (expression_same splittings.Tests items)

head_behind_same : (first : List Item) (others : List Piece) → SameHead (head_behind (changed_items capping first) (map (changed_piece capping) others)) (head_behind first others)
head_behind_same first [] =
    map_same capped (changed_head capping) head_alone head_alone (expression_items splittings.Tests (changed_items capping first)) (expression_items splittings.Tests first) (λ tree other e. cc) (expression_same splittings.Tests first)
head_behind_same first (piece ∷ []) =
    then_same capped (changed_head capping) (head_with (changed_items capping piece.items)) (head_with piece.items) (expression_items splittings.Tests (changed_items capping first)) (expression_items splittings.Tests first) (head_with_same piece.items) (expression_same splittings.Tests first)
head_behind_same first (piece ∷ second ∷ others) = refl

pub head_same : Reads (changed_head capping) head_items
head_same items =
    ap (λ (pieces : Pieces). option_map (changed_head capping) (head_pieces pieces)) (cut_changed capping (is_splitter splittings.Tests) false items) ∙ head_behind_same (cut (is_splitter splittings.Tests) false items).first (cut (is_splitter splittings.Tests) false items).others

-- The arms of a `case` or a `select` are read from the last one on.
use Rattle.std.proofs.Common.{◌≡◌, ◌==◌, ◌+◌, Bool, true, false, ℕ, max, List, [], ◌∷◌, ◌++◌, length, map, Option, Some, None, option_map, option_and_then, refl, sym, ap, ◌∙◌, arith}
use Rattle.std.proofs.lemmas.Bool.{eqb-true}
use Rattle.std.proofs.lemmas.List.{map-append}
use Rattle.std.specs.Global.{Vec, Box}
use Rattle.dy_tree.specs.declared.expression.Arm.{Arm}
use Rattle.dy_tree.specs.declared.expression.Expression.{Expression}
use Rattle.dy_tree.specs.declared.expression.Item.{Item}
use Rattle.dy_tree.specs.declared.fragment.Fragment.{Fragment}
use Rattle.dy_tree.specs.declared.token.Token.{Token}
use Rattle.dy_tree.specs.Fragments.{seen_fragments}
use Rattle.dy_tree.specs.declared.splitters.Splitting.TheVariants as splittings
use Rattle.dy_rules.specs.Bodies.{item_items}
use Rattle.dy_rules.specs.Choices as choices
use Rattle.dy_rules.specs.Choices.{PieceKind, item_piece, arm_piece, otherwise_piece, no_piece, kind_of, Choices, choices_of, no_choices, with_lead, body_with, tests_items, arm_if, arm_with, last_of, last_with, choice_at, choices_pieces, finished_lead, finished_choices, some_arms_items, arms_items, head_alone, head_by, head_with, head_items, head_pieces}
use Rattle.dy_rules.specs.Cutting as cutting
use Rattle.dy_rules.specs.Cutting.{Head, Front, Piece, Pieces, is_semicolon, is_splitter, cut, without_end}
use Rattle.dy_rules.specs.Depth.{depth, tests_depth}
use Rattle.dy_rules.specs.Fragments.{items_of}
use Rattle.dy_rules.specs.Productions.{suits}
use Rattle.dy_rules.specs.Reading.{expression_items}
use Rattle.dy_rules.specs.SeenForms.{seen_item, seen_tree}
use Rattle.dy_rules.specs.StatementReading.{case_of, select_of, select_with}
use Rattle.dy_rules.specs.Trees as trees
use Rattle.dy_rules.specs.Trees.{Tree, ItemTree, Otherwise, no_otherwise, otherwise, arm, arms_of, body_of, tests_of, maybe_of, case_tree, select_tree}
use Rattle.dy_rules_depth.specs.Changes.{changed_body, changed_arm, changed_arms, changed_maybe, changed_otherwise, changed_tests}
use Rattle.dy_rules_depth.specs.Capping.{capped, capping, filled, filling}
use Rattle.dy_rules_depth.specs.ReaderChanges.{changed_choices, changed_head}
use Rattle.dy_rules_depth.proofs.ChoicesSame.{suits_kept}
use Rattle.dy_rules_depth.proofs.Options.{map_twice}
use Rattle.dy_rules_depth.proofs.Rows.{row_body, row_tests}
use Rattle.dy_rules_depth.proofs.StatementsSame.{case_of_same, select_of_same}
use Rattle.dy_rules_depth.proofs.Twice.{tree_twice, body_twice, head_twice}
use Rattle.dy_read_parts.specs.Cut.{seen_piece}
use Rattle.dy_read_statements.specs.FilledInside.{filled_inside}
use Rattle.dy_read_statements.specs.Heads.{SeenHead, head_behind, head_cut, head_read}
use Rattle.dy_rules.specs.Held.{held_arm, held_arms, held_body, held_last, held_test}
use Rattle.dy_read_arms.specs.ReadArms.{read_tests, read_arm, read_boxed, FirstDepth, TestsDepth, ArmDepth, capped_first, choices_behind, choices_in, body_before, arm_read, capped_trees, capped_choice, capped_piece, choices_on, capped_pieces, capped_case, capped_select}
use Rattle.dy_read_arms.specs.ReadItems.{capped_item, capped_items}
use Rattle.dy_read_statements.specs.ReadStatements.{both}
use Rattle.dy_read_outers.specs.ReadTrees.{read_tree}
use Rattle.dy_read_parts.specs.declared.pieces.Piece.{Piece as FoundPiece}
use Rattle.dy_read_statements.proofs.Branches.{last_filled, otherwise_twice}
use Rattle.dy_read_statements.proofs.Statements.{trees_twice}

pub tests_more : (list : List Tree) (next : Tree) → tests_depth (tests_of (list ++ next ∷ [])) ≡ max (tests_depth (tests_of list)) (depth next)
tests_more [] next = omega arith
tests_more (first ∷ rest) next = let more = tests_more rest next in omega arith

-- pieces to the limit

body_capped : (items : List cutting.Item) (lead : List ItemTree) → option_map capped_items (body_with splittings.Nothing items lead) ≡ option_and_then (body_before (capped_items lead)) (capped_first items)
body_capped [] [] = refl
body_capped [] (tree ∷ lead) = refl
body_capped (item ∷ rest) lead = go (item_items splittings.Nothing (item ∷ rest))
  where
    go : (found : Option ItemTree) → option_map capped_items (option_map (choices.lead_before lead) found) ≡ option_and_then (body_before (capped_items lead)) (option_map Some (option_map capped_item found))
    go None = refl
    go (Some tree) = refl

arm_capped : (is : Bool) (list : List Tree) (rest : Choices) (body : Option (List ItemTree)) → option_map (changed_choices capping) (arm_if is list rest body) ≡ arm_if is (capped_trees list) (changed_choices capping rest) (option_map capped_items body)
arm_capped true list rest None = refl
arm_capped true list rest (Some body) =
    ap (λ (form : trees.Arm). Some (choices_of [] (form ∷ map (changed_arm capping) rest.arms) (changed_otherwise capping rest.last)))
    (ap (λ (tried : trees.Tests). arm tried (changed_body capping (body_of body))) (row_tests capping list) ∙ ap (arm (tests_of (capped_trees list))) (row_body capping body))
arm_capped false list rest body = refl

tests_capped : (single : Bool) (after : List cutting.Item) (rest : Choices) (found : Option (List Tree))
    → option_map (changed_choices capping) (option_and_then (arm_with single rest (body_with splittings.Nothing after rest.lead)) found) ≡ arm_read single (changed_choices capping rest) (option_map capped_trees found) (capped_first after)
tests_capped single after rest None = refl
tests_capped single after rest (Some list) =
    arm_capped (suits single list) list rest (body_with splittings.Nothing after rest.lead)
    ∙ cc (suits_kept single (capped_trees list) list (map_twice capped tree_twice list), body_capped after rest.lead)

last_capped : (arms : List trees.Arm) (last : Otherwise) (body : Option (List ItemTree)) → option_map (changed_choices capping) (last_with arms last body) ≡ last_with (map (changed_arm capping) arms) (changed_otherwise capping last) (option_map capped_items body)
last_capped [] no_otherwise None = refl
last_capped [] no_otherwise (Some body) = ap (λ it. Some (choices_of [] [] (otherwise it))) (row_body capping body)
last_capped [] (otherwise inner) body = refl
last_capped (first ∷ rest) last body = refl

item_capped : (rest : Choices) (found : Option ItemTree) → option_map (changed_choices capping) (option_map (with_lead rest) found) ≡ option_map (with_lead (changed_choices capping rest)) (option_map capped_item found)
item_capped rest None = refl
item_capped rest (Some tree) = refl

choice_capped : (single : Bool) (kind : PieceKind) (items : List cutting.Item) (rest : Choices) → option_map (changed_choices capping) (choice_at splittings.Nothing single kind items rest) ≡ capped_choice single kind items (changed_choices capping rest)
choice_capped single item_piece items rest = item_capped rest (item_items splittings.Nothing items)
choice_capped single (arm_piece before after) items rest = tests_capped single after rest (tests_items before)
choice_capped single (otherwise_piece after) items rest =
    last_capped rest.arms rest.last (body_with splittings.Nothing after rest.lead) ∙ ap (last_with (map (changed_arm capping) rest.arms) (changed_otherwise capping rest.last)) (body_capped after rest.lead)
choice_capped single no_piece items rest = refl

then_capped : (single : Bool) (items : List cutting.Item) (found : Option Choices)
    → option_map (changed_choices capping) (option_and_then (choice_at splittings.Nothing single (kind_of items) items) found) ≡ option_and_then (capped_piece single items) (option_map (changed_choices capping) found)
then_capped single items None = refl
then_capped single items (Some rest) = choice_capped single (kind_of items) items rest

behind_capped : (single : Bool) (others : List Piece) → option_map (changed_choices capping) (choices.choices_behind splittings.Nothing single others) ≡ choices_on single others (Some no_choices)
behind_capped single [] = refl
behind_capped single (piece ∷ others) = then_capped single piece.items (choices.choices_behind splittings.Nothing single others) ∙ ap (option_and_then (capped_piece single piece.items)) (behind_capped single others)

pieces_capped : (single : Bool) (pieces : Pieces) → option_map (changed_choices capping) (choices_pieces splittings.Nothing single pieces) ≡ capped_pieces single pieces
pieces_capped single pieces = then_capped single pieces.first (choices.choices_behind splittings.Nothing single pieces.others) ∙ ap (option_and_then (capped_piece single pieces.first)) (behind_capped single pieces.others)

finished_by : (lead : List ItemTree) (found : Choices) → option_map (changed_choices capping) (finished_lead lead found) ≡ finished_lead (capped_items lead) (changed_choices capping found)
finished_by [] found = refl
finished_by (tree ∷ lead) found = refl

finished_capped : (found : Option Choices) → option_map (changed_choices capping) (option_and_then finished_choices found) ≡ option_and_then finished_choices (option_map (changed_choices capping) found)
finished_capped None = refl
finished_capped (Some found) = finished_by found.lead found

-- one piece after the other, from the last one on

pub on_end : (single : Bool) (pieces : List Piece) (piece : Piece) (found : Option Choices) → choices_on single (pieces ++ piece ∷ []) found ≡ choices_on single pieces (option_and_then (capped_piece single piece.items) found)
on_end single [] piece found = refl
on_end single (first ∷ pieces) piece found = ap (option_and_then (capped_piece single first.items)) (on_end single pieces piece found)

pub on_none : (single : Bool) (pieces : List Piece) → choices_on single pieces None ≡ None
on_none single [] = refl
on_none single (piece ∷ pieces) = ap (option_and_then (capped_piece single piece.items)) (on_none single pieces)

pub one_less : (single : Bool) (rest before : List FoundPiece) (piece : FoundPiece) (found : Option Choices) → rest ≡ before ++ piece ∷ []
    → choices_on single (map seen_piece rest) found ≡ choices_on single (map seen_piece before) (option_and_then (capped_piece single (items_of (seen_fragments piece.fragments.now))) found)
one_less single rest before piece found e = ap (λ (list : List FoundPiece). choices_on single (map seen_piece list) found) e ∙ ap (λ (list : List Piece). choices_on single list found) (map-append seen_piece before (piece ∷ [])) ∙ on_end single (map seen_piece before) (seen_piece piece) found

pub arm_depths : (m n : ℕ) (tests : Option (Vec Expression)) (first : Option (Option Item)) → TestsDepth 0 m tests → FirstDepth m n first → ArmDepth n tests first
arm_depths m n None first e f = tt
arm_depths m n (Some tests) None e f = tt
arm_depths m n (Some tests) (Some first) e f = omega arith

-- what stands behind an arrow

pub nothing_first : (fragments : List Fragment) → true ≡ (length fragments == 0) → Some None ≡ capped_first (items_of (seen_fragments fragments))
nothing_first [] e = refl
nothing_first (first ∷ rest) e = absurd (omega (arith, eqb-true (length (first ∷ rest)) 0 (sym e)))

pub something_first : (fragments : List Fragment) → false ≡ (length fragments == 0) → option_map Some (option_map capped_item (item_items splittings.Nothing (items_of (seen_fragments fragments)))) ≡ capped_first (items_of (seen_fragments fragments))
something_first [] e = absurd cc
something_first (first ∷ rest) e = refl

-- all arms

pub none_given : (single : Bool) (fragments : List Fragment) → true ≡ (length fragments == 0) → arms_items single (items_of (seen_fragments fragments)) ≡ Some no_choices
none_given single [] e = refl
none_given single (first ∷ rest) e = absurd (omega (arith, eqb-true (length (first ∷ rest)) 0 (sym e)))

some_given : (single : Bool) (fragments : List Fragment) → false ≡ (length fragments == 0) → arms_items single (items_of (seen_fragments fragments)) ≡ some_arms_items single (without_end (items_of (seen_fragments fragments)))
some_given single [] e = absurd cc
some_given single (first ∷ rest) e = refl

none_left : (single : Bool) (fragments : List Fragment) → true ≡ (length fragments == 0) → some_arms_items single (items_of (seen_fragments fragments)) ≡ None
none_left single [] e = refl
none_left single (first ∷ rest) e = absurd (omega (arith, eqb-true (length (first ∷ rest)) 0 (sym e)))

some_left : (single : Bool) (fragments : List Fragment) → false ≡ (length fragments == 0) → some_arms_items single (items_of (seen_fragments fragments)) ≡ option_and_then finished_choices (choices_pieces splittings.Nothing single (cut is_semicolon false (items_of (seen_fragments fragments))))
some_left single [] e = absurd cc
some_left single (first ∷ rest) e = refl

module _ (single : Bool) (fragments ended : List Fragment) (some : false ≡ (length fragments == 0)) (is : items_of (seen_fragments ended) ≡ without_end (items_of (seen_fragments fragments))) where
  ended_is : arms_items single (items_of (seen_fragments fragments)) ≡ some_arms_items single (items_of (seen_fragments ended))
  ended_is = some_given single fragments some ∙ ap (some_arms_items single) (sym is)

  pub nothing_left : true ≡ (length ended == 0) → None ≡ option_map (changed_choices capping) (arms_items single (items_of (seen_fragments fragments)))
  nothing_left e = sym (ap (option_map (changed_choices capping)) (ended_is ∙ none_left single ended e))

  pub something_left : false ≡ (length ended == 0)
      → option_and_then finished_choices (capped_pieces single (cut is_semicolon false (items_of (seen_fragments ended)))) ≡ option_map (changed_choices capping) (arms_items single (items_of (seen_fragments fragments)))
  something_left e =
      sym
      (ap (option_map (changed_choices capping)) (ended_is ∙ some_left single ended e) ∙ finished_capped (choices_pieces splittings.Nothing single (cut is_semicolon false (items_of (seen_fragments ended))))
      ∙ ap (option_and_then finished_choices) (pieces_capped single (cut is_semicolon false (items_of (seen_fragments ended)))))

-- heads

head_kinds : (first : List cutting.Item) (others : List Piece) → choices.head_behind first others ≡ head_read (head_behind first others)
head_kinds first [] = refl
head_kinds first (piece ∷ []) = refl
head_kinds first (piece ∷ second ∷ others) = refl

pub head_is : (items : List cutting.Item) (head : SeenHead) → head ≡ head_cut (cut (is_splitter splittings.Tests) false items) → head_items items ≡ head_read head
head_is items head e = head_kinds (cut (is_splitter splittings.Tests) false items).first (cut (is_splitter splittings.Tests) false items).others ∙ ap head_read (sym e)

pub alone_through : (found : Option Tree) → option_map head_alone (option_map capped found) ≡ option_map (changed_head capping) (option_map head_alone found)
alone_through None = refl
alone_through (Some tree) = refl

head_tests : (selected : Tree) (found : Option Tree) → both head_by (Some (capped selected)) (option_map capped found) ≡ option_map (changed_head capping) (option_map (head_by selected) found)
head_tests selected None = refl
head_tests selected (Some test) = refl

pub by_through : (found : Option Tree) (items : List cutting.Item) → both head_by (option_map capped found) (option_map capped (expression_items splittings.Tests items)) ≡ option_map (changed_head capping) (option_and_then (head_with items) found)
by_through None items = refl
by_through (Some selected) items = head_tests selected (expression_items splittings.Tests items)

-- statements as they lie in memory

tests_filled : (list : List Expression) → map filled (map seen_tree list) ≡ map read_tree list
tests_filled [] = refl
tests_filled (first ∷ rest) = ap (λ (others : List Tree). read_tree first ∷ others) (tests_filled rest)

arm_filled : (form : Arm) → changed_arm filling (held_arm form) ≡ read_arm form
arm_filled form =
    ap (λ (tried : trees.Tests). arm tried (changed_body filling (held_body form.body))) (row_tests filling (map seen_tree form.tests.items) ∙ ap tests_of (tests_filled form.tests.items))
    ∙ ap (arm (tests_of (read_tests form.tests))) (row_body filling (map seen_item form.body.items))

arms_filled : (list : List Arm) → changed_arms filling (arms_of (map held_arm list)) ≡ arms_of (map read_arm list)
arms_filled [] = refl
arms_filled (first ∷ rest) = cc (arm_filled first, arms_filled rest)

test_filled : (test : Option (Box Expression)) → changed_maybe filling (held_test test) ≡ maybe_of (read_boxed test)
test_filled None = refl
test_filled (Some boxed) = refl

pub case_filled : (tree : Tree) (word copy : Token) (arms : Vec Arm) (last : Option (Vec Item)) → tree ≡ case_tree copy (held_arms arms) (held_last last) → copy ≡ word → filled_inside tree ≡ case_of word (choices_in arms.items last)
case_filled tree word copy arms last e is = ap filled_inside e ∙ cc (arms_filled arms.items, last_filled last, is)

-- how deep a `select` is, whose parts are so deep
pub select_deep : (s t c n i j : ℕ) → n ≡ 1 + max (max s t) c → i ≡ max s c → j ≡ max i t → n ≡ 1 + j
select_deep s t c n i j e f g = omega arith

pub select_filled : (tree : Tree) (word copy : Token) (selected : Tree) (test : Option (Box Expression)) (head : Head) (arms : Vec Arm) (last : Option (Vec Item)) → tree ≡ select_tree copy selected (held_test test) (held_arms arms) (held_last last) → copy ≡ word
    → filled selected ≡ head.selected → read_boxed test ≡ head.test → filled_inside tree ≡ select_of word head (choices_in arms.items last)
select_filled tree word copy selected test head arms last e is same tested =
    ap filled_inside e ∙ cc (arms_filled arms.items, last_filled last, test_filled test, tested, same, is)

-- and to the limit

tried_twice : (tried : trees.Tests) → changed_tests capping (changed_tests capping tried) ≡ changed_tests capping tried
tried_twice trees.no_test = refl
tried_twice (trees.test_and first rest) = cc (tree_twice first, tried_twice rest)

arm_twice : (form : trees.Arm) → changed_arm capping (changed_arm capping form) ≡ changed_arm capping form
arm_twice (arm tried body) = cc (tried_twice tried, body_twice body)

choices_twice : (found : Choices) → changed_choices capping (changed_choices capping found) ≡ changed_choices capping found
choices_twice found = rw (trees_twice found.lead, map_twice (changed_arm capping) arm_twice found.arms, otherwise_twice found.last) refl

pub case_through : (word : Token) (found : Option Choices) → option_map (capped_case word) (option_map (changed_choices capping) found) ≡ option_map capped (option_map (case_of word) found)
case_through word None = refl
case_through word (Some found) = ap Some (case_of_same word (changed_choices capping found) found (choices_twice found))

select_choices : (word : Token) (head : Head) (found : Option Choices) → both (capped_select word) (Some (changed_head capping head)) (option_map (changed_choices capping) found) ≡ option_map capped (option_map (select_of word head) found)
select_choices word head None = refl
select_choices word head (Some found) = ap Some (select_of_same word (changed_head capping head) head (head_twice head) (changed_choices capping found) found (choices_twice found))

pub select_through : (word : Token) (head : Option Head) (rest : List cutting.Item) → both (capped_select word) (option_map (changed_head capping) head) (option_map (changed_choices capping) (arms_items false rest)) ≡ option_map capped (option_and_then (select_with word rest) head)
select_through word None rest = refl
select_through word (Some head) rest = select_choices word head (arms_items false rest)

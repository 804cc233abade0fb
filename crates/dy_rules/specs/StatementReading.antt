-- The statements that items stand for, by functions that compute.
use Rattle.std.specs.Prelude.{true, false, List, [], ◌∷◌, Option, Some, None, option_map}
use Rattle.std.specs.Prelude.{option_and_then}
use Rattle.dy_tree.specs.declared.token.Token.{Token}
use Rattle.dy_tree.specs.Fragments.{SeenFragment, one, group}
use Rattle.dy_tree.specs.declared.brackets.Guard.{Guard}
use Rattle.dy_tree.specs.declared.brackets.Keyword.{Keyword}
use Rattle.dy_tree.specs.declared.brackets.Keyword.TheVariants as keywords
use Rattle.dy_tree.specs.declared.brackets.Bracket.{Bracket}
use Rattle.dy_tree.specs.declared.brackets.Bracket.TheVariants as brackets
use Rattle.dy_tree.specs.declared.splitters.Splitting.TheVariants as splittings
use Rattle.dy_tree.specs.declared.splitters.Splitter.{Splitter}
use Rattle.dy_tree.specs.declared.splitters.Splitter.TheVariants as splitters
use Rattle.dy_rules.specs.Trees.{Tree, begin_tree, if_tree, guarded, case_tree, select_tree}
use Rattle.dy_rules.specs.Trees.{maybe_of, arms_of, ItemTree, body_of, Alternative, alternative}
use Rattle.dy_rules.specs.Trees.{alternatives_of, Otherwise, no_otherwise, otherwise, method_tree}
use Rattle.dy_rules.specs.Trees.{parameters_of}
use Rattle.dy_rules.specs.Roles.{bracket_of}
use Rattle.dy_rules.specs.Cutting.{Head, Item, Piece, Pieces, is_splitter, cut, Front, headed}
use Rattle.dy_rules.specs.Cutting.{word_of, MethodFound}
use Rattle.dy_rules.specs.Bodies.{body_items}
use Rattle.dy_rules.specs.Choices.{Choices, arms_items}
use Rattle.dy_rules.specs.Blocks.{block_items}
use Rattle.dy_rules.specs.Loops.{for_statement}
use Rattle.dy_rules.specs.Signatures.{method_items}

-- an expression in brackets, and what stands behind them
pub record Tested : Type 0 where
  pub test : Tree
  pub rest : List Item

abbrev pub tested_by : List Item → Tree → Tested
tested_by rest test = record { test = test; rest = rest }

abbrev pub tested_in : Bracket → Option Tree → List Item → Option Tested
tested_in brackets.Round tree rest = option_map (tested_by rest) tree
tested_in _ tree rest = None

abbrev pub tested_at : SeenFragment → Option Tree → List Item → Option Tested
tested_at (one token) tree rest = None
tested_at (group opener inner closer) tree rest = tested_in (bracket_of opener closer) tree rest

abbrev pub tested : List Item → Option Tested
tested [] = None
tested (item ∷ rest) = tested_at item.fragment item.found.tree rest

pub record Others : Type 0 where
  pub trees : List Alternative
  pub last : Otherwise

abbrev pub by_body : List ItemTree → Others
by_body trees = record { trees = []; last = otherwise (body_of trees) }

abbrev pub with_alternative : Tree → List ItemTree → Others → Others
with_alternative test trees others =
    record { trees = alternative test (body_of trees) ∷ others.trees; last = others.last }

abbrev pub with_body : Tree → Option Others → List ItemTree → Option Others
with_body test others trees = option_map (with_alternative test trees) others

abbrev pub with_test : Option Others → Tested → Option Others
with_test others head = option_and_then (with_body head.test others)
    (body_items splittings.Branches head.rest)

abbrev pub if_last : List Piece → Option Others → Option Others
if_last [] found = found
if_last (piece ∷ others) found = None

abbrev pub other_at : Splitter → List Item → List Piece → Option Others → Option Others
other_at splitters.Else items behind rest =
    if_last behind (option_map by_body (body_items splittings.Branches items))
other_at splitters.Elseif items behind rest = option_and_then (with_test rest) (tested items)
other_at _ items behind rest = None

-- the alternatives behind the first body of an `if`
abbrev pub others_of : List Piece → Option Others
others_of [] = Some (record { trees = []; last = no_otherwise })
others_of (piece ∷ behind) =
    other_at (word_of piece.separator) piece.items behind (others_of behind)

abbrev pub begin_of : Token → List ItemTree → Tree
begin_of word trees = begin_tree word (body_of trees)

abbrev pub guarded_of : Guard → Token → Tree → List ItemTree → Tree
guarded_of guard word test trees = guarded guard word test (body_of trees)

abbrev pub guarded_items : Guard → Token → Tested → Option Tree
guarded_items guard word head =
    option_map (guarded_of guard word head.test) (body_items splittings.Nothing head.rest)

abbrev pub if_of : Token → Tree → List ItemTree → Others → Tree
if_of word test trees others =
    if_tree word test (body_of trees) (alternatives_of others.trees) others.last

abbrev pub if_body : Token → Tree → Option Others → List ItemTree → Option Tree
if_body word test others trees = option_map (if_of word test trees) others

abbrev pub if_pieces : Token → Tree → Pieces → Option Tree
if_pieces word test pieces =
    option_and_then (if_body word test (others_of pieces.others))
    (body_items splittings.Branches pieces.first)

abbrev pub if_items : Token → Tested → Option Tree
if_items word head = if_pieces word head.test
    (cut (is_splitter splittings.Branches) false head.rest)

abbrev pub case_of : Token → Choices → Tree
case_of word found = case_tree word (arms_of found.arms) found.last

abbrev pub select_of : Token → Head → Choices → Tree
select_of word head found =
    select_tree word head.selected (maybe_of head.test) (arms_of found.arms) found.last

abbrev pub select_with : Token → List Item → Head → Option Tree
select_with word rest head = option_map (select_of word head) (arms_items false rest)

abbrev pub select_items : Token → Front → Option Tree
select_items word front = option_and_then (select_with word front.rest) front.first.found.head

abbrev pub method_statement : Token → MethodFound → Tree
method_statement word method =
    method_tree word (parameters_of method.found method.results) (body_of method.trees)

-- the statement between a word and its `end`
abbrev pub statement_items : Keyword → Token → List Item → Option Tree
statement_items keywords.Begin word items =
    option_map (begin_of word) (body_items splittings.Nothing items)
statement_items (keywords.Guard guard) word items =
    option_and_then (guarded_items guard word) (tested items)
statement_items keywords.If word items = option_and_then (if_items word) (tested items)
statement_items keywords.Case word items = option_map (case_of word) (arms_items true items)
statement_items keywords.Select word items = option_and_then (select_items word) (headed items)
statement_items keywords.Block word items = option_and_then (block_items word) (headed items)
statement_items keywords.For word items = option_and_then (for_statement word) (headed items)
statement_items keywords.Define word items = None
statement_items keywords.Method word items = option_map (method_statement word) (method_items items)

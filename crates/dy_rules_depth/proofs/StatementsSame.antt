-- Statements are read the same to the limit, whatever stands in the place of trees that are too deep.
use Rattle.std.proofs.Common.{◌≡◌, true, false, List, [], ◌∷◌, map, Option, option_map, option_and_then, refl, sym, ap, ◌∙◌}
use Rattle.dy_tree.specs.declared.token.Token.{Token}
use Rattle.dy_tree.specs.Fragments.{SeenFragment, one, group}
use Rattle.dy_tree.specs.declared.brackets.Guard.{Guard}
use Rattle.dy_tree.specs.declared.brackets.Keyword.{Keyword}
use Rattle.dy_tree.specs.declared.brackets.Keyword.TheVariants as keywords
use Rattle.dy_tree.specs.declared.brackets.Bracket.{Bracket}
use Rattle.dy_tree.specs.declared.brackets.Bracket.TheVariants as brackets
use Rattle.dy_tree.specs.declared.splitters.Splitting.TheVariants as splittings
use Rattle.dy_tree.specs.declared.splitters.Splitter.{Splitter}
use Rattle.dy_tree.specs.declared.splitters.Splitter.TheVariants as splitters
use Rattle.dy_rules.specs.Trees.{Tree, maybe_of, arms_of, ItemTree, body_of, alternatives_of, otherwise, parameters_of}
use Rattle.dy_rules.specs.Roles.{bracket_of}
use Rattle.dy_rules.specs.Cutting.{Head, Item, Piece, Pieces, is_splitter, cut, Front, headed, word_of, MethodFound}
use Rattle.dy_rules.specs.Bodies.{body_items}
use Rattle.dy_rules.specs.Choices.{Choices, arms_items}
use Rattle.dy_rules.specs.Blocks.{block_items}
use Rattle.dy_rules.specs.Loops.{for_statement}
use Rattle.dy_rules.specs.Signatures.{method_items}
use Rattle.dy_rules.specs.StatementReading.{Tested, tested_by, tested_in, tested_at, tested, Others, by_body, with_alternative, with_body, with_test, if_last, other_at, others_of, begin_of, guarded_of, guarded_items, if_of, if_body, if_pieces, if_items, case_of, select_of, select_with, select_items, method_statement, statement_items}
use Rattle.dy_rules_depth.specs.Changes.{changed_item}
use Rattle.dy_rules_depth.specs.ReaderChanges.{changed_head, changed_method_found, changed_items, changed_piece, changed_pieces, changed_front, changed_tested, changed_others, changed_choices}
use Rattle.dy_rules_depth.specs.Capping.{capped, capping}
use Rattle.dy_rules_depth.proofs.Same.{SameTree, SameTrees}
use Rattle.dy_rules_depth.proofs.Options.{option_twice, map_same, then_same, then_on}
use Rattle.dy_rules_depth.proofs.Twice.{tree_twice, head_twice, items_twice}
use Rattle.dy_rules_depth.proofs.SameNodes.{same_begin, same_if, same_guarded, same_case, same_select, same_method}
use Rattle.dy_rules_depth.proofs.Rows.{body_changed, alternatives_changed, arms_changed, maybe_changed, method_changed}
use Rattle.dy_rules_depth.proofs.CutsSame.{cut_changed, headed_changed, Reads, reads_on}
use Rattle.dy_rules_depth.proofs.BodiesSame.{body_same}
use Rattle.dy_rules_depth.proofs.ChoicesSame.{arms_same}
use Rattle.dy_rules_depth.proofs.BlocksSame.{block_same}
use Rattle.dy_rules_depth.proofs.LoopsSame.{for_same}
use Rattle.dy_rules_depth.proofs.MethodsSame.{method_same}

-- an expression in brackets

tested_by_same : (rest : List Item) (test other : Tree) → capped test ≡ capped other → changed_tested capping (tested_by (changed_items capping rest) test) ≡ changed_tested capping (tested_by rest other)
tested_by_same rest test other e = cc (items_twice rest)

tested_in_same : (bracket : Bracket) (tree other : Option Tree) (rest : List Item) → SameTree tree other → option_map (changed_tested capping) (tested_in bracket tree (changed_items capping rest)) ≡ option_map (changed_tested capping) (tested_in bracket other rest)
tested_in_same brackets.Round tree other rest e = map_same capped (changed_tested capping) (tested_by (changed_items capping rest)) (tested_by rest) tree other (tested_by_same rest) e
tested_in_same bracket tree other rest e = refl

tested_at_same : (fragment : SeenFragment) (tree other : Option Tree) (rest : List Item) → SameTree tree other
    → option_map (changed_tested capping) (tested_at fragment tree (changed_items capping rest)) ≡ option_map (changed_tested capping) (tested_at fragment other rest)
tested_at_same (one token) tree other rest e = refl
tested_at_same (group opener inner closer) tree other rest e = tested_in_same (bracket_of opener closer) tree other rest e

pub tested_same : Reads (changed_tested capping) tested
tested_same [] = refl
tested_same (item ∷ rest) = tested_at_same item.fragment (option_map capped item.found.tree) item.found.tree rest (option_twice capped tree_twice item.found.tree)

-- the alternatives of an `if`

abbrev SameOthers : Option Others → Option Others → Type 0
SameOthers found other = option_map (changed_others capping) found ≡ option_map (changed_others capping) other

pub by_body_same : (trees others : List ItemTree) → SameTrees trees others → changed_others capping (by_body trees) ≡ changed_others capping (by_body others)
by_body_same trees others e = ap (λ body. record { trees = []; last = otherwise body }) (body_changed trees others e)

pub with_alternative_same : (test other : Tree) → capped test ≡ capped other → (trees rows : List ItemTree) → SameTrees trees rows → (others rest : Others) → changed_others capping others ≡ changed_others capping rest
    → changed_others capping (with_alternative test trees others) ≡ changed_others capping (with_alternative other rows rest)
with_alternative_same test other e trees rows f others rest g = cc (body_changed trees rows f, ap (λ (o : Others). o.trees) g, ap (λ (o : Others). o.last) g)

with_body_same : (test other : Tree) → capped test ≡ capped other → (others rest : Option Others) → SameOthers others rest → (trees rows : List ItemTree) → SameTrees trees rows → SameOthers (with_body test others trees) (with_body other rest rows)
with_body_same test other e others rest g trees rows f = map_same (changed_others capping) (changed_others capping) (with_alternative test trees) (with_alternative other rows) others rest (with_alternative_same test other e trees rows f) g

with_test_same : (others rest : Option Others) → SameOthers others rest → (head more : Tested) → changed_tested capping head ≡ changed_tested capping more → SameOthers (with_test others head) (with_test rest more)
with_test_same others rest g head more e =
    then_same (map (changed_item capping)) (changed_others capping) (with_body head.test others) (with_body more.test rest) (body_items splittings.Branches head.rest) (body_items splittings.Branches more.rest)
    (with_body_same head.test more.test (ap (λ (t : Tested). t.test) e) others rest g) (reads_on (map (changed_item capping)) (body_items splittings.Branches) (body_same splittings.Branches) head.rest more.rest (ap (λ (t : Tested). t.rest) e))

if_last_same : (behind : List Piece) (found other : Option Others) → SameOthers found other → SameOthers (if_last (map (changed_piece capping) behind) found) (if_last behind other)
if_last_same [] found other e = e
if_last_same (piece ∷ behind) found other e = refl

other_at_same : (word : Splitter) (items : List Item) (behind : List Piece) (rest more : Option Others) → SameOthers rest more → SameOthers (other_at word (changed_items capping items) (map (changed_piece capping) behind) rest) (other_at word items behind more)
other_at_same splitters.Else items behind rest more e =
    if_last_same behind (option_map by_body (body_items splittings.Branches (changed_items capping items))) (option_map by_body (body_items splittings.Branches items))
    (map_same (map (changed_item capping)) (changed_others capping) by_body by_body (body_items splittings.Branches (changed_items capping items)) (body_items splittings.Branches items) by_body_same (body_same splittings.Branches items))
other_at_same splitters.Elseif items behind rest more e =
    then_same (changed_tested capping) (changed_others capping) (with_test rest) (with_test more) (tested (changed_items capping items)) (tested items) (with_test_same rest more e) (tested_same items)
other_at_same word items behind rest more e = refl

pub others_same : (pieces : List Piece) → SameOthers (others_of (map (changed_piece capping) pieces)) (others_of pieces)
others_same [] = refl
others_same (piece ∷ behind) = other_at_same (word_of piece.separator) piece.items behind (others_of (map (changed_piece capping) behind)) (others_of behind) (others_same behind)

-- trees of statements

pub begin_of_same : (word : Token) (trees others : List ItemTree) → SameTrees trees others → capped (begin_of word trees) ≡ capped (begin_of word others)
begin_of_same word trees others e = same_begin word (body_of trees) (body_of others) (body_changed trees others e)

pub guarded_of_same : (guard : Guard) (word : Token) (test other : Tree) → capped test ≡ capped other → (trees others : List ItemTree) → SameTrees trees others → capped (guarded_of guard word test trees) ≡ capped (guarded_of guard word other others)
guarded_of_same guard word test other e trees others f = same_guarded guard word test other (body_of trees) (body_of others) e (body_changed trees others f)

pub if_of_same : (word : Token) (test other : Tree) → capped test ≡ capped other → (trees rows : List ItemTree) → SameTrees trees rows → (others rest : Others) → changed_others capping others ≡ changed_others capping rest
    → capped (if_of word test trees others) ≡ capped (if_of word other rows rest)
if_of_same word test other e trees rows f others rest g =
    same_if word test other (body_of trees) (body_of rows) (alternatives_of others.trees) (alternatives_of rest.trees) others.last rest.last e (body_changed trees rows f)
    (alternatives_changed others.trees rest.trees (ap (λ (o : Others). o.trees) g)) (ap (λ (o : Others). o.last) g)

pub case_of_same : (word : Token) (found other : Choices) → changed_choices capping found ≡ changed_choices capping other → capped (case_of word found) ≡ capped (case_of word other)
case_of_same word found other e = same_case word (arms_of found.arms) (arms_of other.arms) found.last other.last (arms_changed found.arms other.arms (ap (λ (c : Choices). c.arms) e)) (ap (λ (c : Choices). c.last) e)

pub select_of_same : (word : Token) (head more : Head) → changed_head capping head ≡ changed_head capping more → (found other : Choices) → changed_choices capping found ≡ changed_choices capping other → capped (select_of word head found) ≡ capped (select_of word more other)
select_of_same word head more e found other f =
    same_select word head.selected more.selected (maybe_of head.test) (maybe_of more.test) (arms_of found.arms) (arms_of other.arms) found.last other.last (ap (λ (h : Head). h.selected) e) (maybe_changed head.test more.test (ap (λ (h : Head). h.test) e))
    (arms_changed found.arms other.arms (ap (λ (c : Choices). c.arms) f)) (ap (λ (c : Choices). c.last) f)

pub method_statement_same : (word : Token) (method other : MethodFound) → changed_method_found capping method ≡ changed_method_found capping other → capped (method_statement word method) ≡ capped (method_statement word other)
method_statement_same word method other e =
    let (signature, body) = method_changed method other e in same_method word (parameters_of method.found method.results) (parameters_of other.found other.results) (body_of method.trees) (body_of other.trees) signature body

-- statements

guarded_same : (guard : Guard) (word : Token) (head other : Tested) → changed_tested capping head ≡ changed_tested capping other → SameTree (guarded_items guard word head) (guarded_items guard word other)
guarded_same guard word head other e =
    map_same (map (changed_item capping)) capped (guarded_of guard word head.test) (guarded_of guard word other.test) (body_items splittings.Nothing head.rest) (body_items splittings.Nothing other.rest) (guarded_of_same guard word head.test other.test (ap (λ (t : Tested). t.test) e))
    (reads_on (map (changed_item capping)) (body_items splittings.Nothing) (body_same splittings.Nothing) head.rest other.rest (ap (λ (t : Tested). t.rest) e))

if_body_same : (word : Token) (test other : Tree) → capped test ≡ capped other → (others rest : Option Others) → SameOthers others rest → (trees rows : List ItemTree) → SameTrees trees rows → SameTree (if_body word test others trees) (if_body word other rest rows)
if_body_same word test other e others rest g trees rows f = map_same (changed_others capping) capped (if_of word test trees) (if_of word other rows) others rest (if_of_same word test other e trees rows f) g

if_pieces_same : (word : Token) (test other : Tree) → capped test ≡ capped other → (pieces : Pieces) → SameTree (if_pieces word test (changed_pieces capping pieces)) (if_pieces word other pieces)
if_pieces_same word test other e pieces =
    then_same (map (changed_item capping)) capped (if_body word test (others_of (map (changed_piece capping) pieces.others))) (if_body word other (others_of pieces.others)) (body_items splittings.Branches (changed_items capping pieces.first)) (body_items splittings.Branches pieces.first)
    (if_body_same word test other e (others_of (map (changed_piece capping) pieces.others)) (others_of pieces.others) (others_same pieces.others)) (body_same splittings.Branches pieces.first)

abbrev if_behind : Token → Tree → List Item → Option Tree
if_behind word test rest = if_pieces word test (cut (is_splitter splittings.Branches) false rest)

if_behind_on : (word : Token) (test other : Tree) → capped test ≡ capped other → (rest : List Item) → SameTree (if_behind word test (changed_items capping rest)) (if_behind word other rest)
if_behind_on word test other e rest =
    ap (λ (pieces : Pieces). option_map capped (if_pieces word test pieces)) (cut_changed capping (is_splitter splittings.Branches) false rest) ∙ if_pieces_same word test other e (cut (is_splitter splittings.Branches) false rest)

if_items_same : (word : Token) (head other : Tested) → changed_tested capping head ≡ changed_tested capping other → SameTree (if_items word head) (if_items word other)
if_items_same word head other e =
    sym (if_behind_on word head.test head.test refl head.rest) ∙ ap (λ (rest : List Item). option_map capped (if_behind word head.test rest)) (ap (λ (t : Tested). t.rest) e)
    ∙ if_behind_on word head.test other.test (ap (λ (t : Tested). t.test) e) other.rest

select_with_same : (word : Token) (rest : List Item) (head other : Head) → changed_head capping head ≡ changed_head capping other → SameTree (select_with word (changed_items capping rest) head) (select_with word rest other)
select_with_same word rest head other e =
    map_same (changed_choices capping) capped (select_of word head) (select_of word other) (arms_items false (changed_items capping rest)) (arms_items false rest) (select_of_same word head other e) (arms_same false rest)

select_same : (word : Token) (front : Front) → SameTree (select_items word (changed_front capping front)) (select_items word front)
select_same word front =
    then_same (changed_head capping) capped (select_with word (changed_items capping front.rest)) (select_with word front.rest) (option_map (changed_head capping) front.first.found.head) front.first.found.head (select_with_same word front.rest)
    (option_twice (changed_head capping) head_twice front.first.found.head)

fronts_same : (read : Front → Option Tree) → ((front : Front) → SameTree (read (changed_front capping front)) (read front)) → Reads capped (λ items. option_and_then read (headed items))
fronts_same read h items = ap (λ (front : Option Front). option_map capped (option_and_then read front)) (headed_changed capping items) ∙ then_on (changed_front capping) capped read read (headed items) h

pub statement_same : (kind : Keyword) (word : Token) → Reads capped (statement_items kind word)
statement_same keywords.Begin word items = map_same (map (changed_item capping)) capped (begin_of word) (begin_of word) (body_items splittings.Nothing (changed_items capping items)) (body_items splittings.Nothing items) (begin_of_same word) (body_same splittings.Nothing items)
statement_same (keywords.Guard guard) word items = then_same (changed_tested capping) capped (guarded_items guard word) (guarded_items guard word) (tested (changed_items capping items)) (tested items) (guarded_same guard word) (tested_same items)
statement_same keywords.If word items = then_same (changed_tested capping) capped (if_items word) (if_items word) (tested (changed_items capping items)) (tested items) (if_items_same word) (tested_same items)
statement_same keywords.Case word items = map_same (changed_choices capping) capped (case_of word) (case_of word) (arms_items true (changed_items capping items)) (arms_items true items) (case_of_same word) (arms_same true items)
statement_same keywords.Select word items = fronts_same (select_items word) (select_same word) items
statement_same keywords.Block word items = fronts_same (block_items word) (block_same word) items
statement_same keywords.For word items = fronts_same (for_statement word) (for_same word) items
statement_same keywords.Define word items = refl
statement_same keywords.Method word items = map_same (changed_method_found capping) capped (method_statement word) (method_statement word) (method_items (changed_items capping items)) (method_items items) (method_statement_same word) (method_same items)

-- The alternatives of an `if` are read one after the other.
use Rattle.std.proofs.Common.{◌≡◌, ◌==◌, ◌+◌, true, false, ℕ, max, List, [], ◌∷◌, ◌++◌, length, map, Option, Some, None, option_map, option_and_then, refl, sym, ap, ◌∙◌, append_assoc, arith}
use Rattle.std.proofs.lemmas.Bool.{eqb-true}
use Rattle.std.proofs.lemmas.List.{append-nil}
use Rattle.std.specs.Global.{Vec}
use Rattle.dy_tree.specs.declared.expression.Alternative.{Alternative}
use Rattle.dy_tree.specs.declared.expression.Item.{Item}
use Rattle.dy_tree.specs.declared.token.Token.{Token}
use Rattle.dy_tree.specs.declared.splitters.Splitting.TheVariants as splittings
use Rattle.dy_tree.specs.declared.splitters.Splitter.{Splitter}
use Rattle.dy_tree.specs.declared.splitters.Splitter.TheVariants as splitters
use Rattle.dy_rules.specs.Bodies.{body_items}
use Rattle.dy_rules.specs.Cutting as cutting
use Rattle.dy_rules.specs.Cutting.{Piece, Pieces, is_splitter, cut, word_of}
use Rattle.dy_rules.specs.Depth.{alternative_depth, alternatives_depth}
use Rattle.dy_rules.specs.SeenForms.{seen_item}
use Rattle.dy_rules.specs.StatementReading as reading
use Rattle.dy_rules.specs.StatementReading.{Tested, tested_by, tested, Others, by_body, with_body, with_test, if_last, other_at, if_of, if_body, if_items}
use Rattle.dy_rules.specs.Trees as trees
use Rattle.dy_rules.specs.Trees.{Tree, ItemTree, if_tree, body_of, alternatives_of, alternative, otherwise}
use Rattle.dy_rules_depth.specs.Changes.{changed_alternatives, changed_otherwise}
use Rattle.dy_rules_depth.specs.Capping.{capped, capping, filled, filling}
use Rattle.dy_rules_depth.specs.ReaderChanges.{changed_others}
use Rattle.dy_rules_depth.proofs.Options.{map_twice}
use Rattle.dy_rules_depth.proofs.Rows.{row_body}
use Rattle.dy_rules_depth.proofs.StatementsSame.{if_of_same}
use Rattle.dy_rules_depth.proofs.Twice.{tree_twice, body_twice}
use Rattle.dy_read_statements.specs.Branches.{branch_of, capped_other, capped_others}
use Rattle.dy_read_statements.specs.FilledInside.{filled_inside}
use Rattle.dy_rules.specs.Held.{held_alternative, held_last}
use Rattle.dy_read_statements.specs.ReadBranches.{read_alternative, others_of, alternative_of, alternative_behind, alternative_items, capped_alternative, others_before, others_behind, others_with, LastDepth, capped_if}
use Rattle.dy_read_arms.specs.ReadBodies.{read_last, read_list}
use Rattle.dy_read_arms.specs.ReadItems.{capped_items}
use Rattle.dy_read_arms.specs.BodyDepths.{BodyDepth}
use Rattle.dy_read_statements.specs.ReadStatements.{both, all_three}
use Rattle.dy_read_statements.specs.declared.branch.Branch.{Branch}
use Rattle.dy_read_statements.specs.declared.branch.Branch.TheVariants as branch
use Rattle.dy_read_statements.proofs.Statements.{trees_twice}

-- an `if` as it lies in memory

alternatives_filled : (list : List Alternative) → changed_alternatives filling (alternatives_of (map held_alternative list)) ≡ alternatives_of (map read_alternative list)
alternatives_filled [] = refl
alternatives_filled (first ∷ rest) = cc (row_body filling (map seen_item first.body.items), alternatives_filled rest)

pub last_filled : (last : Option (Vec Item)) → changed_otherwise filling (held_last last) ≡ read_last last
last_filled None = refl
last_filled (Some body) = ap otherwise (row_body filling (map seen_item body.items))

-- how deep an `if` is, whose parts are so deep
pub if_deep : (t b o n i j : ℕ) → n ≡ 1 + max (max t b) o → i ≡ max t b → j ≡ max i o → n ≡ 1 + j
if_deep t b o n i j e f g = omega arith

pub if_filled : (tree : Tree) (word copy : Token) (boxed test : Tree) (items : List Item) (list : List Alternative) (last : Option (Vec Item)) → tree ≡ if_tree copy boxed (body_of (map seen_item items)) (alternatives_of (map held_alternative list)) (held_last last)
    → copy ≡ word → boxed ≡ test → filled_inside tree ≡ if_of word (filled test) (read_list items) (others_of list last)
if_filled tree word copy boxed test items list last e is same = ap filled_inside e ∙ cc (row_body filling (map seen_item items), alternatives_filled list, last_filled last, is, same)

-- an alternative

alternative_body : (test : Tree) (found : Option (List ItemTree)) → both alternative_of (Some (capped test)) (option_map capped_items found) ≡ option_map capped_alternative (option_map (alternative_of test) found)
alternative_body test None = refl
alternative_body test (Some body) = ap (λ it. Some (alternative (capped test) it)) (sym (row_body capping body))

pub alternative_through : (test : Option Tree) (rest : List cutting.Item)
    → both alternative_of (option_map capped test) (option_map capped_items (body_items splittings.Branches rest)) ≡ option_map capped_alternative (option_and_then alternative_behind (option_map (tested_by rest) test))
alternative_through None rest = refl
alternative_through (Some test) rest = alternative_body test (body_items splittings.Branches rest)

-- the alternatives to the limit

last_capped : (behind : List Piece) (found : Option (List ItemTree)) → option_map (changed_others capping) (if_last behind (option_map by_body found)) ≡ if_last behind (option_map by_body (option_map capped_items found))
last_capped [] None = refl
last_capped [] (Some body) = ap (λ it. Some (record { trees = []; last = otherwise it })) (row_body capping body)
last_capped (piece ∷ behind) found = refl

more_capped : (test : Tree) (rest : Option Others) (found : Option (List ItemTree))
    → option_map (changed_others capping) (option_and_then (with_body test rest) found) ≡ option_and_then (others_behind (option_map (changed_others capping) rest)) (option_map capped_alternative (option_map (alternative_of test) found))
more_capped test rest None = refl
more_capped test None (Some body) = refl
more_capped test (Some others) (Some body) = refl

test_capped : (rest : Option Others) (found : Option Tested)
    → option_map (changed_others capping) (option_and_then (with_test rest) found) ≡ option_and_then (others_behind (option_map (changed_others capping) rest)) (option_map capped_alternative (option_and_then alternative_behind found))
test_capped rest None = refl
test_capped rest (Some head) = more_capped head.test rest (body_items splittings.Branches head.rest)

other_capped : (word : Splitter) (items : List cutting.Item) (behind : List Piece) (rest : Option Others) → option_map (changed_others capping) (other_at word items behind rest) ≡ capped_other (branch_of word) items behind (option_map (changed_others capping) rest)
other_capped splitters.Else items behind rest = last_capped behind (body_items splittings.Branches items)
other_capped splitters.Elseif items behind rest = test_capped rest (tested items)
other_capped word items behind rest = refl

pub others_capped : (pieces : List Piece) → option_map (changed_others capping) (reading.others_of pieces) ≡ capped_others pieces
others_capped [] = refl
others_capped (piece ∷ behind) =
    other_capped (word_of piece.separator) piece.items behind (reading.others_of behind) ∙ ap (capped_other (branch_of (word_of piece.separator)) piece.items behind) (others_capped behind)

-- one alternative after the other

pub before_none : (found : Option Others) → found ≡ option_map (others_before []) found
before_none None = refl
before_none (Some others) = refl

more_before : (before after : List trees.Alternative) (next : trees.Alternative) (found : Option Others) → after ≡ before ++ next ∷ [] → option_map (others_before before) (option_map (others_before (next ∷ [])) found) ≡ option_map (others_before after) found
more_before before after next None e = refl
more_before before after next (Some others) e = rw e (ap (λ (list : List trees.Alternative). Some (record { trees = list; last = others.last })) (sym (append_assoc before (next ∷ []) others.trees)))

module _ (before : List trees.Alternative) (piece : Piece) (behind : List Piece) where
  abbrev found : Option Others
  found = option_map (others_before before) (capped_others (piece ∷ behind))

  at_branch : (here : Branch) → here ≡ branch_of (word_of piece.separator) → found ≡ option_map (others_before before) (capped_other here piece.items behind (capped_others behind))
  at_branch here is = ap (λ (it : Branch). option_map (others_before before) (capped_other it piece.items behind (capped_others behind))) (sym is)

  pub another : (after : List trees.Alternative) (next : trees.Alternative) → branch.Elseif ≡ branch_of (word_of piece.separator) → Some next ≡ option_map capped_alternative (alternative_items piece.items) → after ≡ before ++ next ∷ []
      → found ≡ option_map (others_before after) (capped_others behind)
  another after next is e more =
      at_branch branch.Elseif is ∙ ap (λ (it : Option trees.Alternative). option_map (others_before before) (option_and_then (others_behind (capped_others behind)) it)) (sym e) ∙ more_before before after next (capped_others behind) more

  pub none_read : branch.Elseif ≡ branch_of (word_of piece.separator) → None ≡ option_map capped_alternative (alternative_items piece.items) → None ≡ found
  none_read is e = sym (at_branch branch.Elseif is ∙ ap (λ (it : Option trees.Alternative). option_map (others_before before) (option_and_then (others_behind (capped_others behind)) it)) (sym e))

  pub none_begins : branch.Absent ≡ branch_of (word_of piece.separator) → None ≡ found
  none_begins is = sym (at_branch branch.Absent is)

-- where no alternative is left
pub all_read : (before : List trees.Alternative) → Some (record { trees = before; last = trees.no_otherwise }) ≡ option_map (others_before before) (capped_others [])
all_read before = ap (λ (list : List trees.Alternative). Some (record { trees = list; last = trees.no_otherwise })) (sym (append-nil before))

pub alternatives_more : (list : List trees.Alternative) (next : trees.Alternative) → alternatives_depth (alternatives_of (list ++ next ∷ [])) ≡ max (alternatives_depth (alternatives_of list)) (alternative_depth next)
alternatives_more [] next = omega arith
alternatives_more (first ∷ rest) next = let more = alternatives_more rest next in omega arith

last_followed : (before : List trees.Alternative) (behind : List Piece) (found : Option Others) → false ≡ (length behind == 0) → option_map (others_before before) (if_last behind found) ≡ None
last_followed before [] found e = absurd cc
last_followed before (piece ∷ behind) found e = refl

last_alone : (before : List trees.Alternative) (behind : List Piece) (found : Option (List ItemTree)) → true ≡ (length behind == 0) → option_map (others_with before) found ≡ option_map (others_before before) (if_last behind (option_map by_body found))
last_alone before [] None e = refl
last_alone before [] (Some body) e = ap (λ (list : List trees.Alternative). Some (record { trees = list; last = otherwise (body_of body) })) (sym (append-nil before))
last_alone before (piece ∷ behind) found e = absurd (omega (arith, eqb-true (length (piece ∷ behind)) 0 (sym e)))

module _ (before : List trees.Alternative) (piece : Piece) (behind : List Piece) (is : branch.Else ≡ branch_of (word_of piece.separator)) where
  pub not_last : false ≡ (length behind == 0) → None ≡ option_map (others_before before) (capped_others (piece ∷ behind))
  not_last e = sym (at_branch before piece behind branch.Else is ∙ last_followed before behind (option_map by_body (option_map capped_items (body_items splittings.Branches piece.items))) e)

  pub at_last : true ≡ (length behind == 0) → option_map (others_with before) (option_map capped_items (body_items splittings.Branches piece.items)) ≡ option_map (others_before before) (capped_others (piece ∷ behind))
  at_last e = last_alone before behind (option_map capped_items (body_items splittings.Branches piece.items)) e ∙ sym (at_branch before piece behind branch.Else is)

-- how deep it is with the last body
pub last_depths : (n m : ℕ) (list : List Alternative) (last : Option (Vec Item)) → n ≡ alternatives_depth (alternatives_of (map read_alternative list)) → BodyDepth n m last → LastDepth m list last
last_depths n m list None e f = tt
last_depths n m list (Some body) e f = omega arith

-- the whole of it

alternative_twice : (form : trees.Alternative) → capped_alternative (capped_alternative form) ≡ capped_alternative form
alternative_twice (alternative test body) = cc (tree_twice test, body_twice body)

pub otherwise_twice : (last : trees.Otherwise) → changed_otherwise capping (changed_otherwise capping last) ≡ changed_otherwise capping last
otherwise_twice trees.no_otherwise = refl
otherwise_twice (otherwise body) = ap otherwise (body_twice body)

others_twice : (others : Others) → changed_others capping (changed_others capping others) ≡ changed_others capping others
others_twice others = rw (map_twice capped_alternative alternative_twice others.trees, otherwise_twice others.last) refl

if_others : (word : Token) (test : Tree) (body : List ItemTree) (found : Option Others) → all_three (capped_if word) (Some (capped test)) (Some (capped_items body)) (option_map (changed_others capping) found) ≡ option_map capped (option_map (if_of word test body) found)
if_others word test body None = refl
if_others word test body (Some others) = ap Some (if_of_same word (capped test) test (tree_twice test) (capped_items body) body (trees_twice body) (changed_others capping others) others (others_twice others))

if_trees : (word : Token) (test : Tree) (body : Option (List ItemTree)) (found : Option Others)
    → all_three (capped_if word) (Some (capped test)) (option_map capped_items body) (option_map (changed_others capping) found) ≡ option_map capped (option_and_then (if_body word test found) body)
if_trees word test None found = refl
if_trees word test (Some body) found = if_others word test body found

pub all_are : {A B C D : Type 0} (make : A → B → C → D) {first other : Option A} {second rest : Option B} {third more : Option C} → first ≡ other → second ≡ rest → third ≡ more → all_three make first second third ≡ all_three make other rest more
all_are make e f g = cc (e, f, g)

abbrev pieces_of : List cutting.Item → Pieces
pieces_of rest = cut (is_splitter splittings.Branches) false rest

pub if_through : (word : Token) (test : Option Tree) (rest : List cutting.Item)
    → all_three (capped_if word) (option_map capped test) (option_map capped_items (body_items splittings.Branches (pieces_of rest).first)) (capped_others (pieces_of rest).others) ≡ option_map capped (option_and_then (if_items word) (option_map (tested_by rest) test))
if_through word None rest = refl
if_through word (Some test) rest =
    ap (all_three (capped_if word) (Some (capped test)) (option_map capped_items (body_items splittings.Branches (pieces_of rest).first))) (sym (others_capped (pieces_of rest).others))
    ∙ if_trees word test (body_items splittings.Branches (pieces_of rest).first) (reading.others_of (pieces_of rest).others)

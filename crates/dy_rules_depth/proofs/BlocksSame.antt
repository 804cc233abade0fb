-- The clauses of a block are read the same to the limit, whatever stands in the place of trees that are too deep.
use Rattle.std.proofs.Common.{◌≡◌, Bool, true, false, List, [], ◌∷◌, map, Option, Some, None, option_map, option_and_then, refl, ap, ◌∙◌}
use Rattle.dy_tree.specs.declared.token.Token.{Token}
use Rattle.dy_tree.specs.Fragments.{SeenFragment, one, group}
use Rattle.dy_tree.specs.declared.roles.Role.{Role}
use Rattle.dy_tree.specs.declared.roles.Role.TheVariants as roles
use Rattle.dy_tree.specs.declared.splitters.Splitting.TheVariants as splittings
use Rattle.dy_tree.specs.declared.splitters.Splitter.{Splitter}
use Rattle.dy_tree.specs.declared.splitters.Splitter.TheVariants as splitters
use Rattle.dy_rules.specs.Types.{TypeTree}
use Rattle.dy_rules.specs.Trees.{ItemTree, body_of, BlockClause, afterwards_clause, cleanup_clause, exception_clause, block_clauses_of}
use Rattle.dy_rules.specs.Roles.{role_of}
use Rattle.dy_rules.specs.Productions.{is_afterwards, is_cleanup, suit_block}
use Rattle.dy_rules.specs.Cutting.{Caught, Item, Piece, Pieces, is_splitter, cut, Front, headed, word_of}
use Rattle.dy_rules.specs.TypeReading.{type_items, is_colons}
use Rattle.dy_rules.specs.Bodies.{body_items}
use Rattle.dy_rules.specs.Blocks.{caught_of, caught_named, caught_with, caught_if, caught_items, exit_inside, afterwards_of, cleanup_of, exception_of, exception_with, exception_items, block_clause_at, block_clauses_in, block_if, block_suits, block_body, block_pieces, block_items}
use Rattle.dy_rules.proofs.Lists.{any_as}
use Rattle.dy_rules_depth.specs.Changes.{changed_item, changed_clause}
use Rattle.dy_rules_depth.specs.ReaderChanges.{changed_caught, changed_item_of, changed_items, changed_piece, changed_pieces, changed_front}
use Rattle.dy_rules_depth.specs.Capping.{capped, capped_type, capping}
use Rattle.dy_rules_depth.proofs.Same.{SameTree, SameTrees}
use Rattle.dy_rules_depth.proofs.Options.{lifted, option_twice, map_same, then_same, then_on}
use Rattle.dy_rules_depth.proofs.Twice.{caught_twice}
use Rattle.dy_rules_depth.proofs.SameNodes.{same_block}
use Rattle.dy_rules_depth.proofs.Rows.{body_changed, clauses_changed}
use Rattle.dy_rules_depth.proofs.CutsSame.{cut_changed, headed_changed, Reads, with_others_same}
use Rattle.dy_rules_depth.proofs.TypesSame.{type_same}
use Rattle.dy_rules_depth.proofs.BodiesSame.{body_same}

abbrev pub SameType : Option TypeTree → Option TypeTree → Type 0
SameType type other = option_map capped_type type ≡ option_map capped_type other

abbrev pub SameCaught : Option Caught → Option Caught → Type 0
SameCaught caught other = option_map (changed_caught capping) caught ≡ option_map (changed_caught capping) other

abbrev pub SameClause : Option BlockClause → Option BlockClause → Type 0
SameClause clause other = option_map (changed_clause capping) clause ≡ option_map (changed_clause capping) other

abbrev pub SameClauses : List BlockClause → List BlockClause → Type 0
SameClauses clauses others = map (changed_clause capping) clauses ≡ map (changed_clause capping) others

-- what a clause catches

pub caught_of_same : (variable : Option Token) (condition other : TypeTree) → capped_type condition ≡ capped_type other → changed_caught capping (caught_of variable condition) ≡ changed_caught capping (caught_of variable other)
caught_of_same variable condition other e = ap (caught_of variable) e

caught_named_same : (role : Role) (token : Token) (condition other : Option TypeTree) → SameType condition other → SameCaught (caught_named role token condition) (caught_named role token other)
caught_named_same roles.Named token condition other e = map_same capped_type (changed_caught capping) (caught_of (Some token)) (caught_of (Some token)) condition other (caught_of_same (Some token)) e
caught_named_same role token condition other e = refl

caught_with_same : (fragment : SeenFragment) (condition other : Option TypeTree) → SameType condition other → SameCaught (caught_with fragment condition) (caught_with fragment other)
caught_with_same (one token) condition other e = caught_named_same (role_of token) token condition other e
caught_with_same (group opener inner closer) condition other e = refl

plain_same : (items : List Item) → SameCaught (option_map (caught_of None) (type_items (changed_items capping items))) (option_map (caught_of None) (type_items items))
plain_same items = map_same capped_type (changed_caught capping) (caught_of None) (caught_of None) (type_items (changed_items capping items)) (type_items items) (caught_of_same None) (type_same items)

caught_if_same : (is : Bool) (first second : Item) (rest : List Item) → SameCaught (caught_if is (changed_item_of capping first) (changed_item_of capping second) (changed_items capping rest)) (caught_if is first second rest)
caught_if_same true first second rest = caught_with_same first.fragment (type_items (changed_items capping rest)) (type_items rest) (type_same rest)
caught_if_same false first second rest = plain_same (first ∷ second ∷ rest)

pub caught_same : Reads (changed_caught capping) caught_items
caught_same [] = refl
caught_same (first ∷ []) = plain_same (first ∷ [])
caught_same (first ∷ second ∷ rest) = caught_if_same (is_colons second.fragment) first second rest

-- clauses

pub afterwards_same : (trees others : List ItemTree) → SameTrees trees others → changed_clause capping (afterwards_of trees) ≡ changed_clause capping (afterwards_of others)
afterwards_same trees others e = ap afterwards_clause (body_changed trees others e)

pub cleanup_same : (trees others : List ItemTree) → SameTrees trees others → changed_clause capping (cleanup_of trees) ≡ changed_clause capping (cleanup_of others)
cleanup_same trees others e = ap cleanup_clause (body_changed trees others e)

pub exception_same : (caught other : Caught) → changed_caught capping caught ≡ changed_caught capping other → (trees others : List ItemTree) → SameTrees trees others → changed_clause capping (exception_of caught trees) ≡ changed_clause capping (exception_of other others)
exception_same caught other e trees others f = cc (ap (λ (c : Caught). c.variable) e, ap (λ (c : Caught). c.condition) e, body_changed trees others f)

exception_with_same : (rest : List Item) (caught other : Caught) → changed_caught capping caught ≡ changed_caught capping other → SameClause (exception_with (changed_items capping rest) caught) (exception_with rest other)
exception_with_same rest caught other e =
    map_same (map (changed_item capping)) (changed_clause capping) (exception_of caught) (exception_of other) (body_items splittings.Endings (changed_items capping rest)) (body_items splittings.Endings rest) (exception_same caught other e) (body_same splittings.Endings rest)

exception_items_same : (front : Front) → SameClause (exception_items (changed_front capping front)) (exception_items front)
exception_items_same front =
    then_same (changed_caught capping) (changed_clause capping) (exception_with (changed_items capping front.rest)) (exception_with front.rest) (option_map (changed_caught capping) front.first.found.caught) front.first.found.caught
    (exception_with_same front.rest) (option_twice (changed_caught capping) caught_twice front.first.found.caught)

clause_at_same : (word : Splitter) → Reads (changed_clause capping) (block_clause_at word)
clause_at_same splitters.Afterwards items = map_same (map (changed_item capping)) (changed_clause capping) afterwards_of afterwards_of (body_items splittings.Endings (changed_items capping items)) (body_items splittings.Endings items) afterwards_same (body_same splittings.Endings items)
clause_at_same splitters.Cleanup items = map_same (map (changed_item capping)) (changed_clause capping) cleanup_of cleanup_of (body_items splittings.Endings (changed_items capping items)) (body_items splittings.Endings items) cleanup_same (body_same splittings.Endings items)
clause_at_same splitters.Exception items =
    ap (λ (front : Option Front). option_map (changed_clause capping) (option_and_then exception_items front)) (headed_changed capping items) ∙ then_on (changed_front capping) (changed_clause capping) exception_items exception_items (headed items) exception_items_same
clause_at_same word items = refl

clauses_same : (others : List Piece) → option_map (map (changed_clause capping)) (block_clauses_in (map (changed_piece capping) others)) ≡ option_map (map (changed_clause capping)) (block_clauses_in others)
clauses_same [] = refl
clauses_same (piece ∷ others) =
    with_others_same (changed_clause capping) (block_clause_at (word_of piece.separator) (changed_items capping piece.items)) (block_clause_at (word_of piece.separator) piece.items) (block_clauses_in (map (changed_piece capping) others)) (block_clauses_in others)
    (clause_at_same (word_of piece.separator) piece.items) (clauses_same others)

-- blocks

-- what suits depends on no tree
afterwards_kept : (clause : BlockClause) → is_afterwards (changed_clause capping clause) ≡ is_afterwards clause
afterwards_kept (afterwards_clause body) = refl
afterwards_kept (cleanup_clause body) = refl
afterwards_kept (exception_clause variable condition body) = refl

cleanup_kept : (clause : BlockClause) → is_cleanup (changed_clause capping clause) ≡ is_cleanup clause
cleanup_kept (afterwards_clause body) = refl
cleanup_kept (cleanup_clause body) = refl
cleanup_kept (exception_clause variable condition body) = refl

suit_on : (clauses : List BlockClause) → suit_block (map (changed_clause capping) clauses) ≡ suit_block clauses
suit_on [] = refl
suit_on (afterwards_clause body ∷ rest) = rw (any_as is_afterwards (changed_clause capping) is_afterwards afterwards_kept rest, suit_on rest) refl
suit_on (cleanup_clause body ∷ rest) = rw (any_as is_cleanup (changed_clause capping) is_cleanup cleanup_kept rest, suit_on rest) refl
suit_on (exception_clause variable condition body ∷ rest) = suit_on rest

pub suit_kept : (clauses others : List BlockClause) → SameClauses clauses others → suit_block clauses ≡ suit_block others
suit_kept clauses others e = lifted (map (changed_clause capping)) (λ b. b) suit_block suit_on clauses others e

block_if_same : (is : Bool) (word : Token) (exit : Option Token) (trees others : List ItemTree) (clauses more : List BlockClause) → SameTrees trees others → SameClauses clauses more → SameTree (block_if is word exit trees clauses) (block_if is word exit others more)
block_if_same true word exit trees others clauses more e f =
    ap Some (same_block word exit (body_of trees) (body_of others) (block_clauses_of clauses) (block_clauses_of more) (body_changed trees others e) (clauses_changed clauses more f))
block_if_same false word exit trees others clauses more e f = refl

pub block_suits_same : (word : Token) (exit : Option Token) (trees others : List ItemTree) → SameTrees trees others → (clauses more : List BlockClause) → SameClauses clauses more → SameTree (block_suits word exit trees clauses) (block_suits word exit others more)
block_suits_same word exit trees others e clauses more f =
    ap (λ (is : Bool). option_map capped (block_if is word exit trees clauses)) (suit_kept clauses more f) ∙ block_if_same (suit_block more) word exit trees others clauses more e f

block_body_same : (word : Token) (exit : Option Token) (clauses more : Option (List BlockClause)) → option_map (map (changed_clause capping)) clauses ≡ option_map (map (changed_clause capping)) more → (trees others : List ItemTree) → SameTrees trees others
    → SameTree (block_body word exit clauses trees) (block_body word exit more others)
block_body_same word exit clauses more f trees others e = then_same (map (changed_clause capping)) capped (block_suits word exit trees) (block_suits word exit others) clauses more (block_suits_same word exit trees others e) f

block_pieces_same : (word : Token) (pieces : Pieces) (exit : Option Token) → SameTree (block_pieces word (changed_pieces capping pieces) exit) (block_pieces word pieces exit)
block_pieces_same word pieces exit =
    then_same (map (changed_item capping)) capped (block_body word exit (block_clauses_in (map (changed_piece capping) pieces.others))) (block_body word exit (block_clauses_in pieces.others))
    (body_items splittings.Endings (changed_items capping pieces.first)) (body_items splittings.Endings pieces.first)
    (block_body_same word exit (block_clauses_in (map (changed_piece capping) pieces.others)) (block_clauses_in pieces.others) (clauses_same pieces.others)) (body_same splittings.Endings pieces.first)

exit_same : (word : Token) (rest : List Item) (exit : Option (Option Token))
    → SameTree (option_and_then (block_pieces word (cut (is_splitter splittings.Endings) false (changed_items capping rest))) exit) (option_and_then (block_pieces word (cut (is_splitter splittings.Endings) false rest)) exit)
exit_same word rest None = refl
exit_same word rest (Some exit) =
    ap (λ (pieces : Pieces). option_map capped (block_pieces word pieces exit)) (cut_changed capping (is_splitter splittings.Endings) false rest) ∙ block_pieces_same word (cut (is_splitter splittings.Endings) false rest) exit

pub block_same : (word : Token) (front : Front) → SameTree (block_items word (changed_front capping front)) (block_items word front)
block_same word front = exit_same word front.rest (exit_inside front.first.fragment)

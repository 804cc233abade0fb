-- What is read as a block is derived.
use Rattle.std.proofs.Common.{◌≡◌, Bool, true, false, List, [], ◌∷◌, ◌++◌, Option, Some, None, option_map, option_and_then, refl, sym, ap, subst, ◌∙◌}
use Rattle.dy_tree.specs.declared.token.Token.{Token}
use Rattle.dy_tree.specs.Fragments.{SeenFragment, one, group, SeenFragments, row}
use Rattle.dy_tree.specs.declared.roles.Role.{Role}
use Rattle.dy_tree.specs.declared.roles.Role.TheVariants as roles
use Rattle.dy_tree.specs.declared.brackets.Keyword.TheVariants as keywords
use Rattle.dy_tree.specs.declared.brackets.Bracket.TheVariants as brackets
use Rattle.dy_tree.specs.declared.splitters.Splitting.{Splitting}
use Rattle.dy_tree.specs.declared.splitters.Splitting.TheVariants as splittings
use Rattle.dy_tree.specs.declared.splitters.Splitter.{Splitter}
use Rattle.dy_tree.specs.declared.splitters.Splitter.TheVariants as splitters
use Rattle.dy_rules.specs.Types.{TypeTree, a_type, IsType}
use Rattle.dy_rules.specs.Trees.{Tree, ItemTree, BlockClause}
use Rattle.dy_rules.specs.Roles.{role_of, splitter_of, bracket_of}
use Rattle.dy_rules.specs.Productions.{IsExit, no_exit, an_exit, Catches, without_variable, with_variable, suit_block, leaf, a_body, block_clauses, Derives, block_leaf, no_block_clause, by_afterwards, by_cleanup, by_exception}
use Rattle.dy_rules.specs.Cutting.{Caught, Item, Piece, Pieces, is_splitter, cut, fragments_in, headed, word_of}
use Rattle.dy_rules.specs.TypeReading.{type_items, is_colons}
use Rattle.dy_rules.specs.Bodies.{body_items}
use Rattle.dy_rules.specs.Blocks.{caught_of, caught_named, caught_with, caught_if, caught_items, exit_token, exit_in, exit_inside, afterwards_of, cleanup_of, exception_of, exception_with, exception_items, block_clause_at, block_clauses_in, block_of, block_if, block_suits, block_body, block_pieces, block_items}
use Rattle.dy_rules.proofs.Lists.{some_one, map_some, then_some}
use Rattle.dy_rules.proofs.Sound.{ItemsSound}
use Rattle.dy_rules.proofs.Cuts.{with_both, behind_in, Separates, cut_sound}
use Rattle.dy_rules.proofs.TypeSound.{type_sound, colons_token}
use Rattle.dy_rules.proofs.BodySound.{body_sound}
use Rattle.dy_rules.proofs.HeadSound.{headed_sound, word_token}

abbrev Fragments : Type 0
Fragments = List SeenFragment

exit_token_sound : (role : Role) (token : Token) (exit : Option Token) → role_of token ≡ role → exit_token role token ≡ Some exit → IsExit exit (one token ∷ [])
exit_token_sound roles.Named token exit is e = subst (λ (x : Option Token). IsExit x (one token ∷ [])) (some_one _ _ e) (an_exit token is)
exit_token_sound role token exit is e = absurd cc

exit_sound : (fragments : Fragments) (exit : Option Token) → exit_in fragments ≡ Some exit → IsExit exit fragments
exit_sound [] exit e = subst (λ (x : Option Token). IsExit x []) (some_one _ _ e) no_exit
exit_sound (one token ∷ []) exit e = exit_token_sound (role_of token) token exit refl e
exit_sound (one token ∷ second ∷ rest) exit e = absurd cc
exit_sound (group opener inner closer ∷ rest) exit e = absurd cc

exit_inside_sound : (fragment : SeenFragment) (opener : Token) (inner : SeenFragments) (closer : Token) (exit : Option Token) → fragment ≡ group opener inner closer → exit_inside fragment ≡ Some exit → IsExit exit (row inner)
exit_inside_sound fragment opener inner closer exit is e = exit_sound (row inner) exit (sym (ap exit_inside is) ∙ e)

caught_named_sound : (role : Role) (token : Token) (condition : Option TypeTree) (caught : Caught) → caught_named role token condition ≡ Some caught → (role ≡ roles.Named) × (type : TypeTree) × (condition ≡ Some type) × (caught ≡ caught_of (Some token) type)
caught_named_sound roles.Named token condition caught e = let (type, read, same) = map_some (caught_of (Some token)) condition caught e in (refl, type, read, same)
caught_named_sound role token condition caught e = absurd cc

with_variable_of : (token sign : Token) (type : TypeTree) (caught : Caught) (first second : SeenFragment) (after : Fragments) → caught ≡ caught_of (Some token) type → first ≡ one token → second ≡ one sign → role_of token ≡ roles.Named → role_of sign ≡ roles.Colons → IsType (a_type type) after
    → Catches caught.variable caught.condition (first ∷ second ∷ after)
with_variable_of token sign type caught first second after same one_is sign_is role colon h = rw (same, one_is, sign_is) (with_variable token sign type after role colon h)

caught_with_sound : (fragment same : SeenFragment) (second : Item) (rest : List Item) (caught : Caught) → fragment ≡ same → is_colons second.fragment ≡ true → ItemsSound rest → caught_with same (type_items rest) ≡ Some caught → Catches caught.variable caught.condition (fragment ∷ second.fragment ∷ fragments_in rest)
caught_with_sound fragment (group opener inner closer) second rest caught is has h e = absurd cc
caught_with_sound fragment (one token) second rest caught is has h e =
    let (role, type, read, same) = caught_named_sound (role_of token) token (type_items rest) caught e in
    let (sign, sign_is, colon) = colons_token second.fragment has in
    with_variable_of token sign type caught fragment second.fragment (fragments_in rest) same is sign_is role colon (type_sound rest type h read)

without_sound : (list : List Item) (caught : Caught) → ItemsSound list → option_map (caught_of None) (type_items list) ≡ Some caught → Catches caught.variable caught.condition (fragments_in list)
without_sound list caught h e =
    let (type, read, same) = map_some (caught_of None) (type_items list) caught e in
    subst (λ (c : Caught). Catches c.variable c.condition (fragments_in list)) (sym same) (without_variable type (fragments_in list) (type_sound list type h read))

pub caught_sound : (list : List Item) (caught : Caught) → ItemsSound list → caught_items list ≡ Some caught → Catches caught.variable caught.condition (fragments_in list)
caught_sound [] caught h e = absurd cc
caught_sound (first ∷ []) caught h e = without_sound (first ∷ []) caught h e
caught_sound (first ∷ second ∷ rest) caught h e = go (is_colons second.fragment) refl e
  where
    go : (b : Bool) → is_colons second.fragment ≡ b → caught_if b first second rest ≡ Some caught → Catches caught.variable caught.condition (fragments_in (first ∷ second ∷ rest))
    go true is f = caught_with_sound first.fragment first.fragment second rest caught refl is h.1.1 f
    go false is f = without_sound (first ∷ second ∷ rest) caught h f

afterwards_sound : (separator : SeenFragment) (list : List Item) (clause : BlockClause) (others all : List BlockClause) (behind : Fragments) → word_of separator ≡ splitters.Afterwards → ItemsSound list → option_map afterwards_of (body_items splittings.Endings list) ≡ Some clause
    → all ≡ clause ∷ others → Derives splittings.Endings (block_clauses others) behind → Derives splittings.Endings (block_clauses all) (separator ∷ (fragments_in list ++ behind))
afterwards_sound separator list clause others all behind is h e same k =
    let (trees, read, clause_is) = map_some afterwards_of (body_items splittings.Endings list) clause e in
    let (word, one_is, role) = word_token separator splitters.Afterwards is (λ f. cc) in
    rw (same, clause_is, one_is) (by_afterwards trees others word (fragments_in list) behind _ refl role (body_sound splittings.Endings list trees h read) k)

cleanup_sound : (separator : SeenFragment) (list : List Item) (clause : BlockClause) (others all : List BlockClause) (behind : Fragments) → word_of separator ≡ splitters.Cleanup → ItemsSound list → option_map cleanup_of (body_items splittings.Endings list) ≡ Some clause
    → all ≡ clause ∷ others → Derives splittings.Endings (block_clauses others) behind → Derives splittings.Endings (block_clauses all) (separator ∷ (fragments_in list ++ behind))
cleanup_sound separator list clause others all behind is h e same k =
    let (trees, read, clause_is) = map_some cleanup_of (body_items splittings.Endings list) clause e in
    let (word, one_is, role) = word_token separator splitters.Cleanup is (λ f. cc) in
    rw (same, clause_is, one_is) (by_cleanup trees others word (fragments_in list) behind _ refl role (body_sound splittings.Endings list trees h read) k)

exception_parts : (caught : Caught) (trees : List ItemTree) (clause : BlockClause) (others all : List BlockClause) (word left : Token) (within : SeenFragments) (right : Token) (separator : SeenFragment) (list first behind : Fragments) → all ≡ clause ∷ others → clause ≡ exception_of caught trees
    → separator ≡ one word → list ≡ group left within right ∷ first → splitter_of word ≡ splitters.Exception → bracket_of left right ≡ brackets.Round → Catches caught.variable caught.condition (row within) → Derives splittings.Endings (a_body trees) first → Derives splittings.Endings (block_clauses others) behind
    → Derives splittings.Endings (block_clauses all) (separator ∷ (list ++ behind))
exception_parts caught trees clause others all word left within right separator list first behind same clause_is one_is parts role is_round c h k =
    rw (same, clause_is, one_is, parts) (by_exception caught.variable caught.condition trees others word left within right first behind _ refl role is_round c h k)

exception_sound : (separator : SeenFragment) (list : List Item) (clause : BlockClause) (others all : List BlockClause) (behind : Fragments) → word_of separator ≡ splitters.Exception → ItemsSound list → option_and_then exception_items (headed list) ≡ Some clause
    → all ≡ clause ∷ others → Derives splittings.Endings (block_clauses others) behind → Derives splittings.Endings (block_clauses all) (separator ∷ (fragments_in list ++ behind))
exception_sound separator list clause others all behind is h e same k =
    let (front, front_is, e1) = then_some exception_items (headed list) clause e in
    let (caught, caught_is, e2) = then_some (exception_with front.rest) front.first.found.caught clause e1 in
    let (trees, read, clause_is) = map_some (exception_of caught) (body_items splittings.Endings front.rest) clause e2 in
    let (word, one_is, role) = word_token separator splitters.Exception is (λ f. cc) in
    let t = headed_sound list front h front_is in
    exception_parts caught trees clause others all word t.opener t.inner t.closer separator (fragments_in list) (fragments_in front.rest) behind same clause_is one_is t.parts role t.is_round (t.inside.caught_is caught caught_is) (body_sound splittings.Endings front.rest trees t.rest_sound read) k

block_clauses_sound : (others : List Piece) (clauses : List BlockClause) → Separates (is_splitter splittings.Endings) others → block_clauses_in others ≡ Some clauses → Derives splittings.Endings (block_clauses clauses) (behind_in others)
block_clauses_sound [] clauses h e = subst (λ (c : List BlockClause). Derives splittings.Endings (block_clauses c) []) (some_one _ _ e) no_block_clause
block_clauses_sound (piece ∷ others) clauses (splits, h, k) e =
    let (clause, rest, is, more, same) = with_both (block_clause_at (word_of piece.separator) piece.items) (block_clauses_in others) clauses e in
    go clause rest (word_of piece.separator) refl is same (block_clauses_sound others rest k more)
  where
    go : (clause : BlockClause) (rest : List BlockClause) (word : Splitter) → word_of piece.separator ≡ word → block_clause_at word piece.items ≡ Some clause → clauses ≡ clause ∷ rest → Derives splittings.Endings (block_clauses rest) (behind_in others)
        → Derives splittings.Endings (block_clauses clauses) (piece.separator ∷ (fragments_in piece.items ++ behind_in others))
    go clause rest splitters.Afterwards is f same m = afterwards_sound piece.separator piece.items clause rest clauses (behind_in others) is h f same m
    go clause rest splitters.Cleanup is f same m = cleanup_sound piece.separator piece.items clause rest clauses (behind_in others) is h f same m
    go clause rest splitters.Exception is f same m = exception_sound piece.separator piece.items clause rest clauses (behind_in others) is h f same m
    go clause rest word is f same m = absurd cc

block_if_sound : (is : Bool) (word : Token) (exit : Option Token) (trees : List ItemTree) (clauses : List BlockClause) (tree : Tree) → block_if is word exit trees clauses ≡ Some tree → (is ≡ true) × (tree ≡ block_of word exit trees clauses)
block_if_sound true word exit trees clauses tree e = (refl, sym (some_one _ _ e))
block_if_sound false word exit trees clauses tree e = absurd cc

pub block_sound : (opener : Token) (inner : SeenFragments) (closer : Token) (list : List Item) (tree : Tree) → ItemsSound list → fragments_in list ≡ row inner → bracket_of opener closer ≡ brackets.Statement keywords.Block
    → option_and_then (block_items opener) (headed list) ≡ Some tree → (words : Splitting) → Derives words (leaf tree) (group opener inner closer ∷ [])
block_sound opener inner closer list tree h parts is e words =
    let (front, front_is, e1) = then_some (block_items opener) (headed list) tree e in
    let t = headed_sound list front h front_is in
    let pieces : Pieces = cut (is_splitter splittings.Endings) false front.rest in
    let c = cut_sound (is_splitter splittings.Endings) false front.rest t.rest_sound in
    let (exit, exit_is, e2) = then_some (block_pieces opener pieces) (exit_inside front.first.fragment) tree e1 in
    let (trees, read, e3) = then_some (block_body opener exit (block_clauses_in pieces.others)) (body_items splittings.Endings pieces.first) tree e2 in
    let (clauses, clauses_are, e4) = then_some (block_suits opener exit trees) (block_clauses_in pieces.others) tree e3 in
    let (suits, same) = block_if_sound (suit_block clauses) opener exit trees clauses tree e4 in
    subst (λ (x : Tree). Derives words (leaf x) (group opener inner closer ∷ [])) (sym same)
    (block_leaf words exit trees clauses opener inner closer t.opener t.inner t.closer (fragments_in pieces.first) (behind_in pieces.others) is
    (sym parts ∙ t.parts ∙ ap (λ (fs : Fragments). group t.opener t.inner t.closer ∷ fs) (sym c.same)) t.is_round (exit_inside_sound front.first.fragment t.opener t.inner t.closer exit t.first_is exit_is) suits
    (body_sound splittings.Endings pieces.first trees c.first_sound read) (block_clauses_sound pieces.others clauses c.others_sound clauses_are))

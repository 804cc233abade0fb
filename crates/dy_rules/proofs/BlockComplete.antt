-- What is derived as a block is read.
use Rattle.std.proofs.Common.{◌≡◌, Bool, true, false, List, [], ◌∷◌, ◌++◌, Option, Some, None, option_map, option_and_then, refl, sym, ap, subst, ◌∙◌}
use Rattle.dy_tree.specs.declared.token.Token.{Token}
use Rattle.dy_tree.specs.Fragments.{SeenFragment, one, group, SeenFragments, row}
use Rattle.dy_tree.specs.declared.roles.Role.{Role}
use Rattle.dy_tree.specs.declared.roles.Role.TheVariants as roles
use Rattle.dy_tree.specs.declared.brackets.Keyword.TheVariants as keywords
use Rattle.dy_tree.specs.declared.brackets.Bracket.{Bracket}
use Rattle.dy_tree.specs.declared.brackets.Bracket.TheVariants as brackets
use Rattle.dy_tree.specs.declared.splitters.Splitting.TheVariants as splittings
use Rattle.dy_tree.specs.declared.splitters.Splitter.{Splitter}
use Rattle.dy_tree.specs.declared.splitters.Splitter.TheVariants as splitters
use Rattle.dy_rules.specs.Types.{TypeTree, a_type, IsType, by_name, by_singleton, by_union, by_limits}
use Rattle.dy_rules.specs.Trees.{block_tree, ItemTree, body_of, BlockClause, afterwards_clause, cleanup_clause, exception_clause, block_clauses_of}
use Rattle.dy_rules.specs.Roles.{role_of, splitter_of, splits, bracket_of}
use Rattle.dy_rules.specs.Productions.{IsExit, no_exit, an_exit, Catches, without_variable, with_variable, suit_block}
use Rattle.dy_rules.specs.Cutting.{Caught, Piece, Pieces, is_splitter, cut, with_others, Front, front_in, headed}
use Rattle.dy_rules.specs.TypeReading.{type_items, is_colons}
use Rattle.dy_rules.specs.Blocks.{caught_of, caught_named, caught_if, caught_items, exit_in, afterwards_of, cleanup_of, exception_of, exception_with, exception_items, block_clause_at, block_clauses_in, block_if, block_suits, block_body, block_pieces, block_items}
use Rattle.dy_rules.specs.StatementReading.{statement_items}
use Rattle.dy_rules.specs.Fragments.{item_of, items_of, items_in}
use Rattle.dy_rules.proofs.Lists.{items_row}
use Rattle.dy_rules.proofs.Rows.{Behind, behind_nothing, behind_piece}
use Rattle.dy_rules.proofs.Cuts.{Closed}
use Rattle.dy_rules.proofs.TypeComplete.{type_complete, whole_type_reads}
use Rattle.dy_rules.proofs.BodyComplete.{BodyRead}

abbrev Fragments : Type 0
Fragments = List SeenFragment

exit_complete : (exit : Option Token) (fragments : Fragments) → IsExit exit fragments → exit_in fragments ≡ Some exit
exit_complete exit fragments no_exit = refl
exit_complete exit fragments (an_exit token is) = rw is refl

whole_read : (condition : TypeTree) (fragments : Fragments) → IsType (a_type condition) fragments → type_items (items_of fragments) ≡ Some condition
whole_read condition fragments h = whole_type_reads condition fragments (type_complete (a_type condition) fragments h)

without_complete : (condition : TypeTree) (fragments : Fragments) → IsType (a_type condition) fragments → caught_items (items_of fragments) ≡ Some (caught_of None condition)
without_complete condition fragments (by_name token is) = ap (option_map (caught_of None)) (whole_read condition (one token ∷ []) (by_name token is))
without_complete condition fragments (by_singleton word single opener inner closer role is is_round h) = ap (option_map (caught_of None)) (whole_read condition fragments (by_singleton word single opener inner closer role is is_round h))
without_complete condition fragments (by_union word types opener inner closer role is is_round h) = ap (option_map (caught_of None)) (whole_read condition fragments (by_union word types opener inner closer role is is_round h))
without_complete condition fragments (by_limits word class bounds opener inner closer after role is is_round parts class_role text h once) =
    ap (option_map (caught_of None)) (whole_read condition fragments (by_limits word class bounds opener inner closer after role is is_round parts class_role text h once))

named_caught : (role : Role) (token : Token) (condition : TypeTree) → role ≡ roles.Named → caught_named role token (Some condition) ≡ Some (caught_of (Some token) condition)
named_caught role token condition is = rw is refl

has_colons : (sign : Token) → role_of sign ≡ roles.Colons → is_colons (one sign) ≡ true
has_colons sign is = rw is refl

pub caught_complete : (variable : Option Token) (condition : TypeTree) (fragments : Fragments) → Catches variable condition fragments → caught_items (items_of fragments) ≡ Some (caught_of variable condition)
caught_complete variable condition fragments (without_variable type all h) = without_complete condition fragments h
caught_complete variable condition fragments (with_variable token sign type after is colon h) =
    ap (λ (b : Bool). caught_if b (item_of (one token)) (item_of (one sign)) (items_of after)) (has_colons sign colon)
    ∙ ap (λ (o : Option TypeTree). caught_named (role_of token) token o) (whole_read condition after h) ∙ named_caught (role_of token) token condition is

pub record BlockClausesRead (trees : List BlockClause) (fragments : List SeenFragment) : Type 0 where
  pub others : List Piece
  pub behind : Behind (is_splitter splittings.Endings) others fragments
  pub found : block_clauses_in others ≡ Some trees

pub no_block_clause_read : BlockClausesRead [] []
no_block_clause_read = record { others = []; behind = behind_nothing (is_splitter splittings.Endings); found = refl }

one_clause_read : (clause : BlockClause) (others : List BlockClause) (word : Token) (first second all : Fragments) → all ≡ one word ∷ (first ++ second) → splits splittings.Endings word ≡ true → Closed (is_splitter splittings.Endings) false first → block_clause_at (splitter_of word) (items_of first) ≡ Some clause
    → BlockClausesRead others second → BlockClausesRead (clause ∷ others) all
one_clause_read clause others word first second all parts splits_here closed e k =
    subst (BlockClausesRead (clause ∷ others)) (sym parts)
    (record {
      others = record { separator = one word; items = items_of first } ∷ k.others;
      behind = behind_piece (is_splitter splittings.Endings) k.others (one word) first second splits_here closed k.behind;
      found = ap (λ (o : Option BlockClause). with_others o (block_clauses_in k.others)) e ∙ ap (with_others (Some clause)) k.found;
    })

pub afterwards_read : (trees : List ItemTree) (others : List BlockClause) (word : Token) (first second all : Fragments) → all ≡ one word ∷ (first ++ second) → splitter_of word ≡ splitters.Afterwards → BodyRead splittings.Endings trees first → BlockClausesRead others second
    → BlockClausesRead (afterwards_clause (body_of trees) ∷ others) all
afterwards_read trees others word first second all parts is h k =
    one_clause_read (afterwards_of trees) others word first second all parts (rw is refl) h.closed (ap (λ (w : Splitter). block_clause_at w (items_of first)) is ∙ ap (option_map afterwards_of) h.read) k

pub cleanup_read : (trees : List ItemTree) (others : List BlockClause) (word : Token) (first second all : Fragments) → all ≡ one word ∷ (first ++ second) → splitter_of word ≡ splitters.Cleanup → BodyRead splittings.Endings trees first → BlockClausesRead others second
    → BlockClausesRead (cleanup_clause (body_of trees) ∷ others) all
cleanup_read trees others word first second all parts is h k =
    one_clause_read (cleanup_of trees) others word first second all parts (rw is refl) h.closed (ap (λ (w : Splitter). block_clause_at w (items_of first)) is ∙ ap (option_map cleanup_of) h.read) k

pub headed_read : (opener : Token) (inner : SeenFragments) (closer : Token) (after : Fragments) → bracket_of opener closer ≡ brackets.Round → headed (items_of (group opener inner closer ∷ after)) ≡ Some (record { first = item_of (group opener inner closer); rest = items_of after })
headed_read opener inner closer after is = ap (λ (b : Bracket). front_in b (item_of (group opener inner closer)) (items_of after)) is

pub exception_read : (variable : Option Token) (condition : TypeTree) (trees : List ItemTree) (others : List BlockClause) (word left : Token) (within : SeenFragments) (right : Token) (first second all : Fragments) → all ≡ one word ∷ group left within right ∷ (first ++ second)
    → splitter_of word ≡ splitters.Exception → bracket_of left right ≡ brackets.Round → Catches variable condition (row within) → BodyRead splittings.Endings trees first → BlockClausesRead others second → BlockClausesRead (exception_clause variable condition (body_of trees) ∷ others) all
exception_read variable condition trees others word left within right first second all parts is is_round c h k =
    one_clause_read (exception_of (caught_of variable condition) trees) others word (group left within right ∷ first) second all parts (rw is refl) (refl, h.closed)
    (ap (λ (w : Splitter). block_clause_at w (items_of (group left within right ∷ first))) is ∙ ap (λ (o : Option Front). option_and_then exception_items o) (headed_read left within right first is_round)
    ∙ ap (λ (o : Option Caught). option_and_then (exception_with (items_of first)) o) (ap caught_items (items_row within) ∙ caught_complete variable condition (row within) c) ∙ ap (option_map (exception_of (caught_of variable condition))) h.read) k

pub block_read : (exit : Option Token) (trees : List ItemTree) (clauses : List BlockClause) (opener : Token) (inner : SeenFragments) (left : Token) (within : SeenFragments) (right : Token) (first second : Fragments) → row inner ≡ group left within right ∷ (first ++ second) → bracket_of left right ≡ brackets.Round
    → IsExit exit (row within) → suit_block clauses ≡ true → BodyRead splittings.Endings trees first → BlockClausesRead clauses second → statement_items keywords.Block opener (items_in inner) ≡ Some (block_tree opener exit (body_of trees) (block_clauses_of clauses))
block_read exit trees clauses opener inner left within right first second parts is x suits h k =
    ap (statement_items keywords.Block opener) (items_row inner ∙ ap items_of parts) ∙ ap (λ (o : Option Front). option_and_then (block_items opener) o) (headed_read left within right (first ++ second) is)
    ∙ ap (λ (o : Option (Option Token)). option_and_then (block_pieces opener (cut (is_splitter splittings.Endings) false (items_of (first ++ second)))) o) (exit_complete exit (row within) x)
    ∙ ap (λ (pieces : Pieces). block_pieces opener pieces exit) (k.behind.pieces false first h.closed)
    ∙ ap (λ (o : Option (List ItemTree)). option_and_then (block_body opener exit (block_clauses_in k.others)) o) h.read
    ∙ ap (λ (o : Option (List BlockClause)). option_and_then (block_suits opener exit trees) o) k.found ∙ ap (λ (b : Bool). block_if b opener exit trees clauses) suits

-- The clauses of a block, by functions that compute.
use Rattle.std.specs.Prelude.{Bool, true, false, List, [], ◌∷◌, Option, Some, None, option_map}
use Rattle.std.specs.Prelude.{option_and_then}
use Rattle.dy_tree.specs.declared.token.Token.{Token}
use Rattle.dy_tree.specs.Fragments.{SeenFragment, one, group, row}
use Rattle.dy_tree.specs.declared.roles.Role.{Role}
use Rattle.dy_tree.specs.declared.roles.Role.TheVariants as roles
use Rattle.dy_tree.specs.declared.splitters.Splitting.TheVariants as splittings
use Rattle.dy_tree.specs.declared.splitters.Splitter.{Splitter}
use Rattle.dy_tree.specs.declared.splitters.Splitter.TheVariants as splitters
use Rattle.dy_rules.specs.Types.{TypeTree}
use Rattle.dy_rules.specs.Trees.{Tree, block_tree, ItemTree, body_of, BlockClause}
use Rattle.dy_rules.specs.Trees.{afterwards_clause, cleanup_clause, exception_clause}
use Rattle.dy_rules.specs.Trees.{block_clauses_of}
use Rattle.dy_rules.specs.Roles.{role_of}
use Rattle.dy_rules.specs.Productions.{suit_block}
use Rattle.dy_rules.specs.Cutting.{Caught, Item, Piece, Pieces, is_splitter, cut, with_others}
use Rattle.dy_rules.specs.Cutting.{Front, headed, word_of}
use Rattle.dy_rules.specs.TypeReading.{type_items, is_colons}
use Rattle.dy_rules.specs.Bodies.{body_items}

abbrev pub caught_of : Option Token → TypeTree → Caught
caught_of variable condition = record { variable = variable; condition = condition }

abbrev pub caught_named : Role → Token → Option TypeTree → Option Caught
caught_named roles.Named token condition = option_map (caught_of (Some token)) condition
caught_named _ token condition = None

abbrev pub caught_with : SeenFragment → Option TypeTree → Option Caught
caught_with (one token) condition = caught_named (role_of token) token condition
caught_with (group opener inner closer) condition = None

abbrev pub caught_if : Bool → Item → Item → List Item → Option Caught
caught_if true first second rest = caught_with first.fragment (type_items rest)
caught_if false first second rest = option_map (caught_of None) (type_items (first ∷ second ∷ rest))

-- the condition that stands between brackets
abbrev pub caught_items : List Item → Option Caught
caught_items [] = None
caught_items (first ∷ []) = option_map (caught_of None) (type_items (first ∷ []))
caught_items (first ∷ second ∷ rest) = caught_if (is_colons second.fragment) first second rest

abbrev pub exit_token : Role → Token → Option (Option Token)
exit_token roles.Named token = Some (Some token)
exit_token _ token = None

abbrev pub exit_in : List SeenFragment → Option (Option Token)
exit_in [] = Some None
exit_in (one token ∷ []) = exit_token (role_of token) token
exit_in _ = None

abbrev pub exit_inside : SeenFragment → Option (Option Token)
exit_inside (one token) = None
exit_inside (group opener inner closer) = exit_in (row inner)

abbrev pub afterwards_of : List ItemTree → BlockClause
afterwards_of trees = afterwards_clause (body_of trees)

abbrev pub cleanup_of : List ItemTree → BlockClause
cleanup_of trees = cleanup_clause (body_of trees)

abbrev pub exception_of : Caught → List ItemTree → BlockClause
exception_of caught trees = exception_clause caught.variable caught.condition (body_of trees)

abbrev pub exception_with : List Item → Caught → Option BlockClause
exception_with rest caught = option_map (exception_of caught) (body_items splittings.Endings rest)

abbrev pub exception_items : Front → Option BlockClause
exception_items front = option_and_then (exception_with front.rest) front.first.found.caught

abbrev pub block_clause_at : Splitter → List Item → Option BlockClause
block_clause_at splitters.Afterwards items =
    option_map afterwards_of (body_items splittings.Endings items)
block_clause_at splitters.Cleanup items =
    option_map cleanup_of (body_items splittings.Endings items)
block_clause_at splitters.Exception items = option_and_then exception_items (headed items)
block_clause_at _ items = None

-- the clauses behind the body of a block
abbrev pub block_clauses_in : List Piece → Option (List BlockClause)
block_clauses_in [] = Some []
block_clauses_in (piece ∷ others) =
    with_others (block_clause_at (word_of piece.separator) piece.items) (block_clauses_in others)

abbrev pub block_of : Token → Option Token → List ItemTree → List BlockClause → Tree
block_of word exit trees clauses = block_tree word exit (body_of trees) (block_clauses_of clauses)

abbrev pub block_if : Bool → Token → Option Token → List ItemTree → List BlockClause → Option Tree
block_if true word exit trees clauses = Some (block_of word exit trees clauses)
block_if false word exit trees clauses = None

abbrev pub block_suits : Token → Option Token → List ItemTree → List BlockClause → Option Tree
block_suits word exit trees clauses = block_if (suit_block clauses) word exit trees clauses

abbrev pub block_body : Token → Option Token → Option (List BlockClause) → List ItemTree
    → Option Tree
block_body word exit clauses trees = option_and_then (block_suits word exit trees) clauses

abbrev pub block_pieces : Token → Pieces → Option Token → Option Tree
block_pieces word pieces exit =
    option_and_then (block_body word exit (block_clauses_in pieces.others))
    (body_items splittings.Endings pieces.first)

abbrev pub block_items : Token → Front → Option Tree
block_items word front = option_and_then
    (block_pieces word (cut (is_splitter splittings.Endings) false front.rest))
    (exit_inside front.first.fragment)

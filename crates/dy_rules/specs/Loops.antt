-- The clauses of a `for`, by functions that compute.
use Rattle.std.specs.Prelude.{Bool, true, false, List, [], ◌∷◌, Option, Some, None, option_map}
use Rattle.std.specs.Prelude.{option_and_then}
use Rattle.dy_tree.specs.declared.token.Token.{Token}
use Rattle.dy_tree.specs.Fragments.{SeenFragment, one, group}
use Rattle.dy_tree.specs.declared.splitters.Splitting.TheVariants as splittings
use Rattle.dy_tree.specs.declared.splitters.Splitter.{Splitter}
use Rattle.dy_tree.specs.declared.splitters.Splitter.TheVariants as splitters
use Rattle.dy_rules.specs.Types.{VariableTree, binds_plainly}
use Rattle.dy_rules.specs.Trees.{Tree, for_tree, ItemTree, body_of, Otherwise, no_otherwise}
use Rattle.dy_rules.specs.Trees.{otherwise, ForClause, then_clause, in_clause, from_clause}
use Rattle.dy_rules.specs.Trees.{for_clauses_of, MaybeLimit, no_limit, a_limit, MaybeTree, no_tree}
use Rattle.dy_rules.specs.Trees.{some_tree, StopTree, stop_of}
use Rattle.dy_rules.specs.Arguments.{is_comma_fragment}
use Rattle.dy_rules.specs.Productions.{is_stop_word, is_limit_word}
use Rattle.dy_rules.specs.Cutting.{Ending, Item, Piece, Pieces, is_splitter, cut, ending}
use Rattle.dy_rules.specs.Cutting.{fragments_in, Front, word_of}
use Rattle.dy_rules.specs.TypeReading.{VariableFront, variable_front}
use Rattle.dy_rules.specs.Reading.{expression_items}
use Rattle.dy_rules.specs.Bodies.{is_equals_at, body_items}

abbrev pub is_in_word : Splitter → Bool
is_in_word splitters.In = true
is_in_word _ = false

abbrev pub is_in : SeenFragment → Bool
is_in fragment = is_in_word (word_of fragment)

-- what follows the start
pub record Range : Type 0 where
  pub limit : MaybeLimit
  pub step : MaybeTree

abbrev pub range_of : MaybeLimit → MaybeTree → Range
range_of limit step = record { limit = limit; step = step }

abbrev pub step_of : Tree → Range
step_of tree = range_of no_limit (some_tree tree)

abbrev pub step_at : Splitter → List Item → Option Range
step_at splitters.By items = option_map step_of (expression_items splittings.Steps items)
step_at _ items = None

-- a step, or nothing
abbrev pub step_in : List Piece → Option Range
step_in [] = Some (range_of no_limit no_tree)
step_in (piece ∷ []) = step_at (word_of piece.separator) piece.items
step_in (piece ∷ second ∷ others) = None

abbrev pub with_limit : Token → Tree → Range → Range
with_limit word bound rest = range_of (a_limit word bound) rest.step

abbrev pub limit_with : Token → Option Range → Tree → Option Range
limit_with word rest bound = option_map (with_limit word bound) rest

abbrev pub limit_token : SeenFragment → List Item → Option Range → Option Range
limit_token (one word) items rest =
    option_and_then (limit_with word rest) (expression_items splittings.Steps items)
limit_token (group opener inner closer) items rest = None

abbrev pub range_if : Bool → Piece → List Piece → Option Range
range_if true piece others = limit_token piece.separator piece.items (step_in others)
range_if false piece others = step_in (piece ∷ others)

abbrev pub range_in : List Piece → Option Range
range_in [] = step_in []
range_in (piece ∷ others) = range_if (is_limit_word (word_of piece.separator)) piece others

abbrev pub from_of : VariableTree → Tree → Range → ForClause
from_of variable start range = from_clause variable start range.limit range.step

abbrev pub from_with : VariableTree → Option Range → Tree → Option ForClause
from_with variable range start = option_map (from_of variable start) range

abbrev pub from_at : Splitter → VariableTree → List Item → List Piece → Option ForClause
from_at splitters.From variable items others =
    option_and_then (from_with variable (range_in others)) (expression_items splittings.Steps items)
from_at _ variable items others = None

abbrev pub from_in : VariableTree → List Piece → Option ForClause
from_in variable [] = None
from_in variable (piece ∷ others) = from_at (word_of piece.separator) variable piece.items others

abbrev pub then_of : VariableTree → Tree → Tree → ForClause
then_of variable first next = then_clause variable first next

abbrev pub then_with : VariableTree → List Item → Tree → Option ForClause
then_with variable items first =
    option_map (then_of variable first) (expression_items splittings.Steps items)

abbrev pub then_at : Splitter → VariableTree → List Item → List Item → Option ForClause
then_at splitters.Then variable first items =
    option_and_then (then_with variable items) (expression_items splittings.Steps first)
then_at _ variable first items = None

abbrev pub then_in : VariableTree → List Item → List Piece → Option ForClause
then_in variable first (piece ∷ []) = then_at (word_of piece.separator) variable first piece.items
then_in variable first _ = None

abbrev pub in_of : VariableTree → Tree → ForClause
in_of variable collection = in_clause variable collection

abbrev pub in_in : VariableTree → List Item → List Piece → Option ForClause
in_in variable items [] = option_map (in_of variable) (expression_items splittings.Steps items)
in_in variable items (piece ∷ others) = None

abbrev pub equals_if : Bool → VariableTree → List Item → List Piece → Option ForClause
equals_if true variable rest others = then_in variable rest others
equals_if false variable rest others = None

abbrev pub in_if : Bool → VariableTree → Item → List Item → List Piece → Option ForClause
in_if true variable item rest others = in_in variable rest others
in_if false variable item rest others = equals_if (is_equals_at item.fragment) variable rest others

abbrev pub clause_behind : VariableTree → List Item → List Piece → Option ForClause
clause_behind variable [] others = from_in variable others
clause_behind variable (item ∷ rest) others = in_if (is_in item.fragment) variable item rest others

abbrev pub clause_with : List Piece → VariableFront → Option ForClause
clause_with others front = clause_behind front.variable front.rest others

abbrev pub clause_if : Bool → Pieces → Option ForClause
clause_if true pieces = option_and_then (clause_with pieces.others) (variable_front pieces.first)
clause_if false pieces = None

abbrev pub clause_pieces : Pieces → Option ForClause
clause_pieces pieces = clause_if (binds_plainly splittings.Steps (fragments_in pieces.first)) pieces

-- The name that is bound stands by its position.
abbrev pub clause_items : List Item → Option ForClause
clause_items items = clause_pieces (cut (is_splitter splittings.Steps) true items)

abbrev pub is_stop_at : SeenFragment → Bool
is_stop_at (one token) = is_stop_word token
is_stop_at (group opener inner closer) = false

abbrev pub is_stop : List Item → Bool
is_stop [] = false
is_stop (item ∷ rest) = is_stop_at item.fragment

abbrev pub stop_with : Token → Tree → StopTree
stop_with keyword test = record { keyword = keyword; test = test }

abbrev pub stop_token : SeenFragment → List Item → Option StopTree
stop_token (one keyword) rest =
    option_map (stop_with keyword) (expression_items splittings.Steps rest)
stop_token (group opener inner closer) rest = None

abbrev pub stop_items : List Item → Option StopTree
stop_items [] = None
stop_items (item ∷ rest) = stop_token item.fragment rest

-- what stands between the brackets of a `for`
abbrev pub for_items : List Item → Option (Ending ForClause StopTree)
for_items [] = Some (record { parts = []; last = None })
for_items (item ∷ rest) =
    ending is_stop clause_items stop_items (cut is_comma_fragment false (item ∷ rest))

abbrev pub finally_of : List ItemTree → Otherwise
finally_of trees = otherwise (body_of trees)

abbrev pub finally_at : Splitter → List Item → Option Otherwise
finally_at splitters.Finally items = option_map finally_of (body_items splittings.LastPart items)
finally_at _ items = None

abbrev pub finally_in : List Piece → Option Otherwise
finally_in [] = Some no_otherwise
finally_in (piece ∷ []) = finally_at (word_of piece.separator) piece.items
finally_in (piece ∷ second ∷ others) = None

abbrev pub for_of : Token → Ending ForClause StopTree → List ItemTree → Otherwise → Tree
for_of word head trees last =
    for_tree word (for_clauses_of head.parts) (stop_of head.last) (body_of trees) last

abbrev pub for_body : Token → Ending ForClause StopTree → Option Otherwise → List ItemTree
    → Option Tree
for_body word head last trees = option_map (for_of word head trees) last

abbrev pub for_pieces : Token → Pieces → Ending ForClause StopTree → Option Tree
for_pieces word pieces head =
    option_and_then (for_body word head (finally_in pieces.others))
    (body_items splittings.LastPart pieces.first)

abbrev pub for_statement : Token → Front → Option Tree
for_statement word front =
    option_and_then (for_pieces word (cut (is_splitter splittings.LastPart) false front.rest))
    front.first.found.clauses

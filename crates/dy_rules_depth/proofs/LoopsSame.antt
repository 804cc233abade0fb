-- The clauses of a `for` and its statement are read the same to the limit, whatever stands in the place of trees that are too deep.
use Rattle.std.proofs.Common.{◌≡◌, Bool, true, false, List, [], ◌∷◌, map, Option, option_map, option_and_then, refl, sym, ap, ◌∙◌}
use Rattle.dy_tree.specs.declared.token.Token.{Token}
use Rattle.dy_tree.specs.Fragments.{SeenFragment, one, group}
use Rattle.dy_tree.specs.declared.splitters.Splitting.TheVariants as splittings
use Rattle.dy_tree.specs.declared.splitters.Splitter.{Splitter}
use Rattle.dy_tree.specs.declared.splitters.Splitter.TheVariants as splitters
use Rattle.dy_rules.specs.Types.{VariableTree, binds_plainly}
use Rattle.dy_rules.specs.Trees.{Tree, ItemTree, body_of, Otherwise, otherwise, ForClause, for_clauses_of, StopTree, stop_of}
use Rattle.dy_rules.specs.Arguments.{is_comma_fragment}
use Rattle.dy_rules.specs.Productions.{is_limit_word}
use Rattle.dy_rules.specs.Cutting.{Ending, Item, Piece, Pieces, is_splitter, cut, fragments_in, Front, word_of}
use Rattle.dy_rules.specs.TypeReading.{VariableFront, variable_front}
use Rattle.dy_rules.specs.Reading.{expression_items}
use Rattle.dy_rules.specs.Bodies.{is_equals_at, body_items}
use Rattle.dy_rules.specs.Loops.{is_in, Range, step_of, step_at, step_in, with_limit, limit_with, limit_token, range_if, range_in, from_of, from_with, from_at, from_in, then_of, then_with, then_at, then_in, in_of, in_in, equals_if, in_if, clause_behind, clause_with, clause_if, clause_pieces, clause_items, is_stop, stop_with, stop_token, stop_items, for_items, finally_of, finally_at, finally_in, for_of, for_body, for_pieces, for_statement}
use Rattle.dy_rules_depth.specs.Changes.{changed_variable, changed_item, changed_otherwise, changed_for, changed_stop_tree}
use Rattle.dy_rules_depth.specs.ReaderChanges.{changed_loop, changed_item_of, changed_items, changed_piece, changed_pieces, changed_front, changed_variable_front, changed_range}
use Rattle.dy_rules_depth.specs.Capping.{capped, capping}
use Rattle.dy_rules_depth.proofs.Same.{SameTrees}
use Rattle.dy_rules_depth.proofs.Options.{option_twice, map_same, then_same}
use Rattle.dy_rules_depth.proofs.Twice.{loop_twice, items_twice}
use Rattle.dy_rules_depth.proofs.SameNodes.{same_for}
use Rattle.dy_rules_depth.proofs.Rows.{body_changed, for_clauses_changed, stop_changed}
use Rattle.dy_rules_depth.proofs.CutsSame.{fragments_changed, cut_changed, Reads, ending_cut_same}
use Rattle.dy_rules_depth.proofs.TypesSame.{variable_front_same}
use Rattle.dy_rules_depth.proofs.BodiesSame.{body_same}
use Rattle.dy_rules_depth.proofs.Expressions.{expression_same}

abbrev SameRange : Option Range → Option Range → Type 0
SameRange range other = option_map (changed_range capping) range ≡ option_map (changed_range capping) other

abbrev SameFor : Option ForClause → Option ForClause → Type 0
SameFor clause other = option_map (changed_for capping) clause ≡ option_map (changed_for capping) other

abbrev SameVariable : VariableTree → VariableTree → Type 0
SameVariable variable other = changed_variable capping variable ≡ changed_variable capping other

-- what follows the start

step_at_same : (word : Splitter) → Reads (changed_range capping) (step_at word)
step_at_same splitters.By items = map_same capped (changed_range capping) step_of step_of (expression_items splittings.Steps (changed_items capping items)) (expression_items splittings.Steps items) (λ tree other e. ap step_of e) (expression_same splittings.Steps items)
step_at_same word items = refl

step_in_same : (others : List Piece) → SameRange (step_in (map (changed_piece capping) others)) (step_in others)
step_in_same [] = refl
step_in_same (piece ∷ []) = step_at_same (word_of piece.separator) piece.items
step_in_same (piece ∷ second ∷ others) = refl

pub with_limit_same : (word : Token) (bound other : Tree) → capped bound ≡ capped other → (rest more : Range) → changed_range capping rest ≡ changed_range capping more → changed_range capping (with_limit word bound rest) ≡ changed_range capping (with_limit word other more)
with_limit_same word bound other e rest more f = cc (ap (λ (r : Range). r.step) f)

limit_with_same : (word : Token) (rest more : Option Range) → SameRange rest more → (bound other : Tree) → capped bound ≡ capped other → SameRange (limit_with word rest bound) (limit_with word more other)
limit_with_same word rest more f bound other e = map_same (changed_range capping) (changed_range capping) (with_limit word bound) (with_limit word other) rest more (with_limit_same word bound other e) f

limit_token_same : (fragment : SeenFragment) (items : List Item) (rest more : Option Range) → SameRange rest more → SameRange (limit_token fragment (changed_items capping items) rest) (limit_token fragment items more)
limit_token_same (one word) items rest more e =
    then_same capped (changed_range capping) (limit_with word rest) (limit_with word more) (expression_items splittings.Steps (changed_items capping items)) (expression_items splittings.Steps items) (limit_with_same word rest more e) (expression_same splittings.Steps items)
limit_token_same (group opener inner closer) items rest more e = refl

range_if_same : (is : Bool) (piece : Piece) (others : List Piece) → SameRange (range_if is (changed_piece capping piece) (map (changed_piece capping) others)) (range_if is piece others)
range_if_same true piece others = limit_token_same piece.separator piece.items (step_in (map (changed_piece capping) others)) (step_in others) (step_in_same others)
range_if_same false piece others = step_in_same (piece ∷ others)

pub range_same : (others : List Piece) → SameRange (range_in (map (changed_piece capping) others)) (range_in others)
range_same [] = refl
range_same (piece ∷ others) = range_if_same (is_limit_word (word_of piece.separator)) piece others

-- clauses

pub from_of_same : (variable other : VariableTree) → SameVariable variable other → (start begin : Tree) → capped start ≡ capped begin → (range more : Range) → changed_range capping range ≡ changed_range capping more
    → changed_for capping (from_of variable start range) ≡ changed_for capping (from_of other begin more)
from_of_same variable other e start begin f range more g = cc (ap (λ (r : Range). r.limit) g, ap (λ (r : Range). r.step) g)

from_with_same : (variable other : VariableTree) → SameVariable variable other → (range more : Option Range) → SameRange range more → (start begin : Tree) → capped start ≡ capped begin → SameFor (from_with variable range start) (from_with other more begin)
from_with_same variable other e range more g start begin f = map_same (changed_range capping) (changed_for capping) (from_of variable start) (from_of other begin) range more (from_of_same variable other e start begin f) g

from_at_same : (word : Splitter) (variable other : VariableTree) → SameVariable variable other → (items : List Item) (others : List Piece) → SameFor (from_at word variable (changed_items capping items) (map (changed_piece capping) others)) (from_at word other items others)
from_at_same splitters.From variable other e items others =
    then_same capped (changed_for capping) (from_with variable (range_in (map (changed_piece capping) others))) (from_with other (range_in others)) (expression_items splittings.Steps (changed_items capping items)) (expression_items splittings.Steps items)
    (from_with_same variable other e (range_in (map (changed_piece capping) others)) (range_in others) (range_same others)) (expression_same splittings.Steps items)
from_at_same word variable other e items others = refl

from_in_same : (variable other : VariableTree) → SameVariable variable other → (others : List Piece) → SameFor (from_in variable (map (changed_piece capping) others)) (from_in other others)
from_in_same variable other e [] = refl
from_in_same variable other e (piece ∷ others) = from_at_same (word_of piece.separator) variable other e piece.items others

then_with_same : (variable other : VariableTree) → SameVariable variable other → (items : List Item) (first begin : Tree) → capped first ≡ capped begin → SameFor (then_with variable (changed_items capping items) first) (then_with other items begin)
then_with_same variable other e items first begin f =
    map_same capped (changed_for capping) (then_of variable first) (then_of other begin) (expression_items splittings.Steps (changed_items capping items)) (expression_items splittings.Steps items) (λ next more g. cc) (expression_same splittings.Steps items)

then_at_same : (word : Splitter) (variable other : VariableTree) → SameVariable variable other → (first items : List Item) → SameFor (then_at word variable (changed_items capping first) (changed_items capping items)) (then_at word other first items)
then_at_same splitters.Then variable other e first items =
    then_same capped (changed_for capping) (then_with variable (changed_items capping items)) (then_with other items) (expression_items splittings.Steps (changed_items capping first)) (expression_items splittings.Steps first) (then_with_same variable other e items) (expression_same splittings.Steps first)
then_at_same word variable other e first items = refl

then_in_same : (variable other : VariableTree) → SameVariable variable other → (first : List Item) (others : List Piece) → SameFor (then_in variable (changed_items capping first) (map (changed_piece capping) others)) (then_in other first others)
then_in_same variable other e first [] = refl
then_in_same variable other e first (piece ∷ []) = then_at_same (word_of piece.separator) variable other e first piece.items
then_in_same variable other e first (piece ∷ second ∷ others) = refl

in_in_same : (variable other : VariableTree) → SameVariable variable other → (items : List Item) (others : List Piece) → SameFor (in_in variable (changed_items capping items) (map (changed_piece capping) others)) (in_in other items others)
in_in_same variable other e items [] = map_same capped (changed_for capping) (in_of variable) (in_of other) (expression_items splittings.Steps (changed_items capping items)) (expression_items splittings.Steps items) (λ tree more f. cc) (expression_same splittings.Steps items)
in_in_same variable other e items (piece ∷ others) = refl

equals_if_same : (is : Bool) (variable other : VariableTree) → SameVariable variable other → (rest : List Item) (others : List Piece) → SameFor (equals_if is variable (changed_items capping rest) (map (changed_piece capping) others)) (equals_if is other rest others)
equals_if_same true variable other e rest others = then_in_same variable other e rest others
equals_if_same false variable other e rest others = refl

in_if_same : (is : Bool) (variable other : VariableTree) → SameVariable variable other → (item : Item) (rest : List Item) (others : List Piece)
    → SameFor (in_if is variable (changed_item_of capping item) (changed_items capping rest) (map (changed_piece capping) others)) (in_if is other item rest others)
in_if_same true variable other e item rest others = in_in_same variable other e rest others
in_if_same false variable other e item rest others = equals_if_same (is_equals_at item.fragment) variable other e rest others

behind_on : (variable other : VariableTree) → SameVariable variable other → (items : List Item) (others : List Piece) → SameFor (clause_behind variable (changed_items capping items) (map (changed_piece capping) others)) (clause_behind other items others)
behind_on variable other e [] others = from_in_same variable other e others
behind_on variable other e (item ∷ rest) others = in_if_same (is_in item.fragment) variable other e item rest others

-- the pieces of which the items are changed already
pieces_twice : (others : List Piece) → map (changed_piece capping) (map (changed_piece capping) others) ≡ map (changed_piece capping) others
pieces_twice [] = refl
pieces_twice (piece ∷ others) = cc (items_twice piece.items, pieces_twice others)

clause_with_same : (others : List Piece) (front other : VariableFront) → changed_variable_front capping front ≡ changed_variable_front capping other → SameFor (clause_with (map (changed_piece capping) others) front) (clause_with others other)
clause_with_same others front other e =
    let changed : List Piece = map (changed_piece capping) others in
    let variable : SameVariable front.variable other.variable = ap (λ (f : VariableFront). f.variable) e in
    let rest : changed_items capping front.rest ≡ changed_items capping other.rest = ap (λ (f : VariableFront). f.rest) e in
    sym (behind_on front.variable front.variable refl front.rest changed) ∙ ap (λ (pieces : List Piece). option_map (changed_for capping) (clause_behind front.variable (changed_items capping front.rest) pieces)) (pieces_twice others)
    ∙ ap (λ (items : List Item). option_map (changed_for capping) (clause_behind front.variable items changed)) rest ∙ behind_on front.variable other.variable variable other.rest others

clause_if_same : (is : Bool) (pieces : Pieces) → SameFor (clause_if is (changed_pieces capping pieces)) (clause_if is pieces)
clause_if_same true pieces =
    then_same (changed_variable_front capping) (changed_for capping) (clause_with (map (changed_piece capping) pieces.others)) (clause_with pieces.others) (variable_front (changed_items capping pieces.first)) (variable_front pieces.first)
    (clause_with_same pieces.others) (variable_front_same pieces.first)
clause_if_same false pieces = refl

clause_pieces_same : (pieces : Pieces) → SameFor (clause_pieces (changed_pieces capping pieces)) (clause_pieces pieces)
clause_pieces_same pieces =
    ap (λ (fragments : List SeenFragment). option_map (changed_for capping) (clause_if (binds_plainly splittings.Steps fragments) (changed_pieces capping pieces))) (fragments_changed capping pieces.first)
    ∙ clause_if_same (binds_plainly splittings.Steps (fragments_in pieces.first)) pieces

pub clause_same : Reads (changed_for capping) clause_items
clause_same items = ap (λ (pieces : Pieces). option_map (changed_for capping) (clause_pieces pieces)) (cut_changed capping (is_splitter splittings.Steps) true items) ∙ clause_pieces_same (cut (is_splitter splittings.Steps) true items)

-- heads

stop_kept : (items : List Item) → is_stop (changed_items capping items) ≡ is_stop items
stop_kept [] = refl
stop_kept (item ∷ rest) = refl

stop_token_same : (fragment : SeenFragment) (rest : List Item) → option_map (changed_stop_tree capping) (stop_token fragment (changed_items capping rest)) ≡ option_map (changed_stop_tree capping) (stop_token fragment rest)
stop_token_same (one word) rest = map_same capped (changed_stop_tree capping) (stop_with word) (stop_with word) (expression_items splittings.Steps (changed_items capping rest)) (expression_items splittings.Steps rest) (λ tree other e. ap (stop_with word) e) (expression_same splittings.Steps rest)
stop_token_same (group opener inner closer) rest = refl

pub stop_same : Reads (changed_stop_tree capping) stop_items
stop_same [] = refl
stop_same (item ∷ rest) = stop_token_same item.fragment rest

pub for_items_same : Reads (changed_loop capping) for_items
for_items_same [] = refl
for_items_same (item ∷ rest) = ending_cut_same (changed_for capping) (changed_stop_tree capping) is_stop clause_items stop_items stop_kept clause_same stop_same is_comma_fragment false (item ∷ rest)

-- statements

abbrev SameLast : Option Otherwise → Option Otherwise → Type 0
SameLast last other = option_map (changed_otherwise capping) last ≡ option_map (changed_otherwise capping) other

pub finally_of_same : (trees others : List ItemTree) → SameTrees trees others → changed_otherwise capping (finally_of trees) ≡ changed_otherwise capping (finally_of others)
finally_of_same trees others e = ap otherwise (body_changed trees others e)

finally_at_same : (word : Splitter) → Reads (changed_otherwise capping) (finally_at word)
finally_at_same splitters.Finally items = map_same (map (changed_item capping)) (changed_otherwise capping) finally_of finally_of (body_items splittings.LastPart (changed_items capping items)) (body_items splittings.LastPart items) finally_of_same (body_same splittings.LastPart items)
finally_at_same word items = refl

finally_same : (others : List Piece) → SameLast (finally_in (map (changed_piece capping) others)) (finally_in others)
finally_same [] = refl
finally_same (piece ∷ []) = finally_at_same (word_of piece.separator) piece.items
finally_same (piece ∷ second ∷ others) = refl

pub for_of_same : (word : Token) (head other : Ending ForClause StopTree) → changed_loop capping head ≡ changed_loop capping other → (trees others : List ItemTree) → SameTrees trees others → (last more : Otherwise) → changed_otherwise capping last ≡ changed_otherwise capping more
    → capped (for_of word head trees last) ≡ capped (for_of word other others more)
for_of_same word head other e trees others f last more g =
    same_for word (for_clauses_of head.parts) (for_clauses_of other.parts) (stop_of head.last) (stop_of other.last) (body_of trees) (body_of others) last more
    (for_clauses_changed head.parts other.parts (ap (λ (h : Ending ForClause StopTree). h.parts) e)) (stop_changed head.last other.last (ap (λ (h : Ending ForClause StopTree). h.last) e)) (body_changed trees others f) g

for_body_same : (word : Token) (head other : Ending ForClause StopTree) → changed_loop capping head ≡ changed_loop capping other → (last more : Option Otherwise) → SameLast last more → (trees others : List ItemTree) → SameTrees trees others
    → option_map capped (for_body word head last trees) ≡ option_map capped (for_body word other more others)
for_body_same word head other e last more g trees others f = map_same (changed_otherwise capping) capped (for_of word head trees) (for_of word other others) last more (for_of_same word head other e trees others f) g

for_pieces_same : (word : Token) (pieces : Pieces) (head other : Ending ForClause StopTree) → changed_loop capping head ≡ changed_loop capping other → option_map capped (for_pieces word (changed_pieces capping pieces) head) ≡ option_map capped (for_pieces word pieces other)
for_pieces_same word pieces head other e =
    then_same (map (changed_item capping)) capped (for_body word head (finally_in (map (changed_piece capping) pieces.others))) (for_body word other (finally_in pieces.others))
    (body_items splittings.LastPart (changed_items capping pieces.first)) (body_items splittings.LastPart pieces.first)
    (for_body_same word head other e (finally_in (map (changed_piece capping) pieces.others)) (finally_in pieces.others) (finally_same pieces.others)) (body_same splittings.LastPart pieces.first)

pub for_same : (word : Token) (front : Front) → option_map capped (for_statement word (changed_front capping front)) ≡ option_map capped (for_statement word front)
for_same word front =
    let pieces : Pieces = cut (is_splitter splittings.LastPart) false front.rest in
    ap (λ (found : Pieces). option_map capped (option_and_then (for_pieces word found) (option_map (changed_loop capping) front.first.found.clauses))) (cut_changed capping (is_splitter splittings.LastPart) false front.rest)
    ∙ then_same (changed_loop capping) capped (for_pieces word (changed_pieces capping pieces)) (for_pieces word pieces) (option_map (changed_loop capping) front.first.found.clauses) front.first.found.clauses
    (for_pieces_same word pieces) (option_twice (changed_loop capping) loop_twice front.first.found.clauses)

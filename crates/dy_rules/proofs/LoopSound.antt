-- What is read as a `for` is derived.
use Rattle.std.proofs.Common.{◌≡◌, Bool, true, false, not, ◌||◌, List, [], ◌∷◌, ◌++◌, Option, Some, option_and_then, refl, sym, ap, subst, ◌∙◌}
use Rattle.std.proofs.lemmas.List.{append-nil}
use Rattle.std.specs.List.{list_any}
use Rattle.dy_tree.specs.declared.token.Token.{Token}
use Rattle.dy_tree.specs.Fragments.{SeenFragment, one, group, SeenFragments, row}
use Rattle.dy_tree.specs.declared.brackets.Keyword.TheVariants as keywords
use Rattle.dy_tree.specs.declared.brackets.Bracket.TheVariants as brackets
use Rattle.dy_tree.specs.declared.splitters.Splitting.{Splitting}
use Rattle.dy_tree.specs.declared.splitters.Splitting.TheVariants as splittings
use Rattle.dy_tree.specs.declared.splitters.Splitter.{Splitter}
use Rattle.dy_tree.specs.declared.splitters.Splitter.TheVariants as splitters
use Rattle.dy_rules.specs.Types.{VariableTree, IsVariable, is_equals, is_splitting, binds_plainly}
use Rattle.dy_rules.specs.Trees.{Tree, ItemTree, Otherwise, ForClause, MaybeLimit, no_limit, StopTree}
use Rattle.dy_rules.specs.Roles.{role_of, splitter_of, bracket_of}
use Rattle.dy_rules.specs.Arguments.{is_comma_fragment}
use Rattle.dy_rules.specs.Productions.{is_stop_word, is_limit_word, leaf, expression, a_body, for_clause, range, for_clauses, for_head, ending_part, Derives, for_leaf, by_then, by_in, by_from, no_range, step_range, limit_range, last_clause, only_stop, more_clauses, empty_head, some_clauses, no_finally, by_finally}
use Rattle.dy_rules.specs.Cutting.{Ending, Item, Piece, Pieces, is_splitter, cut, fragments_in, headed, word_of}
use Rattle.dy_rules.specs.TypeReading.{variable_front}
use Rattle.dy_rules.specs.Reading.{expression_items}
use Rattle.dy_rules.specs.Bodies.{is_equals_at, body_items}
use Rattle.dy_rules.specs.Loops.{is_in_word, is_in, Range, step_of, step_at, step_in, with_limit, limit_with, limit_token, range_if, range_in, from_of, from_with, from_at, from_in, then_of, then_with, then_at, then_in, in_of, in_in, equals_if, in_if, clause_behind, clause_with, clause_if, clause_items, is_stop_at, is_stop, stop_with, stop_token, stop_items, for_items, finally_of, finally_at, finally_in, for_of, for_body, for_pieces, for_statement}
use Rattle.dy_rules.proofs.Lists.{some_one, map_some, then_some}
use Rattle.dy_rules.proofs.Sound.{ItemsSound, expression_sound}
use Rattle.dy_rules.proofs.Cuts.{behind_in, Separates, cut_sound, EndRow, end_row_sound}
use Rattle.dy_rules.proofs.TypeSound.{comma_is, variable_front_sound}
use Rattle.dy_rules.proofs.BodySound.{body_sound, equals_token}
use Rattle.dy_rules.proofs.HeadSound.{headed_sound, word_token}

abbrev Fragments : Type 0
Fragments = List SeenFragment

or_left : (b all part : Bool) → (all ≡ false → part ≡ false) → (b || all) ≡ false → (b || part) ≡ false
or_left true all part more e = absurd cc
or_left false all part more e = more e

any_left : (words : Splitting) (before after : Fragments) → list_any (is_splitting words) (before ++ after) ≡ false → list_any (is_splitting words) before ≡ false
any_left words [] after e = refl
any_left words (first ∷ before) after e = or_left (is_splitting words first) (list_any (is_splitting words) (before ++ after)) (list_any (is_splitting words) before) (any_left words before after) e

plain_left : (words : Splitting) (before after : Fragments) → binds_plainly words (before ++ after) ≡ true → binds_plainly words before ≡ true
plain_left words [] after e = refl
plain_left words (first ∷ before) after e = ap not (any_left words before after (not_true (list_any (is_splitting words) (before ++ after)) e))
  where
    not_true : (b : Bool) → not b ≡ true → b ≡ false
    not_true true f = absurd cc
    not_true false f = refl

step_at_sound : (word : Splitter) (separator : SeenFragment) (list : List Item) (found : Range) → word_of separator ≡ word → ItemsSound list → step_at word list ≡ Some found → (found.limit ≡ no_limit) × Derives splittings.Steps (range no_limit found.step) (separator ∷ (fragments_in list ++ []))
step_at_sound splitters.By separator list found is h e =
    let (tree, read, same) = map_some step_of (expression_items splittings.Steps list) found e in
    let (token, one_is, role) = word_token separator splitters.By is (λ f. cc) in
    (ap (λ (r : Range). r.limit) same, step_parts token separator tree found (fragments_in list) same one_is role (expression_sound splittings.Steps list tree h read))
  where
    step_parts : (token : Token) (separator : SeenFragment) (tree : Tree) (found : Range) (after : Fragments) → found ≡ step_of tree → separator ≡ one token → splitter_of token ≡ splitters.By → Derives splittings.Steps (expression tree) after → Derives splittings.Steps (range no_limit found.step) (separator ∷ (after ++ []))
    step_parts token separator tree found after same one_is role k = rw (same, one_is, append-nil) (step_range tree token after role k)
step_at_sound word separator list found is h e = absurd cc

step_sound : (others : List Piece) (found : Range) → Separates (is_splitter splittings.Steps) others → step_in others ≡ Some found → (found.limit ≡ no_limit) × Derives splittings.Steps (range no_limit found.step) (behind_in others)
step_sound [] found h e = let same = some_one _ _ e in (ap (λ (r : Range). r.limit) (sym same), subst (λ (r : Range). Derives splittings.Steps (range no_limit r.step) []) same no_range)
step_sound (piece ∷ []) found (is, h, k) e = step_at_sound (word_of piece.separator) piece.separator piece.items found refl h e
step_sound (piece ∷ second ∷ others) found h e = absurd cc

limit_parts : (token : Token) (separator : SeenFragment) (bound : Tree) (found rest : Range) (first second : Fragments) → found ≡ with_limit token bound rest → separator ≡ one token → is_limit_word (splitter_of token) ≡ true → Derives splittings.Steps (expression bound) first → Derives splittings.Steps (range no_limit rest.step) second
    → Derives splittings.Steps (range found.limit found.step) (separator ∷ (first ++ second))
limit_parts token separator bound found rest first second same one_is is h k = rw (same, one_is) (limit_range bound rest.step token first second _ refl is h k)

limit_token_sound : (separator same : SeenFragment) (list : List Item) (others : List Piece) (found : Range) → separator ≡ same → is_limit_word (word_of separator) ≡ true → ItemsSound list → Separates (is_splitter splittings.Steps) others → limit_token same list (step_in others) ≡ Some found
    → Derives splittings.Steps (range found.limit found.step) (separator ∷ (fragments_in list ++ behind_in others))
limit_token_sound separator (group opener inner closer) list others found is limits h k e = absurd cc
limit_token_sound separator (one token) list others found is limits h k e =
    let (bound, read, e1) = then_some (limit_with token (step_in others)) (expression_items splittings.Steps list) found e in
    let (rest, rest_is, same) = map_some (with_limit token bound) (step_in others) found e1 in
    limit_parts token separator bound found rest (fragments_in list) (behind_in others) same is (sym (ap (λ (f : SeenFragment). is_limit_word (word_of f)) is) ∙ limits) (expression_sound splittings.Steps list bound h read) (step_sound others rest k rest_is).1

range_sound : (others : List Piece) (found : Range) → Separates (is_splitter splittings.Steps) others → range_in others ≡ Some found → Derives splittings.Steps (range found.limit found.step) (behind_in others)
range_sound [] found h e = let (none, k) = step_sound [] found h e in subst (λ (l : MaybeLimit). Derives splittings.Steps (range l found.step) []) (sym none) k
range_sound (piece ∷ others) found (splits, h, k) e = go (is_limit_word (word_of piece.separator)) refl e
  where
    go : (b : Bool) → is_limit_word (word_of piece.separator) ≡ b → range_if b piece others ≡ Some found → Derives splittings.Steps (range found.limit found.step) (behind_in (piece ∷ others))
    go true is f = limit_token_sound piece.separator piece.separator piece.items others found refl is h k f
    go false is f = let (none, m) = step_sound (piece ∷ others) found (splits, h, k) f in subst (λ (l : MaybeLimit). Derives splittings.Steps (range l found.step) (behind_in (piece ∷ others))) (sym none) m

from_parts : (variable : VariableTree) (start : Tree) (found : Range) (tree : ForClause) (token : Token) (separator : SeenFragment) (front before middle after : Fragments) → tree ≡ from_of variable start found → separator ≡ one token → front ≡ before ++ [] → splitter_of token ≡ splitters.From
    → IsVariable variable before → binds_plainly splittings.Steps before ≡ true → Derives splittings.Steps (expression start) middle → Derives splittings.Steps (range found.limit found.step) after → Derives splittings.Steps (for_clause tree) (front ++ separator ∷ (middle ++ after))
from_parts variable start found tree token separator front before middle after same one_is parts role v plainly h k =
    rw (same, one_is, parts, append-nil) (by_from variable start found.limit found.step token before middle after _ refl role v plainly h k)

from_at_sound : (word : Splitter) (variable : VariableTree) (piece : Piece) (others : List Piece) (front before : Fragments) (tree : ForClause) → word_of piece.separator ≡ word → front ≡ before ++ [] → IsVariable variable before → binds_plainly splittings.Steps before ≡ true → ItemsSound piece.items → Separates (is_splitter splittings.Steps) others
    → from_at word variable piece.items others ≡ Some tree → Derives splittings.Steps (for_clause tree) (front ++ behind_in (piece ∷ others))
from_at_sound splitters.From variable piece others front before tree is parts v plainly h k e =
    let (start, read, e1) = then_some (from_with variable (range_in others)) (expression_items splittings.Steps piece.items) tree e in
    let (found, found_is, same) = map_some (from_of variable start) (range_in others) tree e1 in
    let (token, one_is, role) = word_token piece.separator splitters.From is (λ f. cc) in
    from_parts variable start found tree token piece.separator front before (fragments_in piece.items) (behind_in others) same one_is parts role v plainly (expression_sound splittings.Steps piece.items start h read) (range_sound others found k found_is)
from_at_sound word variable piece others front before tree is parts v plainly h k e = absurd cc

from_in_sound : (variable : VariableTree) (others : List Piece) (front before : Fragments) (tree : ForClause) → front ≡ before ++ [] → IsVariable variable before → binds_plainly splittings.Steps before ≡ true → Separates (is_splitter splittings.Steps) others → from_in variable others ≡ Some tree
    → Derives splittings.Steps (for_clause tree) (front ++ behind_in others)
from_in_sound variable [] front before tree parts v plainly k e = absurd cc
from_in_sound variable (piece ∷ others) front before tree parts v plainly (is, h, k) e = from_at_sound (word_of piece.separator) variable piece others front before tree refl parts v plainly h k e

in_parts : (variable : VariableTree) (collection : Tree) (tree : ForClause) (token : Token) (first : SeenFragment) (front before after : Fragments) → tree ≡ in_of variable collection → first ≡ one token → front ≡ before ++ first ∷ after → splitter_of token ≡ splitters.In
    → IsVariable variable before → binds_plainly splittings.Steps before ≡ true → Derives splittings.Steps (expression collection) after → Derives splittings.Steps (for_clause tree) (front ++ [])
in_parts variable collection tree token first front before after same one_is parts role v plainly h =
    rw (same, parts, one_is, append-nil) (by_in variable collection token before after _ refl role v plainly h)

in_word_is : (word : Splitter) → is_in_word word ≡ true → word ≡ splitters.In
in_word_is splitters.In e = refl
in_word_is word e = absurd cc

in_in_sound : (variable : VariableTree) (first : SeenFragment) (list : List Item) (others : List Piece) (front before : Fragments) (tree : ForClause) → is_in first ≡ true → front ≡ before ++ first ∷ fragments_in list → IsVariable variable before → binds_plainly splittings.Steps before ≡ true → ItemsSound list
    → in_in variable list others ≡ Some tree → Derives splittings.Steps (for_clause tree) (front ++ behind_in others)
in_in_sound variable first list [] front before tree is parts v plainly h e =
    let (collection, read, same) = map_some (in_of variable) (expression_items splittings.Steps list) tree e in
    let (token, one_is, role) = word_token first splitters.In (in_word_is (word_of first) is) (λ f. cc) in
    in_parts variable collection tree token first front before (fragments_in list) same one_is parts role v plainly (expression_sound splittings.Steps list collection h read)
in_in_sound variable first list (piece ∷ others) front before tree is parts v plainly h e = absurd cc

then_parts : (variable : VariableTree) (first next : Tree) (tree : ForClause) (equals token : Token) (sign separator : SeenFragment) (front before middle after : Fragments) → tree ≡ then_of variable first next → sign ≡ one equals → separator ≡ one token → front ≡ before ++ sign ∷ middle → is_equals equals ≡ true → splitter_of token ≡ splitters.Then
    → IsVariable variable before → binds_plainly splittings.Steps before ≡ true → Derives splittings.Steps (expression first) middle → Derives splittings.Steps (expression next) after → Derives splittings.Steps (for_clause tree) (front ++ separator ∷ (after ++ []))
then_parts variable first next tree equals token sign separator front before middle after same sign_is one_is parts is role v plainly h k =
    rw (same, parts, sign_is, one_is, append-nil) (by_then variable first next equals token before middle after _ refl is role v plainly h k)

then_at_sound : (word : Splitter) (variable : VariableTree) (sign : SeenFragment) (list : List Item) (piece : Piece) (front before : Fragments) (tree : ForClause) → word_of piece.separator ≡ word → is_equals_at sign ≡ true → front ≡ before ++ sign ∷ fragments_in list → IsVariable variable before → binds_plainly splittings.Steps before ≡ true
    → ItemsSound list → ItemsSound piece.items → then_at word variable list piece.items ≡ Some tree → Derives splittings.Steps (for_clause tree) (front ++ behind_in (piece ∷ []))
then_at_sound splitters.Then variable sign list piece front before tree is equals parts v plainly h k e =
    let (first, read, e1) = then_some (then_with variable piece.items) (expression_items splittings.Steps list) tree e in
    let (next, next_is, same) = map_some (then_of variable first) (expression_items splittings.Steps piece.items) tree e1 in
    let (token, one_is, role) = word_token piece.separator splitters.Then is (λ f. cc) in
    let (sign_token, sign_is, equal) = equals_token sign equals in
    then_parts variable first next tree sign_token token sign piece.separator front before (fragments_in list) (fragments_in piece.items) same sign_is one_is parts equal role v plainly (expression_sound splittings.Steps list first h read) (expression_sound splittings.Steps piece.items next k next_is)
then_at_sound word variable sign list piece front before tree is equals parts v plainly h k e = absurd cc

then_in_sound : (variable : VariableTree) (sign : SeenFragment) (list : List Item) (others : List Piece) (front before : Fragments) (tree : ForClause) → is_equals_at sign ≡ true → front ≡ before ++ sign ∷ fragments_in list → IsVariable variable before → binds_plainly splittings.Steps before ≡ true
    → ItemsSound list → Separates (is_splitter splittings.Steps) others → then_in variable list others ≡ Some tree → Derives splittings.Steps (for_clause tree) (front ++ behind_in others)
then_in_sound variable sign list [] front before tree equals parts v plainly h k e = absurd cc
then_in_sound variable sign list (piece ∷ []) front before tree equals parts v plainly h (is, k, m) e = then_at_sound (word_of piece.separator) variable sign list piece front before tree refl equals parts v plainly h k e
then_in_sound variable sign list (piece ∷ second ∷ others) front before tree equals parts v plainly h k e = absurd cc

clause_behind_sound : (variable : VariableTree) (rest : List Item) (others : List Piece) (front before : Fragments) (tree : ForClause) → front ≡ before ++ fragments_in rest → IsVariable variable before → binds_plainly splittings.Steps before ≡ true → ItemsSound rest → Separates (is_splitter splittings.Steps) others
    → clause_behind variable rest others ≡ Some tree → Derives splittings.Steps (for_clause tree) (front ++ behind_in others)
clause_behind_sound variable [] others front before tree parts v plainly h k e = from_in_sound variable others front before tree parts v plainly k e
clause_behind_sound variable (first ∷ rest) others front before tree parts v plainly (h, m) k e = go (is_in first.fragment) refl e
  where
    by_equals : (b : Bool) → is_equals_at first.fragment ≡ b → equals_if b variable rest others ≡ Some tree → Derives splittings.Steps (for_clause tree) (front ++ behind_in others)
    by_equals true is f = then_in_sound variable first.fragment rest others front before tree is parts v plainly m k f
    by_equals false is f = absurd cc

    go : (b : Bool) → is_in first.fragment ≡ b → in_if b variable first rest others ≡ Some tree → Derives splittings.Steps (for_clause tree) (front ++ behind_in others)
    go true is f = in_in_sound variable first.fragment rest others front before tree is parts v plainly m f
    go false is f = by_equals (is_equals_at first.fragment) refl f

clause_if_sound : (b : Bool) (pieces : Pieces) (tree : ForClause) → binds_plainly splittings.Steps (fragments_in pieces.first) ≡ b → ItemsSound pieces.first → Separates (is_splitter splittings.Steps) pieces.others → clause_if b pieces ≡ Some tree → Derives splittings.Steps (for_clause tree) (fragments_in pieces.first ++ behind_in pieces.others)
clause_if_sound true pieces tree plainly h k e =
    let (front, read, e1) = then_some (clause_with pieces.others) (variable_front pieces.first) tree e in
    let v = variable_front_sound pieces.first front h read in
    clause_behind_sound front.variable front.rest pieces.others (fragments_in pieces.first) v.before tree v.parts v.is (plain_left splittings.Steps v.before (fragments_in front.rest) (subst (λ (fs : Fragments). binds_plainly splittings.Steps fs ≡ true) v.parts plainly)) v.rest_sound k e1
clause_if_sound false pieces tree plainly h k e = absurd cc

clause_sound : (list : List Item) (tree : ForClause) → ItemsSound list → clause_items list ≡ Some tree → Derives splittings.Steps (for_clause tree) (fragments_in list)
clause_sound list tree h e =
    let pieces : Pieces = cut (is_splitter splittings.Steps) true list in
    let c = cut_sound (is_splitter splittings.Steps) true list h in
    subst (Derives splittings.Steps (for_clause tree)) c.same (clause_if_sound (binds_plainly splittings.Steps (fragments_in pieces.first)) pieces tree refl c.first_sound c.others_sound e)

-- the test that ends a loop
abbrev StopIs : StopTree → Fragments → Type 0
StopIs stop fragments = (key : Token) × (test : Tree) × (after : Fragments) × (stop ≡ stop_with key test) × (fragments ≡ one key ∷ after) × (is_stop_word key ≡ true) × Derives splittings.Steps (expression test) after

stop_token_sound : (fragment same : SeenFragment) (rest : List Item) (stop : StopTree) → fragment ≡ same → is_stop_at same ≡ true → ItemsSound rest → stop_token same rest ≡ Some stop → StopIs stop (fragment ∷ fragments_in rest)
stop_token_sound fragment (group opener inner closer) rest stop is stops h e = absurd cc
stop_token_sound fragment (one key) rest stop is stops h e =
    let (test, read, same) = map_some (stop_with key) (expression_items splittings.Steps rest) stop e in
    (key, test, fragments_in rest, same, ap (λ (f : SeenFragment). f ∷ fragments_in rest) is, stops, expression_sound splittings.Steps rest test h read)

stop_sound : (list : List Item) (stop : StopTree) → ItemsSound list → is_stop list ≡ true → stop_items list ≡ Some stop → StopIs stop (fragments_in list)
stop_sound [] stop h is e = absurd cc
stop_sound (first ∷ rest) stop h is e = stop_token_sound first.fragment first.fragment rest stop refl is h.1 e

stop_ends : (stop : StopTree) (fragments : Fragments) → StopIs stop fragments → Derives splittings.Steps (for_clauses [] (Some stop)) fragments
stop_ends stop fragments (key, test, after, same, parts, is, h) = rw (same, parts) (only_stop key test after is h)

more_clauses_of : (tree : ForClause) (others : List ForClause) (stop : Option StopTree) (separator : SeenFragment) (before after : Fragments) → is_comma_fragment separator ≡ true → Derives splittings.Steps (for_clause tree) before → Derives splittings.Steps (for_clauses others stop) after
    → Derives splittings.Steps (for_clauses (tree ∷ others) stop) (before ++ separator ∷ after)
more_clauses_of tree others stop (one token) before after e h k = more_clauses tree others stop token before after _ refl (comma_is (role_of token) e) h k
more_clauses_of tree others stop (group opener inner closer) before after e h k = absurd cc

clauses_row : EndRow is_comma_fragment is_stop clause_items stop_items (λ tree fragments. Derives splittings.Steps (for_clause tree) fragments) StopIs (λ trees stop fragments. Derives splittings.Steps (for_clauses trees stop) fragments)
clauses_row =
    record {
      only = last_clause;
      ends = stop_ends;
      more = more_clauses_of;
      reads_one = λ items tree h e. clause_sound items tree h e;
      reads_last = λ items stop h is e. stop_sound items stop h is e;
    }

pub for_head_sound : (list : List Item) (found : Ending ForClause StopTree) → ItemsSound list → for_items list ≡ Some found → Derives splittings.Steps (for_head found.parts found.last) (fragments_in list)
for_head_sound [] found h e = subst (λ (f : Ending ForClause StopTree). Derives splittings.Steps (for_head f.parts f.last) []) (some_one _ _ e) empty_head
for_head_sound (first ∷ rest) found h e = some_clauses found.parts found.last (fragments_in (first ∷ rest)) (end_row_sound is_comma_fragment is_stop clause_items stop_items _ _ _ clauses_row (first ∷ rest) found h e)

finally_at_sound : (word : Splitter) (separator : SeenFragment) (list : List Item) (last : Otherwise) → word_of separator ≡ word → ItemsSound list → finally_at word list ≡ Some last → Derives splittings.LastPart (ending_part last) (separator ∷ (fragments_in list ++ []))
finally_at_sound splitters.Finally separator list last is h e =
    let (trees, read, same) = map_some finally_of (body_items splittings.LastPart list) last e in
    let (token, one_is, role) = word_token separator splitters.Finally is (λ f. cc) in
    parts_of token trees separator (fragments_in list) last same one_is role (body_sound splittings.LastPart list trees h read)
  where
    parts_of : (token : Token) (trees : List ItemTree) (separator : SeenFragment) (after : Fragments) (last : Otherwise) → last ≡ finally_of trees → separator ≡ one token → splitter_of token ≡ splitters.Finally → Derives splittings.LastPart (a_body trees) after → Derives splittings.LastPart (ending_part last) (separator ∷ (after ++ []))
    parts_of token trees separator after last same one_is role k = rw (same, one_is, append-nil) (by_finally trees token after role k)
finally_at_sound word separator list last is h e = absurd cc

finally_sound : (others : List Piece) (last : Otherwise) → Separates (is_splitter splittings.LastPart) others → finally_in others ≡ Some last → Derives splittings.LastPart (ending_part last) (behind_in others)
finally_sound [] last h e = subst (λ (l : Otherwise). Derives splittings.LastPart (ending_part l) []) (some_one _ _ e) no_finally
finally_sound (piece ∷ []) last (is, h, k) e = finally_at_sound (word_of piece.separator) piece.separator piece.items last refl h e
finally_sound (piece ∷ second ∷ others) last h e = absurd cc

pub for_sound : (opener : Token) (inner : SeenFragments) (closer : Token) (list : List Item) (tree : Tree) → ItemsSound list → fragments_in list ≡ row inner → bracket_of opener closer ≡ brackets.Statement keywords.For
    → option_and_then (for_statement opener) (headed list) ≡ Some tree → (words : Splitting) → Derives words (leaf tree) (group opener inner closer ∷ [])
for_sound opener inner closer list tree h parts is e words =
    let (front, front_is, e1) = then_some (for_statement opener) (headed list) tree e in
    let t = headed_sound list front h front_is in
    let pieces : Pieces = cut (is_splitter splittings.LastPart) false front.rest in
    let c = cut_sound (is_splitter splittings.LastPart) false front.rest t.rest_sound in
    let (clauses, clauses_are, e2) = then_some (for_pieces opener pieces) front.first.found.clauses tree e1 in
    let (trees, read, e3) = then_some (for_body opener clauses (finally_in pieces.others)) (body_items splittings.LastPart pieces.first) tree e2 in
    let (last, last_is, same) = map_some (for_of opener clauses trees) (finally_in pieces.others) tree e3 in
    subst (λ (x : Tree). Derives words (leaf x) (group opener inner closer ∷ [])) (sym same)
    (for_leaf words clauses.parts clauses.last trees last opener inner closer t.opener t.inner t.closer (fragments_in pieces.first) (behind_in pieces.others) is
    (sym parts ∙ t.parts ∙ ap (λ (fs : Fragments). group t.opener t.inner t.closer ∷ fs) (sym c.same)) t.is_round (t.inside.clauses_are clauses clauses_are)
    (body_sound splittings.LastPart pieces.first trees c.first_sound read) (finally_sound pieces.others last c.others_sound last_is))

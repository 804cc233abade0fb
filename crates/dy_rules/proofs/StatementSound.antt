-- What is read as a statement is derived.
use Rattle.std.proofs.Common.{◌≡◌, true, false, List, [], ◌∷◌, ◌++◌, Option, Some, option_map, option_and_then, refl, sym, ap, subst, ◌∙◌}
use Rattle.std.proofs.lemmas.List.{append-nil}
use Rattle.dy_tree.specs.declared.token.Token.{Token}
use Rattle.dy_tree.specs.Fragments.{SeenFragment, one, group, SeenFragments, row}
use Rattle.dy_tree.specs.declared.brackets.Guard.{Guard}
use Rattle.dy_tree.specs.declared.brackets.Keyword.{Keyword}
use Rattle.dy_tree.specs.declared.brackets.Keyword.TheVariants as keywords
use Rattle.dy_tree.specs.declared.brackets.Bracket.TheVariants as brackets
use Rattle.dy_tree.specs.declared.splitters.Splitting.{Splitting}
use Rattle.dy_tree.specs.declared.splitters.Splitting.TheVariants as splittings
use Rattle.dy_tree.specs.declared.splitters.Splitter.{Splitter}
use Rattle.dy_tree.specs.declared.splitters.Splitter.TheVariants as splitters
use Rattle.dy_rules.specs.Trees.{Tree}
use Rattle.dy_rules.specs.Roles.{bracket_of}
use Rattle.dy_rules.specs.Productions.{leaf, a_body, alternatives, Derives, begin_leaf, if_leaf, guarded_leaf, no_alternatives, by_else, more_alternatives, arms, case_leaf, select_leaf, signature, method_leaf}
use Rattle.dy_rules.specs.Cutting.{Item, Piece, Pieces, is_splitter, cut, fragments_in, headed, word_of}
use Rattle.dy_rules.specs.Bodies.{body_items}
use Rattle.dy_rules.specs.StatementReading.{tested, Others, by_body, with_alternative, with_body, with_test, if_last, other_at, others_of, begin_of, guarded_of, guarded_items, if_of, if_body, if_items, statement_items, case_of, select_of, select_with, select_items, method_statement}
use Rattle.dy_rules.proofs.Lists.{some_one, map_some, then_some}
use Rattle.dy_rules.proofs.Sound.{ItemsSound}
use Rattle.dy_rules.proofs.Cuts.{Separates, behind_in, cut_sound}
use Rattle.dy_rules.specs.Choices.{arms_items}
use Rattle.dy_rules.proofs.BodySound.{body_sound}
use Rattle.dy_rules.proofs.ChoiceSound.{arms_sound}
use Rattle.dy_rules.proofs.HeadSound.{tested_sound, headed_sound, word_token}
use Rattle.dy_rules.proofs.BlockSound.{block_sound}
use Rattle.dy_rules.proofs.LoopSound.{for_sound}
use Rattle.dy_rules.specs.Signatures.{method_items}
use Rattle.dy_rules.proofs.SignatureSound.{method_sound}

abbrev Fragments : Type 0
Fragments = List SeenFragment

by_else_sound : (separator : SeenFragment) (list : List Item) (behind : List Piece) (found : Others) → word_of separator ≡ splitters.Else → ItemsSound list → if_last behind (option_map by_body (body_items splittings.Branches list)) ≡ Some found
    → Derives splittings.Branches (alternatives found.trees found.last) (separator ∷ (fragments_in list ++ behind_in behind))
by_else_sound separator list [] found is h e =
    let (trees, read, same) = map_some by_body (body_items splittings.Branches list) found e in
    let (token, one_is, word) = word_token separator splitters.Else is (λ f. cc) in
    rw (same, one_is, append-nil) (by_else trees token (fragments_in list) word (body_sound splittings.Branches list trees h read))
by_else_sound separator list (piece ∷ behind) found is h e = absurd cc

alternative_sound : (separator : SeenFragment) (list : List Item) (behind : Fragments) (rest : Option Others) (found : Others) → word_of separator ≡ splitters.Elseif → ItemsSound list
    → ((others : Others) → rest ≡ Some others → Derives splittings.Branches (alternatives others.trees others.last) behind) → option_and_then (with_test rest) (tested list) ≡ Some found
    → Derives splittings.Branches (alternatives found.trees found.last) (separator ∷ (fragments_in list ++ behind))
alternative_sound separator list behind rest found is h more e =
    let (head, head_is, e1) = then_some (with_test rest) (tested list) found e in
    let (trees, trees_are, e2) = then_some (with_body head.test rest) (body_items splittings.Branches head.rest) found e1 in
    let (others, others_are, same) = map_some (with_alternative head.test trees) rest found e2 in
    let (token, one_is, word) = word_token separator splitters.Elseif is (λ f. cc) in
    let t = tested_sound list head h head_is in
    rw (same, one_is, t.parts)
    (more_alternatives head.test trees others.trees others.last token t.opener t.inner t.closer (fragments_in head.rest) behind (one token ∷ group t.opener t.inner t.closer ∷ (fragments_in head.rest ++ behind)) refl word t.is_round t.derived
    (body_sound splittings.Branches head.rest trees t.rest_sound trees_are) (more others others_are))

others_sound : (others : List Piece) (found : Others) → Separates (is_splitter splittings.Branches) others → others_of others ≡ Some found → Derives splittings.Branches (alternatives found.trees found.last) (behind_in others)
others_sound [] found h e = rw (← some_one _ _ e) no_alternatives
others_sound (piece ∷ behind) found (splits, h, k) e = go (word_of piece.separator) refl (λ others f. others_sound behind others k f) e
  where
    go : (word : Splitter) → word_of piece.separator ≡ word → ((others : Others) → others_of behind ≡ Some others → Derives splittings.Branches (alternatives others.trees others.last) (behind_in behind))
        → other_at word piece.items behind (others_of behind) ≡ Some found → Derives splittings.Branches (alternatives found.trees found.last) (piece.separator ∷ (fragments_in piece.items ++ behind_in behind))
    go splitters.Else is more f = by_else_sound piece.separator piece.items behind found is h f
    go splitters.Elseif is more f = alternative_sound piece.separator piece.items (behind_in behind) (others_of behind) found is h more f
    go word is more f = absurd cc

begin_sound : (opener : Token) (inner : SeenFragments) (closer : Token) (list : List Item) (tree : Tree) → ItemsSound list → fragments_in list ≡ row inner → bracket_of opener closer ≡ brackets.Statement keywords.Begin
    → option_map (begin_of opener) (body_items splittings.Nothing list) ≡ Some tree → (words : Splitting) → Derives words (leaf tree) (group opener inner closer ∷ [])
begin_sound opener inner closer list tree h parts is e words =
    let (trees, read, same) = map_some (begin_of opener) (body_items splittings.Nothing list) tree e in
    rw same (begin_leaf words trees opener inner closer is (subst (Derives splittings.Nothing (a_body trees)) parts (body_sound splittings.Nothing list trees h read)))

guarded_sound : (guard : Guard) (opener : Token) (inner : SeenFragments) (closer : Token) (list : List Item) (tree : Tree) → ItemsSound list → fragments_in list ≡ row inner → bracket_of opener closer ≡ brackets.Statement (keywords.Guard guard)
    → option_and_then (guarded_items guard opener) (tested list) ≡ Some tree → (words : Splitting) → Derives words (leaf tree) (group opener inner closer ∷ [])
guarded_sound guard opener inner closer list tree h parts is e words =
    let (head, head_is, e1) = then_some (guarded_items guard opener) (tested list) tree e in
    let (trees, trees_are, same) = map_some (guarded_of guard opener head.test) (body_items splittings.Nothing head.rest) tree e1 in
    let t = tested_sound list head h head_is in
    rw same (guarded_leaf words guard head.test trees opener inner closer t.opener t.inner t.closer (fragments_in head.rest) is (sym parts ∙ t.parts) t.is_round t.derived (body_sound splittings.Nothing head.rest trees t.rest_sound trees_are))

if_sound : (opener : Token) (inner : SeenFragments) (closer : Token) (list : List Item) (tree : Tree) → ItemsSound list → fragments_in list ≡ row inner → bracket_of opener closer ≡ brackets.Statement keywords.If
    → option_and_then (if_items opener) (tested list) ≡ Some tree → (words : Splitting) → Derives words (leaf tree) (group opener inner closer ∷ [])
if_sound opener inner closer list tree h parts is e words =
    let (head, head_is, e1) = then_some (if_items opener) (tested list) tree e in
    let t = tested_sound list head h head_is in
    let pieces : Pieces = cut (is_splitter splittings.Branches) false head.rest in
    let c = cut_sound (is_splitter splittings.Branches) false head.rest t.rest_sound in
    let (trees, trees_are, e2) = then_some (if_body opener head.test (others_of pieces.others)) (body_items splittings.Branches pieces.first) tree e1 in
    let (others, others_are, same) = map_some (if_of opener head.test trees) (others_of pieces.others) tree e2 in
    rw same
    (if_leaf words head.test trees others.trees others.last opener inner closer t.opener t.inner t.closer (fragments_in pieces.first) (behind_in pieces.others) is
    (sym parts ∙ t.parts ∙ ap (λ (fs : Fragments). group t.opener t.inner t.closer ∷ fs) (sym c.same)) t.is_round t.derived
    (body_sound splittings.Branches pieces.first trees c.first_sound trees_are) (others_sound pieces.others others c.others_sound others_are))

case_sound : (opener : Token) (inner : SeenFragments) (closer : Token) (list : List Item) (tree : Tree) → ItemsSound list → fragments_in list ≡ row inner → bracket_of opener closer ≡ brackets.Statement keywords.Case
    → option_map (case_of opener) (arms_items true list) ≡ Some tree → (words : Splitting) → Derives words (leaf tree) (group opener inner closer ∷ [])
case_sound opener inner closer list tree h parts is e words =
    let (found, read, same) = map_some (case_of opener) (arms_items true list) tree e in
    rw same (case_leaf words found.arms found.last opener inner closer is (subst (Derives splittings.Nothing (arms true found.arms found.last)) parts (arms_sound true list found h read)))

select_sound : (opener : Token) (inner : SeenFragments) (closer : Token) (list : List Item) (tree : Tree) → ItemsSound list → fragments_in list ≡ row inner → bracket_of opener closer ≡ brackets.Statement keywords.Select
    → option_and_then (select_items opener) (headed list) ≡ Some tree → (words : Splitting) → Derives words (leaf tree) (group opener inner closer ∷ [])
select_sound opener inner closer list tree h parts is e words =
    let (front, front_is, e1) = then_some (select_items opener) (headed list) tree e in
    let t = headed_sound list front h front_is in
    let (found_head, head_is, e2) = then_some (select_with opener front.rest) front.first.found.head tree e1 in
    let (found, read, same) = map_some (select_of opener found_head) (arms_items false front.rest) tree e2 in
    rw same
    (select_leaf words found_head.selected found_head.test found.arms found.last opener inner closer t.opener t.inner t.closer (fragments_in front.rest) is (sym parts ∙ t.parts) t.is_round (t.inside.head_is found_head head_is)
    (arms_sound false front.rest found t.rest_sound read))

method_leaf_sound : (opener : Token) (inner : SeenFragments) (closer : Token) (list : List Item) (tree : Tree) → ItemsSound list → fragments_in list ≡ row inner → bracket_of opener closer ≡ brackets.Statement keywords.Method
    → option_map (method_statement opener) (method_items list) ≡ Some tree → (words : Splitting) → Derives words (leaf tree) (group opener inner closer ∷ [])
method_leaf_sound opener inner closer list tree h parts is e words =
    let (method, read, same) = map_some (method_statement opener) (method_items list) tree e in
    rw same (method_leaf words method.found method.results method.trees opener inner closer is (subst (Derives splittings.Nothing (signature method.found method.results method.trees)) parts (method_sound list method h read)))

pub statement_sound : (kind : Keyword) (opener : Token) (inner : SeenFragments) (closer : Token) (list : List Item) (tree : Tree) → ItemsSound list → fragments_in list ≡ row inner → bracket_of opener closer ≡ brackets.Statement kind
    → statement_items kind opener list ≡ Some tree → (words : Splitting) → Derives words (leaf tree) (group opener inner closer ∷ [])
statement_sound keywords.Begin opener inner closer list tree h parts is e words = begin_sound opener inner closer list tree h parts is e words
statement_sound (keywords.Guard guard) opener inner closer list tree h parts is e words = guarded_sound guard opener inner closer list tree h parts is e words
statement_sound keywords.If opener inner closer list tree h parts is e words = if_sound opener inner closer list tree h parts is e words
statement_sound keywords.Case opener inner closer list tree h parts is e words = case_sound opener inner closer list tree h parts is e words
statement_sound keywords.Select opener inner closer list tree h parts is e words = select_sound opener inner closer list tree h parts is e words
statement_sound keywords.Block opener inner closer list tree h parts is e words = block_sound opener inner closer list tree h parts is e words
statement_sound keywords.For opener inner closer list tree h parts is e words = for_sound opener inner closer list tree h parts is e words
statement_sound keywords.Method opener inner closer list tree h parts is e words = method_leaf_sound opener inner closer list tree h parts is e words
statement_sound keywords.Define opener inner closer list tree h parts is e words = absurd cc

-- What is derived as a statement is read.
use Rattle.std.proofs.Common.{◌≡◌, true, false, List, [], ◌∷◌, ◌++◌, Option, Some, option_map, option_and_then, refl, sym, ap, subst, ◌∙◌}
use Rattle.std.proofs.lemmas.List.{append-nil}
use Rattle.dy_tree.specs.declared.token.Token.{Token}
use Rattle.dy_tree.specs.Fragments.{SeenFragment, one, group, SeenFragments, row}
use Rattle.dy_tree.specs.declared.brackets.Guard.{Guard}
use Rattle.dy_tree.specs.declared.brackets.Keyword.{Keyword}
use Rattle.dy_tree.specs.declared.brackets.Keyword.TheVariants as keywords
use Rattle.dy_tree.specs.declared.brackets.Bracket.{Bracket}
use Rattle.dy_tree.specs.declared.brackets.Bracket.TheVariants as brackets
use Rattle.dy_tree.specs.declared.splitters.Splitting.TheVariants as splittings
use Rattle.dy_tree.specs.declared.splitters.Splitter.TheVariants as splitters
use Rattle.dy_rules.specs.Trees.{Tree, begin_tree, if_tree, guarded, ItemTree, body_of, Alternative, alternative, alternatives_of, Otherwise, no_otherwise, otherwise, Arm, case_tree, select_tree, maybe_of, arms_of, Listed, method_tree, parameters_of}
use Rattle.dy_rules.specs.Types.{ResultTree}
use Rattle.dy_rules.specs.Roles.{splitter_of, splits, bracket_of}
use Rattle.dy_rules.specs.Cutting.{Item, is_splitter, cut, Head, Front, front_in}
use Rattle.dy_rules.specs.Reading.{Outer, has, in_brackets, group_at_operand}
use Rattle.dy_rules.specs.StatementReading.{Tested, tested_in, tested, Others, others_of, guarded_items, if_items, if_pieces, statement_items, with_test, with_body, case_of, select_of, select_with, select_items, method_statement}
use Rattle.dy_rules.specs.Fragments.{item_of, items_of, items_in, expression_in, tree_inside}
use Rattle.dy_rules.proofs.Lists.{items_row}
use Rattle.dy_rules.proofs.Cuts.{joined, cut_end}
use Rattle.dy_rules.proofs.Rows.{joined_on}
use Rattle.dy_rules.specs.Choices.{arms_items, head_items}
use Rattle.dy_rules.proofs.BodyComplete.{BodyRead, AlternativesRead}
use Rattle.dy_rules.proofs.ChoiceComplete.{ArmsRead, HeadRead}
use Rattle.dy_rules.proofs.SignatureComplete.{SignatureRead}
use Rattle.dy_rules.specs.Signatures.{method_items}

abbrev Fragments : Type 0
Fragments = List SeenFragment

pub no_alternatives_read : AlternativesRead [] no_otherwise []
no_alternatives_read =
    record {
      others = [];
      pieces = λ front h. ap (λ (fs : List SeenFragment). cut (is_splitter splittings.Branches) false (items_of fs)) (append-nil front) ∙ cut_end (is_splitter splittings.Branches) false front h;
      found = refl;
    }

else_splits : (word : Token) → splitter_of word ≡ splitters.Else → splits splittings.Branches word ≡ true
else_splits word is = rw is refl

elseif_splits : (word : Token) → splitter_of word ≡ splitters.Elseif → splits splittings.Branches word ≡ true
elseif_splits word is = rw is refl

pub else_read : (trees : List ItemTree) (word : Token) (after : Fragments) → splitter_of word ≡ splitters.Else → BodyRead splittings.Branches trees after → AlternativesRead [] (otherwise (body_of trees)) (one word ∷ after)
else_read trees word after is h =
    record {
      others = record { separator = one word; items = items_of after } ∷ [];
      pieces = λ front k. joined_on (is_splitter splittings.Branches) false front (one word) after k (else_splits word is) ∙ ap (joined (items_of front) (one word)) (cut_end (is_splitter splittings.Branches) false after h.closed);
      found = rw (is, h.read) refl;
    }

tested_round : (bracket : Bracket) (opener : Token) (inner : SeenFragments) (test : Tree) (rest : List Item) → bracket ≡ brackets.Round → expression_in splittings.Nothing inner ≡ Some test
    → tested_in bracket (tree_inside bracket opener inner (items_in inner)) rest ≡ Some (record { test = test; rest = rest })
tested_round bracket opener inner test rest is e = rw (is, e) refl

pub tested_read : (opener : Token) (inner : SeenFragments) (closer : Token) (test : Tree) (after : Fragments) → bracket_of opener closer ≡ brackets.Round → expression_in splittings.Nothing inner ≡ Some test
    → tested (items_of (group opener inner closer ∷ after)) ≡ Some (record { test = test; rest = items_of after })
tested_read opener inner closer test after is e = tested_round (bracket_of opener closer) opener inner test (items_of after) is e

pub more_alternatives_read : (test : Tree) (trees : List ItemTree) (others : List Alternative) (last : Otherwise) (word left : Token) (inner : SeenFragments) (right : Token) (first second all : Fragments)
    → all ≡ one word ∷ group left inner right ∷ (first ++ second) → splitter_of word ≡ splitters.Elseif → bracket_of left right ≡ brackets.Round → expression_in splittings.Nothing inner ≡ Some test → BodyRead splittings.Branches trees first → AlternativesRead others last second
    → AlternativesRead (alternative test (body_of trees) ∷ others) last all
more_alternatives_read test trees others last word left inner right first second all parts is is_round e h k =
    let head : Fragments = group left inner right ∷ first in
    subst (AlternativesRead (alternative test (body_of trees) ∷ others) last) (sym parts)
    (record {
      others = record { separator = one word; items = items_of head } ∷ k.others;
      pieces = λ front closed. joined_on (is_splitter splittings.Branches) false front (one word) (head ++ second) closed (elseif_splits word is) ∙ ap (joined (items_of front) (one word)) (k.pieces head (refl, h.closed));
      found = rw is (ap (λ (o : Option Tested). option_and_then (with_test (others_of k.others)) o) (tested_read left inner right test first is_round e)
          ∙ ap (λ (o : Option (List ItemTree)). option_and_then (with_body test (others_of k.others)) o) h.read ∙ ap (λ (o : Option Others). with_body test o trees) k.found);
    })

pub begin_read : (trees : List ItemTree) (opener : Token) (inner : SeenFragments) → BodyRead splittings.Nothing trees (row inner) → statement_items keywords.Begin opener (items_in inner) ≡ Some (begin_tree opener (body_of trees))
begin_read trees opener inner h = rw (items_row inner, h.read) refl

pub guarded_read : (guard : Guard) (test : Tree) (trees : List ItemTree) (opener : Token) (inner : SeenFragments) (left : Token) (within : SeenFragments) (right : Token) (after : Fragments)
    → row inner ≡ group left within right ∷ after → bracket_of left right ≡ brackets.Round → expression_in splittings.Nothing within ≡ Some test → BodyRead splittings.Nothing trees after
    → statement_items (keywords.Guard guard) opener (items_in inner) ≡ Some (guarded guard opener test (body_of trees))
guarded_read guard test trees opener inner left within right after parts is e h =
    ap (statement_items (keywords.Guard guard) opener) (items_row inner ∙ ap items_of parts)
    ∙ ap (λ (o : Option Tested). option_and_then (guarded_items guard opener) o) (tested_read left within right test after is e)
    ∙ rw h.read refl

pub if_read : (test : Tree) (trees : List ItemTree) (others : List Alternative) (last : Otherwise) (opener : Token) (inner : SeenFragments) (left : Token) (within : SeenFragments) (right : Token) (first second : Fragments)
    → row inner ≡ group left within right ∷ (first ++ second) → bracket_of left right ≡ brackets.Round → expression_in splittings.Nothing within ≡ Some test → BodyRead splittings.Branches trees first → AlternativesRead others last second
    → statement_items keywords.If opener (items_in inner) ≡ Some (if_tree opener test (body_of trees) (alternatives_of others) last)
if_read test trees others last opener inner left within right first second parts is e h k =
    ap (statement_items keywords.If opener) (items_row inner ∙ ap items_of parts)
    ∙ ap (λ (o : Option Tested). option_and_then (if_items opener) o) (tested_read left within right test (first ++ second) is e)
    ∙ ap (if_pieces opener test) (k.pieces first h.closed)
    ∙ rw (h.read, k.found) refl

pub case_read : (trees : List Arm) (last : Otherwise) (opener : Token) (inner : SeenFragments) → ArmsRead true trees last (row inner) → statement_items keywords.Case opener (items_in inner) ≡ Some (case_tree opener (arms_of trees) last)
case_read trees last opener inner h = ap (λ (items : List Item). option_map (case_of opener) (arms_items true items)) (items_row inner) ∙ ap (option_map (case_of opener)) h

headed_round : (bracket : Bracket) (first : Item) (rest : List Item) → bracket ≡ brackets.Round → front_in bracket first rest ≡ Some (record { first = first; rest = rest })
headed_round bracket first rest is = rw is refl

pub select_read : (selected : Tree) (test : Option Tree) (trees : List Arm) (last : Otherwise) (opener : Token) (inner : SeenFragments) (left : Token) (within : SeenFragments) (right : Token) (after : Fragments)
    → row inner ≡ group left within right ∷ after → bracket_of left right ≡ brackets.Round → HeadRead selected test (row within) → ArmsRead false trees last after
    → statement_items keywords.Select opener (items_in inner) ≡ Some (select_tree opener selected (maybe_of test) (arms_of trees) last)
select_read selected test trees last opener inner left within right after parts is e h =
    ap (statement_items keywords.Select opener) (items_row inner ∙ ap items_of parts)
    ∙ ap (λ (o : Option Front). option_and_then (select_items opener) o) (headed_round (bracket_of left right) (item_of (group left within right)) (items_of after) is)
    ∙ ap (λ (o : Option Head). option_and_then (select_with opener (items_of after)) o) (ap head_items (items_row within) ∙ e)
    ∙ ap (option_map (select_of opener (record { selected = selected; test = test }))) h

pub method_read : (found : Listed) (results : Option ResultTree) (trees : List ItemTree) (opener : Token) (inner : SeenFragments) → SignatureRead found results trees (row inner) → statement_items keywords.Method opener (items_in inner) ≡ Some (method_tree opener (parameters_of found results) (body_of trees))
method_read found results trees opener inner h = ap (λ (items : List Item). option_map (method_statement opener) (method_items items)) (items_row inner) ∙ ap (option_map (method_statement opener)) h

statement_at : (bracket : Bracket) (kind : Keyword) (outer : Outer) (opener : Token) (inner : SeenFragments) (tree : Tree) → bracket ≡ brackets.Statement kind → statement_items kind opener (items_in inner) ≡ Some tree
    → group_at_operand outer bracket (tree_inside bracket opener inner (items_in inner)) ≡ Some (has tree outer)
statement_at bracket kind outer opener inner tree is e = rw is (ap (λ (o : Option Tree). option_map (in_brackets outer) o) e)

-- a statement where an operand begins
pub statement_read : (kind : Keyword) (outer : Outer) (opener : Token) (inner : SeenFragments) (closer : Token) (tree : Tree) → bracket_of opener closer ≡ brackets.Statement kind → statement_items kind opener (items_in inner) ≡ Some tree
    → group_at_operand outer (bracket_of opener closer) (tree_inside (bracket_of opener closer) opener inner (items_in inner)) ≡ Some (has tree outer)
statement_read kind outer opener inner closer tree is e = statement_at (bracket_of opener closer) kind outer opener inner tree is e

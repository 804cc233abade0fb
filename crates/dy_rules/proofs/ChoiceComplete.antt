-- What is derived as the arms of a case or a select is read.
use Rattle.std.proofs.Common.{◌≡◌, ◌⊎◌, inl, inr, Bool, true, false, List, [], ◌∷◌, ◌++◌, Option, Some, None, option_map, option_and_then, refl, sym, ap, subst, ◌∙◌, append_assoc}
use Rattle.dy_tree.specs.declared.token.Token.{Token}
use Rattle.dy_tree.specs.Fragments.{SeenFragment, one}
use Rattle.dy_tree.specs.declared.roles.Role.TheVariants as roles
use Rattle.dy_tree.specs.declared.splitters.Splitting.TheVariants as splittings
use Rattle.dy_tree.specs.declared.splitters.Splitter.TheVariants as splitter_words
use Rattle.dy_rules.specs.Trees.{Tree, ItemTree, body_of, Otherwise, no_otherwise, otherwise, Arm, arm, tests_of}
use Rattle.dy_rules.specs.Roles.{role_of, splitter_of, splits}
use Rattle.dy_rules.specs.Arguments.{is_comma_fragment}
use Rattle.dy_rules.specs.Productions.{suits}
use Rattle.dy_rules.specs.Cutting.{Item, Pieces, is_semicolon, is_let, is_arrow, is_splitter, cut, cut_if, without_end}
use Rattle.dy_rules.specs.Reading.{State, whole, wants, tree_of, expression_items}
use Rattle.dy_rules.specs.Bodies.{item_items}
use Rattle.dy_rules.specs.Choices.{is_remains, PieceKind, arm_piece, arrow_left, without_arrow, kind_at, kind_of, Choices, choices_of, lead_before, body_with, tests_items, arm_of, arm_if, arm_with, last_of, last_with, choice_at, choices_behind, choices_pieces, finished_choices, some_arms_items, arms_items, head_alone, head_by, head_with, head_pieces, head_items}
use Rattle.dy_rules.specs.Fragments.{item_of, items_of}
use Rattle.dy_rules.proofs.Lists.{reads}
use Rattle.dy_rules.proofs.Cuts.{Closed, ended, joined, cut_end, cut_on, cut_front, closed_on}
use Rattle.dy_rules.proofs.Rows.{items_append, joined_on, row_last, row_more}
use Rattle.dy_rules.proofs.Inner.{Separating, arrows, semicolons, splitters, reads_inner, inner_closed, inner_closed_by, inner_no_comma, item_role}
use Rattle.dy_rules.proofs.TypeComplete.{comma_separates}
use Rattle.dy_rules.proofs.BodyComplete.{Open, Nonempty, Begins, inner_begins, open_on, open_behind, nonempty_on, end_cut, semicolon_separates, expression_read, read_some, Leads, ItemsRead}

abbrev Fragments : Type 0
Fragments = List SeenFragment

pub record TestsRead (trees : List Tree) (fragments : List SeenFragment) : Type 0 where
  pub read : tests_items (items_of fragments) ≡ Some trees
  pub closed : (separates : SeenFragment → Bool) → Separating splittings.Nothing separates → Closed separates false fragments
  pub some : Begins fragments

pub one_test_read : (tree : Tree) (fragments : Fragments) (state : State) → reads splittings.Nothing (wants whole) fragments ≡ Some state → tree_of state ≡ Some tree → TestsRead (tree ∷ []) fragments
one_test_read tree fragments state e f =
    let h = reads_inner splittings.Nothing fragments (wants whole) state e in
    record {
      read = row_last is_comma_fragment (expression_items splittings.Nothing) fragments tree (inner_closed_by splittings.Nothing is_comma_fragment (inner_no_comma splittings.Nothing) fragments h) (expression_read splittings.Nothing tree fragments state e f);
      closed = λ separates s. inner_closed splittings.Nothing separates s fragments h;
      some = inner_begins splittings.Nothing fragments h (read_some splittings.Nothing tree fragments state e f);
    }

comma_item : (token : Token) → role_of token ≡ roles.Comma → (item_role (role_of token) ≡ true) × (is_let (one token) ≡ false)
comma_item token is = (rw is refl, rw is refl)

begins_on : (before : Fragments) (separator : SeenFragment) (after : Fragments) → Begins before → Begins (before ++ separator ∷ after)
begins_on [] separator after (first, rest, e, plainly) = absurd cc
begins_on (x ∷ before) separator after (first, rest, e, plainly) = let same : x ≡ first = cc in (x, before ++ separator ∷ after, refl, ap is_remains same ∙ plainly)

pub more_tests_read : (tree : Tree) (others : List Tree) (separator : Token) (before after all : Fragments) → all ≡ before ++ one separator ∷ after → role_of separator ≡ roles.Comma → (state : State) → reads splittings.Nothing (wants whole) before ≡ Some state → tree_of state ≡ Some tree → TestsRead others after
    → TestsRead (tree ∷ others) all
more_tests_read tree others separator before after all parts is state e f k =
    let h = reads_inner splittings.Nothing before (wants whole) state e in
    let (item, no_let) = comma_item separator is in
    subst (TestsRead (tree ∷ others)) (sym parts)
    (record {
      read = row_more is_comma_fragment (expression_items splittings.Nothing) before (one separator) after tree others (inner_closed_by splittings.Nothing is_comma_fragment (inner_no_comma splittings.Nothing) before h) (comma_separates separator is) (expression_read splittings.Nothing tree before state e f) k.read;
      closed = λ separates s. closed_on separates false before (one separator) after (inner_closed splittings.Nothing separates s before h) (s.others separator item) no_let (k.closed separates s);
      some = begins_on before (one separator) after (inner_begins splittings.Nothing before h (read_some splittings.Nothing tree before state e f));
    })

abbrev pub OpenRead : List ItemTree → Fragments → Type 0
OpenRead trees fragments = ((trees ≡ []) × (fragments ≡ [])) ⊎ ItemsRead splittings.Nothing trees fragments

-- the body of an arm, beside its arrow and behind it
pub record OpenedAt (single : Bool) (trees : List ItemTree) (others : List Arm) (last : Otherwise) (pieces : Pieces) : Type 0 where
  pub lead : List ItemTree
  pub behind : choices_behind splittings.Nothing single pieces.others ≡ Some (choices_of lead others last)
  pub inside : body_with splittings.Nothing pieces.first lead ≡ Some trees
  pub plain_first : cut is_arrow false pieces.first ≡ ended pieces.first

lead_body : (front : Fragments) (tree : ItemTree) (lead trees : List ItemTree) → Begins front → item_items splittings.Nothing (items_of front) ≡ Some tree → trees ≡ tree ∷ lead → body_with splittings.Nothing (items_of front) lead ≡ Some trees
lead_body [] tree lead trees (first, rest, f, plainly) e same = absurd cc
lead_body (x ∷ front) tree lead trees begins e same = ap (option_map (lead_before lead)) e ∙ ap (λ (list : List ItemTree). Some list) (sym same)

leads_opened : (single : Bool) (trees : List ItemTree) (others : List Arm) (last : Otherwise) (pieces : Pieces) → Leads splittings.Nothing single trees others last pieces → OpenedAt single trees others last pieces
leads_opened single trees others last pieces h =
    record {
      lead = h.rest;
      behind = h.behind;
      inside = ap (λ (items : List Item). body_with splittings.Nothing items h.rest) h.first_is ∙ lead_body h.front h.tree h.rest trees h.item_is.some h.item_is.read h.trees_are;
      plain_first = ap (cut is_arrow false) h.first_is ∙ cut_end is_arrow false h.front (h.item_is.closed is_arrow (arrows splittings.Nothing)) ∙ ap ended (sym h.first_is);
    }

opened_end : (single : Bool) (trees : List ItemTree) (fragments : Fragments) → OpenRead trees fragments → OpenedAt single trees [] no_otherwise (cut is_semicolon false (items_of fragments))
opened_end single trees fragments (inl (none, empty)) =
    subst (λ (fs : Fragments). OpenedAt single trees [] no_otherwise (cut is_semicolon false (items_of fs))) (sym empty) (record { lead = []; behind = refl; inside = ap (λ (list : List ItemTree). Some list) (sym none); plain_first = refl })
opened_end single trees fragments (inr h) = leads_opened single trees [] no_otherwise (cut is_semicolon false (items_of fragments)) (h.leads single)

opened_on : (single : Bool) (trees : List ItemTree) (fragments : Fragments) (separator : SeenFragment) (after : Fragments) (others : List Arm) (last : Otherwise) → OpenRead trees fragments → is_semicolon separator ≡ true
    → choices_pieces splittings.Nothing single (cut is_semicolon false (items_of after)) ≡ Some (choices_of [] others last) → OpenedAt single trees others last (cut is_semicolon false (items_of (fragments ++ separator ∷ after)))
opened_on single trees fragments separator after others last (inl (none, empty)) is e =
    subst (λ (fs : Fragments). OpenedAt single trees others last (cut is_semicolon false (items_of (fs ++ separator ∷ after)))) (sym empty)
    (subst (OpenedAt single trees others last) (sym (joined_on is_semicolon false [] separator after refl is)) (record { lead = []; behind = e; inside = ap (λ (list : List ItemTree). Some list) (sym none); plain_first = refl }))
opened_on single trees fragments separator after others last (inr h) is e = leads_opened single trees others last (cut is_semicolon false (items_of (fragments ++ separator ∷ after))) (h.leads_on single separator after others last is e)

pub record ChoicesRead (single : Bool) (trees : List Arm) (last : Otherwise) (fragments : List SeenFragment) : Type 0 where
  pub read : choices_pieces splittings.Nothing single (cut is_semicolon false (items_of fragments)) ≡ Some (choices_of [] trees last)
  pub ends : Open fragments
  pub some : Nonempty fragments

arrow_facts : (sign : Token) → role_of sign ≡ roles.Arrow → (is_arrow (one sign) ≡ true) × (is_semicolon (one sign) ≡ false) × (is_let (one sign) ≡ false)
arrow_facts sign is = (rw is refl, rw is refl, rw is refl)

arm_kind : (before : Fragments) (sign : Token) (after : List Item) → Begins before → Closed is_arrow false before → role_of sign ≡ roles.Arrow → cut is_arrow false after ≡ ended after → kind_of (items_of before ++ item_of (one sign) ∷ after) ≡ arm_piece (items_of before) after
arm_kind [] sign after (first, rest, e, plainly) h is ends = absurd cc
arm_kind (x ∷ before) sign after (first, rest, e, plainly) h is ends =
    let same : x ≡ first = cc in
    let (arrow_is, no_semicolon, no_let) = arrow_facts sign is in
    ap (λ (b : Bool). kind_at b (items_of before ++ item_of (one sign) ∷ after) (cut is_arrow false (items_of (x ∷ before) ++ item_of (one sign) ∷ after))) (ap is_remains same ∙ plainly)
    ∙ ap (kind_at false (items_of before ++ item_of (one sign) ∷ after)) (cut_on is_arrow false (x ∷ before) (one sign) after h arrow_is)
    ∙ ap (λ (pieces : Pieces). kind_at false (items_of before ++ item_of (one sign) ∷ after) (joined (items_of (x ∷ before)) (one sign) pieces)) ends

arm_pieces : (before : Fragments) (sign : Token) (after : Fragments) → Closed is_semicolon false before → role_of sign ≡ roles.Arrow
    → cut is_semicolon false (items_of (before ++ one sign ∷ after)) ≡ record { first = items_of before ++ item_of (one sign) ∷ (cut is_semicolon false (items_of after)).first; others = (cut is_semicolon false (items_of after)).others }
arm_pieces before sign after h is =
    let (arrow_is, no_semicolon, no_let) = arrow_facts sign is in
    ap (λ (fs : Fragments). cut is_semicolon false (items_of fs)) (sym (append_assoc before (one sign ∷ []) after))
    ∙ ap (cut is_semicolon false) (items_append (before ++ one sign ∷ []) after)
    ∙ cut_front is_semicolon false (before ++ one sign ∷ []) (items_of after) (closed_on is_semicolon false before (one sign) [] h no_semicolon no_let refl)
    ∙ ap (λ (items : List Item). record { first = items; others = (cut is_semicolon false (items_of after)).others })
    (ap (λ (items : List Item). items ++ (cut is_semicolon false (items_of after)).first) (items_append before (one sign ∷ [])) ∙ append_assoc (items_of before) (item_of (one sign) ∷ []) (cut is_semicolon false (items_of after)).first)

arm_choice : (single : Bool) (trees : List Tree) (items : List ItemTree) (others : List Arm) (last : Otherwise) (before : Fragments) (sign : Token) (pieces : Pieces) → TestsRead trees before → role_of sign ≡ roles.Arrow → suits single trees ≡ true → OpenedAt single items others last pieces
    → choices_pieces splittings.Nothing single (record { first = items_of before ++ item_of (one sign) ∷ pieces.first; others = pieces.others }) ≡ Some (choices_of [] (arm (tests_of trees) (body_of items) ∷ others) last)
arm_choice single trees items others last before sign pieces t is fit h =
    let all : List Item = items_of before ++ item_of (one sign) ∷ pieces.first in
    ap (λ (o : Option Choices). option_and_then (choice_at splittings.Nothing single (kind_of all) all) o) h.behind
    ∙ ap (λ (k : PieceKind). choice_at splittings.Nothing single k all (choices_of h.lead others last)) (arm_kind before sign pieces.first t.some (t.closed is_arrow (arrows splittings.Nothing)) is h.plain_first)
    ∙ ap (λ (o : Option (List Tree)). option_and_then (arm_with single (choices_of h.lead others last) (body_with splittings.Nothing pieces.first h.lead)) o) t.read
    ∙ ap (λ (b : Bool). arm_if b trees (choices_of h.lead others last) (body_with splittings.Nothing pieces.first h.lead)) fit
    ∙ ap (option_map (arm_of trees others last)) h.inside

arm_read : (single : Bool) (trees : List Tree) (items : List ItemTree) (others : List Arm) (last : Otherwise) (before : Fragments) (sign : Token) (after : Fragments) → TestsRead trees before → role_of sign ≡ roles.Arrow → suits single trees ≡ true
    → OpenedAt single items others last (cut is_semicolon false (items_of after))
    → choices_pieces splittings.Nothing single (cut is_semicolon false (items_of (before ++ one sign ∷ after))) ≡ Some (choices_of [] (arm (tests_of trees) (body_of items) ∷ others) last)
arm_read single trees items others last before sign after t is fit h =
    ap (choices_pieces splittings.Nothing single) (arm_pieces before sign after (t.closed is_semicolon (semicolons splittings.Nothing)) is) ∙ arm_choice single trees items others last before sign (cut is_semicolon false (items_of after)) t is fit h

not_semicolon_open : (before : Fragments) (last : SeenFragment) → is_semicolon last ≡ false → Open (before ++ last ∷ [])
not_semicolon_open before last e = open_on before last [] (rw e refl)

open_arm : (trees : List ItemTree) (before : Fragments) (sign : Token) (after : Fragments) → role_of sign ≡ roles.Arrow → OpenRead trees after → Open (before ++ one sign ∷ after)
open_arm trees before sign after is (inl (none, empty)) =
    let (arrow_is, no_semicolon, no_let) = arrow_facts sign is in
    subst (λ (fs : Fragments). Open (before ++ one sign ∷ fs)) (sym empty) (not_semicolon_open before (one sign) no_semicolon)
open_arm trees before sign after is (inr h) = open_behind before (one sign) after h.ends h.some

pub last_arm_read : (single : Bool) (trees : List Tree) (items : List ItemTree) (sign : Token) (before after all : Fragments) → all ≡ before ++ one sign ∷ after → role_of sign ≡ roles.Arrow → suits single trees ≡ true → TestsRead trees before → OpenRead items after
    → ChoicesRead single (arm (tests_of trees) (body_of items) ∷ []) no_otherwise all
last_arm_read single trees items sign before after all parts is fit t h =
    subst (ChoicesRead single (arm (tests_of trees) (body_of items) ∷ []) no_otherwise) (sym parts)
    (record {
      read = arm_read single trees items [] no_otherwise before sign after t is fit (opened_end single items after h);
      ends = open_arm items before sign after is h;
      some = nonempty_on before (one sign) after;
    })

pub more_arms_read : (single : Bool) (trees : List Tree) (items : List ItemTree) (others : List Arm) (last : Otherwise) (sign separator : Token) (before middle after all : Fragments) → all ≡ before ++ one sign ∷ (middle ++ one separator ∷ after)
    → role_of sign ≡ roles.Arrow → role_of separator ≡ roles.Semicolon → suits single trees ≡ true → TestsRead trees before → OpenRead items middle → ChoicesRead single others last after → ChoicesRead single (arm (tests_of trees) (body_of items) ∷ others) last all
more_arms_read single trees items others last sign separator before middle after all parts is semi fit t h k =
    subst (ChoicesRead single (arm (tests_of trees) (body_of items) ∷ others) last) (sym parts)
    (record {
      read = arm_read single trees items others last before sign (middle ++ one separator ∷ after) t is fit (opened_on single items middle (one separator) after others last h (semicolon_separates separator semi) k.read);
      ends = open_behind before (one sign) (middle ++ one separator ∷ after) (open_behind middle (one separator) after k.ends k.some) (nonempty_on middle (one separator) after);
      some = nonempty_on before (one sign) (middle ++ one separator ∷ after);
    })

remains_facts : (word : Token) → role_of word ≡ roles.Remains → (is_remains (one word) ≡ true) × (is_semicolon (one word) ≡ false) × (is_let (one word) ≡ false)
remains_facts word is = (rw is refl, rw is refl, rw is refl)

plain_without : (items : List Item) → cut is_arrow false items ≡ ended items → without_arrow items ≡ items
plain_without [] e = refl
plain_without (first ∷ rest) e = go (is_arrow first.fragment) e
  where
    go : (b : Bool) → cut_if b first (cut is_arrow false rest) (cut is_arrow (is_let first.fragment) rest) ≡ ended (first ∷ rest) → arrow_left b first rest ≡ first ∷ rest
    go true f = let g : [] ≡ first ∷ rest = ap (λ (p : Pieces). p.first) f in absurd cc
    go false f = refl

-- `otherwise` and what stands behind it
remains_choice : (single : Bool) (items : List ItemTree) (word : Token) (front : List Item) (pieces : Pieces) → role_of word ≡ roles.Remains → without_arrow front ≡ pieces.first → OpenedAt single items [] no_otherwise pieces
    → choices_pieces splittings.Nothing single (record { first = item_of (one word) ∷ front; others = pieces.others }) ≡ Some (choices_of [] [] (otherwise (body_of items)))
remains_choice single items word front pieces is same h =
    let (remains_is, no_semicolon, no_let) = remains_facts word is in
    let all : List Item = item_of (one word) ∷ front in
    ap (λ (o : Option Choices). option_and_then (choice_at splittings.Nothing single (kind_of all) all) o) h.behind
    ∙ ap (λ (b : Bool). choice_at splittings.Nothing single (kind_at b front (cut is_arrow false all)) all (choices_of h.lead [] no_otherwise)) remains_is
    ∙ ap (λ (list : List Item). last_with [] no_otherwise (body_with splittings.Nothing list h.lead)) same ∙ ap (option_map last_of) h.inside

pub last_choice_read : (single : Bool) (items : List ItemTree) (word : Token) (after : Fragments) → role_of word ≡ roles.Remains → OpenRead items after → ChoicesRead single [] (otherwise (body_of items)) (one word ∷ after)
last_choice_read single items word after is h =
    let (remains_is, no_semicolon, no_let) = remains_facts word is in
    let o = opened_end single items after h in
    record {
      read = ap (choices_pieces splittings.Nothing single) (cut_front is_semicolon false (one word ∷ []) (items_of after) (no_semicolon, no_let))
          ∙ remains_choice single items word (cut is_semicolon false (items_of after)).first (cut is_semicolon false (items_of after)) is (plain_without (cut is_semicolon false (items_of after)).first o.plain_first) o;
      ends = open_word h;
      some = (one word, after, refl);
    }
  where
    open_word : OpenRead items after → Open (one word ∷ after)
    open_word (inl (none, empty)) =
        let (remains_is, no_semicolon, no_let) = remains_facts word is in
        subst (λ (fs : Fragments). Open (one word ∷ fs)) (sym empty) (not_semicolon_open [] (one word) no_semicolon)
    open_word (inr k) = open_behind [] (one word) after k.ends k.some

pub last_choice_arrow_read : (single : Bool) (items : List ItemTree) (word sign : Token) (after : Fragments) → role_of word ≡ roles.Remains → role_of sign ≡ roles.Arrow → OpenRead items after → ChoicesRead single [] (otherwise (body_of items)) (one word ∷ one sign ∷ after)
last_choice_arrow_read single items word sign after is also h =
    let (remains_is, no_semicolon, no_let) = remains_facts word is in
    let (arrow_is, sign_no_semicolon, sign_no_let) = arrow_facts sign also in
    let pieces : Pieces = cut is_semicolon false (items_of after) in
    record {
      read = ap (choices_pieces splittings.Nothing single) (cut_front is_semicolon false (one word ∷ one sign ∷ []) (items_of after) (no_semicolon, closed_at no_let sign_no_semicolon sign_no_let))
          ∙ remains_choice single items word (item_of (one sign) ∷ pieces.first) pieces is (ap (λ (b : Bool). arrow_left b (item_of (one sign)) pieces.first) arrow_is) (opened_end single items after h);
      ends = open_arm items (one word ∷ []) sign after also h;
      some = (one word, one sign ∷ after, refl);
    }
  where
    closed_at : is_let (one word) ≡ false → is_semicolon (one sign) ≡ false → is_let (one sign) ≡ false → Closed is_semicolon (is_let (one word)) (one sign ∷ [])
    closed_at e f g = subst (λ (b : Bool). Closed is_semicolon b (one sign ∷ [])) (sym e) (f, g)

abbrev pub ArmsRead : Bool → List Arm → Otherwise → Fragments → Type 0
ArmsRead single trees last fragments = arms_items single (items_of fragments) ≡ Some (choices_of [] trees last)

some_read : (single : Bool) (trees : List Arm) (last : Otherwise) (fragments : Fragments) → ChoicesRead single trees last fragments → some_arms_items single (items_of fragments) ≡ Some (choices_of [] trees last)
some_read single trees last [] h = let (first, rest, e) = h.some in absurd cc
some_read single trees last (x ∷ rest) h = ap (λ (o : Option Choices). option_and_then finished_choices o) h.read

arms_some : (single : Bool) (fragments : Fragments) → Nonempty fragments → arms_items single (items_of fragments) ≡ some_arms_items single (without_end (items_of fragments))
arms_some single [] (first, rest, e) = absurd cc
arms_some single (x ∷ rest) some = refl

pub some_arms_read : (single : Bool) (trees : List Arm) (last : Otherwise) (fragments : Fragments) → ChoicesRead single trees last fragments → ArmsRead single trees last fragments
some_arms_read single trees last fragments h = arms_some single fragments h.some ∙ ap (some_arms_items single) h.ends ∙ some_read single trees last fragments h

pub ended_arms_read : (single : Bool) (trees : List Arm) (last : Otherwise) (separator : Token) (before all : Fragments) → all ≡ before ++ one separator ∷ [] → role_of separator ≡ roles.Semicolon → ChoicesRead single trees last before → ArmsRead single trees last all
ended_arms_read single trees last separator before all parts is h =
    subst (ArmsRead single trees last) (sym parts)
    (arms_some single (before ++ one separator ∷ []) (nonempty_on before (one separator) []) ∙ ap (some_arms_items single) (end_cut before separator is) ∙ some_read single trees last before h)

abbrev pub HeadRead : Tree → Option Tree → Fragments → Type 0
HeadRead selected test fragments = head_items (items_of fragments) ≡ Some (record { selected = selected; test = test })

pub identity_read : (selected : Tree) (fragments : Fragments) (state : State) → reads splittings.Tests (wants whole) fragments ≡ Some state → tree_of state ≡ Some selected → HeadRead selected None fragments
identity_read selected fragments state e f =
    ap head_pieces (cut_end (is_splitter splittings.Tests) false fragments (inner_closed splittings.Tests (is_splitter splittings.Tests) (splitters splittings.Tests) fragments (reads_inner splittings.Tests fragments (wants whole) state e)))
    ∙ ap (option_map head_alone) (expression_read splittings.Tests selected fragments state e f)

by_splits : (word : Token) → splitter_of word ≡ splitter_words.By → splits splittings.Tests word ≡ true
by_splits word is = rw is refl

pub test_read : (selected test : Tree) (word : Token) (before after all : Fragments) → all ≡ before ++ one word ∷ after → splitter_of word ≡ splitter_words.By → (state next : State) → reads splittings.Tests (wants whole) before ≡ Some state → tree_of state ≡ Some selected
    → reads splittings.Tests (wants whole) after ≡ Some next → tree_of next ≡ Some test → HeadRead selected (Some test) all
test_read selected test word before after all parts is state next e f g k =
    let h = reads_inner splittings.Tests before (wants whole) state e in
    let m = reads_inner splittings.Tests after (wants whole) next g in
    ap (λ (fs : Fragments). head_items (items_of fs)) parts
    ∙ ap head_pieces (joined_on (is_splitter splittings.Tests) false before (one word) after (inner_closed splittings.Tests (is_splitter splittings.Tests) (splitters splittings.Tests) before h) (by_splits word is)
    ∙ ap (joined (items_of before) (one word)) (cut_end (is_splitter splittings.Tests) false after (inner_closed splittings.Tests (is_splitter splittings.Tests) (splitters splittings.Tests) after m)))
    ∙ ap (λ (o : Option Tree). option_and_then (head_with (items_of after)) o) (expression_read splittings.Tests selected before state e f)
    ∙ ap (option_map (head_by selected)) (expression_read splittings.Tests test after next g k)

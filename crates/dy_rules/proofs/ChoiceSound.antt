-- What is read as the arms of a case or a select is derived.
use Rattle.std.proofs.Common.{◌≡◌, Bool, true, false, List, [], ◌∷◌, ◌++◌, Option, Some, None, option_map, option_and_then, refl, sym, ap, subst, ◌∙◌, append_assoc, ◌≢◌, ◌⊎◌, inl, inr}
use Rattle.std.proofs.lemmas.List.{append-nil}
use Rattle.dy_tree.specs.declared.token.Token.{Token}
use Rattle.dy_tree.specs.Fragments.{SeenFragment, one, group}
use Rattle.dy_tree.specs.declared.roles.Role.{Role}
use Rattle.dy_tree.specs.declared.roles.Role.TheVariants as roles
use Rattle.dy_tree.specs.declared.splitters.Splitting.{Splitting}
use Rattle.dy_tree.specs.declared.splitters.Splitting.TheVariants as splittings
use Rattle.dy_tree.specs.declared.splitters.Splitter.{Splitter}
use Rattle.dy_tree.specs.declared.splitters.Splitter.TheVariants as splitters
use Rattle.dy_rules.specs.Trees.{Tree, ItemTree, body_of, Otherwise, no_otherwise, otherwise, Arm, arm, tests_of}
use Rattle.dy_rules.specs.Roles.{role_of, splitter_of, splits, splits_as}
use Rattle.dy_rules.specs.Arguments.{is_comma_fragment}
use Rattle.dy_rules.specs.Productions.{suits, expression, an_item, some_items, some_tests, open_body, choices, arms, head, Derives, last_item, more_items, one_test, more_tests, empty_open, items_open, last_arm, more_arms, last_choice, last_choice_arrow, no_arms, some_arms, ended_arms, by_identity, by_test}
use Rattle.dy_rules.specs.Cutting.{Head, Item, Piece, Pieces, is_semicolon, is_arrow, is_splitter, cut, without_end, fragments_in}
use Rattle.dy_rules.specs.Reading.{expression_items}
use Rattle.dy_rules.specs.Bodies.{item_items}
use Rattle.dy_rules.specs.Choices.{is_remains_role, is_remains, PieceKind, item_piece, arm_piece, otherwise_piece, no_piece, arrow_left, without_arrow, kind_behind, kind_at, kind_of, Choices, lead_before, with_lead, body_with, tests_items, arm_of, arm_if, arm_with, last_of, last_with, choice_at, choices_behind, choices_pieces, finished_lead, finished_choices, some_arms_items, arms_items, head_alone, head_by, head_with, head_behind, head_items}
use Rattle.dy_rules.proofs.Lists.{some_one, map_some, then_some}
use Rattle.dy_rules.proofs.Sound.{ItemsSound, expression_sound}
use Rattle.dy_rules.proofs.Cuts.{Row, row_sound, behind_in, Separates, cut_sound}
use Rattle.dy_rules.proofs.TypeSound.{comma_is}
use Rattle.dy_rules.proofs.BodySound.{item_sound, more_items_of, semicolon_is, End, nothing_left_out, semicolon_left_out, end_of, sound_without}
use Rattle.dy_rules.specs.Types.{is_arrow_role}

abbrev Fragments : Type 0
Fragments = List SeenFragment

more_tests_of : (tree : Tree) (others : List Tree) (separator : SeenFragment) (before after : Fragments) → is_comma_fragment separator ≡ true → Derives splittings.Nothing (expression tree) before → Derives splittings.Nothing (some_tests others) after → Derives splittings.Nothing (some_tests (tree ∷ others)) (before ++ separator ∷ after)
more_tests_of tree others (one token) before after e h k = more_tests tree others token before after (before ++ one token ∷ after) refl (comma_is (role_of token) e) h k
more_tests_of tree others (group opener inner closer) before after e h k = absurd cc

tests_row : Row is_comma_fragment (expression_items splittings.Nothing) (λ tree fragments. Derives splittings.Nothing (expression tree) fragments) (λ trees fragments. Derives splittings.Nothing (some_tests trees) fragments)
tests_row = record { last = one_test; more = more_tests_of; reads_one = λ items tree h e. expression_sound splittings.Nothing items tree h e }

tests_sound : (items : List Item) (trees : List Tree) → ItemsSound items → tests_items items ≡ Some trees → Derives splittings.Nothing (some_tests trees) (fragments_in items)
tests_sound items trees h e = row_sound is_comma_fragment (expression_items splittings.Nothing) _ _ tests_row items trees h e

-- what was read of pieces
data Tail (single : Bool) : List ItemTree → List Arm → Otherwise → List SeenFragment → Type 0 where
  only_items : (lead : List ItemTree) (fragments : List SeenFragment) → Derives splittings.Nothing (some_items lead) fragments → Tail single lead [] no_otherwise fragments
  only_choices : (trees : List Arm) (last : Otherwise) (fragments : List SeenFragment) → Derives splittings.Nothing (choices single trees last) fragments → Tail single [] trees last fragments
  items_and : (lead : List ItemTree) (trees : List Arm) (last : Otherwise) (separator : SeenFragment) (before after all : List SeenFragment) → all ≡ before ++ separator ∷ after → is_semicolon separator ≡ true
      → Derives splittings.Nothing (some_items lead) before → Derives splittings.Nothing (choices single trees last) after → Tail single lead trees last all

-- the same behind a piece
data After (single : Bool) : List ItemTree → List Arm → Otherwise → List SeenFragment → Type 0 where
  nothing_after : After single [] [] no_otherwise []
  tail_after : (lead : List ItemTree) (trees : List Arm) (last : Otherwise) (separator : SeenFragment) (fragments : List SeenFragment) → is_semicolon separator ≡ true → Tail single lead trees last fragments → After single lead trees last (separator ∷ fragments)

-- an item in front of it
item_tail : (single : Bool) (tree : ItemTree) (lead : List ItemTree) (trees : List Arm) (last : Otherwise) (piece after : Fragments) → Derives splittings.Nothing (an_item tree) piece → After single lead trees last after → Tail single (tree ∷ lead) trees last (piece ++ after)
item_tail single tree lead trees last piece after h nothing_after = only_items (tree ∷ []) (piece ++ []) (subst (Derives splittings.Nothing (some_items (tree ∷ []))) (sym (append-nil piece)) (last_item splittings.Nothing tree piece h))
item_tail single tree lead trees last piece after h (tail_after l t o separator fragments is (only_items same all k)) = only_items (tree ∷ lead) (piece ++ separator ∷ fragments) (more_items_of splittings.Nothing tree lead separator piece fragments is h k)
item_tail single tree lead trees last piece after h (tail_after l t o separator fragments is (only_choices same none all k)) = items_and (tree ∷ []) trees last separator piece fragments (piece ++ separator ∷ fragments) refl is (last_item splittings.Nothing tree piece h) k
item_tail single tree lead trees last piece after h (tail_after l t o separator fragments is (items_and same arms_same none second before behind all parts also k m)) =
    items_and (tree ∷ lead) trees last second (piece ++ separator ∷ before) behind (piece ++ separator ∷ fragments) (ap (λ (fs : Fragments). piece ++ separator ∷ fs) parts ∙ sym (append_assoc piece (separator ∷ before) (second ∷ behind))) also (more_items_of splittings.Nothing tree lead separator piece before is h k) m

-- the body of an arm, and the arms behind it
data Opened (single : Bool) (body : List ItemTree) : List Arm → Otherwise → List SeenFragment → Type 0 where
  all_open : (fragments : List SeenFragment) → Derives splittings.Nothing (open_body body) fragments → Opened single body [] no_otherwise fragments
  then_choices : (trees : List Arm) (last : Otherwise) (separator : SeenFragment) (middle after all : List SeenFragment) → all ≡ middle ++ separator ∷ after → is_semicolon separator ≡ true
      → Derives splittings.Nothing (open_body body) middle → Derives splittings.Nothing (choices single trees last) after → Opened single body trees last all

no_items : (words : Splitting) (trees : List ItemTree) (fragments : Fragments) → Derives words (some_items trees) fragments → trees ≡ [] → ⊥
no_items words trees fragments (last_item w tree all h) e = cc
no_items words trees fragments (more_items w tree others separator before after all parts is h k) e = cc

empty_opened : (single : Bool) (trees : List Arm) (last : Otherwise) (after : Fragments) → After single [] trees last after → Opened single [] trees last after
empty_opened single trees last after nothing_after = all_open [] empty_open
empty_opened single trees last after (tail_after l t o separator fragments is (only_items same all k)) = absurd (no_items splittings.Nothing [] fragments k refl)
empty_opened single trees last after (tail_after l t o separator fragments is (only_choices same none all k)) = then_choices trees last separator [] fragments (separator ∷ fragments) refl is empty_open k
empty_opened single trees last after (tail_after l t o separator fragments is (items_and same arms_same none second before behind all parts also k m)) = absurd (no_items splittings.Nothing [] before k refl)

tail_opened : (single : Bool) (lead : List ItemTree) (trees : List Arm) (last : Otherwise) (all : Fragments) → lead ≢ [] → Tail single lead trees last all → Opened single lead trees last all
tail_opened single lead trees last all some (only_items same fragments k) = all_open fragments (items_open lead fragments k)
tail_opened single lead trees last all some (only_choices same none fragments k) = absurd (some refl)
tail_opened single lead trees last all some (items_and same arms_same none separator before after fragments parts is k m) = then_choices trees last separator before after fragments parts is (items_open lead before k) m

body_with_sound : (single : Bool) (list : List Item) (lead body : List ItemTree) (trees : List Arm) (last : Otherwise) (after : Fragments) → ItemsSound list → After single lead trees last after → body_with splittings.Nothing list lead ≡ Some body → Opened single body trees last (fragments_in list ++ after)
body_with_sound single [] [] body trees last after h k e = subst (λ (b : List ItemTree). Opened single b trees last after) (some_one _ _ e) (empty_opened single trees last after k)
body_with_sound single [] (tree ∷ lead) body trees last after h k e = absurd cc
body_with_sound single (first ∷ rest) lead body trees last after h k e =
    let (tree, read, same) = map_some (lead_before lead) (item_items splittings.Nothing (first ∷ rest)) body e in
    subst (λ (b : List ItemTree). Opened single b trees last (fragments_in (first ∷ rest) ++ after)) (sym same)
    (tail_opened single (tree ∷ lead) trees last (fragments_in (first ∷ rest) ++ after) (λ f. cc) (item_tail single tree lead trees last (fragments_in (first ∷ rest)) after (item_sound splittings.Nothing (first ∷ rest) tree h read) k))

arrow_is : (role : Role) → is_arrow_role role ≡ true → role ≡ roles.Arrow
arrow_is roles.Arrow e = refl
arrow_is role e = absurd cc

arrow_token : (fragment : SeenFragment) → is_arrow fragment ≡ true → (token : Token) × (fragment ≡ one token) × (role_of token ≡ roles.Arrow)
arrow_token (one token) e = (token, refl, arrow_is (role_of token) e)
arrow_token (group opener inner closer) e = absurd cc

remains_is : (role : Role) → is_remains_role role ≡ true → role ≡ roles.Remains
remains_is roles.Remains e = refl
remains_is role e = absurd cc

remains_token : (fragment : SeenFragment) → is_remains fragment ≡ true → (token : Token) × (fragment ≡ one token) × (role_of token ≡ roles.Remains)
remains_token (one token) e = (token, refl, remains_is (role_of token) e)
remains_token (group opener inner closer) e = absurd cc

-- what a piece is
abbrev KindSound : List Item → PieceKind → Type 0
KindSound items item_piece = Unit {0}
KindSound items no_piece = Unit {0}
KindSound items (arm_piece before after) = (sign : Token) × (role_of sign ≡ roles.Arrow) × (fragments_in items ≡ fragments_in before ++ one sign ∷ fragments_in after) × ItemsSound before × ItemsSound after
KindSound items (otherwise_piece rest) =
    (word : Token) × (role_of word ≡ roles.Remains) × (front : Fragments) × (fragments_in items ≡ one word ∷ (front ++ fragments_in rest)) × ((front ≡ []) ⊎ ((sign : Token) × (role_of sign ≡ roles.Arrow) × (front ≡ one sign ∷ []))) × ItemsSound rest

without_arrow_sound : (items : List Item) → ItemsSound items → (front : Fragments) × (fragments_in items ≡ front ++ fragments_in (without_arrow items)) × ((front ≡ []) ⊎ ((sign : Token) × (role_of sign ≡ roles.Arrow) × (front ≡ one sign ∷ []))) × ItemsSound (without_arrow items)
without_arrow_sound [] h = ([], refl, inl refl, tt)
without_arrow_sound (first ∷ rest) h = go (is_arrow first.fragment) refl
  where
    go : (is : Bool) → is_arrow first.fragment ≡ is → (front : Fragments) × (fragments_in (first ∷ rest) ≡ front ++ fragments_in (arrow_left is first rest)) × ((front ≡ []) ⊎ ((sign : Token) × (role_of sign ≡ roles.Arrow) × (front ≡ one sign ∷ []))) × ItemsSound (arrow_left is first rest)
    go true e = let (sign, is, role) = arrow_token first.fragment e in (one sign ∷ [], ap (λ (f : SeenFragment). f ∷ fragments_in rest) is, inr (sign, role, refl), h.1)
    go false e = ([], refl, inl refl, h)

kind_behind_sound : (items first : List Item) (others : List Piece) → fragments_in first ++ behind_in others ≡ fragments_in items → ItemsSound first → Separates is_arrow others → KindSound items (kind_behind first others)
kind_behind_sound items first [] parts h k = tt
kind_behind_sound items first (piece ∷ []) parts h (is, k, m) =
    let (sign, one_is, role) = arrow_token piece.separator is in
    (sign, role, sym parts ∙ ap (λ (f : SeenFragment). fragments_in first ++ f ∷ (fragments_in piece.items ++ [])) one_is ∙ ap (λ (fs : Fragments). fragments_in first ++ one sign ∷ fs) (append-nil (fragments_in piece.items)), h, k)
kind_behind_sound items first (piece ∷ second ∷ others) parts h k = tt

kind_at_sound : (is : Bool) (first : Item) (rest : List Item) → is_remains first.fragment ≡ is → ItemsSound (first ∷ rest) → KindSound (first ∷ rest) (kind_at is rest (cut is_arrow false (first ∷ rest)))
kind_at_sound true first rest is h =
    let (word, one_is, role) = remains_token first.fragment is in
    let (front, parts, which, sound) = without_arrow_sound rest h.1 in
    (word, role, front, ap (λ (f : SeenFragment). f ∷ fragments_in rest) one_is ∙ ap (λ (fs : Fragments). one word ∷ fs) parts, which, sound)
kind_at_sound false first rest is h =
    let c = cut_sound is_arrow false (first ∷ rest) h in
    kind_behind_sound (first ∷ rest) (cut is_arrow false (first ∷ rest)).first (cut is_arrow false (first ∷ rest)).others c.same c.first_sound c.others_sound

kind_sound : (items : List Item) → ItemsSound items → KindSound items (kind_of items)
kind_sound [] h = tt
kind_sound (first ∷ rest) h = kind_at_sound (is_remains first.fragment) first rest refl h

arm_if_sound : (is : Bool) (trees : List Tree) (rest found : Choices) (body : Option (List ItemTree)) → arm_if is trees rest body ≡ Some found → (is ≡ true) × (items : List ItemTree) × (body ≡ Some items) × (found ≡ arm_of trees rest.arms rest.last items)
arm_if_sound true trees rest found body e = let (items, read, same) = map_some (arm_of trees rest.arms rest.last) body found e in (refl, items, read, same)
arm_if_sound false trees rest found body e = absurd cc

arm_opened : (single : Bool) (trees : List Tree) (items : List ItemTree) (others : List Arm) (last : Otherwise) (sign : Token) (before after all : Fragments) → all ≡ before ++ one sign ∷ after → role_of sign ≡ roles.Arrow → suits single trees ≡ true → Derives splittings.Nothing (some_tests trees) before
    → Opened single items others last after → Derives splittings.Nothing (choices single (arm (tests_of trees) (body_of items) ∷ others) last) all
arm_opened single trees items others last sign before after all parts is fit h (all_open same k) = last_arm single trees items sign before after all parts is fit h k
arm_opened single trees items others last sign before after all parts is fit h (then_choices o l (one separator) middle behind same inner semi k m) =
    more_arms single trees items others last sign separator before middle behind all (parts ∙ ap (λ (fs : Fragments). before ++ one sign ∷ fs) inner) is (semicolon_is (role_of separator) semi) fit h k m
arm_opened single trees items others last sign before after all parts is fit h (then_choices o l (group opener within closer) middle behind same inner semi k m) = absurd cc

pub no_more_choices : (single : Bool) (trees : List Arm) (last : Otherwise) (fragments : Fragments) → Derives splittings.Nothing (choices single trees last) fragments → trees ≡ [] → last ≡ no_otherwise → ⊥
no_more_choices single trees last fragments (last_arm s t i sign before after all parts is fit h k) e f = cc
no_more_choices single trees last fragments (more_arms s t i others l sign separator before middle after all parts is semi fit h k m) e f = cc
no_more_choices single trees last fragments (last_choice s i word after is h) e f = cc
no_more_choices single trees last fragments (last_choice_arrow s i word sign after is also h) e f = cc

otherwise_opened : (single : Bool) (items : List ItemTree) (word : Token) (front after : Fragments) → role_of word ≡ roles.Remains → ((front ≡ []) ⊎ ((sign : Token) × (role_of sign ≡ roles.Arrow) × (front ≡ one sign ∷ []))) → Opened single items [] no_otherwise after
    → Derives splittings.Nothing (choices single [] (otherwise (body_of items))) (one word ∷ (front ++ after))
otherwise_opened single items word front after is (inl e) (all_open same k) = rw e (last_choice single items word after is k)
otherwise_opened single items word front after is (inr (sign, role, e)) (all_open same k) = rw e (last_choice_arrow single items word sign after is role k)
otherwise_opened single items word front after is which (then_choices o l separator middle behind same inner semi k m) = absurd (no_more_choices single [] no_otherwise behind m refl refl)

last_with_sound : (trees : List Arm) (last : Otherwise) (body : Option (List ItemTree)) (found : Choices) → last_with trees last body ≡ Some found → (trees ≡ []) × (last ≡ no_otherwise) × (items : List ItemTree) × (body ≡ Some items) × (found ≡ last_of items)
last_with_sound [] no_otherwise body found e = let (items, read, same) = map_some last_of body found e in (refl, refl, items, read, same)
last_with_sound [] (otherwise others) body found e = absurd cc
last_with_sound (first ∷ rest) last body found e = absurd cc

-- a piece in front of what was read
item_choice : (single : Bool) (items : List Item) (rest found : Choices) (after : Fragments) → ItemsSound items → After single rest.lead rest.arms rest.last after → option_map (with_lead rest) (item_items splittings.Nothing items) ≡ Some found → Tail single found.lead found.arms found.last (fragments_in items ++ after)
item_choice single items rest found after h k e =
    let (tree, read, same) = map_some (with_lead rest) (item_items splittings.Nothing items) found e in
    subst (λ (c : Choices). Tail single c.lead c.arms c.last (fragments_in items ++ after)) (sym same) (item_tail single tree rest.lead rest.arms rest.last (fragments_in items) after (item_sound splittings.Nothing items tree h read) k)

arm_choice : (single : Bool) (before behind : List Item) (rest found : Choices) (sign : Token) (piece after : Fragments) → role_of sign ≡ roles.Arrow → piece ≡ fragments_in before ++ one sign ∷ fragments_in behind → ItemsSound before → ItemsSound behind → After single rest.lead rest.arms rest.last after
    → option_and_then (arm_with single rest (body_with splittings.Nothing behind rest.lead)) (tests_items before) ≡ Some found → Tail single found.lead found.arms found.last (piece ++ after)
arm_choice single before behind rest found sign piece after role parts h m k e =
    let (trees, tests_are, e1) = then_some (arm_with single rest (body_with splittings.Nothing behind rest.lead)) (tests_items before) found e in
    let (fit, items, body_is, same) = arm_if_sound (suits single trees) trees rest found (body_with splittings.Nothing behind rest.lead) e1 in
    let o = body_with_sound single behind rest.lead items rest.arms rest.last after m k body_is in
    let all : piece ++ after ≡ fragments_in before ++ one sign ∷ (fragments_in behind ++ after) = ap (λ (fs : Fragments). fs ++ after) parts ∙ append_assoc (fragments_in before) (one sign ∷ fragments_in behind) after in
    subst (λ (c : Choices). Tail single c.lead c.arms c.last (piece ++ after)) (sym same)
    (only_choices (arm (tests_of trees) (body_of items) ∷ rest.arms) rest.last (piece ++ after) (arm_opened single trees items rest.arms rest.last sign (fragments_in before) (fragments_in behind ++ after) (piece ++ after) all role fit (tests_sound before trees h tests_are) o))

otherwise_choice : (single : Bool) (behind : List Item) (rest found : Choices) (word : Token) (front piece after : Fragments) → role_of word ≡ roles.Remains → piece ≡ one word ∷ (front ++ fragments_in behind) → ((front ≡ []) ⊎ ((sign : Token) × (role_of sign ≡ roles.Arrow) × (front ≡ one sign ∷ [])))
    → ItemsSound behind → After single rest.lead rest.arms rest.last after → last_with rest.arms rest.last (body_with splittings.Nothing behind rest.lead) ≡ Some found → Tail single found.lead found.arms found.last (piece ++ after)
otherwise_choice single behind rest found word front piece after role parts which m k e =
    let (no_trees, no_last, items, body_is, same) = last_with_sound rest.arms rest.last (body_with splittings.Nothing behind rest.lead) found e in
    let o = body_with_sound single behind rest.lead items rest.arms rest.last after m k body_is in
    let o1 = subst (λ (t : List Arm). Opened single items t rest.last (fragments_in behind ++ after)) no_trees o in
    let o2 = subst (λ (l : Otherwise). Opened single items [] l (fragments_in behind ++ after)) no_last o1 in
    let all : one word ∷ (front ++ (fragments_in behind ++ after)) ≡ piece ++ after = ap (λ (fs : Fragments). one word ∷ fs) (sym (append_assoc front (fragments_in behind) after)) ∙ ap (λ (fs : Fragments). fs ++ after) (sym parts) in
    subst (λ (c : Choices). Tail single c.lead c.arms c.last (piece ++ after)) (sym same)
    (only_choices [] (otherwise (body_of items)) (piece ++ after) (subst (Derives splittings.Nothing (choices single [] (otherwise (body_of items)))) all (otherwise_opened single items word front (fragments_in behind ++ after) role which o2)))

choice_sound : (single : Bool) (kind : PieceKind) (items : List Item) (rest found : Choices) (after : Fragments) → ItemsSound items → KindSound items kind → After single rest.lead rest.arms rest.last after → choice_at splittings.Nothing single kind items rest ≡ Some found
    → Tail single found.lead found.arms found.last (fragments_in items ++ after)
choice_sound single item_piece items rest found after h s k e = item_choice single items rest found after h k e
choice_sound single (arm_piece before behind) items rest found after h (sign, role, parts, b, m) k e = arm_choice single before behind rest found sign (fragments_in items) after role parts b m k e
choice_sound single (otherwise_piece behind) items rest found after h (word, role, front, parts, which, m) k e = otherwise_choice single behind rest found word front (fragments_in items) after role parts which m k e
choice_sound single no_piece items rest found after h s k e = absurd cc

choices_behind_sound : (single : Bool) (others : List Piece) (found : Choices) → Separates is_semicolon others → choices_behind splittings.Nothing single others ≡ Some found → After single found.lead found.arms found.last (behind_in others)
choices_behind_sound single [] found h e = subst (λ (c : Choices). After single c.lead c.arms c.last []) (some_one _ _ e) nothing_after
choices_behind_sound single (piece ∷ others) found (is, h, k) e =
    let (rest, read, e1) = then_some (choice_at splittings.Nothing single (kind_of piece.items) piece.items) (choices_behind splittings.Nothing single others) found e in
    tail_after found.lead found.arms found.last piece.separator (fragments_in piece.items ++ behind_in others) is
    (choice_sound single (kind_of piece.items) piece.items rest found (behind_in others) h (kind_sound piece.items h) (choices_behind_sound single others rest k read) e1)

choices_sound : (single : Bool) (pieces : Pieces) (found : Choices) → ItemsSound pieces.first → Separates is_semicolon pieces.others → choices_pieces splittings.Nothing single pieces ≡ Some found → Tail single found.lead found.arms found.last (fragments_in pieces.first ++ behind_in pieces.others)
choices_sound single pieces found h k e =
    let (rest, read, e1) = then_some (choice_at splittings.Nothing single (kind_of pieces.first) pieces.first) (choices_behind splittings.Nothing single pieces.others) found e in
    choice_sound single (kind_of pieces.first) pieces.first rest found (behind_in pieces.others) h (kind_sound pieces.first h) (choices_behind_sound single pieces.others rest k read) e1

finished_sound : (lead : List ItemTree) (found result : Choices) → finished_lead lead found ≡ Some result → (lead ≡ []) × (found ≡ result)
finished_sound [] found result e = (refl, some_one found result e)
finished_sound (tree ∷ lead) found result e = absurd cc

tail_choices : (single : Bool) (lead : List ItemTree) (trees : List Arm) (last : Otherwise) (fragments : Fragments) → lead ≡ [] → Tail single lead trees last fragments → Derives splittings.Nothing (choices single trees last) fragments
tail_choices single lead trees last fragments e (only_items same all h) = absurd (no_items splittings.Nothing lead fragments h e)
tail_choices single lead trees last fragments e (only_choices same none all h) = h
tail_choices single lead trees last fragments e (items_and same arms_same none separator before after all parts is h k) = absurd (no_items splittings.Nothing lead before h e)

some_arms_sound : (single : Bool) (first : Item) (rest : List Item) (found : Choices) → ItemsSound (first ∷ rest) → some_arms_items single (first ∷ rest) ≡ Some found → Derives splittings.Nothing (choices single found.arms found.last) (fragments_in (first ∷ rest))
some_arms_sound single first rest found h e =
    let pieces : Pieces = cut is_semicolon false (first ∷ rest) in
    let (read, read_is, e1) = then_some finished_choices (choices_pieces splittings.Nothing single pieces) found e in
    let (none, same) = finished_sound read.lead read found e1 in
    let c = cut_sound is_semicolon false (first ∷ rest) h in
    subst (λ (r : Choices). Derives splittings.Nothing (choices single r.arms r.last) (fragments_in (first ∷ rest))) same
    (subst (Derives splittings.Nothing (choices single read.arms read.last)) c.same
    (tail_choices single read.lead read.arms read.last (fragments_in pieces.first ++ behind_in pieces.others) none (choices_sound single pieces read c.first_sound c.others_sound read_is)))

arms_end : (single : Bool) (list rest : List Item) (found : Choices) → End list rest → ItemsSound rest → some_arms_items single rest ≡ Some found → Derives splittings.Nothing (arms single found.arms found.last) (fragments_in list)
arms_end single list [] found h k e = absurd cc
arms_end single list (first ∷ more) found (nothing_left_out same) k e = some_arms single found.arms found.last (fragments_in (first ∷ more)) (some_arms_sound single first more found k e)
arms_end single list (first ∷ more) found (semicolon_left_out all left token role parts) k e = ended_arms single found.arms found.last token (fragments_in (first ∷ more)) (fragments_in list) parts role (some_arms_sound single first more found k e)

pub arms_sound : (single : Bool) (list : List Item) (found : Choices) → ItemsSound list → arms_items single list ≡ Some found → Derives splittings.Nothing (arms single found.arms found.last) (fragments_in list)
arms_sound single [] found h e = subst (λ (r : Choices). Derives splittings.Nothing (arms single r.arms r.last) []) (some_one _ _ e) (no_arms single)
arms_sound single (first ∷ rest) found h e = arms_end single (first ∷ rest) (without_end (first ∷ rest)) found (end_of (first ∷ rest)) (sound_without (first ∷ rest) h) e

test_word : (words : Splitting) (token : Token) → splits splittings.Tests token ≡ true → splitter_of token ≡ splitters.By
test_word words token e = go (splitter_of token) e
  where
    go : (word : Splitter) → splits_as splittings.Tests word ≡ true → word ≡ splitters.By
    go splitters.By f = refl
    go word f = absurd cc

by_token : (fragment : SeenFragment) → is_splitter splittings.Tests fragment ≡ true → (token : Token) × (fragment ≡ one token) × (splitter_of token ≡ splitters.By)
by_token (one token) e = (token, refl, test_word splittings.Tests token e)
by_token (group opener inner closer) e = absurd cc

head_behind_sound : (first : List Item) (others : List Piece) (found : Head) → ItemsSound first → Separates (is_splitter splittings.Tests) others → head_behind first others ≡ Some found → Derives splittings.Tests (head found.selected found.test) (fragments_in first ++ behind_in others)
head_behind_sound first [] found h k e =
    let (selected, read, same) = map_some head_alone (expression_items splittings.Tests first) found e in
    subst (λ (r : Head). Derives splittings.Tests (head r.selected r.test) (fragments_in first ++ [])) (sym same) (subst (Derives splittings.Tests (head selected None)) (sym (append-nil (fragments_in first))) (by_identity selected (fragments_in first) (expression_sound splittings.Tests first selected h read)))
head_behind_sound first (piece ∷ []) found h (is, k, m) e =
    let (selected, read, e1) = then_some (head_with piece.items) (expression_items splittings.Tests first) found e in
    let (test, test_is, same) = map_some (head_by selected) (expression_items splittings.Tests piece.items) found e1 in
    let (word, one_is, role) = by_token piece.separator is in
    let parts : fragments_in first ++ piece.separator ∷ (fragments_in piece.items ++ []) ≡ fragments_in first ++ one word ∷ fragments_in piece.items =
    ap (λ (f : SeenFragment). fragments_in first ++ f ∷ (fragments_in piece.items ++ [])) one_is ∙ ap (λ (fs : Fragments). fragments_in first ++ one word ∷ fs) (append-nil (fragments_in piece.items)) in
    subst (λ (r : Head). Derives splittings.Tests (head r.selected r.test) (fragments_in first ++ behind_in (piece ∷ []))) (sym same)
    (by_test selected test word (fragments_in first) (fragments_in piece.items) _ parts role (expression_sound splittings.Tests first selected h read) (expression_sound splittings.Tests piece.items test k test_is))
head_behind_sound first (piece ∷ second ∷ others) found h k e = absurd cc

pub head_sound : (items : List Item) (found : Head) → ItemsSound items → head_items items ≡ Some found → Derives splittings.Tests (head found.selected found.test) (fragments_in items)
head_sound items found h e =
    let c = cut_sound (is_splitter splittings.Tests) false items h in
    subst (Derives splittings.Tests (head found.selected found.test)) c.same (head_behind_sound (cut (is_splitter splittings.Tests) false items).first (cut (is_splitter splittings.Tests) false items).others found c.first_sound c.others_sound e)

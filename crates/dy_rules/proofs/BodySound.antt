-- What is read as a body is derived.
use Rattle.std.proofs.Common.{◌≡◌, Bool, true, false, List, [], ◌∷◌, ◌++◌, Option, Some, option_map, option_and_then, refl, sym, ap, subst, ◌∙◌}
use Rattle.dy_tree.specs.declared.token.Token.{Token}
use Rattle.dy_tree.specs.Fragments.{SeenFragment, one, group, SeenFragments, row}
use Rattle.dy_tree.specs.declared.roles.Role.{Role}
use Rattle.dy_tree.specs.declared.roles.Role.TheVariants as roles
use Rattle.dy_tree.specs.declared.brackets.Keyword.TheVariants as keywords
use Rattle.dy_tree.specs.declared.brackets.Bracket.{Bracket}
use Rattle.dy_tree.specs.declared.brackets.Bracket.TheVariants as brackets
use Rattle.dy_tree.specs.declared.splitters.Splitting.{Splitting}
use Rattle.dy_tree.specs.declared.splitters.Splitting.TheVariants as splittings
use Rattle.dy_rules.specs.Trees.{Tree, ItemTree, expression_item, LocalMethod}
use Rattle.dy_rules.specs.Types.{is_equals, TypeTree, a_type, IsType, binds_plainly, TargetTree, IsTarget}
use Rattle.dy_rules.specs.TypeReading.{type_items, target_items}
use Rattle.dy_rules.specs.Roles.{role_of, bracket_of}
use Rattle.dy_rules.specs.Productions.{expression, an_item, some_items, a_body, Derives, by_let, by_handler, by_expression, last_item, more_items, empty_body, separator_body, items_body, ended_body, local_methods, by_local, last_method, more_methods}
use Rattle.dy_rules.specs.Cutting.{Sides, first_cut, Item, is_semicolon, is_semicolon_role, cut, each, without_end, without_if, fragments_in, NamedFound, Found}
use Rattle.dy_rules.specs.Reading.{expression_items}
use Rattle.dy_rules.specs.Bodies.{ItemFront, let_front, other_front, front_by, front_of_item, is_equals_at, is_handler_role, is_handler, let_of, handler_of, let_with, handler_with, bound_at, bound_from, let_if, let_sides, item_by, item_items, nonempty_body, body_items, local_front, method_tree_of, method_in, method_at, method_alone, local_of}
use Rattle.dy_rules.proofs.Lists.{some_one, map_some, then_some}
use Rattle.dy_rules.proofs.Sound.{ItemsSound, GroupSound, expression_sound, NamedIs}
use Rattle.dy_rules.proofs.TypeSound.{type_sound, target_sound, comma_is}
use Rattle.dy_rules.proofs.Cuts.{AreSides, first_cut_sound, Row, row_sound}
use Rattle.dy_rules.specs.Arguments.{is_comma_fragment}

abbrev Fragments : Type 0
Fragments = List SeenFragment

expression_item_sound : (words : Splitting) (list : List Item) (tree : ItemTree) → ItemsSound list → option_map expression_item (expression_items words list) ≡ Some tree → Derives words (an_item tree) (fragments_in list)
expression_item_sound words list tree h e =
    let (found, is, same) = map_some expression_item (expression_items words list) tree e in
    subst (λ (t : ItemTree). Derives words (an_item t) (fragments_in list)) (sym same) (by_expression words found (fragments_in list) (expression_sound words list found h is))

handler_is : (role : Role) → is_handler_role role ≡ true → role ≡ roles.Handlers
handler_is roles.Handlers e = refl
handler_is role e = absurd cc

handler_token : (fragment : SeenFragment) → is_handler fragment ≡ true → (token : Token) × (fragment ≡ one token) × (role_of token ≡ roles.Handlers)
handler_token (one token) e = (token, refl, handler_is (role_of token) e)
handler_token (group opener inner closer) e = absurd cc

pub equals_token : (fragment : SeenFragment) → is_equals_at fragment ≡ true → (token : Token) × (fragment ≡ one token) × (is_equals token ≡ true)
equals_token (one token) e = (token, refl, e)
equals_token (group opener inner closer) e = absurd cc

handler_parts : (words : Splitting) (word second equals : Token) (condition : TypeTree) (handler : Tree) (tree : ItemTree) (all first separator : SeenFragment) (rest before after : Fragments) → tree ≡ handler_of word condition handler → all ≡ one word → first ≡ one second → separator ≡ one equals
    → rest ≡ (first ∷ before) ++ separator ∷ after → role_of word ≡ roles.Lets → role_of second ≡ roles.Handlers → is_equals equals ≡ true → IsType (a_type condition) before → binds_plainly words (first ∷ before) ≡ true → Derives words (expression handler) after → Derives words (an_item tree) (all ∷ rest)
handler_parts words word second equals condition handler tree all first separator rest before after same one_is second_is equals_is parts role also is t plainly h =
    rw (same, one_is, parts, second_is, equals_is) (by_handler words word second equals condition handler before after (one word ∷ one second ∷ (before ++ one equals ∷ after)) refl role also is t (subst (λ (f : SeenFragment). binds_plainly words (f ∷ before) ≡ true) second_is plainly) h)

let_parts : (words : Splitting) (word equals : Token) (target : TargetTree) (assigned : Tree) (tree : ItemTree) (all separator : SeenFragment) (rest before after : Fragments) → tree ≡ let_of word target assigned → all ≡ one word → separator ≡ one equals → rest ≡ before ++ separator ∷ after
    → role_of word ≡ roles.Lets → is_equals equals ≡ true → IsTarget target before → binds_plainly words before ≡ true → Derives words (expression assigned) after → Derives words (an_item tree) (all ∷ rest)
let_parts words word equals target assigned tree all separator rest before after same one_is equals_is parts role is t plainly h =
    rw (same, one_is, parts, equals_is) (by_let words word equals target assigned before after (one word ∷ (before ++ one equals ∷ after)) refl role is t plainly h)

bound_sound_at : (is : Bool) (words : Splitting) (word : Token) (fragment : SeenFragment) (front : Item) (rest after : List Item) (separator : SeenFragment) (all : Fragments) (tree : ItemTree) → fragment ≡ one word → role_of word ≡ roles.Lets → is_handler front.fragment ≡ is → is_equals_at separator ≡ true
    → all ≡ fragments_in (front ∷ rest) ++ separator ∷ fragments_in after → ItemsSound (front ∷ rest) → ItemsSound after → binds_plainly words (fragments_in (front ∷ rest)) ≡ true → bound_at is words word front rest after ≡ Some tree → Derives words (an_item tree) (fragment ∷ all)
bound_sound_at true words word fragment front rest after separator all tree one_is role handler equals parts h k plainly e =
    let (condition, read, e1) = then_some (handler_with words word after) (type_items rest) tree e in
    let (value, found, same) = map_some (handler_of word condition) (expression_items words after) tree e1 in
    let (second, second_is, also) = handler_token front.fragment handler in
    let (sign, sign_is, is) = equals_token separator equals in
    handler_parts words word second sign condition value tree fragment front.fragment separator all (fragments_in rest) (fragments_in after) same one_is second_is sign_is parts role also is (type_sound rest condition h.1 read) plainly (expression_sound words after value k found)
bound_sound_at false words word fragment front rest after separator all tree one_is role handler equals parts h k plainly e =
    let (target, read, e1) = then_some (let_with words word after) (target_items (front ∷ rest)) tree e in
    let (value, found, same) = map_some (let_of word target) (expression_items words after) tree e1 in
    let (sign, sign_is, is) = equals_token separator equals in
    let_parts words word sign target value tree fragment separator all (fragments_in (front ∷ rest)) (fragments_in after) same one_is sign_is parts role is (target_sound (front ∷ rest) target h read) plainly (expression_sound words after value k found)

bound_from_sound : (words : Splitting) (word : Token) (fragment : SeenFragment) (before after : List Item) (separator : SeenFragment) (all : Fragments) (tree : ItemTree) → fragment ≡ one word → role_of word ≡ roles.Lets → is_equals_at separator ≡ true
    → all ≡ fragments_in before ++ separator ∷ fragments_in after → ItemsSound before → ItemsSound after → binds_plainly words (fragments_in before) ≡ true → bound_from words word before after ≡ Some tree → Derives words (an_item tree) (fragment ∷ all)
bound_from_sound words word fragment [] after separator all tree one_is role equals parts h k plainly e = absurd cc
bound_from_sound words word fragment (front ∷ rest) after separator all tree one_is role equals parts h k plainly e = bound_sound_at (is_handler front.fragment) words word fragment front rest after separator all tree one_is role refl equals parts h k plainly e

let_if_sound : (is : Bool) (words : Splitting) (word : Token) (fragment : SeenFragment) (list : List Item) (sides : Sides) (tree : ItemTree) → binds_plainly words (fragments_in sides.before) ≡ is → fragment ≡ one word → role_of word ≡ roles.Lets → AreSides is_equals_at (fragments_in list) sides
    → let_if is words word sides ≡ Some tree → Derives words (an_item tree) (fragment ∷ fragments_in list)
let_if_sound true words word fragment list sides tree plainly one_is role s e = bound_from_sound words word fragment sides.before sides.after s.separator (fragments_in list) tree one_is role s.is s.parts s.before_sound s.after_sound plainly e
let_if_sound false words word fragment list sides tree plainly one_is role s e = absurd cc

let_sound : (words : Splitting) (word : Token) (fragment : SeenFragment) (list : List Item) (tree : ItemTree) → fragment ≡ one word → role_of word ≡ roles.Lets → ItemsSound list → option_and_then (let_sides words word) (first_cut is_equals_at list) ≡ Some tree
    → Derives words (an_item tree) (fragment ∷ fragments_in list)
let_sound words word fragment list tree one_is role h e =
    let (sides, read, e1) = then_some (let_sides words word) (first_cut is_equals_at list) tree e in
    let_if_sound (binds_plainly words (fragments_in sides.before)) words word fragment list sides tree refl one_is role (first_cut_sound is_equals_at list sides h read) e1

front_let : (fragment : SeenFragment) (word : Token) → front_of_item fragment ≡ let_front word → (fragment ≡ one word) × (role_of word ≡ roles.Lets)
front_let (group opener inner closer) word e = absurd cc
front_let (one token) word e = go (role_of token) refl e
  where
    go : (role : Role) → role_of token ≡ role → front_by role token ≡ let_front word → (one token ≡ one word) × (role_of word ≡ roles.Lets)
    go roles.Lets is f = let same : token ≡ word = cc in (ap (λ (t : Token). one t) same, ap role_of (sym same) ∙ is)
    go role is f = absurd cc

-- one local method
record MethodIs (tree : LocalMethod) (fragments : List SeenFragment) : Type 0 where
  pub opener : Token
  pub inner : SeenFragments
  pub closer : Token
  pub method : NamedFound
  pub is : bracket_of opener closer ≡ brackets.Statement keywords.Method
  pub parts : fragments ≡ group opener inner closer ∷ []
  pub same : tree ≡ method_tree_of opener method
  pub inside : NamedIs method (row inner)

method_in_sound : (bracket : Bracket) (opener : Token) (inner : SeenFragments) (closer : Token) (found : Option NamedFound) (tree : LocalMethod) → bracket_of opener closer ≡ bracket → ((method : NamedFound) → found ≡ Some method → NamedIs method (row inner)) → method_in bracket opener found ≡ Some tree
    → MethodIs tree (group opener inner closer ∷ [])
method_in_sound (brackets.Statement keywords.Method) opener inner closer found tree is h e =
    let (method, read, same) = map_some (method_tree_of opener) found tree e in
    record { opener = opener; inner = inner; closer = closer; method = method; is = is; parts = refl; same = same; inside = h method read }
method_in_sound bracket opener inner closer found tree is h e = absurd cc

method_at_sound : (fragment : SeenFragment) (found : Found) (tree : LocalMethod) → GroupSound fragment found → method_at fragment found.named_method ≡ Some tree → MethodIs tree (fragment ∷ [])
method_at_sound (one token) found tree h e = absurd cc
method_at_sound (group opener inner closer) found tree h e = method_in_sound (bracket_of opener closer) opener inner closer found.named_method tree refl h.1.named_is e

method_alone_sound : (list : List Item) (tree : LocalMethod) → ItemsSound list → method_alone list ≡ Some tree → MethodIs tree (fragments_in list)
method_alone_sound [] tree h e = absurd cc
method_alone_sound (first ∷ []) tree h e = method_at_sound first.fragment first.found tree h.0.group_is e
method_alone_sound (first ∷ second ∷ rest) tree h e = absurd cc

last_method_of : (tree : LocalMethod) (fragments : Fragments) → MethodIs tree fragments → Derives splittings.Nothing (local_methods (tree ∷ [])) fragments
last_method_of tree fragments m =
    let (after, inner_is, role, h) = m.inside in
    subst (λ (t : LocalMethod). Derives splittings.Nothing (local_methods (t ∷ [])) fragments) (sym m.same)
    (subst (Derives splittings.Nothing (local_methods (method_tree_of m.opener m.method ∷ []))) (sym m.parts) (last_method m.method.method.found m.method.method.results m.method.method.trees m.opener m.method.token m.inner m.closer after m.is inner_is role h))

more_methods_of : (tree : LocalMethod) (others : List LocalMethod) (separator : SeenFragment) (before after : Fragments) → is_comma_fragment separator ≡ true → MethodIs tree before → Derives splittings.Nothing (local_methods others) after → Derives splittings.Nothing (local_methods (tree ∷ others)) (before ++ separator ∷ after)
more_methods_of tree others (group left within right) before after e m k = absurd cc
more_methods_of tree others (one separator) before behind e m k =
    let (after, inner_is, role, h) = m.inside in
    subst (λ (t : LocalMethod). Derives splittings.Nothing (local_methods (t ∷ others)) (before ++ one separator ∷ behind)) (sym m.same)
    (subst (λ (fs : Fragments). Derives splittings.Nothing (local_methods (method_tree_of m.opener m.method ∷ others)) (fs ++ one separator ∷ behind)) (sym m.parts)
    (more_methods m.method.method.found m.method.method.results m.method.method.trees others m.opener m.method.token m.inner m.closer separator after behind m.is inner_is role (comma_is (role_of separator) e) h k))

methods_row : Row is_comma_fragment method_alone MethodIs (λ trees fragments. Derives splittings.Nothing (local_methods trees) fragments)
methods_row = record { last = last_method_of; more = more_methods_of; reads_one = λ items tree h e. method_alone_sound items tree h e }

front_local : (fragment : SeenFragment) (word : Token) → front_of_item fragment ≡ local_front word → (fragment ≡ one word) × (role_of word ≡ roles.Locals)
front_local (group opener inner closer) word e = absurd cc
front_local (one token) word e = go (role_of token) refl e
  where
    go : (role : Role) → role_of token ≡ role → front_by role token ≡ local_front word → (one token ≡ one word) × (role_of word ≡ roles.Locals)
    go roles.Locals is f = let same : token ≡ word = cc in (ap (λ (t : Token). one t) same, ap role_of (sym same) ∙ is)
    go role is f = absurd cc

local_parts : (words : Splitting) (word : Token) (fragment : SeenFragment) (trees : List LocalMethod) (tree : ItemTree) (after : Fragments) → tree ≡ local_of word trees → fragment ≡ one word → role_of word ≡ roles.Locals → Derives splittings.Nothing (local_methods trees) after → Derives words (an_item tree) (fragment ∷ after)
local_parts words word fragment trees tree after same one_is role h = rw (same, one_is) (by_local words trees word after role h)

local_sound : (words : Splitting) (word : Token) (first : Item) (rest : List Item) (tree : ItemTree) → front_of_item first.fragment ≡ local_front word → ItemsSound rest → option_map (local_of word) (each method_alone (cut is_comma_fragment false rest)) ≡ Some tree → Derives words (an_item tree) (first.fragment ∷ fragments_in rest)
local_sound words word first rest tree is h e =
    let (trees, read, same) = map_some (local_of word) (each method_alone (cut is_comma_fragment false rest)) tree e in
    let (one_is, role) = front_local first.fragment word is in
    local_parts words word first.fragment trees tree (fragments_in rest) same one_is role (row_sound is_comma_fragment method_alone _ _ methods_row rest trees h read)

item_by_sound : (front : ItemFront) (words : Splitting) (first : Item) (rest : List Item) (tree : ItemTree) → front_of_item first.fragment ≡ front → ItemsSound (first ∷ rest) → item_by front words first rest ≡ Some tree → Derives words (an_item tree) (fragments_in (first ∷ rest))
item_by_sound (let_front word) words first rest tree is h e = let (one_is, role) = front_let first.fragment word is in let_sound words word first.fragment rest tree one_is role h.1 e
item_by_sound (local_front word) words first rest tree is h e = local_sound words word first rest tree is h.1 e
item_by_sound other_front words first rest tree is h e = expression_item_sound words (first ∷ rest) tree h e

pub item_sound : (words : Splitting) (list : List Item) (tree : ItemTree) → ItemsSound list → item_items words list ≡ Some tree → Derives words (an_item tree) (fragments_in list)
item_sound words [] tree h e = absurd cc
item_sound words (first ∷ rest) tree h e = item_by_sound (front_of_item first.fragment) words first rest tree refl h e

pub semicolon_is : (role : Role) → is_semicolon_role role ≡ true → role ≡ roles.Semicolon
semicolon_is roles.Semicolon e = refl
semicolon_is role e = absurd cc

pub more_items_of : (words : Splitting) (tree : ItemTree) (others : List ItemTree) (separator : SeenFragment) (before after : Fragments) → is_semicolon separator ≡ true
    → Derives words (an_item tree) before → Derives words (some_items others) after → Derives words (some_items (tree ∷ others)) (before ++ separator ∷ after)
more_items_of words tree others (one token) before after e h k = more_items words tree others token before after (before ++ one token ∷ after) refl (semicolon_is (role_of token) e) h k
more_items_of words tree others (group opener inner closer) before after e h k = absurd cc

items_row : (words : Splitting) → Row is_semicolon (item_items words) (λ tree fragments. Derives words (an_item tree) fragments) (λ trees fragments. Derives words (some_items trees) fragments)
items_row words =
    record {
      last = last_item words;
      more = more_items_of words;
      reads_one = λ list tree h e. item_sound words list tree h e;
    }

-- what was left out at the end
pub data End : List Item → List Item → Type 0 where
  nothing_left_out : (list : List Item) → End list list
  semicolon_left_out : (list rest : List Item) (token : Token) → role_of token ≡ roles.Semicolon → fragments_in list ≡ fragments_in rest ++ one token ∷ [] → End list rest

pub semicolon_token : (fragment : SeenFragment) → is_semicolon fragment ≡ true → (token : Token) × (fragment ≡ one token) × (role_of token ≡ roles.Semicolon)
semicolon_token (one token) e = (token, refl, semicolon_is (role_of token) e)
semicolon_token (group opener inner closer) e = absurd cc

pub end_of : (list : List Item) → End list (without_end list)
end_of [] = nothing_left_out []
end_of (last ∷ []) = go (is_semicolon last.fragment) refl
  where
    go : (b : Bool) → is_semicolon last.fragment ≡ b → End (last ∷ []) (without_if b last)
    go true e = let (token, is, role) = semicolon_token last.fragment e in semicolon_left_out (last ∷ []) [] token role (ap (λ (f : SeenFragment). f ∷ []) is)
    go false e = nothing_left_out (last ∷ [])
end_of (first ∷ second ∷ rest) = with_first first (second ∷ rest) (without_end (second ∷ rest)) (end_of (second ∷ rest))
  where
    with_first : (first : Item) (list rest : List Item) → End list rest → End (first ∷ list) (first ∷ rest)
    with_first first list rest (nothing_left_out same) = nothing_left_out (first ∷ same)
    with_first first list rest (semicolon_left_out all left token role parts) = semicolon_left_out (first ∷ all) (first ∷ left) token role (ap (λ (fs : Fragments). first.fragment ∷ fs) parts)

pub sound_without : (list : List Item) → ItemsSound list → ItemsSound (without_end list)
sound_without [] h = tt
sound_without (last ∷ []) h = go (is_semicolon last.fragment)
  where
    go : (b : Bool) → ItemsSound (without_if b last)
    go true = tt
    go false = h
sound_without (first ∷ second ∷ rest) (h, k) = (h, sound_without (second ∷ rest) k)

body_end : (words : Splitting) (trees : List ItemTree) (list rest : List Item) → End list rest → ItemsSound rest → nonempty_body words rest ≡ Some trees → Derives words (a_body trees) (fragments_in list)
body_end words trees list [] (nothing_left_out same) h e = subst (λ (t : List ItemTree). Derives words (a_body t) []) (some_one [] trees e) (empty_body words)
body_end words trees list (first ∷ more) (nothing_left_out same) h e = items_body words trees (fragments_in (first ∷ more)) (row_sound is_semicolon (item_items words) _ _ (items_row words) (first ∷ more) trees h e)
body_end words trees list [] (semicolon_left_out all left token role parts) h e =
    subst (Derives words (a_body trees)) (sym parts) (subst (λ (t : List ItemTree). Derives words (a_body t) (one token ∷ [])) (some_one [] trees e) (separator_body words token role))
body_end words trees list (first ∷ more) (semicolon_left_out all left token role parts) h e =
    ended_body words trees token (fragments_in (first ∷ more)) (fragments_in list) parts role (row_sound is_semicolon (item_items words) _ _ (items_row words) (first ∷ more) trees h e)

pub body_sound : (words : Splitting) (list : List Item) (trees : List ItemTree) → ItemsSound list → body_items words list ≡ Some trees → Derives words (a_body trees) (fragments_in list)
body_sound words list trees h e = body_end words trees list (without_end list) (end_of list) (sound_without list h) e

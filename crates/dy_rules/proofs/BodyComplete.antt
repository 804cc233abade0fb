-- What is derived as a body is read.
use Rattle.std.proofs.Common.{◌≡◌, Bool, true, false, not, ◌&&◌, ◌||◌, codes, List, [], ◌∷◌, ◌++◌, Option, Some, option_map, option_and_then, refl, sym, ap, subst, ◌∙◌, append_assoc}
use Rattle.dy_tree.specs.declared.token.Token.{Token}
use Rattle.dy_tree.specs.Fragments.{SeenFragment, one, group, SeenFragments, no_fragment}
use Rattle.dy_rules.specs.Trees.{Tree, ItemTree, let_item, handler_item, expression_item, Alternative, Otherwise, no_otherwise, Arm, local_item, LocalMethod, methods_of}
use Rattle.std.specs.List.{list_any}
use Rattle.dy_tree.specs.declared.roles.Role.{Role}
use Rattle.dy_tree.specs.declared.roles.Role.TheVariants as roles
use Rattle.dy_tree.specs.declared.roles.Precedence.TheVariants as precedences
use Rattle.dy_tree.specs.declared.brackets.Keyword.TheVariants as keywords
use Rattle.dy_tree.specs.declared.brackets.Bracket.{Bracket}
use Rattle.dy_tree.specs.declared.brackets.Bracket.TheVariants as brackets
use Rattle.dy_tree.specs.declared.splitters.Splitting.{Splitting}
use Rattle.dy_tree.specs.declared.splitters.Splitting.TheVariants as splittings
use Rattle.dy_tree.specs.Spelling.{is_spelled}
use Rattle.dy_rules.specs.Types.{is_comparison, is_equals, TypeTree, a_type, IsType, is_splitting, binds_plainly, TargetTree, IsTarget, by_variable, by_nothing, by_brackets, untyped, typed}
use Rattle.dy_rules.specs.Roles.{role_of, splits, bracket_of}
use Rattle.dy_rules.specs.Cutting.{Sides, Item, Piece, Pieces, is_semicolon, is_let, is_splitter, cut, with_others, each, without_end, without_if, is_arrow, NamedFound, cut_if}
use Rattle.dy_rules.specs.Reading.{State, whole, wants, tree_of, expression_items}
use Rattle.dy_rules.specs.Bodies.{ItemFront, let_front, other_front, front_by, front_of_item, is_equals_at, is_handler_role, is_handler, let_of, handler_of, let_with, handler_with, bound_at, bound_from, let_if, let_sides, item_by, item_items, nonempty_body, body_items, local_front, method_tree_of, method_in, method_alone, local_of}
use Rattle.dy_rules.specs.StatementReading.{others_of}
use Rattle.dy_rules.specs.Fragments.{item_of, items_of}
use Rattle.dy_rules.proofs.TypeComplete.{is_quiet, quiet_role, Quiet, quiet_no_let, type_quiet, variable_quiet, whole_type_reads, type_complete, target_complete}
use Rattle.dy_rules.proofs.Lists.{fragments_back, reads, some_one}
use Rattle.dy_rules.proofs.Cuts.{Never, first_cut_on, Closed, cut_end, closed_on}
use Rattle.dy_rules.proofs.Rows.{joined_on, row_last, row_more}
use Rattle.dy_rules.proofs.Inner.{inner_role, item_role, Inner, is_inner, inner_if, reads_inner, Separating, semicolons, splitters, splits_no_splitter, inner_closed, arrows, inner_no_remains}
use Rattle.dy_rules.specs.Choices.{is_remains, PieceKind, item_piece, kind_at, kind_of, Choices, choices_of, with_lead, choice_at, choices_behind, choices_pieces}
use Rattle.dy_rules.specs.Arguments.{is_comma_fragment}

abbrev Fragments : Type 0
Fragments = List SeenFragment

-- no semicolon stands at the end
abbrev pub Open : Fragments → Type 0
Open fragments = without_end (items_of fragments) ≡ items_of fragments

abbrev pub Nonempty : Fragments → Type 0
Nonempty fragments = (first : SeenFragment) × (rest : Fragments) × (fragments ≡ first ∷ rest)

-- the first fragment is no `otherwise`
abbrev pub Begins : Fragments → Type 0
Begins fragments = (first : SeenFragment) × (rest : Fragments) × (fragments ≡ first ∷ rest) × (is_remains first ≡ false)

pub begins_some : (fragments : Fragments) → Begins fragments → Nonempty fragments
begins_some fragments (first, rest, e, plainly) = (first, rest, e)

pub record ItemRead (words : Splitting) (tree : ItemTree) (fragments : List SeenFragment) : Type 0 where
  pub read : item_items words (items_of fragments) ≡ Some tree
  pub closed : (separates : SeenFragment → Bool) → Separating words separates → Closed separates false fragments
  pub ends : Open fragments
  pub some : Begins fragments

-- Items stand in front, and behind them arms.
pub record Leads (words : Splitting) (single : Bool) (trees : List ItemTree) (others : List Arm) (last : Otherwise) (pieces : Pieces) : Type 0 where
  pub front : List SeenFragment
  pub tree : ItemTree
  pub rest : List ItemTree
  pub trees_are : trees ≡ tree ∷ rest
  pub first_is : pieces.first ≡ items_of front
  pub item_is : ItemRead words tree front
  pub behind : choices_behind words single pieces.others ≡ Some (choices_of rest others last)

pub record ItemsRead (words : Splitting) (trees : List ItemTree) (fragments : List SeenFragment) : Type 0 where
  pub read : each (item_items words) (cut is_semicolon false (items_of fragments)) ≡ Some trees
  pub closed : Closed (is_splitter words) false fragments
  pub ends : Open fragments
  pub some : Nonempty fragments
  pub leads : (single : Bool) → Leads words single trees [] no_otherwise (cut is_semicolon false (items_of fragments))
  pub leads_on : (single : Bool) (separator : SeenFragment) (after : List SeenFragment) (others : List Arm) (last : Otherwise) → is_semicolon separator ≡ true → choices_pieces words single (cut is_semicolon false (items_of after)) ≡ Some (choices_of [] others last)
      → Leads words single trees others last (cut is_semicolon false (items_of (fragments ++ separator ∷ after)))

pub record BodyRead (words : Splitting) (trees : List ItemTree) (fragments : List SeenFragment) : Type 0 where
  pub read : body_items words (items_of fragments) ≡ Some trees
  pub closed : Closed (is_splitter words) false fragments
  -- A semicolon at the front stands alone.
  pub semicolon_alone : (first : SeenFragment) (rest : List SeenFragment) → fragments ≡ first ∷ rest → is_semicolon first ≡ true → (rest ≡ []) × (trees ≡ [])

pub record AlternativesRead (trees : List Alternative) (last : Otherwise) (fragments : List SeenFragment) : Type 0 where
  pub others : List Piece
  pub pieces : (front : List SeenFragment) → Closed (is_splitter splittings.Branches) false front → cut (is_splitter splittings.Branches) false (items_of (front ++ fragments)) ≡ record { first = items_of front; others = others }
  pub found : others_of others ≡ Some (record { trees = trees; last = last })

pub open_on : (before : Fragments) (first : SeenFragment) (rest : Fragments) → Open (first ∷ rest) → Open (before ++ first ∷ rest)
open_on [] first rest h = h
open_on (x ∷ []) first rest h = ap (λ (items : List Item). item_of x ∷ items) h
open_on (x ∷ y ∷ before) first rest h = ap (λ (items : List Item). item_of x ∷ items) (open_on (y ∷ before) first rest h)

pub inner_open : (words : Splitting) (fragments : Fragments) → Inner words fragments → Open fragments
inner_open words [] h = refl
inner_open words (last ∷ []) (is, h) = rw ((semicolons words).inner last is) refl
inner_open words (first ∷ second ∷ rest) (is, h) = ap (λ (items : List Item). item_of first ∷ items) (inner_open words (second ∷ rest) h)

pub read_some : (words : Splitting) (tree : Tree) (fragments : Fragments) (state : State) → reads words (wants whole) fragments ≡ Some state → tree_of state ≡ Some tree → Nonempty fragments
read_some words tree [] state e f = let g = ap tree_of (some_one (wants whole) state e) ∙ f in absurd cc
read_some words tree (first ∷ rest) state e f = (first, rest, refl)

pub expression_read : (words : Splitting) (tree : Tree) (fragments : Fragments) (state : State) → reads words (wants whole) fragments ≡ Some state → tree_of state ≡ Some tree → expression_items words (items_of fragments) ≡ Some tree
expression_read words tree fragments state e f = ap (λ (o : Option State). option_and_then tree_of o) e ∙ f

front_of_inner : (words : Splitting) (fragment : SeenFragment) → is_inner words fragment ≡ true → front_of_item fragment ≡ other_front
front_of_inner words (group opener inner closer) e = refl
front_of_inner words (one token) e = go (role_of token) (and_true (inner_role (role_of token)) (not (splits words token)) e)
  where
    go : (role : Role) → inner_role role ≡ true → front_by role token ≡ other_front
    go roles.Lets f = absurd cc
    go roles.Locals f = absurd cc
    go role f = refl

    and_true : (a b : Bool) → (a && b) ≡ true → a ≡ true
    and_true true b f = refl
    and_true false b f = f

expression_by : (words : Splitting) (tree : Tree) (fragments : Fragments) → Inner words fragments → Nonempty fragments → expression_items words (items_of fragments) ≡ Some tree → item_items words (items_of fragments) ≡ Some (expression_item tree)
expression_by words tree [] h (first, rest, e) f = absurd cc
expression_by words tree (first ∷ rest) (is, h) some f = ap (λ (front : ItemFront). item_by front words (item_of first) (items_of rest)) (front_of_inner words first is) ∙ ap (λ (o : Option Tree). option_map expression_item o) f

pub inner_begins : (words : Splitting) (fragments : Fragments) → Inner words fragments → Nonempty fragments → Begins fragments
inner_begins words [] h (first, rest, e) = absurd cc
inner_begins words (first ∷ rest) (is, h) some = (first, rest, refl, inner_no_remains words first is)

pub expression_item_read : (words : Splitting) (tree : Tree) (fragments : Fragments) (state : State) → reads words (wants whole) fragments ≡ Some state → tree_of state ≡ Some tree → ItemRead words (expression_item tree) fragments
expression_item_read words tree fragments state e f =
    let h = reads_inner words fragments (wants whole) state e in
    record {
      read = expression_by words tree fragments h (read_some words tree fragments state e f) (expression_read words tree fragments state e f);
      closed = λ separates s. inner_closed words separates s fragments h;
      ends = inner_open words fragments h;
      some = inner_begins words fragments h (read_some words tree fragments state e f);
    }

quiet_separates : (words : Splitting) (separates : SeenFragment → Bool) → Separating words separates → (fragment : SeenFragment) → is_quiet fragment ≡ true → is_splitting words fragment ≡ false → separates fragment ≡ false
quiet_separates words separates s (group opener inner closer) e f = s.inner (group opener inner closer) refl
quiet_separates words separates s (one token) e f = go (role_of token) refl e
  where
    go : (role : Role) → role_of token ≡ role → quiet_role role ≡ true → separates (one token) ≡ false
    go roles.Named is g = s.inner (one token) (inner_if words token (rw is refl) f)
    go roles.Colons is g = s.others token (rw is refl)
    go role is g = absurd cc

or_false : (a b : Bool) → (a || b) ≡ false → (a ≡ false) × (b ≡ false)
or_false true b e = absurd cc
or_false false b e = (refl, e)

-- what is bound, behind its name
pub bound_closed : (words : Splitting) (separates : SeenFragment → Bool) → Separating words separates → (fragments : Fragments) → Quiet fragments → list_any (is_splitting words) fragments ≡ false → Closed separates false fragments
bound_closed words separates s [] h e = refl
bound_closed words separates s (first ∷ rest) (is, h) e =
    let (plainly, more) = or_false (is_splitting words first) (list_any (is_splitting words) rest) e in
    (quiet_separates words separates s first is plainly, subst (λ (b : Bool). Closed separates b rest) (sym (quiet_no_let first is)) (bound_closed words separates s rest h more))

pub comparison_is : (role : Role) (b : Bool) → (is_comparison role && b) ≡ true → role ≡ roles.Operator precedences.Comparison
comparison_is (roles.Operator precedences.Comparison) b e = refl
comparison_is (roles.Operator precedences.Power) b e = absurd cc
comparison_is (roles.Operator precedences.Product) b e = absurd cc
comparison_is (roles.Operator precedences.Sum) b e = absurd cc
comparison_is (roles.Operator precedences.Logical) b e = absurd cc
comparison_is role b e = absurd cc

pub equals_inner : (words : Splitting) (equals : Token) → is_equals equals ≡ true → (is_inner words (one equals) ≡ true) × (is_let (one equals) ≡ false)
equals_inner words equals e = let is = comparison_is (role_of equals) (is_spelled (codes "=") equals) e in (rw (is, splits_no_splitter words) refl, rw is refl)

let_separates : (token : Token) → role_of token ≡ roles.Lets → (item_role (role_of token) ≡ true) × (is_let (one token) ≡ true)
let_separates token is = (rw is refl, rw is refl)

let_closed : (words : Splitting) (separates : SeenFragment → Bool) → Separating words separates → (word equals : Token) (first : SeenFragment) (more after : Fragments) → role_of word ≡ roles.Lets → is_let first ≡ false → Quiet more → list_any (is_splitting words) more ≡ false → is_equals equals ≡ true → Inner words after
    → Closed separates false (one word ∷ first ∷ (more ++ one equals ∷ after))
let_closed words separates s word equals first more after role plain_first quiet plainly is h =
    let (item, lets_is) = let_separates word role in
    let (inner, no_let) = equals_inner words equals is in (
      s.others word item,
      subst (λ (b : Bool). Closed separates b (first ∷ (more ++ one equals ∷ after))) (sym lets_is) (
        refl,
        subst (λ (b : Bool). Closed separates b (more ++ one equals ∷ after)) (sym plain_first)
            (closed_on separates false more (one equals) after (bound_closed words separates s more quiet plainly) (s.inner (one equals) inner) no_let (inner_closed words separates s after h)),
      ),
    )

quiet_no_handler : (fragment : SeenFragment) → is_quiet fragment ≡ true → is_handler fragment ≡ false
quiet_no_handler (group opener inner closer) e = refl
quiet_no_handler (one token) e = go (role_of token) e
  where
    go : (role : Role) → quiet_role role ≡ true → is_handler_role role ≡ false
    go roles.Handlers f = absurd cc
    go role f = refl

quiet_no_equals : (fragment : SeenFragment) → is_quiet fragment ≡ true → is_equals_at fragment ≡ false
quiet_no_equals (group opener inner closer) e = refl
quiet_no_equals (one token) e = go (role_of token) e
  where
    go : (role : Role) → quiet_role role ≡ true → (is_comparison role && is_spelled (codes "=") token) ≡ false
    go roles.Named f = refl
    go roles.Colons f = refl
    go role f = absurd cc

pub no_equals_in : (fragments : Fragments) → Quiet fragments → Never is_equals_at fragments
no_equals_in [] h = tt
no_equals_in (first ∷ rest) (is, h) = (quiet_no_equals first is, no_equals_in rest h)

pub target_quiet : (target : TargetTree) (fragments : Fragments) → IsTarget target fragments → Quiet fragments
target_quiet target fragments (by_variable variable all h) = variable_quiet variable all h
target_quiet target fragments (by_nothing opener closer is) = (refl, tt)
target_quiet target fragments (by_brackets variables rest opener inner closer is h) = (refl, tt)

target_some : (target : TargetTree) (fragments : Fragments) → IsTarget target fragments → Nonempty fragments
target_some target fragments (by_variable variable all (untyped token is)) = (one token, [], refl)
target_some target fragments (by_variable variable all (typed token sign type after is sign_is h)) = (one token, one sign ∷ after, refl)
target_some target fragments (by_nothing opener closer is) = (group opener no_fragment closer, [], refl)
target_some target fragments (by_brackets variables rest opener inner closer is h) = (group opener inner closer, [], refl)

let_front_is : (word : Token) → role_of word ≡ roles.Lets → front_of_item (one word) ≡ let_front word
let_front_is word is = rw is refl

-- what is bound and its value, behind a `let`
let_reads : (words : Splitting) (word equals : Token) (before after : Fragments) (tree : ItemTree) → role_of word ≡ roles.Lets → is_equals equals ≡ true → Never is_equals_at before → binds_plainly words before ≡ true → bound_from words word (items_of before) (items_of after) ≡ Some tree
    → item_items words (items_of (one word ∷ (before ++ one equals ∷ after))) ≡ Some tree
let_reads words word equals before after tree role is never plainly e =
    ap (λ (front : ItemFront). item_by front words (item_of (one word)) (items_of (before ++ one equals ∷ after))) (let_front_is word role)
    ∙ ap (λ (o : Option Sides). option_and_then (let_sides words word) o) (first_cut_on is_equals_at before (one equals) after never is)
    ∙ ap (λ (fs : Fragments). let_if (binds_plainly words fs) words word (record { before = items_of before; after = items_of after })) (fragments_back before)
    ∙ ap (λ (b : Bool). let_if b words word (record { before = items_of before; after = items_of after })) plainly ∙ e

pub open_behind : (before : Fragments) (separator : SeenFragment) (after : Fragments) → Open after → Nonempty after → Open (before ++ separator ∷ after)
open_behind before separator after h (first, rest, e) =
    subst (λ (fs : Fragments). Open (before ++ separator ∷ fs)) (sym e) (open_on before separator (first ∷ rest) (ap (λ (items : List Item). item_of separator ∷ items) (subst Open e h)))

target_bound : (words : Splitting) (word : Token) (target : TargetTree) (assigned : Tree) (first : SeenFragment) (more after : Fragments) → is_quiet first ≡ true → IsTarget target (first ∷ more) → expression_items words (items_of after) ≡ Some assigned
    → bound_from words word (items_of (first ∷ more)) (items_of after) ≡ Some (let_item word target assigned)
target_bound words word target assigned first more after quiet t e =
    ap (λ (b : Bool). bound_at b words word (item_of first) (items_of more) (items_of after)) (quiet_no_handler first quiet)
    ∙ ap (λ (o : Option TargetTree). option_and_then (let_with words word (items_of after)) o) (target_complete target (first ∷ more) t) ∙ ap (option_map (let_of word target)) e

let_no_remains : (word : Token) → role_of word ≡ roles.Lets → is_remains (one word) ≡ false
let_no_remains word is = rw is refl

let_from : (words : Splitting) (word equals : Token) (target : TargetTree) (assigned : Tree) (first : SeenFragment) (more after : Fragments) → role_of word ≡ roles.Lets → is_equals equals ≡ true → IsTarget target (first ∷ more) → Quiet (first ∷ more) → not (list_any (is_splitting words) more) ≡ true
    → (state : State) → reads words (wants whole) after ≡ Some state → tree_of state ≡ Some assigned → ItemRead words (let_item word target assigned) (one word ∷ first ∷ (more ++ one equals ∷ after))
let_from words word equals target assigned first more after role is t (quiet, calm) plainly state e f =
    let h = reads_inner words after (wants whole) state e in
    record {
      read = let_reads words word equals (first ∷ more) after (let_item word target assigned) role is (no_equals_in (first ∷ more) (quiet, calm)) plainly (target_bound words word target assigned first more after quiet t (expression_read words assigned after state e f));
      closed = λ separates s. let_closed words separates s word equals first more after role (quiet_no_let first quiet) calm (not_true _ plainly) is h;
      ends = open_behind (one word ∷ first ∷ more) (one equals) after (inner_open words after h) (read_some words assigned after state e f);
      some = (one word, first ∷ (more ++ one equals ∷ after), refl, let_no_remains word role);
    }
  where
    not_true : (b : Bool) → not b ≡ true → b ≡ false
    not_true true g = absurd cc
    not_true false g = refl

pub let_item_read : (words : Splitting) (word equals : Token) (target : TargetTree) (assigned : Tree) (before after all : Fragments) → all ≡ one word ∷ (before ++ one equals ∷ after) → role_of word ≡ roles.Lets → is_equals equals ≡ true → IsTarget target before → binds_plainly words before ≡ true
    → (state : State) → reads words (wants whole) after ≡ Some state → tree_of state ≡ Some assigned → ItemRead words (let_item word target assigned) all
let_item_read words word equals target assigned [] after all parts role is t plainly state e f = let (first, rest, g) = target_some target [] t in absurd cc
let_item_read words word equals target assigned (first ∷ more) after all parts role is t plainly state e f =
    subst (ItemRead words (let_item word target assigned)) (sym parts) (let_from words word equals target assigned first more after role is t (target_quiet target (first ∷ more) t) plainly state e f)

handler_reads : (second : Token) → role_of second ≡ roles.Handlers → (is_handler (one second) ≡ true) × (is_equals_at (one second) ≡ false) × (is_let (one second) ≡ false)
handler_reads second is = (rw is refl, rw is refl, rw is refl)

handler_bound : (words : Splitting) (word second : Token) (condition : TypeTree) (handler : Tree) (before after : Fragments) → role_of second ≡ roles.Handlers → IsType (a_type condition) before → expression_items words (items_of after) ≡ Some handler
    → bound_from words word (items_of (one second ∷ before)) (items_of after) ≡ Some (handler_item word condition handler)
handler_bound words word second condition handler before after role t e =
    let (is, no_equals, no_let) = handler_reads second role in
    ap (λ (b : Bool). bound_at b words word (item_of (one second)) (items_of before) (items_of after)) is
    ∙ ap (λ (o : Option TypeTree). option_and_then (handler_with words word (items_of after)) o) (whole_type_reads condition before (type_complete (a_type condition) before t)) ∙ ap (option_map (handler_of word condition)) e

handler_from : (words : Splitting) (word second equals : Token) (condition : TypeTree) (handler : Tree) (before after : Fragments) → role_of word ≡ roles.Lets → role_of second ≡ roles.Handlers → is_equals equals ≡ true → IsType (a_type condition) before → not (list_any (is_splitting words) before) ≡ true
    → (state : State) → reads words (wants whole) after ≡ Some state → tree_of state ≡ Some handler → ItemRead words (handler_item word condition handler) (one word ∷ one second ∷ (before ++ one equals ∷ after))
handler_from words word second equals condition handler before after role also is t plainly state e f =
    let h = reads_inner words after (wants whole) state e in
    let (handling, no_equals, no_let) = handler_reads second also in
    let calm = type_quiet condition before t in
    record {
      read = let_reads words word equals (one second ∷ before) after (handler_item word condition handler) role is (no_equals, no_equals_in before calm) plainly (handler_bound words word second condition handler before after also t (expression_read words handler after state e f));
      closed = λ separates s. let_closed words separates s word equals (one second) before after role no_let calm (not_true _ plainly) is h;
      ends = open_behind (one word ∷ one second ∷ before) (one equals) after (inner_open words after h) (read_some words handler after state e f);
      some = (one word, one second ∷ (before ++ one equals ∷ after), refl, let_no_remains word role);
    }
  where
    not_true : (b : Bool) → not b ≡ true → b ≡ false
    not_true true g = absurd cc
    not_true false g = refl

pub handler_item_read : (words : Splitting) (word second equals : Token) (condition : TypeTree) (handler : Tree) (before after all : Fragments) → all ≡ one word ∷ one second ∷ (before ++ one equals ∷ after) → role_of word ≡ roles.Lets → role_of second ≡ roles.Handlers → is_equals equals ≡ true → IsType (a_type condition) before
    → binds_plainly words (one second ∷ before) ≡ true → (state : State) → reads words (wants whole) after ≡ Some state → tree_of state ≡ Some handler → ItemRead words (handler_item word condition handler) all
handler_item_read words word second equals condition handler before after all parts role also is t plainly state e f =
    subst (ItemRead words (handler_item word condition handler)) (sym parts) (handler_from words word second equals condition handler before after role also is t plainly state e f)

item_kind : (words : Splitting) (tree : ItemTree) (fragments : Fragments) → ItemRead words tree fragments → kind_of (items_of fragments) ≡ item_piece
item_kind words tree fragments h = go fragments h.some (h.closed is_arrow (arrows words))
  where
    go : (fs : Fragments) → Begins fs → Closed is_arrow false fs → kind_of (items_of fs) ≡ item_piece
    go [] (first, rest, e, plainly) k = absurd cc
    go (x ∷ more) (first, rest, e, plainly) k =
        let same : x ≡ first = cc in
        ap (λ (b : Bool). kind_at b (items_of more) (cut is_arrow false (items_of (x ∷ more)))) (ap is_remains same ∙ plainly) ∙ ap (kind_at false (items_of more)) (cut_end is_arrow false (x ∷ more) k)

choice_item : (words : Splitting) (single : Bool) (tree : ItemTree) (fragments : Fragments) (rest : Choices) → ItemRead words tree fragments → choice_at words single (kind_of (items_of fragments)) (items_of fragments) rest ≡ Some (with_lead rest tree)
choice_item words single tree fragments rest h = ap (λ (k : PieceKind). choice_at words single k (items_of fragments) rest) (item_kind words tree fragments h) ∙ ap (option_map (with_lead rest)) h.read

pub leads_all : (words : Splitting) (single : Bool) (trees : List ItemTree) (others : List Arm) (last : Otherwise) (pieces : Pieces) → Leads words single trees others last pieces → choices_pieces words single pieces ≡ Some (choices_of trees others last)
leads_all words single trees others last pieces h =
    ap (λ (o : Option Choices). option_and_then (choice_at words single (kind_of pieces.first) pieces.first) o) h.behind
    ∙ ap (λ (items : List Item). choice_at words single (kind_of items) items (choices_of h.rest others last)) h.first_is
    ∙ choice_item words single h.tree h.front (choices_of h.rest others last) h.item_is ∙ ap (λ (list : List ItemTree). Some (choices_of list others last)) (sym h.trees_are)

-- one item in front of what was read
item_leads : (words : Splitting) (single : Bool) (tree : ItemTree) (fragments : Fragments) (separator : SeenFragment) (after : Fragments) (rest : List ItemTree) (others : List Arm) (last : Otherwise) → ItemRead words tree fragments → is_semicolon separator ≡ true
    → choices_pieces words single (cut is_semicolon false (items_of after)) ≡ Some (choices_of rest others last) → Leads words single (tree ∷ rest) others last (cut is_semicolon false (items_of (fragments ++ separator ∷ after)))
item_leads words single tree fragments separator after rest others last h is e =
    subst (Leads words single (tree ∷ rest) others last) (sym (joined_on is_semicolon false fragments separator after (h.closed is_semicolon (semicolons words)) is))
    (record { front = fragments; tree = tree; rest = rest; trees_are = refl; first_is = refl; item_is = h; behind = e })

pub last_item_read : (words : Splitting) (tree : ItemTree) (fragments : Fragments) → ItemRead words tree fragments → ItemsRead words (tree ∷ []) fragments
last_item_read words tree fragments h =
    record {
      read = ap (λ (pieces : Pieces). each (item_items words) pieces) (cut_end is_semicolon false fragments (h.closed is_semicolon (semicolons words))) ∙ ap (λ (o : Option ItemTree). with_others o (Some [])) h.read;
      closed = h.closed (is_splitter words) (splitters words);
      ends = h.ends;
      some = begins_some fragments h.some;
      leads = λ single. subst (Leads words single (tree ∷ []) [] no_otherwise) (sym (cut_end is_semicolon false fragments (h.closed is_semicolon (semicolons words))))
          (record { front = fragments; tree = tree; rest = []; trees_are = refl; first_is = refl; item_is = h; behind = refl });
      leads_on = λ single separator after others last is e. item_leads words single tree fragments separator after [] others last h is e;
    }

pub semicolon_separates : (token : Token) → role_of token ≡ roles.Semicolon → is_semicolon (one token) ≡ true
semicolon_separates token is = rw is refl

semicolon_splits : (words : Splitting) (token : Token) → role_of token ≡ roles.Semicolon → splits words token ≡ false
semicolon_splits words token is = rw (is, splits_no_splitter words) refl

semicolon_let : (token : Token) → role_of token ≡ roles.Semicolon → is_let (one token) ≡ false
semicolon_let token is = rw is refl

pub nonempty_on : (before : Fragments) (separator : SeenFragment) (after : Fragments) → Nonempty (before ++ separator ∷ after)
nonempty_on [] separator after = (separator, after, refl)
nonempty_on (first ∷ before) separator after = (first, before ++ separator ∷ after, refl)

pub more_items_read : (words : Splitting) (tree : ItemTree) (others : List ItemTree) (separator : Token) (before after all : Fragments) → all ≡ before ++ one separator ∷ after → role_of separator ≡ roles.Semicolon
    → ItemRead words tree before → ItemsRead words others after → ItemsRead words (tree ∷ others) all
more_items_read words tree others separator before after all parts is h k =
    subst (ItemsRead words (tree ∷ others)) (sym parts)
    (record {
      read = ap (each (item_items words)) (joined_on is_semicolon false before (one separator) after (h.closed is_semicolon (semicolons words)) (semicolon_separates separator is)) ∙ ap (λ (o : Option ItemTree). with_others o (each (item_items words) (cut is_semicolon false (items_of after)))) h.read
          ∙ ap (with_others (Some tree)) k.read;
      closed = closed_on (is_splitter words) false before (one separator) after (h.closed (is_splitter words) (splitters words)) (semicolon_splits words separator is) (semicolon_let separator is) k.closed;
      ends = open_behind before (one separator) after k.ends k.some;
      some = nonempty_on before (one separator) after;
      leads = λ single. item_leads words single tree before (one separator) after others [] no_otherwise h (semicolon_separates separator is) (leads_all words single others [] no_otherwise _ (k.leads single));
      leads_on = λ single second behind arms last also e.
          subst (λ (fs : Fragments). Leads words single (tree ∷ others) arms last (cut is_semicolon false (items_of fs))) (sym (append_assoc before (one separator ∷ after) (second ∷ behind)))
          (item_leads words single tree before (one separator) (after ++ second ∷ behind) others arms last h (semicolon_separates separator is) (leads_all words single others arms last _ (k.leads_on single second behind arms last also e)));
    })

pub empty_body_read : (words : Splitting) → BodyRead words [] []
empty_body_read words = record { read = refl; closed = refl; semicolon_alone = λ first rest e is. absurd cc }

pub separator_body_read : (words : Splitting) (token : Token) → role_of token ≡ roles.Semicolon → BodyRead words [] (one token ∷ [])
separator_body_read words token is =
    record {
      read = ap (λ (b : Bool). nonempty_body words (without_if b (item_of (one token)))) (semicolon_separates token is);
      closed = (rw (semicolon_splits words token is) refl, semicolon_let token is);
      semicolon_alone = λ first rest e semi. let none : [] ≡ rest = cc in (sym none, refl);
    }

nonempty_read : (words : Splitting) (trees : List ItemTree) (fragments : Fragments) → Nonempty fragments → each (item_items words) (cut is_semicolon false (items_of fragments)) ≡ Some trees → nonempty_body words (items_of fragments) ≡ Some trees
nonempty_read words trees fragments (first, rest, e) h =
    ap (λ (fs : Fragments). nonempty_body words (items_of fs)) e ∙ ap (λ (fs : Fragments). each (item_items words) (cut is_semicolon false (items_of fs))) (sym e) ∙ h

first_cut_off : (first : SeenFragment) (rest : Fragments) → is_semicolon first ≡ true → (cut is_semicolon false (items_of (first ∷ rest))).first ≡ []
first_cut_off first rest is = ap (λ (b : Bool). (cut_if b (item_of first) (cut is_semicolon false (items_of rest)) (cut is_semicolon (is_let first) (items_of rest))).first) is

nothing_begins : (front : Fragments) → Begins front → [] ≡ items_of front → ⊥
nothing_begins [] (first, rest, e, plainly) f = cc
nothing_begins (x ∷ front) begins f = cc

-- items do not begin with a semicolon
items_no_semicolon : (words : Splitting) (trees : List ItemTree) (fragments : Fragments) (first : SeenFragment) (rest : Fragments) → ItemsRead words trees fragments → fragments ≡ first ∷ rest → is_semicolon first ≡ true → ⊥
items_no_semicolon words trees fragments first rest h e is =
    let l = h.leads true in
    nothing_begins l.front l.item_is.some (sym (first_cut_off first rest is) ∙ ap (λ (fs : Fragments). (cut is_semicolon false (items_of fs)).first) (sym e) ∙ l.first_is)

pub items_body_read : (words : Splitting) (trees : List ItemTree) (fragments : Fragments) → ItemsRead words trees fragments → BodyRead words trees fragments
items_body_read words trees fragments h = record { read = ap (nonempty_body words) h.ends ∙ nonempty_read words trees fragments h.some h.read; closed = h.closed; semicolon_alone = λ first rest e is. absurd (items_no_semicolon words trees fragments first rest h e is) }

pub end_cut : (before : Fragments) (token : Token) → role_of token ≡ roles.Semicolon → without_end (items_of (before ++ one token ∷ [])) ≡ items_of before
end_cut [] token is = rw is refl
end_cut (x ∷ []) token is = ap (λ (items : List Item). item_of x ∷ items) (end_cut [] token is)
end_cut (x ∷ y ∷ before) token is = ap (λ (items : List Item). item_of x ∷ items) (end_cut (y ∷ before) token is)

pub ended_body_read : (words : Splitting) (trees : List ItemTree) (separator : Token) (before all : Fragments) → all ≡ before ++ one separator ∷ [] → role_of separator ≡ roles.Semicolon → ItemsRead words trees before → BodyRead words trees all
ended_body_read words trees separator before all parts is h =
    subst (BodyRead words trees) (sym parts)
    (record {
      read = ap (nonempty_body words) (end_cut before separator is) ∙ nonempty_read words trees before h.some h.read;
      closed = closed_on (is_splitter words) false before (one separator) [] h.closed (semicolon_splits words separator is) (semicolon_let separator is) refl;
      semicolon_alone = λ first rest e semi. absurd (ended_no_semicolon before h first rest e semi);
    })
  where
    ended_no_semicolon : (fragments : Fragments) → ItemsRead words trees fragments → (first : SeenFragment) (rest : Fragments) → fragments ++ one separator ∷ [] ≡ first ∷ rest → is_semicolon first ≡ true → ⊥
    ended_no_semicolon [] k first rest e semi = let (x, more, f) = k.some in cc
    ended_no_semicolon (y ∷ fragments) k first rest e semi = let same : first ≡ y = cc in items_no_semicolon words trees (y ∷ fragments) y fragments k refl (sym (ap is_semicolon same) ∙ semi)

-- local methods, and no separator of bodies in them
pub record LocalRead (trees : List LocalMethod) (fragments : List SeenFragment) : Type 0 where
  pub read : each method_alone (cut is_comma_fragment false (items_of fragments)) ≡ Some trees
  pub closed : (words : Splitting) (separates : SeenFragment → Bool) → Separating words separates → Closed separates false fragments
  pub ends : Open fragments
  pub some : Nonempty fragments

local_facts : (word : Token) → role_of word ≡ roles.Locals → (front_of_item (one word) ≡ local_front word) × (item_role (role_of word) ≡ true) × (is_let (one word) ≡ false) × (is_remains (one word) ≡ false)
local_facts word is = (rw is refl, rw is refl, rw is refl, rw is refl)

pub local_item_read : (words : Splitting) (trees : List LocalMethod) (word : Token) (after : Fragments) → role_of word ≡ roles.Locals → LocalRead trees after → ItemRead words (local_item word (methods_of trees)) (one word ∷ after)
local_item_read words trees word after is h =
    let (front, item, no_let, no_remains) = local_facts word is in
    record {
      read = ap (λ (f : ItemFront). item_by f words (item_of (one word)) (items_of after)) front ∙ ap (option_map (local_of word)) h.read;
      closed = λ separates s. (s.others word item, subst (λ (b : Bool). Closed separates b after) (sym no_let) (h.closed words separates s));
      ends = open_behind [] (one word) after h.ends h.some;
      some = (one word, after, refl, no_remains);
    }

method_here : (bracket : Bracket) (word : Token) (found : Option NamedFound) (named_method : NamedFound) → bracket ≡ brackets.Statement keywords.Method → found ≡ Some named_method → method_in bracket word found ≡ Some (method_tree_of word named_method)
method_here bracket word found named_method is e = rw is (ap (option_map (method_tree_of word)) e)

pub method_alone_read : (opener : Token) (inner : SeenFragments) (closer : Token) (named_method : NamedFound) → bracket_of opener closer ≡ brackets.Statement keywords.Method → (item_of (group opener inner closer)).found.named_method ≡ Some named_method
    → method_alone (items_of (group opener inner closer ∷ [])) ≡ Some (method_tree_of opener named_method)
method_alone_read opener inner closer named_method is e = method_here (bracket_of opener closer) opener ((item_of (group opener inner closer)).found.named_method) named_method is e

pub last_method_read : (opener : Token) (inner : SeenFragments) (closer : Token) (tree : LocalMethod) → method_alone (items_of (group opener inner closer ∷ [])) ≡ Some tree → LocalRead (tree ∷ []) (group opener inner closer ∷ [])
last_method_read opener inner closer tree e =
    record {
      read = row_last is_comma_fragment method_alone (group opener inner closer ∷ []) tree (refl, refl) e;
      closed = λ words separates s. (s.inner (group opener inner closer) refl, refl);
      ends = refl;
      some = (group opener inner closer, [], refl);
    }

comma_facts : (token : Token) → role_of token ≡ roles.Comma → (is_comma_fragment (one token) ≡ true) × (item_role (role_of token) ≡ true) × (is_let (one token) ≡ false)
comma_facts token is = (rw is refl, rw is refl, rw is refl)

pub more_methods_read : (opener : Token) (inner : SeenFragments) (closer : Token) (tree : LocalMethod) (others : List LocalMethod) (separator : Token) (after : Fragments) → role_of separator ≡ roles.Comma → method_alone (items_of (group opener inner closer ∷ [])) ≡ Some tree → LocalRead others after
    → LocalRead (tree ∷ others) (group opener inner closer ∷ one separator ∷ after)
more_methods_read opener inner closer tree others separator after is e k =
    let (commas, item, no_let) = comma_facts separator is in
    record {
      read = row_more is_comma_fragment method_alone (group opener inner closer ∷ []) (one separator) after tree others (refl, refl) commas e k.read;
      closed = λ words separates s. (s.inner (group opener inner closer) refl, (s.others separator item, subst (λ (b : Bool). Closed separates b after) (sym no_let) (k.closed words separates s)));
      ends = open_behind (group opener inner closer ∷ []) (one separator) after k.ends k.some;
      some = (group opener inner closer, one separator ∷ after, refl);
    }

-- What is derived as a `for` is read.
use Rattle.std.proofs.Common.{◌≡◌, Bool, true, false, not, ◌&&◌, ◌||◌, List, [], ◌∷◌, ◌++◌, Option, Some, None, option_map, option_and_then, refl, sym, ap, subst, ◌∙◌, append_assoc, ◌⊎◌, inl, inr, codes}
use Rattle.std.proofs.lemmas.List.{append-nil}
use Rattle.std.specs.List.{list_any}
use Rattle.dy_tree.specs.declared.token.Token.{Token}
use Rattle.dy_tree.specs.Fragments.{SeenFragment, one, group, SeenFragments, row}
use Rattle.dy_tree.specs.declared.roles.Role.{Role}
use Rattle.dy_tree.specs.declared.roles.Role.TheVariants as roles
use Rattle.dy_tree.specs.declared.brackets.Keyword.TheVariants as keywords
use Rattle.dy_tree.specs.declared.brackets.Bracket.TheVariants as brackets
use Rattle.dy_tree.specs.declared.splitters.Splitting.{Splitting}
use Rattle.dy_tree.specs.declared.splitters.Splitting.TheVariants as splittings
use Rattle.dy_tree.specs.declared.splitters.Splitter.{Splitter}
use Rattle.dy_tree.specs.declared.splitters.Splitter.TheVariants as splitter_words
use Rattle.dy_tree.specs.Spelling.{is_spelled}
use Rattle.dy_rules.specs.Types.{VariableTree, IsVariable, untyped, typed, is_equals, is_splitting, binds_plainly, begins_round}
use Rattle.dy_rules.specs.Trees.{Tree, for_tree, ItemTree, body_of, Otherwise, no_otherwise, otherwise, ForClause, then_clause, in_clause, from_clause, for_clauses_of, MaybeLimit, no_limit, a_limit, MaybeTree, no_tree, some_tree, StopTree, stop_of}
use Rattle.dy_rules.specs.Roles.{role_of, splitter_of, splits_as, splits, bracket_of}
use Rattle.dy_rules.specs.Arguments.{is_comma_fragment}
use Rattle.dy_rules.specs.Productions.{is_symbol_role, is_stop_word, is_limit_word}
use Rattle.dy_rules.specs.Cutting.{Ending, Item, Piece, Pieces, is_let, is_splitter, cut, ending, fragments_in, Front, word_of}
use Rattle.dy_rules.specs.TypeReading.{VariableFront, is_colons, variable_front}
use Rattle.dy_rules.specs.Reading.{State, whole, wants, tree_of, expression_items}
use Rattle.dy_rules.specs.Loops.{is_in_word, is_in, Range, range_of, step_of, step_at, step_in, with_limit, limit_with, limit_token, range_if, range_in, from_of, from_with, from_at, then_of, then_with, then_at, in_of, equals_if, in_if, clause_behind, clause_with, clause_if, clause_pieces, clause_items, is_stop_at, is_stop, stop_with, stop_items, for_items, finally_of, finally_at, finally_in, for_of, for_body, for_pieces, for_statement}
use Rattle.dy_rules.specs.StatementReading.{statement_items}
use Rattle.dy_rules.specs.Fragments.{item_of, items_of, items_in}
use Rattle.dy_rules.proofs.Lists.{some_one, reads, items_row, fragments_back}
use Rattle.dy_rules.proofs.Cuts.{Closed, cut_end}
use Rattle.dy_rules.proofs.Rows.{items_append, ending_only, ending_last, ending_more, Behind, behind_nothing, behind_piece, behind_last}
use Rattle.dy_rules.proofs.Inner.{Inner, is_inner, Separating, splitters, reads_inner, inner_closed, inner_closed_by, inner_no_comma}
use Rattle.dy_rules.proofs.TypeComplete.{variable_quiet, no_commas_in, comma_separates, begins_colons, variable_complete}
use Rattle.dy_rules.proofs.BodyComplete.{Nonempty, nonempty_on, expression_read, bound_closed, equals_inner, BodyRead, comparison_is}
use Rattle.dy_rules.proofs.BlockComplete.{headed_read}

abbrev Fragments : Type 0
Fragments = List SeenFragment

-- an expression in the clauses of a `for`
pub record StepRead (tree : Tree) (fragments : List SeenFragment) : Type 0 where
  pub read : expression_items splittings.Steps (items_of fragments) ≡ Some tree
  pub inner : Inner splittings.Steps fragments

pub step_expression : (tree : Tree) (fragments : Fragments) (state : State) → reads splittings.Steps (wants whole) fragments ≡ Some state → tree_of state ≡ Some tree → StepRead tree fragments
step_expression tree fragments state e f = record { read = expression_read splittings.Steps tree fragments state e f; inner = reads_inner splittings.Steps fragments (wants whole) state e }

unsplit : (tree : Tree) (fragments : Fragments) → StepRead tree fragments → Closed (is_splitter splittings.Steps) false fragments
unsplit tree fragments h = inner_closed splittings.Steps (is_splitter splittings.Steps) (splitters splittings.Steps) fragments h.inner

no_commas : (tree : Tree) (fragments : Fragments) → StepRead tree fragments → Closed is_comma_fragment false fragments
no_commas tree fragments h = inner_closed_by splittings.Steps is_comma_fragment (inner_no_comma splittings.Steps) fragments h.inner

closed_join : (separates : SeenFragment → Bool) (bound : Bool) (before after : Fragments) → Closed separates bound before → Closed separates false after → Closed separates bound (before ++ after)
closed_join separates bound [] after h k = subst (λ (b : Bool). Closed separates b after) (sym h) k
closed_join separates bound (first ∷ before) after (plainly, h) k = (plainly, closed_join separates (is_let first) before after h k)

inner_plain : (words : Splitting) (fragments : Fragments) → Inner words fragments → list_any (is_splitting words) fragments ≡ false
inner_plain words [] h = refl
inner_plain words (first ∷ rest) (is, h) = rw (same first is, inner_plain words rest h) refl
  where
    same : (fragment : SeenFragment) → is_inner words fragment ≡ true → is_splitting words fragment ≡ false
    same (one token) e = (splitters words).inner (one token) e
    same (group opener within closer) e = refl

any_join : (words : Splitting) (before after : Fragments) → list_any (is_splitting words) before ≡ false → list_any (is_splitting words) after ≡ false → list_any (is_splitting words) (before ++ after) ≡ false
any_join words [] after e f = f
any_join words (first ∷ before) after e f = both (is_splitting words first) (list_any (is_splitting words) before) (list_any (is_splitting words) (before ++ after)) e (λ g. any_join words before after g f)
  where
    both : (b part all : Bool) → (b || part) ≡ false → (part ≡ false → all ≡ false) → (b || all) ≡ false
    both true part all g more = absurd cc
    both false part all g more = more g

not_true : (b : Bool) → not b ≡ true → b ≡ false
not_true true e = absurd cc
not_true false e = refl

plain_join : (words : Splitting) (before after : Fragments) → Nonempty before → binds_plainly words before ≡ true → list_any (is_splitting words) after ≡ false → binds_plainly words (before ++ after) ≡ true
plain_join words [] after (first, rest, g) e f = absurd cc
plain_join words (x ∷ before) after some e f = ap not (any_join words before after (not_true (list_any (is_splitting words) before) e) f)

variable_some : (variable : VariableTree) (fragments : Fragments) → IsVariable variable fragments → Nonempty fragments
variable_some variable fragments (untyped token is) = (one token, [], refl)
variable_some variable fragments (typed token sign type after is sign_is h) = (one token, one sign ∷ after, refl)

named_let : (token : Token) → role_of token ≡ roles.Named → is_let (one token) ≡ false
named_let token is = rw is refl

-- The name that is bound stands by its position.
variable_closed : (words : Splitting) (separates : SeenFragment → Bool) → Separating words separates → (variable : VariableTree) (fragments : Fragments) → IsVariable variable fragments → binds_plainly words fragments ≡ true → Closed separates true fragments
variable_closed words separates s variable fragments (untyped token is) e = (refl, named_let token is)
variable_closed words separates s variable fragments (typed token sign type after is sign_is h) e =
    let quiet = variable_quiet variable fragments (typed token sign type after is sign_is h) in
    (refl, subst (λ (b : Bool). Closed separates b (one sign ∷ after)) (sym (named_let token is)) (bound_closed words separates s (one sign ∷ after) quiet.1 (not_true (list_any (is_splitting words) (one sign ∷ after)) e)))

pub record RangeRead (limit : MaybeLimit) (step : MaybeTree) (fragments : List SeenFragment) : Type 0 where
  pub others : List Piece
  pub behind : Behind (is_splitter splittings.Steps) others fragments
  pub found : range_in others ≡ Some (range_of limit step)
  pub commas : Closed is_comma_fragment false fragments

pub no_range_read : RangeRead no_limit no_tree []
no_range_read = record { others = []; behind = behind_nothing (is_splitter splittings.Steps); found = refl; commas = refl }

-- a word with a place in statements is a name
word_role : (token : Token) (word : Splitter) → splitter_of token ≡ word → (word ≡ splitter_words.Absent → ⊥) → role_of token ≡ roles.Named
word_role token word e some = go (role_of token) refl
  where
    go : (role : Role) → role_of token ≡ role → role ≡ roles.Named
    go roles.Named is = refl
    go role is = absurd (some (sym e ∙ rw is refl))

word_facts : (token : Token) → role_of token ≡ roles.Named → (is_comma_fragment (one token) ≡ false) × (is_let (one token) ≡ false)
word_facts token is = (rw is refl, rw is refl)

commas_behind : (word : Token) (after : Fragments) → role_of word ≡ roles.Named → Closed is_comma_fragment false after → Closed is_comma_fragment false (one word ∷ after)
commas_behind word after is h = let (no_comma, no_let) = word_facts word is in (no_comma, subst (λ (b : Bool). Closed is_comma_fragment b after) (sym no_let) h)

pub step_range_read : (tree : Tree) (word : Token) (after : Fragments) → splitter_of word ≡ splitter_words.By → StepRead tree after → RangeRead no_limit (some_tree tree) (one word ∷ after)
step_range_read tree word after is h =
    record {
      others = record { separator = one word; items = items_of after } ∷ [];
      behind = behind_last (is_splitter splittings.Steps) (one word) after (rw is refl) (unsplit tree after h);
      found = ap (λ (b : Bool). range_if b (record { separator = one word; items = items_of after }) []) (ap is_limit_word is) ∙ ap (λ (w : Splitter). step_at w (items_of after)) is ∙ ap (option_map step_of) h.read;
      commas = commas_behind word after (word_role word splitter_words.By is (λ e. cc)) (no_commas tree after h);
    }

limit_token_some : (separator : SeenFragment) (list : List Item) (rest : Option Range) (found : Range) → limit_token separator list rest ≡ Some found → found.limit ≡ no_limit → ⊥
limit_token_some (group opener inner closer) list rest found e f = absurd cc
limit_token_some (one word) list None found e f = bound_none (expression_items splittings.Steps list) e
  where
    bound_none : (bound : Option Tree) → option_and_then (limit_with word None) bound ≡ Some found → ⊥
    bound_none None g = cc
    bound_none (Some tree) g = cc
limit_token_some (one word) list (Some range) found e f = bound_some (expression_items splittings.Steps list) e
  where
    bound_some : (bound : Option Tree) → option_and_then (limit_with word (Some range)) bound ≡ Some found → ⊥
    bound_some None g = cc
    bound_some (Some tree) g = let same = ap (λ (r : Range). r.limit) (some_one (with_limit word tree range) found g) ∙ f in cc

-- without a limit a step alone was read
step_alone : (others : List Piece) (step : MaybeTree) → range_in others ≡ Some (range_of no_limit step) → step_in others ≡ Some (range_of no_limit step)
step_alone [] step e = e
step_alone (piece ∷ others) step e = go (is_limit_word (word_of piece.separator)) e
  where
    go : (b : Bool) → range_if b piece others ≡ Some (range_of no_limit step) → step_in (piece ∷ others) ≡ Some (range_of no_limit step)
    go true f = absurd (limit_token_some piece.separator piece.items (step_in others) (range_of no_limit step) f refl)
    go false f = f

limit_splits : (word : Splitter) → is_limit_word word ≡ true → (splits_as splittings.Steps word ≡ true) × (word ≡ splitter_words.Absent → ⊥)
limit_splits splitter_words.To e = (refl, λ f. cc)
limit_splits splitter_words.Above e = (refl, λ f. cc)
limit_splits splitter_words.Below e = (refl, λ f. cc)
limit_splits word e = absurd cc

pub limit_range_read : (bound : Tree) (step : MaybeTree) (word : Token) (first second all : Fragments) → all ≡ one word ∷ (first ++ second) → is_limit_word (splitter_of word) ≡ true → StepRead bound first → RangeRead no_limit step second → RangeRead (a_limit word bound) step all
limit_range_read bound step word first second all parts is h k =
    let (splits_here, some) = limit_splits (splitter_of word) is in
    subst (RangeRead (a_limit word bound) step) (sym parts)
    (record {
      others = record { separator = one word; items = items_of first } ∷ k.others;
      behind = behind_piece (is_splitter splittings.Steps) k.others (one word) first second splits_here (unsplit bound first h) k.behind;
      found = ap (λ (b : Bool). range_if b (record { separator = one word; items = items_of first }) k.others) is ∙ ap (λ (o : Option Tree). option_and_then (limit_with word (step_in k.others)) o) h.read
          ∙ ap (option_map (with_limit word bound)) (step_alone k.others step k.found);
      commas = commas_behind word (first ++ second) (word_role word (splitter_of word) refl some) (closed_join is_comma_fragment false first second (no_commas bound first h) k.commas);
    })

pub record ClauseRead (tree : ForClause) (fragments : List SeenFragment) : Type 0 where
  pub read : clause_items (items_of fragments) ≡ Some tree
  pub commas : Closed is_comma_fragment false fragments
  pub unstopped : is_stop (items_of fragments) ≡ false
  pub some : Nonempty fragments

named_unstopped : (token : Token) → role_of token ≡ roles.Named → is_stop_at (one token) ≡ false
named_unstopped token is = rw is refl

variable_unstopped : (variable : VariableTree) (before after : Fragments) → IsVariable variable before → is_stop (items_of (before ++ after)) ≡ false
variable_unstopped variable before after (untyped token is) = named_unstopped token is
variable_unstopped variable before after (typed token sign type rest is sign_is h) = named_unstopped token is

-- a clause that is cut at its words
clause_cut : (variable : VariableTree) (before front : Fragments) (others : List Piece) (all : Fragments) (tree : ForClause) → cut (is_splitter splittings.Steps) true (items_of all) ≡ record { first = items_of (before ++ front); others = others } → IsVariable variable before → binds_plainly splittings.Steps (before ++ front) ≡ true
    → begins_colons (items_of front) ≡ false → (fragments_in (items_of front) ≡ [] ⊎ ((first : Token) × (rest : Fragments) × (fragments_in (items_of front) ≡ one first ∷ rest))) → clause_behind variable (items_of front) others ≡ Some tree → clause_items (items_of all) ≡ Some tree
clause_cut variable before front others all tree e v plainly colon which f =
    ap clause_pieces e ∙ ap (λ (fs : Fragments). clause_if (binds_plainly splittings.Steps fs) (record { first = items_of (before ++ front); others = others })) (fragments_back (before ++ front))
    ∙ ap (λ (b : Bool). clause_if b (record { first = items_of (before ++ front); others = others })) plainly
    ∙ ap (λ (items : List Item). option_and_then (clause_with others) (variable_front items)) (items_append before front)
    ∙ ap (λ (o : Option VariableFront). option_and_then (clause_with others) o) (variable_complete variable before v (items_of front) colon (λ g. no_brackets which)) ∙ f
  where
    no_brackets : (fragments_in (items_of front) ≡ [] ⊎ ((first : Token) × (rest : Fragments) × (fragments_in (items_of front) ≡ one first ∷ rest))) → begins_round (fragments_in (items_of front)) ≡ false
    no_brackets (inl g) = ap begins_round g
    no_brackets (inr (first, rest, g)) = ap begins_round g

equals_facts : (equals : Token) → is_equals equals ≡ true → (is_colons (one equals) ≡ false) × (is_in (one equals) ≡ false) × (is_comma_fragment (one equals) ≡ false)
equals_facts equals e = let is = comparison_is (role_of equals) (is_spelled (codes "=") equals) e in (rw is refl, rw is refl, rw is refl)

then_reads : (variable : VariableTree) (first next : Tree) (equals word : Token) (middle after : Fragments) → is_equals equals ≡ true → splitter_of word ≡ splitter_words.Then → StepRead first middle → StepRead next after
    → clause_behind variable (items_of (one equals ∷ middle)) (record { separator = one word; items = items_of after } ∷ []) ≡ Some (then_clause variable first next)
then_reads variable first next equals word middle after is role h k =
    let (no_colons, no_in, no_comma) = equals_facts equals is in
    ap (λ (b : Bool). in_if b variable (item_of (one equals)) (items_of middle) (record { separator = one word; items = items_of after } ∷ [])) no_in
    ∙ ap (λ (b : Bool). equals_if b variable (items_of middle) (record { separator = one word; items = items_of after } ∷ [])) is
    ∙ ap (λ (w : Splitter). then_at w variable (items_of middle) (items_of after)) role
    ∙ ap (λ (o : Option Tree). option_and_then (then_with variable (items_of after)) o) h.read ∙ ap (option_map (then_of variable first)) k.read

equals_plain : (equals : Token) (middle : Fragments) (tree : Tree) → is_equals equals ≡ true → StepRead tree middle → Inner splittings.Steps (one equals ∷ middle)
equals_plain equals middle tree is h = ((equals_inner splittings.Steps equals is).0, h.inner)

pub then_read : (variable : VariableTree) (first next : Tree) (equals word : Token) (before middle after all : Fragments) → all ≡ (before ++ one equals ∷ middle) ++ one word ∷ after → is_equals equals ≡ true → splitter_of word ≡ splitter_words.Then → IsVariable variable before → binds_plainly splittings.Steps before ≡ true
    → StepRead first middle → StepRead next after → ClauseRead (then_clause variable first next) all
then_read variable first next equals word before middle after all parts is role v plainly h k =
    let inner = equals_plain equals middle first is h in
    let (no_colons, no_in, no_comma) = equals_facts equals is in
    let front : Closed (is_splitter splittings.Steps) true (before ++ one equals ∷ middle) =
    closed_join (is_splitter splittings.Steps) true before (one equals ∷ middle) (variable_closed splittings.Steps (is_splitter splittings.Steps) (splitters splittings.Steps) variable before v plainly) (inner_closed splittings.Steps (is_splitter splittings.Steps) (splitters splittings.Steps) (one equals ∷ middle) inner) in
    let first_commas : Closed is_comma_fragment false (before ++ one equals ∷ middle) =
    closed_join is_comma_fragment false before (one equals ∷ middle) (no_commas_in before (variable_quiet variable before v)) (inner_closed_by splittings.Steps is_comma_fragment (inner_no_comma splittings.Steps) (one equals ∷ middle) inner) in
    subst (ClauseRead (then_clause variable first next)) (sym parts)
    (record {
      read = clause_cut variable before (one equals ∷ middle) (record { separator = one word; items = items_of after } ∷ []) ((before ++ one equals ∷ middle) ++ one word ∷ after) (then_clause variable first next)
          ((behind_last (is_splitter splittings.Steps) (one word) after (rw role refl) (unsplit next after k)).pieces true (before ++ one equals ∷ middle) front) v
          (plain_join splittings.Steps before (one equals ∷ middle) (variable_some variable before v) plainly (inner_plain splittings.Steps (one equals ∷ middle) inner)) no_colons (inr (equals, middle, fragments_back (one equals ∷ middle)))
          (then_reads variable first next equals word middle after is role h k);
      commas = closed_join is_comma_fragment false (before ++ one equals ∷ middle) (one word ∷ after) first_commas (commas_behind word after (word_role word splitter_words.Then role (λ e. cc)) (no_commas next after k));
      unstopped = ap (λ (fs : Fragments). is_stop (items_of fs)) (append_assoc before (one equals ∷ middle) (one word ∷ after)) ∙ variable_unstopped variable before (one equals ∷ (middle ++ one word ∷ after)) v;
      some = nonempty_on (before ++ one equals ∷ middle) (one word) after;
    })

in_facts : (word : Token) → splitter_of word ≡ splitter_words.In → role_of word ≡ roles.Named → (is_in (one word) ≡ true) × (splits splittings.Steps word ≡ false) × (is_colons (one word) ≡ false) × (is_let (one word) ≡ false)
in_facts word is role = (ap is_in_word is, ap (splits_as splittings.Steps) is, rw role refl, rw role refl)

pub in_read : (variable : VariableTree) (collection : Tree) (word : Token) (before after all : Fragments) → all ≡ before ++ one word ∷ after → splitter_of word ≡ splitter_words.In → IsVariable variable before → binds_plainly splittings.Steps before ≡ true → StepRead collection after → ClauseRead (in_clause variable collection) all
in_read variable collection word before after all parts is v plainly h =
    let role = word_role word splitter_words.In is (λ e. cc) in
    let (in_is, unsplitting, no_colons, no_let) = in_facts word is role in
    let behind : Closed (is_splitter splittings.Steps) false (one word ∷ after) = (unsplitting, subst (λ (b : Bool). Closed (is_splitter splittings.Steps) b after) (sym no_let) (unsplit collection after h)) in
    let front : Closed (is_splitter splittings.Steps) true (before ++ one word ∷ after) = closed_join (is_splitter splittings.Steps) true before (one word ∷ after) (variable_closed splittings.Steps (is_splitter splittings.Steps) (splitters splittings.Steps) variable before v plainly) behind in
    subst (ClauseRead (in_clause variable collection)) (sym parts)
    (record {
      read = clause_cut variable before (one word ∷ after) [] (before ++ one word ∷ after) (in_clause variable collection) (cut_end (is_splitter splittings.Steps) true (before ++ one word ∷ after) front) v
          (plain_join splittings.Steps before (one word ∷ after) (variable_some variable before v) plainly (rw (unsplitting, inner_plain splittings.Steps after h.inner) refl)) no_colons (inr (word, after, fragments_back (one word ∷ after)))
          (ap (λ (b : Bool). in_if b variable (item_of (one word)) (items_of after) []) in_is ∙ ap (option_map (in_of variable)) h.read);
      commas = closed_join is_comma_fragment false before (one word ∷ after) (no_commas_in before (variable_quiet variable before v)) (commas_behind word after role (no_commas collection after h));
      unstopped = variable_unstopped variable before (one word ∷ after) v;
      some = nonempty_on before (one word) after;
    })

from_reads : (variable : VariableTree) (start : Tree) (limit : MaybeLimit) (step : MaybeTree) (word : Token) (middle : Fragments) (others : List Piece) → splitter_of word ≡ splitter_words.From → StepRead start middle → range_in others ≡ Some (range_of limit step)
    → clause_behind variable (items_of []) (record { separator = one word; items = items_of middle } ∷ others) ≡ Some (from_clause variable start limit step)
from_reads variable start limit step word middle others is h e =
    ap (λ (w : Splitter). from_at w variable (items_of middle) others) is ∙ ap (λ (o : Option Tree). option_and_then (from_with variable (range_in others)) o) h.read ∙ ap (option_map (from_of variable start)) e

pub from_read : (variable : VariableTree) (start : Tree) (limit : MaybeLimit) (step : MaybeTree) (word : Token) (before middle after all : Fragments) → all ≡ before ++ one word ∷ (middle ++ after) → splitter_of word ≡ splitter_words.From → IsVariable variable before → binds_plainly splittings.Steps before ≡ true
    → StepRead start middle → RangeRead limit step after → ClauseRead (from_clause variable start limit step) all
from_read variable start limit step word before middle after all parts is v plainly h k =
    let closed = variable_closed splittings.Steps (is_splitter splittings.Steps) (splitters splittings.Steps) variable before v plainly in
    let pieces = (behind_piece (is_splitter splittings.Steps) k.others (one word) middle after (rw is refl) (unsplit start middle h) k.behind).pieces true before closed in
    subst (ClauseRead (from_clause variable start limit step)) (sym parts)
    (record {
      read = clause_cut variable before [] (record { separator = one word; items = items_of middle } ∷ k.others) (before ++ one word ∷ (middle ++ after)) (from_clause variable start limit step)
          (pieces ∙ ap (λ (fs : Fragments). record { first = items_of fs; others = record { separator = one word; items = items_of middle } ∷ k.others }) (sym (append-nil before))) v
          (ap (binds_plainly splittings.Steps) (append-nil before) ∙ plainly) refl (inl refl) (from_reads variable start limit step word middle k.others is h k.found);
      commas = closed_join is_comma_fragment false before (one word ∷ (middle ++ after)) (no_commas_in before (variable_quiet variable before v))
          (commas_behind word (middle ++ after) (word_role word splitter_words.From is (λ e. cc)) (closed_join is_comma_fragment false middle after (no_commas start middle h) k.commas));
      unstopped = variable_unstopped variable before (one word ∷ (middle ++ after)) v;
      some = nonempty_on before (one word) (middle ++ after);
    })

pub record ClausesRead (trees : List ForClause) (stop : Option StopTree) (fragments : List SeenFragment) : Type 0 where
  pub read : ending is_stop clause_items stop_items (cut is_comma_fragment false (items_of fragments)) ≡ Some (record { parts = trees; last = stop })
  pub some : Nonempty fragments

pub last_clause_read : (tree : ForClause) (fragments : Fragments) → ClauseRead tree fragments → ClausesRead (tree ∷ []) None fragments
last_clause_read tree fragments h = record { read = ending_only is_comma_fragment is_stop clause_items stop_items fragments tree h.commas h.unstopped h.read; some = h.some }

stop_role : (token : Token) → is_stop_word token ≡ true → role_of token ≡ roles.Symbol
stop_role token e = go (role_of token) e
  where
    go : (role : Role) → (is_symbol_role role && (is_spelled (codes "while") token || is_spelled (codes "until") token)) ≡ true → role ≡ roles.Symbol
    go roles.Symbol f = refl
    go role f = absurd cc

stop_facts : (token : Token) → role_of token ≡ roles.Symbol → (is_comma_fragment (one token) ≡ false) × (is_let (one token) ≡ false)
stop_facts token is = (rw is refl, rw is refl)

pub only_stop_read : (key : Token) (test : Tree) (after : Fragments) → is_stop_word key ≡ true → StepRead test after → ClausesRead [] (Some (stop_with key test)) (one key ∷ after)
only_stop_read key test after is h =
    let (no_comma, no_let) = stop_facts key (stop_role key is) in
    record {
      read = ending_last is_comma_fragment is_stop clause_items stop_items (one key ∷ after) (stop_with key test) (no_comma, subst (λ (b : Bool). Closed is_comma_fragment b after) (sym no_let) (no_commas test after h)) is (ap (option_map (stop_with key)) h.read);
      some = (one key, after, refl);
    }

pub more_clauses_read : (tree : ForClause) (others : List ForClause) (stop : Option StopTree) (separator : Token) (before after all : Fragments) → all ≡ before ++ one separator ∷ after → role_of separator ≡ roles.Comma → ClauseRead tree before → ClausesRead others stop after → ClausesRead (tree ∷ others) stop all
more_clauses_read tree others stop separator before after all parts is h k =
    subst (ClausesRead (tree ∷ others) stop) (sym parts)
    (record {
      read = ending_more is_comma_fragment is_stop clause_items stop_items before (one separator) after tree others stop h.commas (comma_separates separator is) h.read k.read;
      some = nonempty_on before (one separator) after;
    })

abbrev pub ForHeadRead : List ForClause → Option StopTree → Fragments → Type 0
ForHeadRead trees stop fragments = for_items (items_of fragments) ≡ Some (record { parts = trees; last = stop })

pub some_clauses_read : (trees : List ForClause) (stop : Option StopTree) (fragments : Fragments) → ClausesRead trees stop fragments → ForHeadRead trees stop fragments
some_clauses_read trees stop [] h = let (first, rest, e) = h.some in absurd cc
some_clauses_read trees stop (first ∷ rest) h = h.read

pub record EndingRead (last : Otherwise) (fragments : List SeenFragment) : Type 0 where
  pub others : List Piece
  pub behind : Behind (is_splitter splittings.LastPart) others fragments
  pub found : finally_in others ≡ Some last

pub no_finally_read : EndingRead no_otherwise []
no_finally_read = record { others = []; behind = behind_nothing (is_splitter splittings.LastPart); found = refl }

pub finally_read : (trees : List ItemTree) (word : Token) (after : Fragments) → splitter_of word ≡ splitter_words.Finally → BodyRead splittings.LastPart trees after → EndingRead (otherwise (body_of trees)) (one word ∷ after)
finally_read trees word after is h =
    record {
      others = record { separator = one word; items = items_of after } ∷ [];
      behind = behind_last (is_splitter splittings.LastPart) (one word) after (rw is refl) h.closed;
      found = ap (λ (w : Splitter). finally_at w (items_of after)) is ∙ ap (option_map finally_of) h.read;
    }

pub for_read : (clauses : List ForClause) (stop : Option StopTree) (trees : List ItemTree) (last : Otherwise) (opener : Token) (inner : SeenFragments) (left : Token) (within : SeenFragments) (right : Token) (first second : Fragments) → row inner ≡ group left within right ∷ (first ++ second)
    → bracket_of left right ≡ brackets.Round → ForHeadRead clauses stop (row within) → BodyRead splittings.LastPart trees first → EndingRead last second → statement_items keywords.For opener (items_in inner) ≡ Some (for_tree opener (for_clauses_of clauses) (stop_of stop) (body_of trees) last)
for_read clauses stop trees last opener inner left within right first second parts is e h k =
    let found : Ending ForClause StopTree = record { parts = clauses; last = stop } in
    ap (statement_items keywords.For opener) (items_row inner ∙ ap items_of parts) ∙ ap (λ (o : Option Front). option_and_then (for_statement opener) o) (headed_read left within right (first ++ second) is)
    ∙ ap (λ (o : Option (Ending ForClause StopTree)). option_and_then (for_pieces opener (cut (is_splitter splittings.LastPart) false (items_of (first ++ second)))) o) (ap for_items (items_row within) ∙ e)
    ∙ ap (λ (pieces : Pieces). for_pieces opener pieces found) (k.behind.pieces false first h.closed)
    ∙ ap (λ (o : Option (List ItemTree)). option_and_then (for_body opener found (finally_in k.others)) o) h.read ∙ ap (option_map (for_of opener found trees)) k.found

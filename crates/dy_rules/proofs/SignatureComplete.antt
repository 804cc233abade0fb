-- What is derived as parameters, results and a body is read.
use Rattle.std.proofs.Common.{◌≡◌, Bool, true, false, cond, not, List, [], ◌∷◌, ◌++◌, codes, Option, Some, None, option_map, option_and_then, refl, sym, ap, subst, ◌∙◌}
use Rattle.dy_tree.specs.declared.token.TokenKind.{TokenKind}
use Rattle.dy_tree.specs.declared.token.TokenKind.TheVariants as kinds
use Rattle.dy_tree.specs.declared.token.Token.{Token}
use Rattle.dy_tree.specs.declared.types.LiteralForm.{LiteralForm}
use Rattle.dy_tree.specs.Fragments.{SeenFragment, one, group, SeenFragments, no_fragment, fragment_and, row}
use Rattle.dy_tree.specs.declared.roles.Role.{Role}
use Rattle.dy_tree.specs.declared.roles.Role.TheVariants as roles
use Rattle.dy_tree.specs.declared.brackets.Bracket.{Bracket}
use Rattle.dy_tree.specs.declared.brackets.Bracket.TheVariants as brackets
use Rattle.dy_tree.specs.declared.splitters.Splitting.TheVariants as splittings
use Rattle.dy_tree.specs.declared.type_words.PartWord.{PartWord}
use Rattle.dy_tree.specs.declared.type_words.PartWord.TheVariants as part_words
use Rattle.dy_tree.specs.Spelling.{is_spelled}
use Rattle.dy_rules.specs.Constants.{token_literal, one_token, negative_integer}
use Rattle.dy_rules.specs.Types.{is_equals, is_identity, Single, IsSingle, of_literal, of_empty_list, of_name, VariableTree, IsVariable, untyped, typed, RequiredTree, required_variable, required_single, IsRequired, any_value, one_value, ResultTree, one_result, Give, last_given, rest_given, more_given, AreResults, by_result, by_no_results, by_results, is_arrow_role, begins_with, apart, ResultsPart, no_results, some_results, EndPart, no_end, an_end, part_word_by, part_word, begins_round}
use Rattle.dy_rules.specs.Trees.{Tree, MaybeTree, no_tree, some_tree, Key, a_key, KeysTree, Listed, ItemTree}
use Rattle.dy_rules.specs.Roles.{role_by, role_of, bracket_of, is_among}
use Rattle.dy_rules.specs.Arguments.{is_comma, is_comma_fragment}
use Rattle.dy_rules.specs.Productions.{list_of, keys_found}
use Rattle.dy_rules.specs.Cutting.{MethodFound, Ending, Found, Item, Piece, Pieces, is_semicolon, is_arrow, is_let_role, is_let, cut, fragments_in, Front}
use Rattle.dy_rules.specs.TypeReading.{single_in, VariableFront, is_colons, variable_front, variable_items, marked}
use Rattle.dy_rules.specs.Reading.{State, whole, wants, tree_of}
use Rattle.dy_rules.specs.Bodies.{body_items}
use Rattle.dy_rules.specs.Signatures.{rest_variable, give_items, several_given, ResultsFront, results_in_front, given_in, variable_result, results_behind, results_if, results_front, is_identity_at, single_named, required_if, required_items, initial_of, initial_if, initial_items, key_of, key_with, key_from, key_token, key_items, keys_of_found, with_key, is_all_word, is_all_keys, keys_end, keys_in, bare_of, keys_from, listed_keys, part_kind, no_list, after_next, after_rest, after_required, part_with, part_at, listed_behind, listed_pieces, listed_items, after_end, without_front, method_of, method_with, method_listed, method_front, method_items, named_of, named_with, named_items}
use Rattle.dy_rules.specs.Fragments.{item_of, items_of, items_in, found_in}
use Rattle.dy_rules.proofs.Lists.{reads, items_row, fragments_back}
use Rattle.dy_rules.proofs.Cuts.{Closed, cut_end}
use Rattle.dy_rules.proofs.Rows.{items_append, joined_on, ending_only, ending_last, ending_more, Behind, behind_nothing, behind_piece, behind_last}
use Rattle.dy_rules.proofs.Inner.{reads_inner, inner_closed_by, inner_no_comma}
use Rattle.dy_rules.proofs.TypeComplete.{variable_quiet, no_commas_in, comma_separates, begins_colons, front_of, variable_complete, variable_apart_reads, variable_unmarked, whole_variable_reads, mark_closed, name_closed, name_reads, single_complete}
use Rattle.dy_rules.proofs.BodyComplete.{Nonempty, nonempty_on, expression_read, comparison_is, BodyRead}
use Rattle.dy_rules.proofs.BlockComplete.{headed_read}

abbrev Fragments : Type 0
Fragments = List SeenFragment

closed_join : (separates : SeenFragment → Bool) (bound : Bool) (before after : Fragments) → Closed separates bound before → Closed separates false after → Closed separates bound (before ++ after)
closed_join separates bound [] after h k = subst (λ (b : Bool). Closed separates b after) (sym h) k
closed_join separates bound (first ∷ before) after (plainly, h) k = (plainly, closed_join separates (is_let first) before after h k)

variable_commas : (variable : VariableTree) (fragments : Fragments) → IsVariable variable fragments → Closed is_comma_fragment false fragments
variable_commas variable fragments h = no_commas_in fragments (variable_quiet variable fragments h)

-- results

pub give_complete : (variables : List VariableTree) (rest : Option VariableTree) (fragments : Fragments) → Give variables rest fragments → give_items (items_of fragments) ≡ Some (record { parts = variables; last = rest })
give_complete variables rest fragments (last_given variable all h) =
    ending_only is_comma_fragment (marked (codes "#rest")) variable_items rest_variable all variable (variable_commas variable all h) (variable_unmarked (codes "#rest") variable all h) (whole_variable_reads variable all h)
give_complete variables rest fragments (rest_given mark variable after marks h) =
    ending_last is_comma_fragment (marked (codes "#rest")) variable_items rest_variable (one mark ∷ after) variable (mark_closed (codes "#rest") mark after marks (variable_commas variable after h)) marks (whole_variable_reads variable after h)
give_complete variables rest fragments (more_given variable others last separator before after all parts is h k) =
    ap (λ (fs : Fragments). give_items (items_of fs)) parts
    ∙ ending_more is_comma_fragment (marked (codes "#rest")) variable_items rest_variable before (one separator) after variable others last (variable_commas variable before h) (comma_separates separator is) (whole_variable_reads variable before h) (give_complete others last after k)

give_some : (variables : List VariableTree) (rest : Option VariableTree) (fragments : Fragments) → Give variables rest fragments → fragments ≡ [] → ⊥
give_some variables rest fragments (last_given variable all (untyped token is)) e = cc
give_some variables rest fragments (last_given variable all (typed token sign type after is sign_is h)) e = cc
give_some variables rest fragments (rest_given mark variable after marks h) e = cc
give_some variables rest fragments (more_given variable others last separator [] after all parts is h k) e = let f = sym parts ∙ e in cc
give_some variables rest fragments (more_given variable others last separator (first ∷ before) after all parts is h k) e = let f = sym parts ∙ e in cc

given_round : (bracket : Bracket) (inner : SeenFragments) (found : Found) (rest : List Item) (given : Ending VariableTree VariableTree) → bracket ≡ brackets.Round → (row inner ≡ [] → ⊥) → found.given ≡ Some given → given_in bracket inner found rest ≡ Some (results_in_front rest (several_given given))
given_round bracket no_fragment found rest given is some e = absurd (some refl)
given_round bracket (fragment_and first more) found rest given is some e = rw is (ap (λ (o : Option (Ending VariableTree VariableTree)). option_map (results_in_front rest) (option_map several_given o)) e)

variable_results : (variable : VariableTree) (fragments after : Fragments) → IsVariable variable fragments → variable_front (items_of (fragments ++ after)) ≡ Some (front_of variable (items_of after)) → results_behind (items_of (fragments ++ after)) ≡ Some (results_in_front (items_of after) (one_result variable))
variable_results variable fragments after (untyped token is) e = ap (option_map variable_result) e
variable_results variable fragments after (typed token sign type rest is sign_is h) e = ap (option_map variable_result) e

results_behind_complete : (results : ResultTree) (given after : Fragments) → AreResults results given → apart (Some results) after ≡ true → results_behind (items_of (given ++ after)) ≡ Some (results_in_front (items_of after) results)
results_behind_complete results given after (by_result variable all h) a = variable_results variable given after h (variable_apart_reads variable given after h a)
results_behind_complete results given after (by_no_results opener closer is) a = ap (λ (b : Bracket). given_in b no_fragment (found_in (group opener no_fragment closer)) (items_of after)) is
results_behind_complete results given after (by_results variables rest opener inner closer is h) a =
    given_round (bracket_of opener closer) inner (found_in (group opener inner closer)) (items_of after) (record { parts = variables; last = rest }) is (give_some variables rest (row inner) h) (ap give_items (items_row inner) ∙ give_complete variables rest (row inner) h)

not_false : (b : Bool) → not b ≡ true → b ≡ false
not_false true e = absurd cc
not_false false e = refl

no_arrow_at : (first : SeenFragment) (rest : Fragments) → begins_with is_arrow_role (first ∷ rest) ≡ false → is_arrow first ≡ false
no_arrow_at (one token) rest e = e
no_arrow_at (group opener inner closer) rest e = refl

is_arrow_sign : (sign : Token) → role_of sign ≡ roles.Arrow → is_arrow (one sign) ≡ true
is_arrow_sign sign is = rw is refl

pub results_complete : (results : Option ResultTree) (given after : Fragments) → ResultsPart results given → apart results after ≡ true → results_front (items_of (given ++ after)) ≡ Some (record { results = results; rest = items_of after })
results_complete results given [] no_results a = refl
results_complete results given (first ∷ rest) no_results a = ap (λ (b : Bool). results_if b (item_of first) (items_of rest)) (no_arrow_at first rest (not_false (begins_with is_arrow_role (first ∷ rest)) a))
results_complete results given after (some_results sign found inner is h) a = ap (λ (b : Bool). results_if b (item_of (one sign)) (items_of (inner ++ after))) (is_arrow_sign sign is) ∙ results_behind_complete found inner after h a

-- parameters

record RequiredRead (required : RequiredTree) (fragments : List SeenFragment) : Type 0 where
  pub read : required_items (items_of fragments) ≡ Some required
  pub commas : Closed is_comma_fragment false fragments
  pub front : (first : Token) × (rest : List SeenFragment) × (fragments ≡ one first ∷ rest) × (role_of first ≡ roles.Named)

identity_facts : (sign : Token) → is_identity sign ≡ true → (is_comma_fragment (one sign) ≡ false) × (is_let (one sign) ≡ false)
identity_facts sign e = let is = comparison_is (role_of sign) (is_spelled (codes "==") sign) e in (rw is refl, rw is refl)

literal_no_comma : (role : Role) (token : Token) (form : LiteralForm) → token_literal role token ≡ Some form → (is_comma role ≡ false) × (is_let_role role ≡ false)
literal_no_comma roles.Integer token form e = (refl, refl)
literal_no_comma roles.Character token form e = (refl, refl)
literal_no_comma roles.Text token form e = (refl, refl)
literal_no_comma roles.Boolean token form e = (refl, refl)
literal_no_comma roles.Symbol token form e = (refl, refl)
literal_no_comma role token form e = absurd cc

single_commas : (single : Single) (fragments : Fragments) → IsSingle single fragments → Closed is_comma_fragment false fragments
single_commas single fragments (of_literal form all (one_token token found e)) = literal_no_comma (role_of token) token found e
single_commas single fragments (of_literal form all (negative_integer sign digits is also)) = (rw is refl, (rw (is, also) refl, rw also refl))
single_commas single fragments (of_empty_list opener closer is) = (refl, refl)
single_commas single fragments (of_name token is) = (rw is refl, rw is refl)

named_facts : (token : Token) → role_of token ≡ roles.Named → (is_comma_fragment (one token) ≡ false) × (is_let (one token) ≡ false)
named_facts token is = (rw is refl, rw is refl)

behind_named : (token : Token) (after : Fragments) → role_of token ≡ roles.Named → Closed is_comma_fragment false after → Closed is_comma_fragment false (one token ∷ after)
behind_named token after is h = let (no_comma, no_let) = named_facts token is in (no_comma, subst (λ (b : Bool). Closed is_comma_fragment b after) (sym no_let) h)

single_required : (role : Role) (token : Token) (single : Single) → role ≡ roles.Named → single_named role token (Some single) ≡ Some (required_single token single)
single_required role token single is = rw is refl

colons_no_identity : (sign : Token) → role_of sign ≡ roles.Colons → is_identity_at (one sign) ≡ false
colons_no_identity sign is = rw is refl

any_read : (variable : VariableTree) (fragments : Fragments) → IsVariable variable fragments → RequiredRead (required_variable variable) fragments
any_read variable fragments (untyped token is) =
    record { read = ap (option_map required_variable) (whole_variable_reads variable (one token ∷ []) (untyped token is)); commas = variable_commas variable fragments (untyped token is); front = (token, [], refl, is) }
any_read variable fragments (typed token sign type after is sign_is h) =
    record {
      read = ap (λ (b : Bool). required_if b (item_of (one token)) (item_of (one sign)) (items_of after)) (colons_no_identity sign sign_is) ∙ ap (option_map required_variable) (whole_variable_reads variable fragments (typed token sign type after is sign_is h));
      commas = variable_commas variable fragments (typed token sign type after is sign_is h);
      front = (token, one sign ∷ after, refl, is);
    }

required_complete : (required : RequiredTree) (fragments : Fragments) → IsRequired required fragments → RequiredRead required fragments
required_complete required fragments (any_value variable all h) = any_read variable fragments h
required_complete required fragments (one_value token sign single after is equal h) =
    let (no_comma, no_let) = identity_facts sign equal in
    record {
      read = ap (λ (b : Bool). required_if b (item_of (one token)) (item_of (one sign)) (items_of after)) equal ∙ ap (λ (fs : Fragments). single_named (role_of token) token (single_in fs)) (fragments_back after)
          ∙ ap (single_named (role_of token) token) (single_complete single after h) ∙ single_required (role_of token) token single is;
      commas = behind_named token (one sign ∷ after) is (no_comma, subst (λ (b : Bool). Closed is_comma_fragment b after) (sym no_let) (single_commas single after h));
      front = (token, one sign ∷ after, refl, is);
    }

named_part : (token : Token) → role_of token ≡ roles.Named → part_word token ≡ part_words.Absent
named_part token is = go token.kind is
  where
    go : (kind : TokenKind) → role_by kind token ≡ roles.Named → part_word_by kind token ≡ part_words.Absent
    go kinds.Mark e = absurd (mark_role_is (is_among (codes "#t" ∷ codes "#f" ∷ []) token) e)
      where
        mark_role_is : (b : Bool) → cond b roles.Boolean roles.Other ≡ roles.Named → ⊥
        mark_role_is true f = cc
        mark_role_is false f = cc
    go kind e = refl

symbol_part : (token : Token) → role_of token ≡ roles.Symbol → part_word token ≡ part_words.Absent
symbol_part token is = go token.kind is
  where
    go : (kind : TokenKind) → role_by kind token ≡ roles.Symbol → part_word_by kind token ≡ part_words.Absent
    go kinds.Mark e = absurd (mark_role_is (is_among (codes "#t" ∷ codes "#f" ∷ []) token) e)
      where
        mark_role_is : (b : Bool) → cond b roles.Boolean roles.Other ≡ roles.Symbol → ⊥
        mark_role_is true f = cc
        mark_role_is false f = cc
    go kind e = refl

-- a mark is no comma and no `let`
part_facts : (token : Token) (word : PartWord) → part_word token ≡ word → (word ≡ part_words.Absent → ⊥) → (is_comma_fragment (one token) ≡ false) × (is_let (one token) ≡ false)
part_facts token word e some = go token.kind e
  where
    go : (kind : TokenKind) → part_word_by kind token ≡ word → (is_comma (role_by kind token) ≡ false) × (is_let_role (role_by kind token) ≡ false)
    go kinds.Mark f = both (is_among (codes "#t" ∷ codes "#f" ∷ []) token)
      where
        both : (b : Bool) → (is_comma (cond b roles.Boolean roles.Other) ≡ false) × (is_let_role (cond b roles.Boolean roles.Other) ≡ false)
        both true = (refl, refl)
        both false = (refl, refl)
    go kind f = absurd (some (sym f))

part_closed : (mark : Token) (word : PartWord) (after : Fragments) → part_word mark ≡ word → (word ≡ part_words.Absent → ⊥) → Closed is_comma_fragment false after → Closed is_comma_fragment false (one mark ∷ after)
part_closed mark word after is some h = let (no_comma, no_let) = part_facts mark word is some in (no_comma, subst (λ (b : Bool). Closed is_comma_fragment b after) (sym no_let) h)

pub record InitialRead (default : MaybeTree) (fragments : List SeenFragment) : Type 0 where
  pub read : initial_items (items_of fragments) ≡ Some default
  pub commas : Closed is_comma_fragment false fragments
  pub colons_free : begins_colons (items_of fragments) ≡ false
  pub round_free : begins_round (fragments_in (items_of fragments)) ≡ false

pub no_initial_read : InitialRead no_tree []
no_initial_read = record { read = refl; commas = refl; colons_free = refl; round_free = refl }

equals_facts : (equals : Token) → is_equals equals ≡ true → (is_comma_fragment (one equals) ≡ false) × (is_let (one equals) ≡ false) × (is_colons (one equals) ≡ false)
equals_facts equals e = let is = comparison_is (role_of equals) (is_spelled (codes "=") equals) e in (rw is refl, rw is refl, rw is refl)

pub initial_read : (tree : Tree) (equals : Token) (after : Fragments) → is_equals equals ≡ true → (state : State) → reads splittings.Nothing (wants whole) after ≡ Some state → tree_of state ≡ Some tree → InitialRead (some_tree tree) (one equals ∷ after)
initial_read tree equals after is state e f =
    let (no_comma, no_let, no_colons) = equals_facts equals is in
    let h = reads_inner splittings.Nothing after (wants whole) state e in
    record {
      read = ap (λ (b : Bool). initial_if b (items_of after)) is ∙ ap (option_map initial_of) (expression_read splittings.Nothing tree after state e f);
      commas = (no_comma, subst (λ (b : Bool). Closed is_comma_fragment b after) (sym no_let) (inner_closed_by splittings.Nothing is_comma_fragment (inner_no_comma splittings.Nothing) after h));
      colons_free = no_colons;
      round_free = refl;
    }

pub record KeyRead (tree : Key) (fragments : List SeenFragment) : Type 0 where
  pub read : key_items (items_of fragments) ≡ Some tree
  pub commas : Closed is_comma_fragment false fragments
  pub some : Nonempty fragments
  pub not_all : is_all_keys fragments ≡ false

key_from_read : (label : Option Token) (variable : VariableTree) (default : MaybeTree) (before after : Fragments) → IsVariable variable before → InitialRead default after → key_from label (items_of (before ++ after)) ≡ Some (a_key label variable default)
key_from_read label variable default before after v d =
    ap (λ (items : List Item). option_and_then (key_with label) (variable_front items)) (items_append before after)
    ∙ ap (λ (o : Option VariableFront). option_and_then (key_with label) o) (variable_complete variable before v (items_of after) d.colons_free (λ e. d.round_free)) ∙ ap (option_map (key_of label variable)) d.read

named_first : (role : Role) (token : Token) (first : Item) (rest : List Item) → role ≡ roles.Named → key_token role token first rest ≡ key_from None (first ∷ rest)
named_first role token first rest is = rw is refl

plain_front : (variable : VariableTree) (before after : Fragments) → IsVariable variable before → key_items (items_of (before ++ after)) ≡ key_from None (items_of (before ++ after))
plain_front variable before after (untyped token is) = named_first (role_of token) token (item_of (one token)) (items_of after) is
plain_front variable before after (typed token sign type rest is sign_is h) = named_first (role_of token) token (item_of (one token)) (items_of (one sign ∷ (rest ++ after))) is

not_all_word : (token : Token) → part_word token ≡ part_words.Absent → is_all_word (part_word token) ≡ false
not_all_word token is = ap is_all_word is

plain_not_all : (variable : VariableTree) (before after : Fragments) → IsVariable variable before → is_all_keys (before ++ after) ≡ false
plain_not_all variable before [] (untyped token is) = not_all_word token (named_part token is)
plain_not_all variable before (first ∷ rest) (untyped token is) = refl
plain_not_all variable before after (typed token sign type rest is sign_is h) = refl

some_join : (variable : VariableTree) (before after : Fragments) → IsVariable variable before → Nonempty (before ++ after)
some_join variable before after (untyped token is) = (one token, after, refl)
some_join variable before after (typed token sign type rest is sign_is h) = (one token, one sign ∷ (rest ++ after), refl)

pub plain_key_read : (variable : VariableTree) (default : MaybeTree) (before after all : Fragments) → all ≡ before ++ after → IsVariable variable before → InitialRead default after → KeyRead (a_key None variable default) all
plain_key_read variable default before after all parts v d =
    subst (KeyRead (a_key None variable default)) (sym parts)
    (record {
      read = plain_front variable before after v ∙ key_from_read None variable default before after v d;
      commas = closed_join is_comma_fragment false before after (variable_commas variable before v) d.commas;
      some = some_join variable before after v;
      not_all = plain_not_all variable before after v;
    })

symbol_first : (role : Role) (token : Token) (first : Item) (rest : List Item) → role ≡ roles.Symbol → key_token role token first rest ≡ key_from (Some token) rest
symbol_first role token first rest is = rw is refl

symbol_facts : (token : Token) → role_of token ≡ roles.Symbol → (is_comma_fragment (one token) ≡ false) × (is_let (one token) ≡ false)
symbol_facts token is = (rw is refl, rw is refl)

symbol_not_all : (token : Token) (variable : VariableTree) (before after : Fragments) → IsVariable variable before → is_all_keys (one token ∷ (before ++ after)) ≡ false
symbol_not_all token variable before after (untyped other_token is) = refl
symbol_not_all token variable before after (typed other_token sign type rest is sign_is h) = refl

pub named_key_read : (token : Token) (variable : VariableTree) (default : MaybeTree) (before after all : Fragments) → all ≡ one token ∷ (before ++ after) → role_of token ≡ roles.Symbol → IsVariable variable before → InitialRead default after → KeyRead (a_key (Some token) variable default) all
named_key_read token variable default before after all parts is v d =
    let (no_comma, no_let) = symbol_facts token is in
    subst (KeyRead (a_key (Some token) variable default)) (sym parts)
    (record {
      read = symbol_first (role_of token) token (item_of (one token)) (items_of (before ++ after)) is ∙ key_from_read (Some token) variable default before after v d;
      commas = (no_comma, subst (λ (b : Bool). Closed is_comma_fragment b (before ++ after)) (sym no_let) (closed_join is_comma_fragment false before after (variable_commas variable before v) d.commas));
      some = (one token, before ++ after, refl);
      not_all = symbol_not_all token variable before after v;
    })

pub record MoreKeysRead (trees : List Key) (takes_all : Bool) (fragments : List SeenFragment) : Type 0 where
  pub others : List Piece
  pub behind : Behind is_comma_fragment others fragments
  pub found : keys_in others ≡ Some (keys_of_found trees takes_all)

pub no_more_keys_read : MoreKeysRead [] false []
no_more_keys_read = record { others = []; behind = behind_nothing is_comma_fragment; found = refl }

pub all_keys_read : (separator mark : Token) → role_of separator ≡ roles.Comma → part_word mark ≡ part_words.AllKeys → MoreKeysRead [] true (one separator ∷ one mark ∷ [])
all_keys_read separator mark is marks =
    record {
      others = record { separator = one separator; items = items_of (one mark ∷ []) } ∷ [];
      behind = behind_last is_comma_fragment (one separator) (one mark ∷ []) (comma_separates separator is) (part_closed mark part_words.AllKeys [] marks (λ e. cc) refl);
      found = ap (λ (b : Bool). keys_end b (items_of (one mark ∷ []))) (ap is_all_word marks);
    }

-- a key in front of the others
keys_cons : (separator : SeenFragment) (first : Fragments) (others : List Piece) → is_all_keys first ≡ false → keys_in (record { separator = separator; items = items_of first } ∷ others) ≡ with_key (key_items (items_of first)) (keys_in others)
keys_cons separator first [] e = ap (λ (b : Bool). keys_end b (items_of first)) (ap is_all_keys (fragments_back first) ∙ e)
keys_cons separator first (piece ∷ others) e = refl

pub key_and_more_read : (tree : Key) (others : List Key) (takes_all : Bool) (separator : Token) (first second all : Fragments) → all ≡ one separator ∷ (first ++ second) → role_of separator ≡ roles.Comma → KeyRead tree first → MoreKeysRead others takes_all second → MoreKeysRead (tree ∷ others) takes_all all
key_and_more_read tree others takes_all separator first second all parts is h k =
    subst (MoreKeysRead (tree ∷ others) takes_all) (sym parts)
    (record {
      others = record { separator = one separator; items = items_of first } ∷ k.others;
      behind = behind_piece is_comma_fragment k.others (one separator) first second (comma_separates separator is) h.commas k.behind;
      found = keys_cons (one separator) first k.others h.not_all ∙ ap (λ (o : Option Key). with_key o (keys_in k.others)) h.read ∙ ap (with_key (Some tree)) k.found;
    })

pub record ListedRead (found : Listed) (fragments : List SeenFragment) : Type 0 where
  pub read : listed_pieces (cut is_comma_fragment false (items_of fragments)) ≡ Some found
  pub some : Nonempty fragments

required_part : (required : RequiredTree) (fragments : Fragments) (others : List Piece) (behind : Option Listed) → RequiredRead required fragments → part_at (items_of fragments) others behind ≡ after_required behind required
required_part required [] others behind h = let (first, rest, e, role) = h.front in absurd cc
required_part required (x ∷ rest) others behind h =
    let (first, more, e, role) = h.front in
    let same : x ≡ one first = cc in
    ap (λ (word : PartWord). part_with word (item_of x) (items_of rest) others behind) (ap part_kind same ∙ named_part first role) ∙ ap (λ (o : Option RequiredTree). option_and_then (after_required behind) o) h.read

required_some : (required : RequiredTree) (fragments : Fragments) → RequiredRead required fragments → Nonempty fragments
required_some required fragments h = let (first, rest, e, role) = h.front in (one first, rest, e)

pub last_required_read : (required : RequiredTree) (fragments : Fragments) → IsRequired required fragments → ListedRead (list_of (required ∷ []) None None None) fragments
last_required_read required fragments is =
    let h = required_complete required fragments is in
    record { read = ap listed_pieces (cut_end is_comma_fragment false fragments h.commas) ∙ required_part required fragments [] (Some no_list) h; some = required_some required fragments h }

pub more_required_read : (required : RequiredTree) (found : Listed) (separator : Token) (before after all : Fragments) → all ≡ before ++ one separator ∷ after → role_of separator ≡ roles.Comma → IsRequired required before → ListedRead found after
    → ListedRead (list_of (required ∷ found.required) found.next found.rest found.keys) all
more_required_read required found separator before after all parts role is k =
    let h = required_complete required before is in
    let pieces : Pieces = cut is_comma_fragment false (items_of after) in
    subst (ListedRead (list_of (required ∷ found.required) found.next found.rest found.keys)) (sym parts)
    (record {
      read = ap listed_pieces (joined_on is_comma_fragment false before (one separator) after h.commas (comma_separates separator role))
          ∙ required_part required before (record { separator = one separator; items = pieces.first } ∷ pieces.others) (listed_pieces pieces) h ∙ ap (λ (o : Option Listed). after_required o required) k.read;
      some = nonempty_on before (one separator) after;
    })

name_part : (mark token : Token) (others : List Piece) (behind : Option Listed) (word : PartWord) → part_word mark ≡ word → part_at (items_of (one mark ∷ one token ∷ [])) others behind ≡ part_with word (item_of (one mark)) (items_of (one token ∷ [])) others behind
name_part mark token others behind word is = ap (λ (w : PartWord). part_with w (item_of (one mark)) (items_of (one token ∷ [])) others behind) is

pub last_next_read : (mark token : Token) → part_word mark ≡ part_words.Next → role_of token ≡ roles.Named → ListedRead (list_of [] (Some token) None None) (one mark ∷ one token ∷ [])
last_next_read mark token is role =
    record {
      read = ap listed_pieces (cut_end is_comma_fragment false (one mark ∷ one token ∷ []) (part_closed mark part_words.Next (one token ∷ []) is (λ e. cc) (name_closed token role))) ∙ name_part mark token [] (Some no_list) part_words.Next is
          ∙ ap (λ (o : Option Token). option_and_then (after_next (Some no_list)) o) (name_reads mark token role);
      some = (one mark, one token ∷ [], refl);
    }

pub more_next_read : (mark token separator : Token) (rest : Option Token) (keys : Option KeysTree) (after : Fragments) → part_word mark ≡ part_words.Next → role_of token ≡ roles.Named → role_of separator ≡ roles.Comma → ListedRead (list_of [] None rest keys) after
    → ListedRead (list_of [] (Some token) rest keys) (one mark ∷ one token ∷ one separator ∷ after)
more_next_read mark token separator rest keys after is role comma_role k =
    let pieces : Pieces = cut is_comma_fragment false (items_of after) in
    record {
      read = ap listed_pieces (joined_on is_comma_fragment false (one mark ∷ one token ∷ []) (one separator) after (part_closed mark part_words.Next (one token ∷ []) is (λ e. cc) (name_closed token role)) (comma_separates separator comma_role))
          ∙ name_part mark token (record { separator = one separator; items = pieces.first } ∷ pieces.others) (listed_pieces pieces) part_words.Next is
          ∙ ap (λ (o : Option Token). option_and_then (after_next (listed_pieces pieces)) o) (name_reads mark token role) ∙ ap (λ (o : Option Listed). after_next o token) k.read;
      some = (one mark, one token ∷ one separator ∷ after, refl);
    }

pub last_rest_read : (mark token : Token) → part_word mark ≡ part_words.Rest → role_of token ≡ roles.Named → ListedRead (list_of [] None (Some token) None) (one mark ∷ one token ∷ [])
last_rest_read mark token is role =
    record {
      read = ap listed_pieces (cut_end is_comma_fragment false (one mark ∷ one token ∷ []) (part_closed mark part_words.Rest (one token ∷ []) is (λ e. cc) (name_closed token role))) ∙ name_part mark token [] (Some no_list) part_words.Rest is
          ∙ ap (λ (o : Option Token). option_and_then (after_rest (Some no_list)) o) (name_reads mark token role);
      some = (one mark, one token ∷ [], refl);
    }

pub more_rest_read : (mark token separator : Token) (keys : Option KeysTree) (after : Fragments) → part_word mark ≡ part_words.Rest → role_of token ≡ roles.Named → role_of separator ≡ roles.Comma → ListedRead (list_of [] None None keys) after → ListedRead (list_of [] None (Some token) keys) (one mark ∷ one token ∷ one separator ∷ after)
more_rest_read mark token separator keys after is role comma_role k =
    let pieces : Pieces = cut is_comma_fragment false (items_of after) in
    record {
      read = ap listed_pieces (joined_on is_comma_fragment false (one mark ∷ one token ∷ []) (one separator) after (part_closed mark part_words.Rest (one token ∷ []) is (λ e. cc) (name_closed token role)) (comma_separates separator comma_role))
          ∙ name_part mark token (record { separator = one separator; items = pieces.first } ∷ pieces.others) (listed_pieces pieces) part_words.Rest is
          ∙ ap (λ (o : Option Token). option_and_then (after_rest (listed_pieces pieces)) o) (name_reads mark token role) ∙ ap (λ (o : Option Listed). after_rest o token) k.read;
      some = (one mark, one token ∷ one separator ∷ after, refl);
    }

pub bare_keys_read : (mark : Token) (takes_all : Bool) (after : Fragments) → part_word mark ≡ part_words.Key → MoreKeysRead [] takes_all after → ListedRead (list_of [] None None (keys_found [] takes_all)) (one mark ∷ after)
bare_keys_read mark takes_all after is k =
    record {
      read = ap listed_pieces (k.behind.pieces false (one mark ∷ []) (part_closed mark part_words.Key [] is (λ e. cc) refl)) ∙ ap (λ (w : PartWord). part_with w (item_of (one mark)) [] k.others (listed_behind k.others)) is
          ∙ ap (λ (o : Option KeysTree). option_map listed_keys (option_and_then bare_of o)) k.found;
      some = (one mark, after, refl);
    }

keys_some : (first : Fragments) (others : List Piece) → Nonempty first → keys_from (items_of first) others ≡ with_key (key_items (items_of first)) (keys_in others)
keys_some [] others (x, rest, e) = absurd cc
keys_some (y ∷ first) others some = refl

pub first_key_read : (mark : Token) (tree : Key) (others : List Key) (takes_all : Bool) (first second all : Fragments) → all ≡ one mark ∷ (first ++ second) → part_word mark ≡ part_words.Key → KeyRead tree first → MoreKeysRead others takes_all second
    → ListedRead (list_of [] None None (keys_found (tree ∷ others) takes_all)) all
first_key_read mark tree others takes_all first second all parts is h k =
    subst (ListedRead (list_of [] None None (keys_found (tree ∷ others) takes_all))) (sym parts)
    (record {
      read = ap listed_pieces (k.behind.pieces false (one mark ∷ first) (part_closed mark part_words.Key first is (λ e. cc) h.commas)) ∙ ap (λ (w : PartWord). part_with w (item_of (one mark)) (items_of first) k.others (listed_behind k.others)) is
          ∙ ap (option_map listed_keys) (keys_some first k.others h.some ∙ ap (λ (o : Option Key). with_key o (keys_in k.others)) h.read ∙ ap (with_key (Some tree)) k.found);
      some = (one mark, first ++ second, refl);
    })

abbrev pub BracketsRead : Listed → Fragments → Type 0
BracketsRead found fragments = listed_items (items_of fragments) ≡ Some found

pub some_listed_read : (found : Listed) (fragments : Fragments) → ListedRead found fragments → BracketsRead found fragments
some_listed_read found [] h = let (first, rest, e) = h.some in absurd cc
some_listed_read found (first ∷ rest) h = h.read

semicolon_front : (separator : Token) → role_of separator ≡ roles.Semicolon → is_semicolon (one separator) ≡ true
semicolon_front separator is = rw is refl

-- the body behind a semicolon or without one
body_behind : (trees : List ItemTree) (end after : Fragments) → EndPart end → BodyRead splittings.Nothing trees after → body_items splittings.Nothing (without_front (items_of (end ++ after))) ≡ Some trees
body_behind trees end after (an_end separator is) h = ap (λ (b : Bool). body_items splittings.Nothing (after_end b (item_of (one separator)) (items_of after))) (semicolon_front separator is) ∙ h.read
body_behind trees end [] no_end h = h.read
body_behind trees end (first ∷ rest) no_end h = go (is_semicolon first) refl
  where
    go : (b : Bool) → is_semicolon first ≡ b → body_items splittings.Nothing (after_end (is_semicolon first) (item_of first) (items_of rest)) ≡ Some trees
    go true is =
        let (none, no_trees) = h.semicolon_alone first rest refl is in
        ap (λ (b : Bool). body_items splittings.Nothing (after_end b (item_of first) (items_of rest))) is ∙ ap (λ (fs : Fragments). body_items splittings.Nothing (items_of fs)) none ∙ ap (λ (ts : List ItemTree). Some ts) (sym no_trees)
    go false is = ap (λ (b : Bool). body_items splittings.Nothing (after_end b (item_of first) (items_of rest))) is ∙ h.read

abbrev pub SignatureRead : Listed → Option ResultTree → List ItemTree → Fragments → Type 0
SignatureRead found results trees fragments = method_items (items_of fragments) ≡ Some (method_of found results trees)

pub signature_read : (found : Listed) (results : Option ResultTree) (trees : List ItemTree) (left : Token) (within : SeenFragments) (right : Token) (given end after all : Fragments) → all ≡ group left within right ∷ (given ++ (end ++ after)) → bracket_of left right ≡ brackets.Round → ResultsPart results given → EndPart end
    → apart results (end ++ after) ≡ true → BracketsRead found (row within) → BodyRead splittings.Nothing trees after → SignatureRead found results trees all
signature_read found results trees left within right given end after all parts is r n a l b =
    ap (λ (fs : Fragments). method_items (items_of fs)) parts ∙ ap (λ (o : Option Front). option_and_then method_front o) (headed_read left within right (given ++ (end ++ after)) is)
    ∙ ap (λ (o : Option Listed). option_and_then (method_listed (items_of (given ++ (end ++ after)))) o) (ap listed_items (items_row within) ∙ l)
    ∙ ap (λ (o : Option ResultsFront). option_and_then (method_with found) o) (results_complete results given (end ++ after) r a)
    ∙ ap (option_map (method_of found results)) (body_behind trees end after n b)

named_reads : (role : Role) (token : Token) (rest : List Item) (method : MethodFound) → role ≡ roles.Named → method_items rest ≡ Some method → named_with role token rest ≡ Some (named_of token method)
named_reads role token rest method is e = rw is (ap (option_map (named_of token)) e)

-- a method behind a name, inside of a group
pub named_read : (found : Listed) (results : Option ResultTree) (trees : List ItemTree) (token : Token) (inner : SeenFragments) (after : Fragments) → row inner ≡ one token ∷ after → role_of token ≡ roles.Named → SignatureRead found results trees after → named_items (items_in inner) ≡ Some (named_of token (method_of found results trees))
named_read found results trees token inner after parts is h = ap named_items (items_row inner ∙ ap items_of parts) ∙ named_reads (role_of token) token (items_of after) (method_of found results trees) is h

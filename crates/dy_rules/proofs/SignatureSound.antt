-- What is read as parameters, results and a body is derived.
use Rattle.std.proofs.Common.{◌≡◌, ℕ, Bool, true, false, not, List, [], ◌∷◌, ◌++◌, codes, Option, Some, None, option_map, option_and_then, refl, sym, ap, subst, ◌∙◌}
use Rattle.std.proofs.lemmas.List.{append-nil}
use Rattle.dy_tree.specs.declared.token.Token.{Token}
use Rattle.dy_tree.specs.Fragments.{SeenFragment, one, group, SeenFragments, no_fragment, fragment_and, row}
use Rattle.dy_tree.specs.declared.roles.Role.{Role}
use Rattle.dy_tree.specs.declared.roles.Role.TheVariants as roles
use Rattle.dy_tree.specs.declared.brackets.Bracket.{Bracket}
use Rattle.dy_tree.specs.declared.brackets.Bracket.TheVariants as enclosures
use Rattle.dy_tree.specs.declared.splitters.Splitting.TheVariants as splittings
use Rattle.dy_tree.specs.declared.type_words.PartWord.{PartWord}
use Rattle.dy_tree.specs.declared.type_words.PartWord.TheVariants as part_words
use Rattle.dy_rules.specs.Types.{is_equals, is_identity, is_mark, Single, IsSingle, VariableTree, IsVariable, RequiredTree, required_variable, required_single, IsRequired, any_value, one_value, ResultTree, several_results, one_result, Give, last_given, rest_given, more_given, AreResults, by_result, by_no_results, by_results, is_arrow_role, begins_with, apart, ResultsPart, no_results, some_results, EndPart, no_end, an_end, part_word}
use Rattle.dy_rules.specs.Trees.{Tree, MaybeTree, Key, KeysTree, Listed, ItemTree}
use Rattle.dy_rules.specs.Roles.{role_of, bracket_of}
use Rattle.dy_rules.specs.Arguments.{is_comma_fragment}
use Rattle.dy_rules.specs.Productions.{list_of, expression, a_body, initial, key, more_keys, listed, brackets, signature, Derives, no_initial, by_initial, plain_key, named_key, no_more_keys, all_keys, key_and_more, last_required, more_required, last_next, more_next, last_rest, more_rest, bare_keys, first_key, empty_brackets, some_listed, by_signature}
use Rattle.dy_rules.specs.Cutting.{MethodFound, NamedFound, Ending, Item, Piece, Pieces, is_semicolon, is_arrow, cut, fragments_in, headed}
use Rattle.dy_rules.specs.TypeReading.{single_in, variable_front, variable_items, marked, is_marked, name_items}
use Rattle.dy_rules.specs.Reading.{expression_items}
use Rattle.dy_rules.specs.Bodies.{is_equals_at, body_items}
use Rattle.dy_rules.specs.Signatures.{rest_variable, give_items, several_given, ResultsFront, results_in_front, given_in, variable_result, results_at, results_behind, results_if, results_front, is_identity_at, single_named, single_at, required_if, required_items, initial_of, initial_if, initial_items, key_of, key_with, key_from, key_token, key_at, key_items, keys_of_found, with_key, is_all_keys, keys_end, keys_in, has_keys, bare_of, keys_from, listed_keys, with_next, next_before, with_rest, rest_before, required_before, is_all_word, part_kind, no_list, after_next, after_rest, after_required, part_with, part_at, listed_behind, listed_items, after_end, without_front, method_of, method_with, method_listed, method_front, method_items, named_of, named_with, named_at, named_items}
use Rattle.dy_rules.proofs.Lists.{some_one, map_some, then_some}
use Rattle.dy_rules.proofs.Sound.{NamedIs, InsideSound, ItemSound, ItemsSound, GroupSound, expression_sound}
use Rattle.dy_rules.proofs.Cuts.{behind_in, Separates, cut_sound, EndRow, end_row_sound}
use Rattle.dy_rules.proofs.TypeSound.{comma_is, comma_token, single_sound, variable_front_sound, variable_sound, marked_name}
use Rattle.dy_rules.proofs.BodySound.{body_sound, equals_token, semicolon_token}
use Rattle.dy_rules.proofs.HeadSound.{headed_sound}

abbrev Fragments : Type 0
Fragments = List SeenFragment

more_given_of : (variable : VariableTree) (others : List VariableTree) (rest : Option VariableTree) (separator : SeenFragment) (before after : Fragments) → is_comma_fragment separator ≡ true → IsVariable variable before → Give others rest after → Give (variable ∷ others) rest (before ++ separator ∷ after)
more_given_of variable others rest (one token) before after e h k = more_given variable others rest token before after _ refl (comma_is (role_of token) e) h k
more_given_of variable others rest (group opener inner closer) before after e h k = absurd cc

abbrev RestIs : VariableTree → Fragments → Type 0
RestIs rest fragments = (mark : Token) × (after : Fragments) × (fragments ≡ one mark ∷ after) × (is_mark (codes "#rest") mark ≡ true) × IsVariable rest after

marked_token : (text : List ℕ) (fragment : SeenFragment) → is_marked text fragment ≡ true → (mark : Token) × (fragment ≡ one mark) × (is_mark text mark ≡ true)
marked_token text (one token) e = (token, refl, e)
marked_token text (group opener inner closer) e = absurd cc

rest_variable_sound : (items : List Item) (rest : VariableTree) → ItemsSound items → marked (codes "#rest") items ≡ true → rest_variable items ≡ Some rest → RestIs rest (fragments_in items)
rest_variable_sound [] rest h is e = absurd cc
rest_variable_sound (first ∷ more) rest h is e =
    let (mark, one_is, marks) = marked_token (codes "#rest") first.fragment is in
    (mark, fragments_in more, ap (λ (f : SeenFragment). f ∷ fragments_in more) one_is, marks, variable_sound more rest h.1 e)

give_row : EndRow is_comma_fragment (marked (codes "#rest")) variable_items rest_variable (λ variable fragments. IsVariable variable fragments) RestIs Give
give_row =
    record {
      only = last_given;
      ends = λ rest fragments (mark, after, parts, marks, is). rw parts (rest_given mark rest after marks is);
      more = more_given_of;
      reads_one = λ items variable h e. variable_sound items variable h e;
      reads_last = λ items rest h is e. rest_variable_sound items rest h is e;
    }

pub give_sound : (items : List Item) (given : Ending VariableTree VariableTree) → ItemsSound items → give_items items ≡ Some given → Give given.parts given.last (fragments_in items)
give_sound items given h e = end_row_sound is_comma_fragment (marked (codes "#rest")) variable_items rest_variable _ _ _ give_row items given h e

-- results at the front of items
pub record ResultsAre (items : List Item) (front : ResultsFront) : Type 0 where
  pub given : List SeenFragment
  pub parts : fragments_in items ≡ given ++ fragments_in front.rest
  pub is : ResultsPart front.results given
  pub apart_is : apart front.results (fragments_in front.rest) ≡ true
  pub rest_sound : ItemsSound front.rest

-- the results behind an arrow
record GivenAre (items : List Item) (front : ResultsFront) : Type 0 where
  pub results : ResultTree
  pub results_are : front.results ≡ Some results
  pub given : List SeenFragment
  pub parts : fragments_in items ≡ given ++ fragments_in front.rest
  pub is : AreResults results given
  pub apart_is : apart (Some results) (fragments_in front.rest) ≡ true
  pub rest_sound : ItemsSound front.rest

given_in_sound : (bracket : Bracket) (opener : Token) (inner : SeenFragments) (closer : Token) (first : Item) (rest : List Item) (front : ResultsFront) → bracket_of opener closer ≡ bracket → first.fragment ≡ group opener inner closer → InsideSound (row inner) first.found → ItemsSound rest
    → given_in bracket inner first.found rest ≡ Some front → GivenAre (first ∷ rest) front
given_in_sound enclosures.Round opener no_fragment closer first rest front is one_is h k e =
    rw (← some_one _ _ e) (record { results = several_results [] None; results_are = refl; given = group opener no_fragment closer ∷ []; parts = ap (λ (f : SeenFragment). f ∷ fragments_in rest) one_is; is = by_no_results opener closer is; apart_is = refl; rest_sound = k })
given_in_sound enclosures.Round opener (fragment_and one_fragment more) closer first rest front is one_is h k e =
    let (results, results_are, same) = map_some (results_in_front rest) (option_map several_given first.found.given) front e in
    let (given, given_is, results_same) = map_some several_given first.found.given results results_are in
    rw (same, results_same)
    (record {
      results = several_given given;
      results_are = refl;
      given = group opener (fragment_and one_fragment more) closer ∷ [];
      parts = ap (λ (f : SeenFragment). f ∷ fragments_in rest) one_is;
      is = by_results given.parts given.last opener (fragment_and one_fragment more) closer is (h.given_are given given_is);
      apart_is = refl;
      rest_sound = k;
    })
given_in_sound bracket opener inner closer first rest front is one_is h k e = absurd cc

results_at_sound : (fragment : SeenFragment) (first : Item) (rest : List Item) (front : ResultsFront) → first.fragment ≡ fragment → ItemSound first → GroupSound fragment first.found → ItemsSound rest → results_at fragment first rest ≡ Some front → GivenAre (first ∷ rest) front
results_at_sound (one token) first rest front is h g k e =
    let (found, read, same) = map_some variable_result (variable_front (first ∷ rest)) front e in
    let v = variable_front_sound (first ∷ rest) found (h, k) read in
    rw same (record { results = one_result found.variable; results_are = refl; given = v.before; parts = v.parts; is = by_result found.variable v.before v.is; apart_is = v.apart_is; rest_sound = v.rest_sound })
results_at_sound (group opener inner closer) first rest front is h g k e = given_in_sound (bracket_of opener closer) opener inner closer first rest front refl is g.1 k e

results_behind_sound : (items : List Item) (front : ResultsFront) → ItemsSound items → results_behind items ≡ Some front → GivenAre items front
results_behind_sound [] front h e = absurd cc
results_behind_sound (first ∷ rest) front (h, k) e = results_at_sound first.fragment first rest front refl h h.group_is k e

arrow_is : (role : Role) → is_arrow_role role ≡ true → role ≡ roles.Arrow
arrow_is roles.Arrow e = refl
arrow_is role e = absurd cc

arrow_token : (fragment : SeenFragment) → is_arrow fragment ≡ true → (token : Token) × (fragment ≡ one token) × (role_of token ≡ roles.Arrow)
arrow_token (one token) e = (token, refl, arrow_is (role_of token) e)
arrow_token (group opener inner closer) e = absurd cc

no_arrow_first : (first : SeenFragment) (rest : Fragments) → is_arrow first ≡ false → begins_with is_arrow_role (first ∷ rest) ≡ false
no_arrow_first (one token) rest e = e
no_arrow_first (group opener inner closer) rest e = refl

results_found : (sign : Token) (first : Item) (rest : List Item) (front : ResultsFront) → first.fragment ≡ one sign → role_of sign ≡ roles.Arrow → GivenAre rest front → ResultsAre (first ∷ rest) front
results_found sign first rest front one_is role g =
    record {
      given = one sign ∷ g.given;
      parts = ap (λ (f : SeenFragment). f ∷ fragments_in rest) one_is ∙ ap (λ (fs : Fragments). one sign ∷ fs) g.parts;
      is = subst (λ (r : Option ResultTree). ResultsPart r (one sign ∷ g.given)) (sym g.results_are) (some_results sign g.results g.given role g.is);
      apart_is = subst (λ (r : Option ResultTree). apart r (fragments_in front.rest) ≡ true) (sym g.results_are) g.apart_is;
      rest_sound = g.rest_sound;
    }

pub results_front_sound : (items : List Item) (front : ResultsFront) → ItemsSound items → results_front items ≡ Some front → ResultsAre items front
results_front_sound [] front h e = rw (← some_one _ _ e) (record { given = []; parts = refl; is = no_results; apart_is = refl; rest_sound = tt })
results_front_sound (first ∷ rest) front (h, k) e = go (is_arrow first.fragment) refl e
  where
    go : (b : Bool) → is_arrow first.fragment ≡ b → results_if b first rest ≡ Some front → ResultsAre (first ∷ rest) front
    go true is f = let (sign, one_is, role) = arrow_token first.fragment is in results_found sign first rest front one_is role (results_behind_sound rest front k f)
    go false is f = rw (← some_one _ _ f) (record { given = []; parts = refl; is = no_results; apart_is = ap not (no_arrow_first first.fragment (fragments_in rest) is); rest_sound = (h, k) })

identity_token : (fragment : SeenFragment) → is_identity_at fragment ≡ true → (token : Token) × (fragment ≡ one token) × (is_identity token ≡ true)
identity_token (one token) e = (token, refl, e)
identity_token (group opener inner closer) e = absurd cc

single_named_sound : (role : Role) (token : Token) (single : Option Single) (required : RequiredTree) → single_named role token single ≡ Some required → (role ≡ roles.Named) × (found : Single) × (single ≡ Some found) × (required ≡ required_single token found)
single_named_sound roles.Named token single required e = let (found, read, same) = map_some (required_single token) single required e in (refl, found, read, same)
single_named_sound role token single required e = absurd cc

one_value_of : (token sign : Token) (single : Single) (required : RequiredTree) (first second : SeenFragment) (after : Fragments) → required ≡ required_single token single → first ≡ one token → second ≡ one sign → role_of token ≡ roles.Named → is_identity sign ≡ true → IsSingle single after → IsRequired required (first ∷ second ∷ after)
one_value_of token sign single required first second after same one_is sign_is role is h = rw (same, one_is, sign_is) (one_value token sign single after role is h)

single_at_sound : (fragment same : SeenFragment) (second : SeenFragment) (after : Fragments) (required : RequiredTree) → fragment ≡ same → is_identity_at second ≡ true → single_at same (single_in after) ≡ Some required → IsRequired required (fragment ∷ second ∷ after)
single_at_sound fragment (group opener inner closer) second after required is identity e = absurd cc
single_at_sound fragment (one token) second after required is identity e =
    let (role, single, read, same) = single_named_sound (role_of token) token (single_in after) required e in
    let (sign, sign_is, equal) = identity_token second identity in
    one_value_of token sign single required fragment second after same is sign_is role equal (single_sound after single read)

any_sound : (list : List Item) (required : RequiredTree) → ItemsSound list → option_map required_variable (variable_items list) ≡ Some required → IsRequired required (fragments_in list)
any_sound list required h e =
    let (variable, read, same) = map_some required_variable (variable_items list) required e in
    subst (λ (r : RequiredTree). IsRequired r (fragments_in list)) (sym same) (any_value variable (fragments_in list) (variable_sound list variable h read))

required_sound : (list : List Item) (required : RequiredTree) → ItemsSound list → required_items list ≡ Some required → IsRequired required (fragments_in list)
required_sound [] required h e = absurd cc
required_sound (first ∷ []) required h e = any_sound (first ∷ []) required h e
required_sound (first ∷ second ∷ rest) required h e = go (is_identity_at second.fragment) refl e
  where
    go : (b : Bool) → is_identity_at second.fragment ≡ b → required_if b first second rest ≡ Some required → IsRequired required (fragments_in (first ∷ second ∷ rest))
    go true is f = single_at_sound first.fragment first.fragment second.fragment (fragments_in rest) required refl is f
    go false is f = any_sound (first ∷ second ∷ rest) required h f

initial_parts : (tree : Tree) (default : MaybeTree) (equals : Token) (first : SeenFragment) (after : Fragments) → default ≡ initial_of tree → first ≡ one equals → is_equals equals ≡ true → Derives splittings.Nothing (expression tree) after → Derives splittings.Nothing (initial default) (first ∷ after)
initial_parts tree default equals first after same one_is is h = rw (same, one_is) (by_initial tree equals after is h)

pub initial_sound : (list : List Item) (default : MaybeTree) → ItemsSound list → initial_items list ≡ Some default → Derives splittings.Nothing (initial default) (fragments_in list)
initial_sound [] default h e = subst (λ (d : MaybeTree). Derives splittings.Nothing (initial d) []) (some_one _ _ e) no_initial
initial_sound (first ∷ rest) default (h, k) e = go (is_equals_at first.fragment) refl e
  where
    go : (b : Bool) → is_equals_at first.fragment ≡ b → initial_if b rest ≡ Some default → Derives splittings.Nothing (initial default) (fragments_in (first ∷ rest))
    go true is f =
        let (tree, read, same) = map_some initial_of (expression_items splittings.Nothing rest) default f in
        let (equals, one_is, equal) = equals_token first.fragment is in
        initial_parts tree default equals first.fragment (fragments_in rest) same one_is equal (expression_sound splittings.Nothing rest tree k read)
    go false is f = absurd cc

-- a variable and its default
abbrev KeyParts : Option Token → Key → Fragments → Type 0
KeyParts label tree fragments = (variable : VariableTree) × (default : MaybeTree) × (before : Fragments) × (after : Fragments) × (tree ≡ key_of label variable default) × (fragments ≡ before ++ after) × IsVariable variable before × Derives splittings.Nothing (initial default) after

key_from_sound : (label : Option Token) (list : List Item) (tree : Key) → ItemsSound list → key_from label list ≡ Some tree → KeyParts label tree (fragments_in list)
key_from_sound label list tree h e =
    let (front, read, e1) = then_some (key_with label) (variable_front list) tree e in
    let (default, default_is, same) = map_some (key_of label front.variable) (initial_items front.rest) tree e1 in
    let v = variable_front_sound list front h read in
    (front.variable, default, v.before, fragments_in front.rest, same, v.parts, v.is, initial_sound front.rest default v.rest_sound default_is)

plain_parts : (tree : Key) (fragments : Fragments) → KeyParts None tree fragments → Derives splittings.Nothing (key tree) fragments
plain_parts tree fragments (variable, default, before, after, same, parts, v, d) = rw same (plain_key variable default before after fragments parts v d)

named_parts : (token : Token) (tree : Key) (first : SeenFragment) (fragments : Fragments) → first ≡ one token → role_of token ≡ roles.Symbol → KeyParts (Some token) tree fragments → Derives splittings.Nothing (key tree) (first ∷ fragments)
named_parts token tree first fragments one_is role (variable, default, before, after, same, parts, v, d) =
    rw (same, one_is) (named_key token variable default before after (one token ∷ fragments) (ap (λ (fs : Fragments). one token ∷ fs) parts) role v d)

key_token_sound : (role : Role) (token : Token) (first : Item) (rest : List Item) (tree : Key) → role_of token ≡ role → first.fragment ≡ one token → ItemsSound (first ∷ rest) → key_token role token first rest ≡ Some tree → Derives splittings.Nothing (key tree) (fragments_in (first ∷ rest))
key_token_sound roles.Symbol token first rest tree is one_is h e = named_parts token tree first.fragment (fragments_in rest) one_is is (key_from_sound (Some token) rest tree h.1 e)
key_token_sound role token first rest tree is one_is h e = plain_parts tree (fragments_in (first ∷ rest)) (key_from_sound None (first ∷ rest) tree h e)

key_at_sound : (fragment : SeenFragment) (first : Item) (rest : List Item) (tree : Key) → first.fragment ≡ fragment → ItemsSound (first ∷ rest) → key_at fragment first rest ≡ Some tree → Derives splittings.Nothing (key tree) (fragments_in (first ∷ rest))
key_at_sound (one token) first rest tree is h e = key_token_sound (role_of token) token first rest tree refl is h e
key_at_sound (group opener inner closer) first rest tree is h e = absurd cc

key_sound : (list : List Item) (tree : Key) → ItemsSound list → key_items list ≡ Some tree → Derives splittings.Nothing (key tree) (fragments_in list)
key_sound [] tree h e = absurd cc
key_sound (first ∷ rest) tree h e = key_at_sound first.fragment first rest tree refl h e

with_key_some : (first : Option Key) (others : Option KeysTree) (all : KeysTree) → with_key first others ≡ Some all → (tree : Key) × (rest : KeysTree) × (first ≡ Some tree) × (others ≡ Some rest) × (all ≡ keys_of_found (tree ∷ rest.keys) rest.takes_all)
with_key_some None others all e = absurd cc
with_key_some (Some tree) None all e = absurd cc
with_key_some (Some tree) (Some rest) all e = (tree, rest, refl, refl, sym (some_one _ _ e))

key_more_of : (tree : Key) (rest all : KeysTree) (separator : SeenFragment) (first second : Fragments) → all ≡ keys_of_found (tree ∷ rest.keys) rest.takes_all → is_comma_fragment separator ≡ true → Derives splittings.Nothing (key tree) first → Derives splittings.Nothing (more_keys rest.keys rest.takes_all) second
    → Derives splittings.Nothing (more_keys all.keys all.takes_all) (separator ∷ (first ++ second))
key_more_of tree rest all (one token) first second same e h k = rw same (key_and_more tree rest.keys rest.takes_all token first second _ refl (comma_is (role_of token) e) h k)
key_more_of tree rest all (group opener inner closer) first second same e h k = absurd cc

all_word : (word : PartWord) → is_all_word word ≡ true → word ≡ part_words.AllKeys
all_word part_words.AllKeys e = refl
all_word word e = absurd cc

all_keys_is : (fragments : Fragments) → is_all_keys fragments ≡ true → (mark : Token) × (fragments ≡ one mark ∷ []) × (part_word mark ≡ part_words.AllKeys)
all_keys_is [] e = absurd cc
all_keys_is (one mark ∷ []) e = (mark, refl, all_word (part_word mark) e)
all_keys_is (one mark ∷ second ∷ rest) e = absurd cc
all_keys_is (group opener inner closer ∷ rest) e = absurd cc

all_keys_of : (mark : Token) (all : KeysTree) (separator : SeenFragment) (within : Fragments) → keys_of_found [] true ≡ all → is_comma_fragment separator ≡ true → within ≡ one mark ∷ [] → part_word mark ≡ part_words.AllKeys → Derives splittings.Nothing (more_keys all.keys all.takes_all) (separator ∷ (within ++ []))
all_keys_of mark all (one token) within same e parts is = rw (← same, parts) (all_keys token mark (comma_is (role_of token) e) is)
all_keys_of mark all (group opener inner closer) within same e parts is = absurd cc

keys_end_sound : (is : Bool) (separator : SeenFragment) (list : List Item) (all : KeysTree) → is_all_keys (fragments_in list) ≡ is → is_comma_fragment separator ≡ true → ItemsSound list → keys_end is list ≡ Some all → Derives splittings.Nothing (more_keys all.keys all.takes_all) (separator ∷ (fragments_in list ++ []))
keys_end_sound true separator list all is e h f = let (mark, parts, marks) = all_keys_is (fragments_in list) is in all_keys_of mark all separator (fragments_in list) (some_one _ _ f) e parts marks
keys_end_sound false separator list all is e h f =
    let (tree, rest, read, rest_is, same) = with_key_some (key_items list) (Some (keys_of_found [] false)) all f in
    key_more_of tree rest all separator (fragments_in list) [] same e (key_sound list tree h read) (subst (λ (r : KeysTree). Derives splittings.Nothing (more_keys r.keys r.takes_all) []) (some_one _ _ rest_is) no_more_keys)

keys_in_sound : (others : List Piece) (all : KeysTree) → Separates is_comma_fragment others → keys_in others ≡ Some all → Derives splittings.Nothing (more_keys all.keys all.takes_all) (behind_in others)
keys_in_sound [] all h e = subst (λ (r : KeysTree). Derives splittings.Nothing (more_keys r.keys r.takes_all) []) (some_one _ _ e) no_more_keys
keys_in_sound (piece ∷ []) all (is, h, k) e = keys_end_sound (is_all_keys (fragments_in piece.items)) piece.separator piece.items all refl is h e
keys_in_sound (piece ∷ second ∷ others) all (is, h, k) e =
    let (tree, rest, read, rest_is, same) = with_key_some (key_items piece.items) (keys_in (second ∷ others)) all e in
    key_more_of tree rest all piece.separator (fragments_in piece.items) (behind_in (second ∷ others)) same is (key_sound piece.items tree h read) (keys_in_sound (second ∷ others) rest k rest_is)

has_keys_sound : (keys : List Key) (found all : KeysTree) → has_keys keys found ≡ Some all → (keys ≡ []) × (found ≡ all)
has_keys_sound [] found all e = (refl, some_one found all e)
has_keys_sound (first ∷ rest) found all e = absurd cc

bare_parts : (mark : Token) (read all : KeysTree) (first : SeenFragment) (after : Fragments) → read.keys ≡ [] → read ≡ all → first ≡ one mark → part_word mark ≡ part_words.Key → Derives splittings.Nothing (more_keys read.keys read.takes_all) after → Derives splittings.Nothing (listed (listed_keys all)) (first ∷ after)
bare_parts mark read all first after none same one_is marks h =
    let k = subst (λ (ks : List Key). Derives splittings.Nothing (more_keys ks read.takes_all) after) none h in
    let d : Derives splittings.Nothing (listed (listed_keys (keys_of_found [] read.takes_all))) (one mark ∷ after) = bare_keys mark read.takes_all after marks k in
    let is : keys_of_found [] read.takes_all ≡ all = ap (λ (ks : List Key). keys_of_found ks read.takes_all) (sym none) ∙ same in
    rw one_is (subst (λ (r : KeysTree). Derives splittings.Nothing (listed (listed_keys r)) (one mark ∷ after)) is d)

first_parts : (mark : Token) (tree : Key) (rest all : KeysTree) (first : SeenFragment) (before after : Fragments) → all ≡ keys_of_found (tree ∷ rest.keys) rest.takes_all → first ≡ one mark → part_word mark ≡ part_words.Key → Derives splittings.Nothing (key tree) before
    → Derives splittings.Nothing (more_keys rest.keys rest.takes_all) after → Derives splittings.Nothing (listed (listed_keys all)) (first ∷ (before ++ after))
first_parts mark tree rest all first before after same one_is marks h k = rw (same, one_is) (first_key mark tree rest.keys rest.takes_all before after _ refl marks h k)

keys_from_sound : (mark : Token) (first : SeenFragment) (list : List Item) (others : List Piece) (all : KeysTree) → first ≡ one mark → part_word mark ≡ part_words.Key → ItemsSound list → Separates is_comma_fragment others → keys_from list others ≡ Some all
    → Derives splittings.Nothing (listed (listed_keys all)) (first ∷ (fragments_in list ++ behind_in others))
keys_from_sound mark first [] others all one_is marks h k e =
    let (read, read_is, e1) = then_some bare_of (keys_in others) all e in
    let (none, same) = has_keys_sound read.keys read all e1 in
    bare_parts mark read all first (behind_in others) none same one_is marks (keys_in_sound others read k read_is)
keys_from_sound mark first (second ∷ more) others all one_is marks h k e =
    let (tree, rest, read, rest_is, same) = with_key_some (key_items (second ∷ more)) (keys_in others) all e in
    first_parts mark tree rest all first (fragments_in (second ∷ more)) (behind_in others) same one_is marks (key_sound (second ∷ more) tree h read) (keys_in_sound others rest k rest_is)

-- the parts behind commas
abbrev ListedBehind : List Piece → Listed → Type 0
ListedBehind [] found = no_list ≡ found
ListedBehind (piece ∷ others) found = (is_comma_fragment piece.separator ≡ true) × Derives splittings.Nothing (listed found) (fragments_in piece.items ++ behind_in others)

required_parts : (required : RequiredTree) (others : List Piece) (found : Listed) (before : Fragments) → IsRequired required before → ListedBehind others found → Derives splittings.Nothing (listed (list_of (required ∷ found.required) found.next found.rest found.keys)) (before ++ behind_in others)
required_parts required [] found before h e = rw (append-nil, ← e) (last_required required before h)
required_parts required (piece ∷ others) found before h (is, k) = let (token, one_is, role) = comma_token piece.separator is in rw one_is (more_required required found token before (fragments_in piece.items ++ behind_in others) _ refl role h k)

-- a mark and a name
abbrev MarkedName : PartWord → Token → Fragments → Type 0
MarkedName word token fragments = (mark : Token) × (fragments ≡ one mark ∷ one token ∷ []) × (part_word mark ≡ word) × (role_of token ≡ roles.Named)

next_parts : (token : Token) (others : List Piece) (rest : Option Token) (keys : Option KeysTree) (before : Fragments) → MarkedName part_words.Next token before → ListedBehind others (list_of [] None rest keys) → Derives splittings.Nothing (listed (list_of [] (Some token) rest keys)) (before ++ behind_in others)
next_parts token [] rest keys before (mark, parts, marks, role) e =
    let no_rest : None ≡ rest = ap (λ (l : Listed). l.rest) e in
    let without_keys : None ≡ keys = ap (λ (l : Listed). l.keys) e in
    rw (parts, ← no_rest, ← without_keys) (last_next mark token marks role)
next_parts token (piece ∷ others) rest keys before (mark, parts, marks, role) (is, k) =
    let (separator, one_is, comma_role) = comma_token piece.separator is in
    rw (parts, one_is) (more_next mark token separator rest keys (fragments_in piece.items ++ behind_in others) marks role comma_role k)

rest_parts : (token : Token) (others : List Piece) (keys : Option KeysTree) (before : Fragments) → MarkedName part_words.Rest token before → ListedBehind others (list_of [] None None keys) → Derives splittings.Nothing (listed (list_of [] None (Some token) keys)) (before ++ behind_in others)
rest_parts token [] keys before (mark, parts, marks, role) e = let without_keys : None ≡ keys = ap (λ (l : Listed). l.keys) e in rw (parts, ← without_keys) (last_rest mark token marks role)
rest_parts token (piece ∷ others) keys before (mark, parts, marks, role) (is, k) =
    let (separator, one_is, comma_role) = comma_token piece.separator is in
    rw (parts, one_is) (more_rest mark token separator keys (fragments_in piece.items ++ behind_in others) marks role comma_role k)

with_next_sound : (token : Token) (required : List RequiredTree) (next : Option Token) (found all : Listed) → with_next token required next found ≡ Some all → (required ≡ []) × (next ≡ None) × (all ≡ list_of [] (Some token) found.rest found.keys)
with_next_sound token [] None found all e = (refl, refl, sym (some_one _ _ e))
with_next_sound token [] (Some other) found all e = absurd cc
with_next_sound token (first ∷ more) next found all e = absurd cc

with_rest_sound : (token : Token) (required : List RequiredTree) (next rest : Option Token) (found all : Listed) → with_rest token required next rest found ≡ Some all → (required ≡ []) × (next ≡ None) × (rest ≡ None) × (all ≡ list_of [] None (Some token) found.keys)
with_rest_sound token [] None None found all e = (refl, refl, refl, sym (some_one _ _ e))
with_rest_sound token [] None (Some other) found all e = absurd cc
with_rest_sound token [] (Some other) rest found all e = absurd cc
with_rest_sound token (first ∷ more) next rest found all e = absurd cc

list_is : (found : Listed) (required : List RequiredTree) (next rest : Option Token) → found.required ≡ required → found.next ≡ next → found.rest ≡ rest → found ≡ list_of required next rest found.keys
list_is found required next rest e f g = rw (← e, ← f, ← g) refl

next_sound : (token : Token) (others : List Piece) (found all : Listed) (before : Fragments) → MarkedName part_words.Next token before → ListedBehind others found → next_before token found ≡ Some all → Derives splittings.Nothing (listed all) (before ++ behind_in others)
next_sound token others found all before m h e =
    let (no_required, no_next, same) = with_next_sound token found.required found.next found all e in
    subst (λ (l : Listed). Derives splittings.Nothing (listed l) (before ++ behind_in others)) (sym same)
    (next_parts token others found.rest found.keys before m (subst (ListedBehind others) (list_is found [] None found.rest no_required no_next refl) h))

rest_sound : (token : Token) (others : List Piece) (found all : Listed) (before : Fragments) → MarkedName part_words.Rest token before → ListedBehind others found → rest_before token found ≡ Some all → Derives splittings.Nothing (listed all) (before ++ behind_in others)
rest_sound token others found all before m h e =
    let (no_required, no_next, no_rest, same) = with_rest_sound token found.required found.next found.rest found all e in
    subst (λ (l : Listed). Derives splittings.Nothing (listed l) (before ++ behind_in others)) (sym same)
    (rest_parts token others found.keys before m (subst (ListedBehind others) (list_is found [] None None no_required no_next no_rest) h))

marked_at : (word : PartWord) (first : Item) (rest : List Item) (token : Token) → part_kind first.fragment ≡ word → name_items (first ∷ rest) ≡ Some token → MarkedName word token (fragments_in (first ∷ rest))
marked_at word first rest token is e =
    let (mark, parts, role) = marked_name (codes "") (fragments_in (first ∷ rest)) token e in
    let same : first.fragment ≡ one mark = first_same first.fragment (fragments_in rest) mark token parts in
    (mark, parts, sym (ap part_kind same) ∙ is, role)
  where
    first_same : (fragment : SeenFragment) (others : Fragments) (mark name : Token) → fragment ∷ others ≡ one mark ∷ one name ∷ [] → fragment ≡ one mark
    first_same fragment others mark name f = cc

key_mark_is : (fragment : SeenFragment) → part_kind fragment ≡ part_words.Key → (mark : Token) × (fragment ≡ one mark) × (part_word mark ≡ part_words.Key)
key_mark_is (one mark) e = (mark, refl, e)
key_mark_is (group opener inner closer) e = absurd cc

plain_sound : (first : Item) (rest : List Item) (others : List Piece) (behind : Option Listed) (all : Listed) → ItemsSound (first ∷ rest) → ((found : Listed) → behind ≡ Some found → ListedBehind others found)
    → option_and_then (after_required behind) (required_items (first ∷ rest)) ≡ Some all → Derives splittings.Nothing (listed all) (fragments_in (first ∷ rest) ++ behind_in others)
plain_sound first rest others behind all h more e =
    let (required, read, e1) = then_some (after_required behind) (required_items (first ∷ rest)) all e in
    let (found, found_is, e2) = then_some (required_before required) behind all e1 in
    subst (λ (l : Listed). Derives splittings.Nothing (listed l) (fragments_in (first ∷ rest) ++ behind_in others)) (some_one _ _ e2) (required_parts required others found (fragments_in (first ∷ rest)) (required_sound (first ∷ rest) required h read) (more found found_is))

part_sound : (kind : PartWord) (first : Item) (rest : List Item) (others : List Piece) (behind : Option Listed) (all : Listed) → part_kind first.fragment ≡ kind → ItemsSound (first ∷ rest) → Separates is_comma_fragment others → ((found : Listed) → behind ≡ Some found → ListedBehind others found)
    → part_with kind first rest others behind ≡ Some all → Derives splittings.Nothing (listed all) (fragments_in (first ∷ rest) ++ behind_in others)
part_sound part_words.Next first rest others behind all is h k more e =
    let (token, read, e1) = then_some (after_next behind) (name_items (first ∷ rest)) all e in
    let (found, found_is, e2) = then_some (next_before token) behind all e1 in
    next_sound token others found all (fragments_in (first ∷ rest)) (marked_at part_words.Next first rest token is read) (more found found_is) e2
part_sound part_words.Rest first rest others behind all is h k more e =
    let (token, read, e1) = then_some (after_rest behind) (name_items (first ∷ rest)) all e in
    let (found, found_is, e2) = then_some (rest_before token) behind all e1 in
    rest_sound token others found all (fragments_in (first ∷ rest)) (marked_at part_words.Rest first rest token is read) (more found found_is) e2
part_sound part_words.Key first rest others behind all is h k more e =
    let (keys, read, same) = map_some listed_keys (keys_from rest others) all e in
    let (mark, one_is, marks) = key_mark_is first.fragment is in
    subst (λ (l : Listed). Derives splittings.Nothing (listed l) (fragments_in (first ∷ rest) ++ behind_in others)) (sym same) (keys_from_sound mark first.fragment rest others keys one_is marks h.1 k read)
part_sound kind first rest others behind all is h k more e = plain_sound first rest others behind all h more e

part_at_sound : (list : List Item) (others : List Piece) (behind : Option Listed) (all : Listed) → ItemsSound list → Separates is_comma_fragment others → ((found : Listed) → behind ≡ Some found → ListedBehind others found) → part_at list others behind ≡ Some all
    → Derives splittings.Nothing (listed all) (fragments_in list ++ behind_in others)
part_at_sound [] others behind all h k more e = absurd cc
part_at_sound (first ∷ rest) others behind all h k more e = part_sound (part_kind first.fragment) first rest others behind all refl h k more e

listed_behind_sound : (others : List Piece) (found : Listed) → Separates is_comma_fragment others → listed_behind others ≡ Some found → ListedBehind others found
listed_behind_sound [] found h e = some_one _ _ e
listed_behind_sound (piece ∷ others) found (is, h, k) e = (is, part_at_sound piece.items others (listed_behind others) found h k (λ f g. listed_behind_sound others f k g) e)

pub listed_items_sound : (list : List Item) (found : Listed) → ItemsSound list → listed_items list ≡ Some found → Derives splittings.Nothing (brackets found) (fragments_in list)
listed_items_sound [] found h e = subst (λ (l : Listed). Derives splittings.Nothing (brackets l) []) (some_one _ _ e) empty_brackets
listed_items_sound (first ∷ rest) found h e =
    let pieces : Pieces = cut is_comma_fragment false (first ∷ rest) in
    let c = cut_sound is_comma_fragment false (first ∷ rest) h in
    some_listed found (fragments_in (first ∷ rest)) (subst (Derives splittings.Nothing (listed found)) c.same (part_at_sound pieces.first pieces.others (listed_behind pieces.others) found c.first_sound c.others_sound (λ f g. listed_behind_sound pieces.others f c.others_sound g) e))

-- a semicolon in front
abbrev FrontIs : List Item → Type 0
FrontIs items = (end : Fragments) × (fragments_in items ≡ end ++ fragments_in (without_front items)) × EndPart end × ItemsSound (without_front items)

without_front_sound : (items : List Item) → ItemsSound items → FrontIs items
without_front_sound [] h = ([], refl, no_end, tt)
without_front_sound (first ∷ rest) h = go (is_semicolon first.fragment) refl
  where
    go : (b : Bool) → is_semicolon first.fragment ≡ b → (end : Fragments) × (fragments_in (first ∷ rest) ≡ end ++ fragments_in (after_end b first rest)) × EndPart end × ItemsSound (after_end b first rest)
    go true is = let (token, one_is, role) = semicolon_token first.fragment is in (one token ∷ [], ap (λ (f : SeenFragment). f ∷ fragments_in rest) one_is, an_end token role, h.1)
    go false is = ([], refl, no_end, h)

signature_parts : (found : Listed) (results : Option ResultTree) (trees : List ItemTree) (method : MethodFound) (left : Token) (within : SeenFragments) (right : Token) (all behind given rest end after : Fragments) → method ≡ method_of found results trees → all ≡ group left within right ∷ behind → behind ≡ given ++ rest
    → rest ≡ end ++ after → bracket_of left right ≡ enclosures.Round → ResultsPart results given → EndPart end → apart results rest ≡ true → Derives splittings.Nothing (brackets found) (row within) → Derives splittings.Nothing (a_body trees) after → Derives splittings.Nothing (signature method.found method.results method.trees) all
signature_parts found results trees method left within right all behind given rest end after same parts behind_is rest_is is_round r n a l b =
    subst (λ (m : MethodFound). Derives splittings.Nothing (signature m.found m.results m.trees) all) (sym same)
    (by_signature found results trees left within right given end after all (parts ∙ ap (λ (fs : Fragments). group left within right ∷ fs) (behind_is ∙ ap (λ (fs : Fragments). given ++ fs) rest_is)) is_round r n
    (subst (λ (fs : Fragments). apart results fs ≡ true) rest_is a) l b)

pub method_sound : (list : List Item) (method : MethodFound) → ItemsSound list → method_items list ≡ Some method → Derives splittings.Nothing (signature method.found method.results method.trees) (fragments_in list)
method_sound list method h e =
    let (front, front_is, e1) = then_some method_front (headed list) method e in
    let (found, listed_is, e2) = then_some (method_listed front.rest) front.first.found.listed method e1 in
    let (results, results_are, e3) = then_some (method_with found) (results_front front.rest) method e2 in
    let (trees, read, same) = map_some (method_of found results.results) (body_items splittings.Nothing (without_front results.rest)) method e3 in
    let t = headed_sound list front h front_is in
    let r = results_front_sound front.rest results t.rest_sound results_are in
    let (end, end_parts, end_is, sound) = without_front_sound results.rest r.rest_sound in
    signature_parts found results.results trees method t.opener t.inner t.closer (fragments_in list) (fragments_in front.rest) r.given (fragments_in results.rest) end (fragments_in (without_front results.rest)) same t.parts r.parts end_parts t.is_round r.is end_is r.apart_is
    (t.inside.listed_is found listed_is) (body_sound splittings.Nothing (without_front results.rest) trees sound read)

named_with_sound : (role : Role) (token : Token) (rest : List Item) (found : NamedFound) → named_with role token rest ≡ Some found → (role ≡ roles.Named) × (method : MethodFound) × (method_items rest ≡ Some method) × (found ≡ named_of token method)
named_with_sound roles.Named token rest found e = let (method, read, same) = map_some (named_of token) (method_items rest) found e in (refl, method, read, same)
named_with_sound role token rest found e = absurd cc

named_found : (token : Token) (method : MethodFound) (found : NamedFound) (first : SeenFragment) (after : Fragments) → found ≡ named_of token method → first ≡ one token → role_of token ≡ roles.Named → Derives splittings.Nothing (signature method.found method.results method.trees) after → NamedIs found (first ∷ after)
named_found token method found first after same one_is role h = rw (same, one_is) (after, refl, role, h)

named_at_sound : (fragment same : SeenFragment) (rest : List Item) (found : NamedFound) → fragment ≡ same → ItemsSound rest → named_at same rest ≡ Some found → NamedIs found (fragment ∷ fragments_in rest)
named_at_sound fragment (group opener inner closer) rest found is h e = absurd cc
named_at_sound fragment (one token) rest found is h e =
    let (role, method, read, same) = named_with_sound (role_of token) token rest found e in named_found token method found fragment (fragments_in rest) same is role (method_sound rest method h read)

pub named_sound : (list : List Item) (found : NamedFound) → ItemsSound list → named_items list ≡ Some found → NamedIs found (fragments_in list)
named_sound [] found h e = absurd cc
named_sound (first ∷ rest) found h e = named_at_sound first.fragment first.fragment rest found refl h.1 e

-- Results and parameters are read the same to the limit, whatever stands in the place of trees that are too deep.
use Rattle.std.proofs.Common.{◌≡◌, Bool, true, false, List, [], ◌∷◌, codes, map, Option, Some, None, option_map, option_and_then, refl, ap, ◌∙◌}
use Rattle.dy_tree.specs.declared.token.Token.{Token}
use Rattle.dy_tree.specs.Fragments.{SeenFragment, one, group, SeenFragments, no_fragment, fragment_and}
use Rattle.dy_tree.specs.declared.roles.Role.{Role}
use Rattle.dy_tree.specs.declared.roles.Role.TheVariants as roles
use Rattle.dy_tree.specs.declared.brackets.Bracket.{Bracket}
use Rattle.dy_tree.specs.declared.brackets.Bracket.TheVariants as brackets
use Rattle.dy_tree.specs.declared.splitters.Splitting.TheVariants as splittings
use Rattle.dy_tree.specs.declared.type_words.PartWord.{PartWord}
use Rattle.dy_tree.specs.declared.type_words.PartWord.TheVariants as part_words
use Rattle.dy_rules.specs.Types.{VariableTree, RequiredTree, required_variable, ResultTree, several_results}
use Rattle.dy_rules.specs.Trees.{MaybeTree, Key, KeysTree, Listed}
use Rattle.dy_rules.specs.Roles.{role_of, bracket_of}
use Rattle.dy_rules.specs.Arguments.{is_comma_fragment}
use Rattle.dy_rules.specs.Cutting.{Ending, Found, Item, Piece, Pieces, is_arrow, cut, fragments_in}
use Rattle.dy_rules.specs.TypeReading.{single_in, VariableFront, variable_front, variable_items, marked, name_items}
use Rattle.dy_rules.specs.Reading.{expression_items}
use Rattle.dy_rules.specs.Bodies.{is_equals_at}
use Rattle.dy_rules.specs.Signatures.{rest_variable, give_items, several_given, ResultsFront, results_in_front, given_in, variable_result, results_at, results_behind, results_if, results_front, is_identity_at, single_at, required_if, required_items, initial_of, initial_if, initial_items, key_of, key_with, key_from, key_token, key_at, key_items, keys_of_found, with_key, is_all_keys, keys_end, keys_in, has_keys, bare_of, keys_from, listed_keys, with_next, next_before, with_rest, rest_before, required_before, part_kind, after_next, after_rest, after_required, part_with, part_at, listed_behind, listed_pieces, listed_items}
use Rattle.dy_rules_depth.specs.Changes.{changed_variable, changed_required, changed_results, changed_maybe, changed_key, changed_keys_tree, changed_listed}
use Rattle.dy_rules_depth.specs.ReaderChanges.{changed_given, changed_found, changed_item_of, changed_items, changed_piece, changed_pieces, changed_variable_front, changed_results_front}
use Rattle.dy_rules_depth.specs.Capping.{capped, capping}
use Rattle.dy_rules_depth.proofs.Options.{lifted, option_twice, map_same, then_same}
use Rattle.dy_rules_depth.proofs.Twice.{given_twice, listed_twice, items_twice}
use Rattle.dy_rules_depth.proofs.CutsSame.{fragments_changed, cut_changed, Reads, reads_on, ending_cut_same}
use Rattle.dy_rules_depth.proofs.TypesSame.{marked_kept, names_kept, variable_same, variable_front_same}
use Rattle.dy_rules_depth.proofs.Expressions.{expression_same}

-- results

rest_same : Reads (changed_variable capping) rest_variable
rest_same [] = refl
rest_same (item ∷ rest) = variable_same rest

pub give_same : Reads (changed_given capping) give_items
give_same items = ending_cut_same (changed_variable capping) (changed_variable capping) (marked (codes "#rest")) variable_items rest_variable (marked_kept (codes "#rest")) variable_same rest_same is_comma_fragment false items

pub several_given_same : (given other : Ending VariableTree VariableTree) → changed_given capping given ≡ changed_given capping other → changed_results capping (several_given given) ≡ changed_results capping (several_given other)
several_given_same given other e = ap several_given e

abbrev SameResultsFront : Option ResultsFront → Option ResultsFront → Type 0
SameResultsFront front other = option_map (changed_results_front capping) front ≡ option_map (changed_results_front capping) other

in_front_same : (rest : List Item) (results other : ResultTree) → changed_results capping results ≡ changed_results capping other → changed_results_front capping (results_in_front (changed_items capping rest) results) ≡ changed_results_front capping (results_in_front rest other)
in_front_same rest results other e = cc (items_twice rest)

given_in_same : (bracket : Bracket) (inner : SeenFragments) (found : Found) (rest : List Item) → SameResultsFront (given_in bracket inner (changed_found capping found) (changed_items capping rest)) (given_in bracket inner found rest)
given_in_same brackets.Round no_fragment found rest = ap (λ (items : List Item). Some (results_in_front items (several_results [] None))) (items_twice rest)
given_in_same brackets.Round (fragment_and first others) found rest =
    map_same (changed_results capping) (changed_results_front capping) (results_in_front (changed_items capping rest)) (results_in_front rest) (option_map several_given (option_map (changed_given capping) found.given)) (option_map several_given found.given) (in_front_same rest)
    (map_same (changed_given capping) (changed_results capping) several_given several_given (option_map (changed_given capping) found.given) found.given several_given_same (option_twice (changed_given capping) given_twice found.given))
given_in_same bracket inner found rest = refl

results_at_same : (fragment : SeenFragment) (item : Item) (rest : List Item) → SameResultsFront (results_at fragment (changed_item_of capping item) (changed_items capping rest)) (results_at fragment item rest)
results_at_same (one token) item rest =
    map_same (changed_variable_front capping) (changed_results_front capping) variable_result variable_result (variable_front (changed_items capping (item ∷ rest))) (variable_front (item ∷ rest)) (λ front other e. ap variable_result e) (variable_front_same (item ∷ rest))
results_at_same (group opener inner closer) item rest = given_in_same (bracket_of opener closer) inner item.found rest

results_behind_same : (items : List Item) → SameResultsFront (results_behind (changed_items capping items)) (results_behind items)
results_behind_same [] = refl
results_behind_same (item ∷ rest) = results_at_same item.fragment item rest

results_if_same : (is : Bool) (item : Item) (rest : List Item) → SameResultsFront (results_if is (changed_item_of capping item) (changed_items capping rest)) (results_if is item rest)
results_if_same true item rest = results_behind_same rest
results_if_same false item rest = ap (λ (items : List Item). Some (record { results = None; rest = items })) (items_twice (item ∷ rest))

pub results_front_same : (items : List Item) → SameResultsFront (results_front (changed_items capping items)) (results_front items)
results_front_same [] = refl
results_front_same (item ∷ rest) = results_if_same (is_arrow item.fragment) item rest

-- required parameters

required_if_same : (is : Bool) (first second : Item) (rest : List Item)
    → option_map (changed_required capping) (required_if is (changed_item_of capping first) (changed_item_of capping second) (changed_items capping rest)) ≡ option_map (changed_required capping) (required_if is first second rest)
required_if_same true first second rest = ap (λ (fragments : List SeenFragment). option_map (changed_required capping) (single_at first.fragment (single_in fragments))) (fragments_changed capping rest)
required_if_same false first second rest =
    map_same (changed_variable capping) (changed_required capping) required_variable required_variable (variable_items (changed_items capping (first ∷ second ∷ rest))) (variable_items (first ∷ second ∷ rest)) (λ variable other e. ap required_variable e)
    (variable_same (first ∷ second ∷ rest))

pub required_same : Reads (changed_required capping) required_items
required_same [] = refl
required_same (first ∷ []) =
    map_same (changed_variable capping) (changed_required capping) required_variable required_variable (variable_items (changed_items capping (first ∷ []))) (variable_items (first ∷ [])) (λ variable other e. ap required_variable e) (variable_same (first ∷ []))
required_same (first ∷ second ∷ rest) = required_if_same (is_identity_at second.fragment) first second rest

-- keys

initial_if_same : (is : Bool) → Reads (changed_maybe capping) (initial_if is)
initial_if_same true rest = map_same capped (changed_maybe capping) initial_of initial_of (expression_items splittings.Nothing (changed_items capping rest)) (expression_items splittings.Nothing rest) (λ tree other e. ap initial_of e) (expression_same splittings.Nothing rest)
initial_if_same false rest = refl

pub initial_same : Reads (changed_maybe capping) initial_items
initial_same [] = refl
initial_same (item ∷ rest) = initial_if_same (is_equals_at item.fragment) rest

pub key_of_same : (label : Option Token) (variable other : VariableTree) → changed_variable capping variable ≡ changed_variable capping other → (default more : MaybeTree) → changed_maybe capping default ≡ changed_maybe capping more
    → changed_key capping (key_of label variable default) ≡ changed_key capping (key_of label other more)
key_of_same label variable other e default more f = cc

key_with_same : (label : Option Token) (front other : VariableFront) → changed_variable_front capping front ≡ changed_variable_front capping other → option_map (changed_key capping) (key_with label front) ≡ option_map (changed_key capping) (key_with label other)
key_with_same label front other e =
    map_same (changed_maybe capping) (changed_key capping) (key_of label front.variable) (key_of label other.variable) (initial_items front.rest) (initial_items other.rest)
    (key_of_same label front.variable other.variable (ap (λ (f : VariableFront). f.variable) e)) (reads_on (changed_maybe capping) initial_items initial_same front.rest other.rest (ap (λ (f : VariableFront). f.rest) e))

key_from_same : (label : Option Token) → Reads (changed_key capping) (key_from label)
key_from_same label items = then_same (changed_variable_front capping) (changed_key capping) (key_with label) (key_with label) (variable_front (changed_items capping items)) (variable_front items) (key_with_same label) (variable_front_same items)

key_token_same : (role : Role) (token : Token) (item : Item) (rest : List Item)
    → option_map (changed_key capping) (key_token role token (changed_item_of capping item) (changed_items capping rest)) ≡ option_map (changed_key capping) (key_token role token item rest)
key_token_same roles.Symbol token item rest = key_from_same (Some token) rest
key_token_same role token item rest = key_from_same None (item ∷ rest)

key_at_same : (fragment : SeenFragment) (item : Item) (rest : List Item)
    → option_map (changed_key capping) (key_at fragment (changed_item_of capping item) (changed_items capping rest)) ≡ option_map (changed_key capping) (key_at fragment item rest)
key_at_same (one token) item rest = key_token_same (role_of token) token item rest
key_at_same (group opener inner closer) item rest = refl

pub key_same : Reads (changed_key capping) key_items
key_same [] = refl
key_same (item ∷ rest) = key_at_same item.fragment item rest

abbrev pub SameKeys : Option KeysTree → Option KeysTree → Type 0
SameKeys found other = option_map (changed_keys_tree capping) found ≡ option_map (changed_keys_tree capping) other

pub keys_and_same : (key more : Key) (rest others : KeysTree) → changed_key capping key ≡ changed_key capping more → changed_keys_tree capping rest ≡ changed_keys_tree capping others
    → changed_keys_tree capping (keys_of_found (key ∷ rest.keys) rest.takes_all) ≡ changed_keys_tree capping (keys_of_found (more ∷ others.keys) others.takes_all)
keys_and_same key more rest others e f = cc (ap (λ (k : KeysTree). k.keys) f, ap (λ (k : KeysTree). k.takes_all) f)

pub with_key_same : (key more : Option Key) (rest others : Option KeysTree) → option_map (changed_key capping) key ≡ option_map (changed_key capping) more → SameKeys rest others → SameKeys (with_key key rest) (with_key more others)
with_key_same None None rest others e f = refl
with_key_same (Some key) (Some more) None None e f = refl
with_key_same (Some key) (Some more) (Some rest) (Some others) e f =
    let first : changed_key capping key ≡ changed_key capping more = cc in
    let behind : changed_keys_tree capping rest ≡ changed_keys_tree capping others = cc in
    ap Some (keys_and_same key more rest others first behind)
with_key_same (Some key) (Some more) rest others e f = absurd cc
with_key_same key more rest others e f = absurd cc

keys_end_same : (all : Bool) → Reads (changed_keys_tree capping) (keys_end all)
keys_end_same true items = refl
keys_end_same false items = with_key_same (key_items (changed_items capping items)) (key_items items) (Some (keys_of_found [] false)) (Some (keys_of_found [] false)) (key_same items) refl

last_keys_same : Reads (changed_keys_tree capping) (λ items. keys_end (is_all_keys (fragments_in items)) items)
last_keys_same items =
    ap (λ (fragments : List SeenFragment). option_map (changed_keys_tree capping) (keys_end (is_all_keys fragments) (changed_items capping items))) (fragments_changed capping items) ∙ keys_end_same (is_all_keys (fragments_in items)) items

keys_same : (others : List Piece) → SameKeys (keys_in (map (changed_piece capping) others)) (keys_in others)
keys_same [] = refl
keys_same (piece ∷ []) = last_keys_same piece.items
keys_same (piece ∷ second ∷ others) =
    with_key_same (key_items (changed_items capping piece.items)) (key_items piece.items) (keys_in (map (changed_piece capping) (second ∷ others))) (keys_in (second ∷ others)) (key_same piece.items) (keys_same (second ∷ others))

pub has_keys_same : (keys others : List Key) (found more : KeysTree) → map (changed_key capping) keys ≡ map (changed_key capping) others → changed_keys_tree capping found ≡ changed_keys_tree capping more → SameKeys (has_keys keys found) (has_keys others more)
has_keys_same [] [] found more e f = ap Some f
has_keys_same (first ∷ rest) (next ∷ others) found more e f = refl
has_keys_same keys others found more e f = absurd cc

pub bare_same : (found other : KeysTree) → changed_keys_tree capping found ≡ changed_keys_tree capping other → SameKeys (bare_of found) (bare_of other)
bare_same found other e = has_keys_same found.keys other.keys found other (ap (λ (k : KeysTree). k.keys) e) e

keys_from_same : (items : List Item) (others : List Piece) → SameKeys (keys_from (changed_items capping items) (map (changed_piece capping) others)) (keys_from items others)
keys_from_same [] others = then_same (changed_keys_tree capping) (changed_keys_tree capping) bare_of bare_of (keys_in (map (changed_piece capping) others)) (keys_in others) bare_same (keys_same others)
keys_from_same (item ∷ rest) others =
    with_key_same (key_items (changed_items capping (item ∷ rest))) (key_items (item ∷ rest)) (keys_in (map (changed_piece capping) others)) (keys_in others) (key_same (item ∷ rest)) (keys_same others)

-- parameter lists

abbrev pub SameListed : Option Listed → Option Listed → Type 0
SameListed found other = option_map (changed_listed capping) found ≡ option_map (changed_listed capping) other

with_next_on : (token : Token) (required : List RequiredTree) (next : Option Token) (found other : Listed) → changed_listed capping found ≡ changed_listed capping other
    → SameListed (with_next token (map (changed_required capping) required) next found) (with_next token required next other)
with_next_on token [] None found other e = cc (ap (λ (l : Listed). l.rest) e, ap (λ (l : Listed). l.keys) e)
with_next_on token [] (Some next) found other e = refl
with_next_on token (first ∷ rest) next found other e = refl

pub next_same : (token : Token) (found other : Listed) → changed_listed capping found ≡ changed_listed capping other → SameListed (next_before token found) (next_before token other)
next_same token found other e =
    lifted (changed_listed capping) (option_map (changed_listed capping)) (next_before token) (λ (l : Listed). with_next_on token l.required l.next (changed_listed capping l) l (listed_twice l)) found other e

with_rest_on : (token : Token) (required : List RequiredTree) (next rest : Option Token) (found other : Listed) → changed_listed capping found ≡ changed_listed capping other
    → SameListed (with_rest token (map (changed_required capping) required) next rest found) (with_rest token required next rest other)
with_rest_on token [] None None found other e = cc (ap (λ (l : Listed). l.keys) e)
with_rest_on token [] None (Some rest) found other e = refl
with_rest_on token [] (Some next) rest found other e = refl
with_rest_on token (first ∷ more) next rest found other e = refl

pub rest_before_same : (token : Token) (found other : Listed) → changed_listed capping found ≡ changed_listed capping other → SameListed (rest_before token found) (rest_before token other)
rest_before_same token found other e =
    lifted (changed_listed capping) (option_map (changed_listed capping)) (rest_before token) (λ (l : Listed). with_rest_on token l.required l.next l.rest (changed_listed capping l) l (listed_twice l)) found other e

pub required_before_same : (required more : RequiredTree) → changed_required capping required ≡ changed_required capping more → (found other : Listed) → changed_listed capping found ≡ changed_listed capping other
    → SameListed (required_before required found) (required_before more other)
required_before_same required more e found other f = cc (ap (λ (l : Listed). l.required) f, ap (λ (l : Listed). l.next) f, ap (λ (l : Listed). l.rest) f, ap (λ (l : Listed). l.keys) f)

module _ (found other : Option Listed) (same : SameListed found other) where
  after_next_same : (token next : Token) → token ≡ next → SameListed (after_next found token) (after_next other next)
  after_next_same token next e =
      ap (λ (t : Token). option_map (changed_listed capping) (after_next found t)) e ∙ then_same (changed_listed capping) (changed_listed capping) (next_before next) (next_before next) found other (next_same next) same

  after_rest_same : (token next : Token) → token ≡ next → SameListed (after_rest found token) (after_rest other next)
  after_rest_same token next e =
      ap (λ (t : Token). option_map (changed_listed capping) (after_rest found t)) e ∙ then_same (changed_listed capping) (changed_listed capping) (rest_before next) (rest_before next) found other (rest_before_same next) same

  after_required_same : (required more : RequiredTree) → changed_required capping required ≡ changed_required capping more → SameListed (after_required found required) (after_required other more)
  after_required_same required more e = then_same (changed_listed capping) (changed_listed capping) (required_before required) (required_before more) found other (required_before_same required more e) same

  names_then : (f g : Token → Option Listed) → ((token next : Token) → token ≡ next → SameListed (f token) (g next)) → (items : List Item) → SameListed (option_and_then f (name_items (changed_items capping items))) (option_and_then g (name_items items))
  names_then f g h items = then_same (λ token. token) (changed_listed capping) f g (name_items (changed_items capping items)) (name_items items) h (ap (option_map (λ token. token)) (names_kept items))

  required_then : (items : List Item) → SameListed (option_and_then (after_required found) (required_items (changed_items capping items))) (option_and_then (after_required other) (required_items items))
  required_then items = then_same (changed_required capping) (changed_listed capping) (after_required found) (after_required other) (required_items (changed_items capping items)) (required_items items) after_required_same (required_same items)

  part_with_same : (word : PartWord) (item : Item) (rest : List Item) (others : List Piece) → SameListed (part_with word (changed_item_of capping item) (changed_items capping rest) (map (changed_piece capping) others) found) (part_with word item rest others other)
  part_with_same part_words.Next item rest others = names_then (after_next found) (after_next other) after_next_same (item ∷ rest)
  part_with_same part_words.Rest item rest others = names_then (after_rest found) (after_rest other) after_rest_same (item ∷ rest)
  part_with_same part_words.Key item rest others =
      map_same (changed_keys_tree capping) (changed_listed capping) listed_keys listed_keys (keys_from (changed_items capping rest) (map (changed_piece capping) others)) (keys_from rest others) (λ keys more e. ap listed_keys e) (keys_from_same rest others)
  part_with_same part_words.AllKeys item rest others = required_then (item ∷ rest)
  part_with_same part_words.Absent item rest others = required_then (item ∷ rest)

  part_at_same : (items : List Item) (others : List Piece) → SameListed (part_at (changed_items capping items) (map (changed_piece capping) others) found) (part_at items others other)
  part_at_same [] others = refl
  part_at_same (item ∷ rest) others = part_with_same (part_kind item.fragment) item rest others

listed_behind_same : (others : List Piece) → SameListed (listed_behind (map (changed_piece capping) others)) (listed_behind others)
listed_behind_same [] = refl
listed_behind_same (piece ∷ others) = part_at_same (listed_behind (map (changed_piece capping) others)) (listed_behind others) (listed_behind_same others) piece.items others

listed_pieces_same : (pieces : Pieces) → SameListed (listed_pieces (changed_pieces capping pieces)) (listed_pieces pieces)
listed_pieces_same pieces = part_at_same (listed_behind (map (changed_piece capping) pieces.others)) (listed_behind pieces.others) (listed_behind_same pieces.others) pieces.first pieces.others

pub listed_same : Reads (changed_listed capping) listed_items
listed_same [] = refl
listed_same (item ∷ rest) = ap (λ (pieces : Pieces). option_map (changed_listed capping) (listed_pieces pieces)) (cut_changed capping is_comma_fragment false (item ∷ rest)) ∙ listed_pieces_same (cut is_comma_fragment false (item ∷ rest))

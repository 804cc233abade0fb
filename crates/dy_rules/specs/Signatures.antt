-- Parameter lists, results and the bodies behind them, by functions that compute.
use Rattle.std.specs.Prelude.{Bool, true, false, List, [], ◌∷◌, codes, Option, Some, None}
use Rattle.std.specs.Prelude.{option_map, option_and_then}
use Rattle.dy_tree.specs.declared.token.Token.{Token}
use Rattle.dy_tree.specs.Fragments.{SeenFragment, one, group, SeenFragments, no_fragment}
use Rattle.dy_tree.specs.declared.roles.Role.{Role}
use Rattle.dy_tree.specs.declared.roles.Role.TheVariants as roles
use Rattle.dy_tree.specs.declared.brackets.Bracket.{Bracket}
use Rattle.dy_tree.specs.declared.brackets.Bracket.TheVariants as brackets
use Rattle.dy_tree.specs.declared.splitters.Splitting.TheVariants as splittings
use Rattle.dy_tree.specs.declared.type_words.PartWord.{PartWord}
use Rattle.dy_tree.specs.declared.type_words.PartWord.TheVariants as part_words
use Rattle.dy_rules.specs.Types.{is_identity, Single, VariableTree, RequiredTree, required_variable}
use Rattle.dy_rules.specs.Types.{required_single, ResultTree, several_results, one_result}
use Rattle.dy_rules.specs.Types.{part_word}
use Rattle.dy_rules.specs.Trees.{Tree, MaybeTree, no_tree, some_tree, Key, a_key, KeysTree, Listed}
use Rattle.dy_rules.specs.Trees.{ItemTree}
use Rattle.dy_rules.specs.Roles.{role_of, bracket_of}
use Rattle.dy_rules.specs.Arguments.{is_comma_fragment}
use Rattle.dy_rules.specs.Productions.{list_of}
use Rattle.dy_rules.specs.Cutting.{MethodFound, NamedFound, Ending, Found, Item, Piece, Pieces}
use Rattle.dy_rules.specs.Cutting.{is_semicolon, is_arrow, cut, ending, fragments_in, Front, headed}
use Rattle.dy_rules.specs.TypeReading.{single_in, VariableFront, variable_front, variable_items}
use Rattle.dy_rules.specs.TypeReading.{marked, name_items}
use Rattle.dy_rules.specs.Reading.{expression_items}
use Rattle.dy_rules.specs.Bodies.{is_equals_at, body_items}

-- the results between brackets

abbrev pub rest_variable : List Item → Option VariableTree
rest_variable [] = None
rest_variable (item ∷ rest) = variable_items rest

abbrev pub give_items : List Item → Option (Ending VariableTree VariableTree)
give_items items = ending (marked (codes "#rest")) variable_items rest_variable
    (cut is_comma_fragment false items)

abbrev pub several_given : Ending VariableTree VariableTree → ResultTree
several_given given = several_results given.parts given.last

-- results, and what stands behind them
pub record ResultsFront : Type 0 where
  pub results : Option ResultTree
  pub rest : List Item

abbrev pub results_in_front : List Item → ResultTree → ResultsFront
results_in_front rest results = record { results = Some results; rest = rest }

abbrev pub given_in : Bracket → SeenFragments → Found → List Item → Option ResultsFront
given_in brackets.Round no_fragment found rest =
    Some (results_in_front rest (several_results [] None))
given_in brackets.Round inner found rest =
    option_map (results_in_front rest) (option_map several_given found.given)
given_in _ inner found rest = None

abbrev pub variable_result : VariableFront → ResultsFront
variable_result front = results_in_front front.rest (one_result front.variable)

abbrev pub results_at : SeenFragment → Item → List Item → Option ResultsFront
results_at (one token) item rest = option_map variable_result (variable_front (item ∷ rest))
results_at (group opener inner closer) item rest =
    given_in (bracket_of opener closer) inner item.found rest

abbrev pub results_behind : List Item → Option ResultsFront
results_behind [] = None
results_behind (item ∷ rest) = results_at item.fragment item rest

abbrev pub results_if : Bool → Item → List Item → Option ResultsFront
results_if true item rest = results_behind rest
results_if false item rest = Some (record { results = None; rest = item ∷ rest })

abbrev pub results_front : List Item → Option ResultsFront
results_front [] = Some (record { results = None; rest = [] })
results_front (item ∷ rest) = results_if (is_arrow item.fragment) item rest

-- parameters

abbrev pub is_identity_at : SeenFragment → Bool
is_identity_at (one token) = is_identity token
is_identity_at (group opener inner closer) = false

abbrev pub single_named : Role → Token → Option Single → Option RequiredTree
single_named roles.Named token single = option_map (required_single token) single
single_named _ token single = None

abbrev pub single_at : SeenFragment → Option Single → Option RequiredTree
single_at (one token) single = single_named (role_of token) token single
single_at (group opener inner closer) single = None

abbrev pub required_if : Bool → Item → Item → List Item → Option RequiredTree
required_if true first second rest = single_at first.fragment (single_in (fragments_in rest))
required_if false first second rest =
    option_map required_variable (variable_items (first ∷ second ∷ rest))

abbrev pub required_items : List Item → Option RequiredTree
required_items [] = None
required_items (first ∷ []) = option_map required_variable (variable_items (first ∷ []))
required_items (first ∷ second ∷ rest) =
    required_if (is_identity_at second.fragment) first second rest

abbrev pub initial_of : Tree → MaybeTree
initial_of tree = some_tree tree

abbrev pub initial_if : Bool → List Item → Option MaybeTree
initial_if true rest = option_map initial_of (expression_items splittings.Nothing rest)
initial_if false rest = None

abbrev pub initial_items : List Item → Option MaybeTree
initial_items [] = Some no_tree
initial_items (item ∷ rest) = initial_if (is_equals_at item.fragment) rest

abbrev pub key_of : Option Token → VariableTree → MaybeTree → Key
key_of label variable default = a_key label variable default

abbrev pub key_with : Option Token → VariableFront → Option Key
key_with label front = option_map (key_of label front.variable) (initial_items front.rest)

abbrev pub key_from : Option Token → List Item → Option Key
key_from label items = option_and_then (key_with label) (variable_front items)

abbrev pub key_token : Role → Token → Item → List Item → Option Key
key_token roles.Symbol token item rest = key_from (Some token) rest
key_token _ token item rest = key_from None (item ∷ rest)

abbrev pub key_at : SeenFragment → Item → List Item → Option Key
key_at (one token) item rest = key_token (role_of token) token item rest
key_at (group opener inner closer) item rest = None

abbrev pub key_items : List Item → Option Key
key_items [] = None
key_items (item ∷ rest) = key_at item.fragment item rest

abbrev pub keys_of_found : List Key → Bool → KeysTree
keys_of_found keys takes_all = record { keys = keys; takes_all = takes_all }

abbrev pub with_key : Option Key → Option KeysTree → Option KeysTree
with_key None others = None
with_key (Some key) None = None
with_key (Some key) (Some others) = Some (keys_of_found (key ∷ others.keys) others.takes_all)

abbrev pub is_all_word : PartWord → Bool
is_all_word part_words.AllKeys = true
is_all_word _ = false

-- `#all-keys` alone
abbrev pub is_all_keys : List SeenFragment → Bool
is_all_keys (one mark ∷ []) = is_all_word (part_word mark)
is_all_keys _ = false

abbrev pub keys_end : Bool → List Item → Option KeysTree
keys_end true items = Some (keys_of_found [] true)
keys_end false items = with_key (key_items items) (Some (keys_of_found [] false))

-- the keys behind commas
abbrev pub keys_in : List Piece → Option KeysTree
keys_in [] = Some (keys_of_found [] false)
keys_in (piece ∷ []) = keys_end (is_all_keys (fragments_in piece.items)) piece.items
keys_in (piece ∷ second ∷ others) = with_key (key_items piece.items) (keys_in (second ∷ others))

abbrev pub has_keys : List Key → KeysTree → Option KeysTree
has_keys [] found = Some found
has_keys (first ∷ rest) found = None

abbrev pub bare_of : KeysTree → Option KeysTree
bare_of found = has_keys found.keys found

-- the keys behind `#key`, with the first items of them
abbrev pub keys_from : List Item → List Piece → Option KeysTree
keys_from [] others = option_and_then bare_of (keys_in others)
keys_from (item ∷ rest) others = with_key (key_items (item ∷ rest)) (keys_in others)

abbrev pub listed_keys : KeysTree → Listed
listed_keys keys = list_of [] None None (Some keys)

abbrev pub with_next : Token → List RequiredTree → Option Token → Listed → Option Listed
with_next token [] None found = Some (list_of [] (Some token) found.rest found.keys)
with_next token _ _ found = None

abbrev pub next_before : Token → Listed → Option Listed
next_before token found = with_next token found.required found.next found

abbrev pub with_rest : Token → List RequiredTree → Option Token → Option Token → Listed
    → Option Listed
with_rest token [] None None found = Some (list_of [] None (Some token) found.keys)
with_rest token _ _ _ found = None

abbrev pub rest_before : Token → Listed → Option Listed
rest_before token found = with_rest token found.required found.next found.rest found

abbrev pub required_before : RequiredTree → Listed → Option Listed
required_before required found =
    Some (list_of (required ∷ found.required) found.next found.rest found.keys)

-- how a part begins
abbrev pub part_kind : SeenFragment → PartWord
part_kind (one token) = part_word token
part_kind (group opener inner closer) = part_words.Absent

abbrev pub no_list : Listed
no_list = list_of [] None None None

-- the token of `#next` or `#rest` in front of these
abbrev pub after_next : Option Listed → Token → Option Listed
after_next found token = option_and_then (next_before token) found

abbrev pub after_rest : Option Listed → Token → Option Listed
after_rest found token = option_and_then (rest_before token) found

abbrev pub after_required : Option Listed → RequiredTree → Option Listed
after_required found required = option_and_then (required_before required) found

abbrev pub part_with : PartWord → Item → List Item → List Piece → Option Listed → Option Listed
part_with part_words.Next item rest others found =
    option_and_then (after_next found) (name_items (item ∷ rest))
part_with part_words.Rest item rest others found =
    option_and_then (after_rest found) (name_items (item ∷ rest))
part_with part_words.Key item rest others found = option_map listed_keys (keys_from rest others)
part_with _ item rest others found =
    option_and_then (after_required found) (required_items (item ∷ rest))

abbrev pub part_at : List Item → List Piece → Option Listed → Option Listed
part_at [] others found = None
part_at (item ∷ rest) others found = part_with (part_kind item.fragment) item rest others found

-- the parts behind commas
abbrev pub listed_behind : List Piece → Option Listed
listed_behind [] = Some no_list
listed_behind (piece ∷ others) = part_at piece.items others (listed_behind others)

abbrev pub listed_pieces : Pieces → Option Listed
listed_pieces pieces = part_at pieces.first pieces.others (listed_behind pieces.others)

-- what stands between the brackets of a parameter list
abbrev pub listed_items : List Item → Option Listed
listed_items [] = Some no_list
listed_items (item ∷ rest) = listed_pieces (cut is_comma_fragment false (item ∷ rest))

-- without a semicolon at the front
abbrev pub after_end : Bool → Item → List Item → List Item
after_end true item rest = rest
after_end false item rest = item ∷ rest

abbrev pub without_front : List Item → List Item
without_front [] = []
without_front (item ∷ rest) = after_end (is_semicolon item.fragment) item rest

abbrev pub method_of : Listed → Option ResultTree → List ItemTree → MethodFound
method_of found results trees = record { found = found; results = results; trees = trees }

abbrev pub method_with : Listed → ResultsFront → Option MethodFound
method_with found front =
    option_map (method_of found front.results)
    (body_items splittings.Nothing (without_front front.rest))

abbrev pub method_listed : List Item → Listed → Option MethodFound
method_listed rest found = option_and_then (method_with found) (results_front rest)

abbrev pub method_front : Front → Option MethodFound
method_front front = option_and_then (method_listed front.rest) front.first.found.listed

-- parameters, results and a body
abbrev pub method_items : List Item → Option MethodFound
method_items items = option_and_then method_front (headed items)

abbrev pub named_of : Token → MethodFound → NamedFound
named_of token method = record { token = token; method = method }

abbrev pub named_with : Role → Token → List Item → Option NamedFound
named_with roles.Named token rest = option_map (named_of token) (method_items rest)
named_with _ token rest = None

abbrev pub named_at : SeenFragment → List Item → Option NamedFound
named_at (one token) rest = named_with (role_of token) token rest
named_at (group opener inner closer) rest = None

-- the same behind a name
abbrev pub named_items : List Item → Option NamedFound
named_items [] = None
named_items (item ∷ rest) = named_at item.fragment rest

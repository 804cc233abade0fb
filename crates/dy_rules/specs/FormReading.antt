-- The forms that fragments stand for, by functions that compute.
use Rattle.std.specs.Prelude.{Bool, true, false, List, [], ◌∷◌, Option, Some, None, option_map}
use Rattle.std.specs.Prelude.{option_and_then}
use Rattle.dy_tree.specs.declared.token.Token.{Token}
use Rattle.dy_tree.specs.Fragments.{SeenFragment, one, group, SeenFragments, row}
use Rattle.dy_tree.specs.declared.roles.Role.{Role}
use Rattle.dy_tree.specs.declared.roles.Role.TheVariants as roles
use Rattle.dy_tree.specs.declared.brackets.Keyword.TheVariants as keywords
use Rattle.dy_tree.specs.declared.brackets.Bracket.{Bracket}
use Rattle.dy_tree.specs.declared.brackets.Bracket.TheVariants as brackets
use Rattle.dy_tree.specs.declared.splitters.Splitting.TheVariants as splittings
use Rattle.dy_tree.specs.declared.definition_words.DefineWord.{DefineWord}
use Rattle.dy_tree.specs.declared.definition_words.DefineWord.TheVariants as define_words
use Rattle.dy_tree.specs.declared.definition_words.OptionWord.{OptionWord}
use Rattle.dy_tree.specs.declared.definition_words.OptionWord.TheVariants as option_words
use Rattle.dy_rules.specs.Trees.{Tree, MaybeTree, Listed, parameters_of, body_of}
use Rattle.dy_rules.specs.Roles.{role_of, bracket_of}
use Rattle.dy_rules.specs.Tests.{if_passes}
use Rattle.dy_rules.specs.Types.{TypeTree, VariableTree, TargetTree}
use Rattle.dy_rules.specs.Arguments.{is_comma, is_comma_fragment}
use Rattle.dy_rules.specs.Cutting.{NamedFound, Item, Piece, Pieces, is_semicolon, cut, each_other}
use Rattle.dy_rules.specs.Cutting.{with_others, Sides, first_cut, fragments_in, Front, headed}
use Rattle.dy_rules.specs.TypeReading.{VariableFront, variable_front, target_items}
use Rattle.dy_rules.specs.Reading.{expression_items}
use Rattle.dy_rules.specs.Bodies.{is_equals_at}
use Rattle.dy_rules.specs.Signatures.{ResultsFront, results_front, initial_items, named_items}
use Rattle.dy_rules.specs.Fragments.{items_in, items_of, expression_of}
use Rattle.dy_rules.specs.Definitions.{define_word_of, is_definition_word, suit_class}
use Rattle.dy_rules.specs.Definitions.{suit_function, suit_method, suit_generic, suit_domain}
use Rattle.dy_rules.specs.Definitions.{suit_binding, suit_slot, is_slot_word, option_word}
use Rattle.dy_rules.specs.Definitions.{is_setter}
use Rattle.dy_rules.specs.Forms.{SlotOption, init_keyword, required_init_keyword, init_value}
use Rattle.dy_rules.specs.Forms.{init_function, setter, SlotTree, is_consistent, no_defaults}
use Rattle.dy_rules.specs.Forms.{FormTree, expression_form, class_form, constant_form}
use Rattle.dy_rules.specs.Forms.{variable_form, generic_form, method_form, function_form}
use Rattle.dy_rules.specs.Forms.{domain_form}

-- the words in front of the first one that the test finds, that one, and what stands behind it
pub record WordsFront : Type 0 where
  pub adjectives : List Token
  pub token : Token
  pub rest : List Item

abbrev pub with_adjective : Token → WordsFront → WordsFront
with_adjective token front =
    record { adjectives = token ∷ front.adjectives; token = front.token; rest = front.rest }

abbrev pub word_if : Bool → Token → List Item → Option WordsFront → Option WordsFront
word_if true token rest found = Some (record { adjectives = []; token = token; rest = rest })
word_if false token rest found = option_map (with_adjective token) found

abbrev pub word_at : (Token → Bool) → SeenFragment → List Item → Option WordsFront
    → Option WordsFront
word_at is (one token) rest found = word_if (is token) token rest found
word_at is (group opener inner closer) rest found = None

abbrev pub words_front : (Token → Bool) → List Item → Option WordsFront
words_front is [] = None
words_front is (item ∷ rest) = word_at is item.fragment rest (words_front is rest)

abbrev pub with_name : Role → Token → Option (List Token) → Option (List Token)
with_name roles.Named token others = option_map (λ names. token ∷ names) others
with_name _ token others = None

abbrev pub names_behind : Bool → Option (List Token) → Option (List Token)
names_behind true others = others
names_behind false others = None

abbrev pub names_in : List SeenFragment → Option (List Token)
names_in (one token ∷ []) = with_name (role_of token) token (Some [])
names_in (one token ∷ one separator ∷ rest) =
    with_name (role_of token) token (names_behind (is_comma (role_of separator)) (names_in rest))
names_in _ = None

abbrev pub symbol_of : Role → Token → Option Token
symbol_of roles.Symbol token = Some token
symbol_of _ token = None

abbrev pub symbol_in : List SeenFragment → Option Token
symbol_in (one token ∷ []) = symbol_of (role_of token) token
symbol_in _ = None

abbrev pub setter_if : Bool → Token → Option SlotOption
setter_if true token = Some (setter token)
setter_if false token = None

abbrev pub setter_in : List SeenFragment → Option SlotOption
setter_in (one token ∷ []) = setter_if (is_setter token) token
setter_in _ = None

abbrev pub keyword_of : Token → SlotOption
keyword_of token = init_keyword token

abbrev pub required_of : Token → SlotOption
required_of token = required_init_keyword token

abbrev pub value_of : Tree → SlotOption
value_of tree = init_value tree

abbrev pub function_of : Tree → SlotOption
function_of tree = init_function tree

abbrev pub option_by : OptionWord → List Item → Option SlotOption
option_by option_words.Keyword rest = option_map keyword_of (symbol_in (fragments_in rest))
option_by option_words.Required rest = option_map required_of (symbol_in (fragments_in rest))
option_by option_words.Value rest = option_map value_of (expression_items splittings.Nothing rest)
option_by option_words.Function rest =
    option_map function_of (expression_items splittings.Nothing rest)
option_by option_words.Setter rest = setter_in (fragments_in rest)
option_by _ rest = None

abbrev pub option_at : SeenFragment → List Item → Option SlotOption
option_at (one token) rest = option_by (option_word token) rest
option_at (group opener inner closer) rest = None

abbrev pub option_items : List Item → Option SlotOption
option_items [] = None
option_items (item ∷ rest) = option_at item.fragment rest

abbrev pub slot_of : List Token → List SlotOption → VariableTree → MaybeTree → SlotTree
slot_of adjectives options variable default =
    record { adjectives = adjectives; variable = variable; default = default; options = options }

abbrev pub slot_variable : List Token → List SlotOption → VariableFront → Option SlotTree
slot_variable adjectives options front =
    option_map (slot_of adjectives options front.variable) (initial_items front.rest)

abbrev pub slot_if : Bool → WordsFront → List SlotOption → Option SlotTree
slot_if true front options =
    option_and_then (slot_variable front.adjectives options) (variable_front front.rest)
slot_if false front options = None

abbrev pub slot_words : WordsFront → List SlotOption → Option SlotTree
slot_words front options = slot_if (suit_slot front.adjectives) front options

abbrev pub slot_front : Option (List SlotOption) → WordsFront → Option SlotTree
slot_front options front = option_and_then (slot_words front) options

abbrev pub slot_pieces : Pieces → Option SlotTree
slot_pieces pieces = option_and_then (slot_front (each_other option_items pieces.others))
    (words_front is_slot_word pieces.first)

abbrev pub slot_items : List Item → Option SlotTree
slot_items items = option_and_then (if_passes is_consistent)
    (slot_pieces (cut is_comma_fragment false items))

-- slots with a semicolon behind each
abbrev pub slots_from : List Item → List Piece → Option (List SlotTree)
slots_from [] [] = Some []
slots_from (item ∷ rest) [] = None
slots_from first (piece ∷ others) = with_others (slot_items first) (slots_from piece.items others)

abbrev pub slots_pieces : Pieces → Option (List SlotTree)
slots_pieces pieces = slots_from pieces.first pieces.others

abbrev pub slots_items : List Item → Option (List SlotTree)
slots_items items = slots_pieces (cut is_semicolon false items)

abbrev pub class_of : Token → List Token → Token → List Token → List SlotTree → FormTree
class_of define adjectives token superclasses slots =
    class_form define adjectives token superclasses slots

abbrev pub names_inside : SeenFragment → Option (List Token)
names_inside (one token) = None
names_inside (group opener inner closer) = names_in (row inner)

abbrev pub class_with : Token → List Token → Token → List Item → List Token → Option FormTree
class_with define adjectives token rest superclasses =
    option_map (class_of define adjectives token superclasses) (slots_items rest)

abbrev pub class_headed : Token → List Token → Token → Front → Option FormTree
class_headed define adjectives token front =
    option_and_then (class_with define adjectives token front.rest)
    (names_inside front.first.fragment)

abbrev pub class_named : Role → Token → List Token → Token → List Item → Option FormTree
class_named roles.Named define adjectives token rest =
    option_and_then (class_headed define adjectives token) (headed rest)
class_named _ define adjectives token rest = None

abbrev pub class_at : Token → List Token → SeenFragment → List Item → Option FormTree
class_at define adjectives (one token) rest =
    class_named (role_of token) define adjectives token rest
class_at define adjectives (group opener inner closer) rest = None

abbrev pub class_items : Token → List Token → List Item → Option FormTree
class_items define adjectives [] = None
class_items define adjectives (item ∷ rest) = class_at define adjectives item.fragment rest

abbrev pub method_of_form : Token → List Token → Token → NamedFound → FormTree
method_of_form define adjectives word entry =
    method_form define adjectives word entry.token
    (parameters_of entry.method.found entry.method.results) (body_of entry.method.trees)

abbrev pub function_of_form : Token → List Token → NamedFound → FormTree
function_of_form define adjectives entry =
    function_form define adjectives entry.token
    (parameters_of entry.method.found entry.method.results) (body_of entry.method.trees)

abbrev pub if_suits : Bool → Option FormTree → Option FormTree
if_suits true found = found
if_suits false found = None

abbrev pub ended_by : DefineWord → Token → List Token → Token → List Item → Option FormTree
ended_by define_words.Class define adjectives word rest =
    if_suits (suit_class adjectives) (class_items define adjectives rest)
ended_by define_words.Method define adjectives word rest =
    if_suits (suit_method adjectives)
    (option_map (method_of_form define adjectives word) (named_items rest))
ended_by define_words.Function define adjectives word rest =
    if_suits (suit_function adjectives)
    (option_map (function_of_form define adjectives) (named_items rest))
ended_by _ define adjectives word rest = None

-- a definition with an `end`
abbrev pub ended_definition : Token → WordsFront → Option FormTree
ended_definition define front =
    ended_by (define_word_of front.token) define front.adjectives front.token front.rest

abbrev pub constant_of_form : Token → TargetTree → Tree → FormTree
constant_of_form define target assigned = constant_form define target assigned

abbrev pub variable_of_form : Token → TargetTree → Tree → FormTree
variable_of_form define target assigned = variable_form define target assigned

abbrev pub bound_with : (TargetTree → Tree → FormTree) → List Item → TargetTree → Option FormTree
bound_with form after target = option_map (form target) (expression_items splittings.Nothing after)

abbrev pub bound_sides : (TargetTree → Tree → FormTree) → Sides → Option FormTree
bound_sides form sides = option_and_then (bound_with form sides.after) (target_items sides.before)

abbrev pub bound_items_of : (TargetTree → Tree → FormTree) → List Item → Option FormTree
bound_items_of form rest = option_and_then (bound_sides form) (first_cut is_equals_at rest)

abbrev pub generic_of : Token → List Token → Token → Listed → ResultsFront → FormTree
generic_of define adjectives token found front =
    generic_form define adjectives token (parameters_of found front.results)

abbrev pub generic_end : Token → List Token → Token → Listed → ResultsFront → List Item
    → Option FormTree
generic_end define adjectives token found front [] =
    Some (generic_of define adjectives token found front)
generic_end define adjectives token found front (item ∷ rest) = None

abbrev pub generic_results : Token → List Token → Token → Listed → ResultsFront → Option FormTree
generic_results define adjectives token found front =
    generic_end define adjectives token found front front.rest

abbrev pub generic_if : Bool → Token → List Token → Token → List Item → Listed → Option FormTree
generic_if true define adjectives token rest found =
    option_and_then (generic_results define adjectives token found) (results_front rest)
generic_if false define adjectives token rest found = None

abbrev pub generic_listed : Token → List Token → Token → List Item → Listed → Option FormTree
generic_listed define adjectives token rest found =
    generic_if (no_defaults found.keys) define adjectives token rest found

abbrev pub generic_headed : Token → List Token → Token → Front → Option FormTree
generic_headed define adjectives token front =
    option_and_then (generic_listed define adjectives token front.rest) front.first.found.listed

abbrev pub generic_named : Role → Token → List Token → Token → List Item → Option FormTree
generic_named roles.Named define adjectives token rest =
    option_and_then (generic_headed define adjectives token) (headed rest)
generic_named _ define adjectives token rest = None

abbrev pub generic_at : Token → List Token → SeenFragment → List Item → Option FormTree
generic_at define adjectives (one token) rest =
    generic_named (role_of token) define adjectives token rest
generic_at define adjectives (group opener inner closer) rest = None

abbrev pub generic_items : Token → List Token → List Item → Option FormTree
generic_items define adjectives [] = None
generic_items define adjectives (item ∷ rest) = generic_at define adjectives item.fragment rest

abbrev pub domain_of : Token → Token → List TypeTree → FormTree
domain_of define token types = domain_form define token types

abbrev pub domain_end : Token → Token → Item → List Item → Option FormTree
domain_end define token first [] = option_map (domain_of define token) first.found.types
domain_end define token first (item ∷ rest) = None

abbrev pub domain_headed : Token → Token → Front → Option FormTree
domain_headed define token front = domain_end define token front.first front.rest

abbrev pub domain_named : Role → Token → Token → List Item → Option FormTree
domain_named roles.Named define token rest =
    option_and_then (domain_headed define token) (headed rest)
domain_named _ define token rest = None

abbrev pub domain_at : Token → SeenFragment → List Item → Option FormTree
domain_at define (one token) rest = domain_named (role_of token) define token rest
domain_at define (group opener inner closer) rest = None

abbrev pub domain_items : Token → List Item → Option FormTree
domain_items define [] = None
domain_items define (item ∷ rest) = domain_at define item.fragment rest

abbrev pub flat_by : DefineWord → Token → List Token → List Item → Option FormTree
flat_by define_words.Constant define adjectives rest =
    if_suits (suit_binding adjectives) (bound_items_of (constant_of_form define) rest)
flat_by define_words.Variable define adjectives rest =
    if_suits (suit_binding adjectives) (bound_items_of (variable_of_form define) rest)
flat_by define_words.Generic define adjectives rest =
    if_suits (suit_generic adjectives) (generic_items define adjectives rest)
flat_by define_words.Domain define adjectives rest =
    if_suits (suit_domain adjectives) (domain_items define rest)
flat_by _ define adjectives rest = None

-- a definition without an `end`
abbrev pub flat_definition : Token → WordsFront → Option FormTree
flat_definition define front =
    flat_by (define_word_of front.token) define front.adjectives front.rest

-- how a form begins
pub data FormFront : Type 0 where
  expression_front : FormFront
  group_front : (define : Token) (inner : SeenFragments) → FormFront
  flat_front : (define : Token) (rest : List SeenFragment) → FormFront

abbrev pub front_of_group : Bracket → Token → SeenFragments → FormFront
front_of_group (brackets.Statement keywords.Define) opener inner = group_front opener inner
front_of_group _ opener inner = expression_front

abbrev pub front_of_token : Role → Token → List SeenFragment → FormFront
front_of_token roles.Defines token rest = flat_front token rest
front_of_token _ token rest = expression_front

abbrev pub form_front : List SeenFragment → FormFront
form_front (group opener inner closer ∷ []) = front_of_group (bracket_of opener closer) opener inner
form_front (one token ∷ rest) = front_of_token (role_of token) token rest
form_front _ = expression_front

abbrev pub expression_of_form : Tree → FormTree
expression_of_form tree = expression_form tree

abbrev pub form_by : FormFront → List SeenFragment → Option FormTree
form_by expression_front fragments =
    option_map expression_of_form (expression_of splittings.Nothing fragments)
form_by (group_front define inner) fragments =
    option_and_then (ended_definition define) (words_front is_definition_word (items_in inner))
form_by (flat_front define rest) fragments =
    option_and_then (flat_definition define) (words_front is_definition_word (items_of rest))

-- the form that fragments stand for, if there is one
abbrev pub form_of : List SeenFragment → Option FormTree
form_of fragments = form_by (form_front fragments) fragments

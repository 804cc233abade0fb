-- What is read as a form is one.
use Rattle.std.proofs.Common.{◌≡◌, Bool, true, false, List, [], ◌∷◌, ◌++◌, map, Option, Some, None, option_map, option_and_then, refl, sym, ap, subst, ◌∙◌}
use Rattle.std.proofs.lemmas.List.{append-nil}
use Rattle.dy_tree.specs.declared.token.Token.{Token}
use Rattle.dy_tree.specs.Fragments.{SeenFragment, one, group, SeenFragments, row}
use Rattle.dy_tree.specs.declared.roles.Role.{Role}
use Rattle.dy_tree.specs.declared.roles.Role.TheVariants as roles
use Rattle.dy_tree.specs.declared.brackets.Keyword.TheVariants as keywords
use Rattle.dy_tree.specs.declared.brackets.Bracket.{Bracket}
use Rattle.dy_tree.specs.declared.brackets.Bracket.TheVariants as brackets
use Rattle.dy_tree.specs.declared.splitters.Splitting.TheVariants as splittings
use Rattle.dy_tree.specs.declared.definition_words.DefineWord.{DefineWord}
use Rattle.dy_tree.specs.declared.definition_words.DefineWord.TheVariants as define_words
use Rattle.dy_tree.specs.declared.definition_words.OptionWord.{OptionWord}
use Rattle.dy_tree.specs.declared.definition_words.OptionWord.TheVariants as option_words
use Rattle.dy_rules.specs.Trees.{Tree, MaybeTree, Listed}
use Rattle.dy_rules.specs.Roles.{role_of, bracket_of}
use Rattle.dy_rules.specs.Types.{is_equals, TypeTree, VariableTree, IsVariable, TargetTree, IsTarget}
use Rattle.dy_rules.specs.Arguments.{is_comma, is_comma_fragment}
use Rattle.dy_rules.specs.Productions.{Derives, expression, initial}
use Rattle.dy_rules.specs.Cutting.{Item, Piece, Pieces, is_semicolon, cut, each_other, first_cut, fragments_in, headed}
use Rattle.dy_rules.specs.TypeReading.{variable_front, target_items}
use Rattle.dy_rules.specs.Reading.{expression_items}
use Rattle.dy_rules.specs.Bodies.{is_equals_at}
use Rattle.dy_rules.specs.Signatures.{ResultsFront, results_front, initial_items, named_items}
use Rattle.dy_rules.specs.Fragments.{items_in, items_of, expression_of}
use Rattle.dy_rules.specs.Definitions.{define_word_of, is_definition_word, is_sealed, suit_class, suit_function, suit_method, suit_generic, suit_domain, suit_binding, suit_slot, is_slot_word, option_word, is_setter}
use Rattle.dy_rules.specs.Forms.{AreNames, one_name, more_names, SlotOption, IsOption, by_keyword, by_required_keyword, by_value, by_init_function, by_setter, AreOptions, no_option, option_and, SlotTree, is_consistent, IsSlot, a_slot, AreSlots, no_slot, slot_and, no_defaults, FormTree, IsForm, by_expression, by_class, by_method, by_function, by_constant, by_variable, by_generic, by_domain}
use Rattle.dy_rules.specs.FormReading.{WordsFront, word_if, word_at, words_front, with_name, names_behind, names_in, symbol_of, symbol_in, setter_if, setter_in, keyword_of, required_of, value_of, function_of, option_by, option_at, option_items, slot_of, slot_variable, slot_if, slot_words, slot_front, slot_pieces, slot_items, slots_from, slots_items, class_of, names_inside, class_with, class_headed, class_named, class_at, class_items, method_of_form, function_of_form, if_suits, ended_by, ended_definition, constant_of_form, variable_of_form, bound_with, bound_sides, bound_items_of, generic_of, generic_end, generic_results, generic_if, generic_listed, generic_headed, generic_named, generic_at, generic_items, domain_of, domain_end, domain_headed, domain_named, domain_at, domain_items, flat_by, flat_definition, front_of_group, front_of_token, expression_of_form, form_by, form_of}
use Rattle.dy_rules.proofs.Lists.{some_one, map_some, then_some, passes_sound, fragments_row, fragments_back}
use Rattle.dy_rules.proofs.Sound.{ItemsSound, expression_sound}
use Rattle.dy_rules.proofs.Cuts.{with_both, behind_in, Separates, cut_sound, first_cut_sound}
use Rattle.dy_rules.proofs.TypeSound.{comma_is, variable_front_sound, target_sound}
use Rattle.dy_rules.proofs.BodySound.{semicolon_token, equals_token}
use Rattle.dy_rules.proofs.HeadSound.{headed_sound}
use Rattle.dy_rules.proofs.SignatureSound.{results_front_sound, initial_sound, named_sound}
use Rattle.dy_rules.proofs.FragmentsSound.{items_sound, inner_sound}

abbrev Fragments : Type 0
Fragments = List SeenFragment

-- words, and the first that was looked for
record WordsAre (is : Token → Bool) (items : List Item) (front : WordsFront) : Type 0 where
  pub parts : fragments_in items ≡ map one front.adjectives ++ one front.token ∷ fragments_in front.rest
  pub found : is front.token ≡ true
  pub rest_sound : ItemsSound front.rest

word_if_sound : (is : Token → Bool) (b : Bool) (token : Token) (first : Item) (rest : List Item) (found : Option WordsFront) (front : WordsFront) → is token ≡ b → first.fragment ≡ one token → ItemsSound rest → ((inner : WordsFront) → found ≡ Some inner → WordsAre is rest inner) → word_if b token rest found ≡ Some front
    → WordsAre is (first ∷ rest) front
word_if_sound is true token first rest found front e one_is h more f = rw (← some_one _ _ f) (record { parts = ap (λ (x : SeenFragment). x ∷ fragments_in rest) one_is; found = e; rest_sound = h })
word_if_sound is false token first rest None front e one_is h more f = absurd cc
word_if_sound is false token first rest (Some inner) front e one_is h more f =
    let w = more inner refl in
    rw (← some_one _ _ f) (record { parts = ap (λ (x : SeenFragment). x ∷ fragments_in rest) one_is ∙ ap (λ (fs : Fragments). one token ∷ fs) w.parts; found = w.found; rest_sound = w.rest_sound })

word_at_sound : (is : Token → Bool) (fragment : SeenFragment) (first : Item) (rest : List Item) (found : Option WordsFront) (front : WordsFront) → first.fragment ≡ fragment → ItemsSound rest → ((inner : WordsFront) → found ≡ Some inner → WordsAre is rest inner) → word_at is fragment rest found ≡ Some front
    → WordsAre is (first ∷ rest) front
word_at_sound is (one token) first rest found front one_is h more f = word_if_sound is (is token) token first rest found front refl one_is h more f
word_at_sound is (group opener inner closer) first rest found front one_is h more f = absurd cc

words_sound : (is : Token → Bool) (items : List Item) (front : WordsFront) → ItemsSound items → words_front is items ≡ Some front → WordsAre is items front
words_sound is [] front h e = absurd cc
words_sound is (first ∷ rest) front (h, k) e = word_at_sound is first.fragment first rest (words_front is rest) front refl k (λ inner f. words_sound is rest inner k f) e

with_name_sound : (role : Role) (token : Token) (others : Option (List Token)) (names : List Token) → with_name role token others ≡ Some names → (role ≡ roles.Named) × (rest : List Token) × (others ≡ Some rest) × (names ≡ token ∷ rest)
with_name_sound roles.Named token others names e = let (rest, read, same) = map_some (λ (ns : List Token). token ∷ ns) others names e in (refl, rest, read, same)
with_name_sound role token others names e = absurd cc

names_behind_sound : (is : Bool) (others : Option (List Token)) (names : List Token) → names_behind is others ≡ Some names → (is ≡ true) × (others ≡ Some names)
names_behind_sound true others names e = (refl, e)
names_behind_sound false others names e = absurd cc

one_name_of : (token : Token) (rest names : List Token) → names ≡ token ∷ rest → [] ≡ rest → role_of token ≡ roles.Named → AreNames names (one token ∷ [])
one_name_of token rest names same none is = rw (same, ← none) (one_name token is)

names_sound : (fragments : Fragments) (names : List Token) → names_in fragments ≡ Some names → AreNames names fragments
names_sound [] names e = absurd cc
names_sound (group opener inner closer ∷ rest) names e = absurd cc
names_sound (one token ∷ []) names e =
    let (role, rest, read, same) = with_name_sound (role_of token) token (Some []) names e in one_name_of token rest names same (some_one _ _ read) role
names_sound (one token ∷ group opener inner closer ∷ rest) names e = absurd cc
names_sound (one token ∷ one separator ∷ rest) names e =
    let (role, others, read, same) = with_name_sound (role_of token) token (names_behind (is_comma (role_of separator)) (names_in rest)) names e in
    let (is, found) = names_behind_sound (is_comma (role_of separator)) (names_in rest) others read in
    subst (λ (ns : List Token). AreNames ns (one token ∷ one separator ∷ rest)) (sym same) (more_names token separator others rest role (comma_is (role_of separator) is) (names_sound rest others found))

symbol_of_sound : (role : Role) (token found : Token) → symbol_of role token ≡ Some found → (role ≡ roles.Symbol) × (token ≡ found)
symbol_of_sound roles.Symbol token found e = (refl, some_one token found e)
symbol_of_sound role token found e = absurd cc

symbol_sound : (fragments : Fragments) (found : Token) → symbol_in fragments ≡ Some found → (fragments ≡ one found ∷ []) × (role_of found ≡ roles.Symbol)
symbol_sound [] found e = absurd cc
symbol_sound (group opener inner closer ∷ rest) found e = absurd cc
symbol_sound (one token ∷ second ∷ rest) found e = absurd cc
symbol_sound (one token ∷ []) found e = let (role, same) = symbol_of_sound (role_of token) token found e in (ap (λ (t : Token). one t ∷ []) same, ap role_of (sym same) ∙ role)

setter_if_sound : (is : Bool) (token : Token) (option : SlotOption) → is_setter token ≡ is → setter_if is token ≡ Some option → (is_setter token ≡ true) × (setter_if true token ≡ Some option)
setter_if_sound true token option is e = (is, e)
setter_if_sound false token option is e = absurd cc

setter_of : (word : Token) (fragments : Fragments) (option : SlotOption) → option_word word ≡ option_words.Setter → setter_in fragments ≡ Some option → IsOption option (one word ∷ fragments)
setter_of word [] option is e = absurd cc
setter_of word (group opener inner closer ∷ rest) option is e = absurd cc
setter_of word (one token ∷ second ∷ rest) option is e = absurd cc
setter_of word (one token ∷ []) option is e =
    let (sets, f) = setter_if_sound (is_setter token) token option refl e in subst (λ (o : SlotOption). IsOption o (one word ∷ one token ∷ [])) (some_one _ _ f) (by_setter word token is sets)

keyword_parts : (word found : Token) (option : SlotOption) (rest : Fragments) → option ≡ keyword_of found → rest ≡ one found ∷ [] → option_word word ≡ option_words.Keyword → role_of found ≡ roles.Symbol → IsOption option (one word ∷ rest)
keyword_parts word found option rest same parts is role = rw (same, parts) (by_keyword word found is role)

required_parts : (word found : Token) (option : SlotOption) (rest : Fragments) → option ≡ required_of found → rest ≡ one found ∷ [] → option_word word ≡ option_words.Required → role_of found ≡ roles.Symbol → IsOption option (one word ∷ rest)
required_parts word found option rest same parts is role = rw (same, parts) (by_required_keyword word found is role)

option_by_sound : (by : OptionWord) (word : Token) (rest : List Item) (option : SlotOption) → option_word word ≡ by → ItemsSound rest → option_by by rest ≡ Some option → IsOption option (one word ∷ fragments_in rest)
option_by_sound option_words.Keyword word rest option is h e =
    let (found, read, same) = map_some keyword_of (symbol_in (fragments_in rest)) option e in
    let (parts, role) = symbol_sound (fragments_in rest) found read in keyword_parts word found option (fragments_in rest) same parts is role
option_by_sound option_words.Required word rest option is h e =
    let (found, read, same) = map_some required_of (symbol_in (fragments_in rest)) option e in
    let (parts, role) = symbol_sound (fragments_in rest) found read in required_parts word found option (fragments_in rest) same parts is role
option_by_sound option_words.Value word rest option is h e =
    let (tree, read, same) = map_some value_of (expression_items splittings.Nothing rest) option e in
    subst (λ (o : SlotOption). IsOption o (one word ∷ fragments_in rest)) (sym same) (by_value word tree (fragments_in rest) is (expression_sound splittings.Nothing rest tree h read))
option_by_sound option_words.Function word rest option is h e =
    let (tree, read, same) = map_some function_of (expression_items splittings.Nothing rest) option e in
    subst (λ (o : SlotOption). IsOption o (one word ∷ fragments_in rest)) (sym same) (by_init_function word tree (fragments_in rest) is (expression_sound splittings.Nothing rest tree h read))
option_by_sound option_words.Setter word rest option is h e = setter_of word (fragments_in rest) option is e
option_by_sound by word rest option is h e = absurd cc

option_at_sound : (fragment : SeenFragment) (first : Item) (rest : List Item) (option : SlotOption) → first.fragment ≡ fragment → ItemsSound rest → option_at fragment rest ≡ Some option → IsOption option (fragments_in (first ∷ rest))
option_at_sound (group opener inner closer) first rest option is h e = absurd cc
option_at_sound (one word) first rest option is h e = subst (λ (f : SeenFragment). IsOption option (f ∷ fragments_in rest)) (sym is) (option_by_sound (option_word word) word rest option refl h e)

option_sound : (list : List Item) (option : SlotOption) → ItemsSound list → option_items list ≡ Some option → IsOption option (fragments_in list)
option_sound [] option h e = absurd cc
option_sound (first ∷ rest) option (h, k) e = option_at_sound first.fragment first rest option refl k e

option_and_of : (separator : SeenFragment) (first : SlotOption) (others all : List SlotOption) (before after : Fragments) → all ≡ first ∷ others → is_comma_fragment separator ≡ true → IsOption first before → AreOptions others after → AreOptions all (separator ∷ (before ++ after))
option_and_of (one token) first others all before after same e h k = rw same (option_and token first others before after _ refl (comma_is (role_of token) e) h k)
option_and_of (group opener inner closer) first others all before after same e h k = absurd cc

options_sound : (others : List Piece) (options : List SlotOption) → Separates is_comma_fragment others → each_other option_items others ≡ Some options → AreOptions options (behind_in others)
options_sound [] options h e = subst (λ (o : List SlotOption). AreOptions o []) (some_one _ _ e) no_option
options_sound (piece ∷ others) options (is, h, k) e =
    let (first, rest, read, more, same) = with_both (option_items piece.items) (each_other option_items others) options e in
    option_and_of piece.separator first rest options (fragments_in piece.items) (behind_in others) same is (option_sound piece.items first h read) (options_sound others rest k more)

slot_if_sound : (is : Bool) (front : WordsFront) (options : List SlotOption) (slot : SlotTree) → slot_if is front options ≡ Some slot → (is ≡ true) × (option_and_then (slot_variable front.adjectives options) (variable_front front.rest) ≡ Some slot)
slot_if_sound true front options slot e = (refl, e)
slot_if_sound false front options slot e = absurd cc

slot_parts : (adjectives : List Token) (word : Token) (variable : VariableTree) (default : MaybeTree) (options : List SlotOption) (slot : SlotTree) (first rest before middle after : Fragments) → slot ≡ slot_of adjectives options variable default → first ≡ map one adjectives ++ one word ∷ rest → rest ≡ before ++ middle
    → suit_slot adjectives ≡ true → is_slot_word word ≡ true → IsVariable variable before → Derives splittings.Nothing (initial default) middle → AreOptions options after → is_consistent slot ≡ true → IsSlot slot (first ++ after)
slot_parts adjectives word variable default options slot first rest before middle after same parts rest_is suits is v d o consistent =
    let made : SlotTree = slot_of adjectives options variable default in
    subst (λ (s : SlotTree). IsSlot s (first ++ after)) (sym same)
    (a_slot made word before middle after (first ++ after) (ap (λ (fs : Fragments). fs ++ after) (parts ∙ ap (λ (fs : Fragments). map one adjectives ++ one word ∷ fs) rest_is)) suits is v d o (ap is_consistent (sym same) ∙ consistent))

slot_sound : (list : List Item) (slot : SlotTree) → ItemsSound list → slot_items list ≡ Some slot → IsSlot slot (fragments_in list)
slot_sound list slot h e =
    let pieces : Pieces = cut is_comma_fragment false list in
    let c = cut_sound is_comma_fragment false list h in
    let (found, consistent) = passes_sound is_consistent (slot_pieces pieces) slot e in
    let (front, read, e1) = then_some (slot_front (each_other option_items pieces.others)) (words_front is_slot_word pieces.first) slot found in
    let (options, options_are, e2) = then_some (slot_words front) (each_other option_items pieces.others) slot e1 in
    let (suits, e3) = slot_if_sound (suit_slot front.adjectives) front options slot e2 in
    let (variable, variable_is, e4) = then_some (slot_variable front.adjectives options) (variable_front front.rest) slot e3 in
    let (default, default_is, same) = map_some (slot_of front.adjectives options variable.variable) (initial_items variable.rest) slot e4 in
    let w = words_sound is_slot_word pieces.first front c.first_sound read in
    let v = variable_front_sound front.rest variable w.rest_sound variable_is in
    subst (IsSlot slot) c.same
    (slot_parts front.adjectives front.token variable.variable default options slot (fragments_in pieces.first) (fragments_in front.rest) v.before (fragments_in variable.rest) (behind_in pieces.others) same w.parts v.parts suits w.found v.is (initial_sound variable.rest default v.rest_sound default_is)
    (options_sound pieces.others options c.others_sound options_are) consistent)

slot_and_of : (separator : SeenFragment) (first : SlotTree) (others all : List SlotTree) (before after : Fragments) → all ≡ first ∷ others → is_semicolon separator ≡ true → IsSlot first before → AreSlots others after → AreSlots all (before ++ separator ∷ after)
slot_and_of separator first others all before after same e h k =
    let (token, one_is, role) = semicolon_token separator e in
    subst (λ (ss : List SlotTree). AreSlots ss (before ++ separator ∷ after)) (sym same) (slot_and first others token before after (before ++ separator ∷ after) (ap (λ (f : SeenFragment). before ++ f ∷ after) one_is) role h k)

slots_from_sound : (first : List Item) (others : List Piece) (slots : List SlotTree) → ItemsSound first → Separates is_semicolon others → slots_from first others ≡ Some slots → AreSlots slots (fragments_in first ++ behind_in others)
slots_from_sound [] [] slots h k e = subst (λ (ss : List SlotTree). AreSlots ss []) (some_one _ _ e) no_slot
slots_from_sound (item ∷ rest) [] slots h k e = absurd cc
slots_from_sound [] (piece ∷ others) slots h (is, m, k) e =
    let (slot, more, read, more_are, same) = with_both (slot_items []) (slots_from piece.items others) slots e in
    slot_and_of piece.separator slot more slots [] (fragments_in piece.items ++ behind_in others) same is (slot_sound [] slot h read) (slots_from_sound piece.items others more m k more_are)
slots_from_sound (item ∷ rest) (piece ∷ others) slots h (is, m, k) e =
    let (slot, more, read, more_are, same) = with_both (slot_items (item ∷ rest)) (slots_from piece.items others) slots e in
    slot_and_of piece.separator slot more slots (fragments_in (item ∷ rest)) (fragments_in piece.items ++ behind_in others) same is (slot_sound (item ∷ rest) slot h read) (slots_from_sound piece.items others more m k more_are)

slots_sound : (list : List Item) (slots : List SlotTree) → ItemsSound list → slots_items list ≡ Some slots → AreSlots slots (fragments_in list)
slots_sound list slots h e =
    let c = cut_sound is_semicolon false list h in subst (AreSlots slots) c.same (slots_from_sound (cut is_semicolon false list).first (cut is_semicolon false list).others slots c.first_sound c.others_sound e)

if_suits_sound : (is : Bool) (found : Option FormTree) (form : FormTree) → if_suits is found ≡ Some form → (is ≡ true) × (found ≡ Some form)
if_suits_sound true found form e = (refl, e)
if_suits_sound false found form e = absurd cc

names_inside_sound : (fragment : SeenFragment) (opener : Token) (inner : SeenFragments) (closer : Token) (names : List Token) → fragment ≡ group opener inner closer → names_inside fragment ≡ Some names → AreNames names (row inner)
names_inside_sound fragment opener inner closer names is e = names_sound (row inner) names (sym (ap names_inside is) ∙ e)

class_named_sound : (role : Role) (define : Token) (adjectives : List Token) (token : Token) (rest : List Item) (form : FormTree) → class_named role define adjectives token rest ≡ Some form → (role ≡ roles.Named) × (option_and_then (class_headed define adjectives token) (headed rest) ≡ Some form)
class_named_sound roles.Named define adjectives token rest form e = (refl, e)
class_named_sound role define adjectives token rest form e = absurd cc

class_at_sound : (define closer word : Token) (adjectives : List Token) (inner : SeenFragments) (same : SeenFragment) (first : Item) (rest : List Item) (form : FormTree) → bracket_of define closer ≡ brackets.Statement keywords.Define → row inner ≡ map one adjectives ++ one word ∷ fragments_in (first ∷ rest)
    → define_word_of word ≡ define_words.Class → suit_class adjectives ≡ true → first.fragment ≡ same → ItemsSound rest → class_at define adjectives same rest ≡ Some form → IsForm form (group define inner closer ∷ [])
class_at_sound define closer word adjectives inner (group opener within right) first rest form is parts class suits one_is h e = absurd cc
class_at_sound define closer word adjectives inner (one token) first rest form is parts class suits one_is h e =
    let (role, e1) = class_named_sound (role_of token) define adjectives token rest form e in
    let (front, front_is, e2) = then_some (class_headed define adjectives token) (headed rest) form e1 in
    let t = headed_sound rest front h front_is in
    let (names, names_are, e3) = then_some (class_with define adjectives token front.rest) (names_inside front.first.fragment) form e2 in
    let (slots, slots_are, same) = map_some (class_of define adjectives token names) (slots_items front.rest) form e3 in
    subst (λ (f : FormTree). IsForm f (group define inner closer ∷ [])) (sym same)
    (by_class define closer word token adjectives names slots inner t.opener t.inner t.closer (fragments_in front.rest) is
    (parts ∙ ap (λ (f : SeenFragment). map one adjectives ++ one word ∷ f ∷ fragments_in rest) one_is ∙ ap (λ (fs : Fragments). map one adjectives ++ one word ∷ one token ∷ fs) t.parts) class suits role t.is_round
    (names_inside_sound front.first.fragment t.opener t.inner t.closer names t.first_is names_are) (slots_sound front.rest slots t.rest_sound slots_are))

class_sound : (define closer word : Token) (adjectives : List Token) (inner : SeenFragments) (rest : List Item) (form : FormTree) → bracket_of define closer ≡ brackets.Statement keywords.Define → row inner ≡ map one adjectives ++ one word ∷ fragments_in rest → define_word_of word ≡ define_words.Class → suit_class adjectives ≡ true
    → ItemsSound rest → class_items define adjectives rest ≡ Some form → IsForm form (group define inner closer ∷ [])
class_sound define closer word adjectives inner [] form is parts class suits h e = absurd cc
class_sound define closer word adjectives inner (first ∷ rest) form is parts class suits (h, k) e = class_at_sound define closer word adjectives inner first.fragment first rest form is parts class suits refl k e

ended_sound : (by : DefineWord) (define closer word : Token) (adjectives : List Token) (inner : SeenFragments) (rest : List Item) (form : FormTree) → define_word_of word ≡ by → bracket_of define closer ≡ brackets.Statement keywords.Define → row inner ≡ map one adjectives ++ one word ∷ fragments_in rest → ItemsSound rest
    → ended_by by define adjectives word rest ≡ Some form → IsForm form (group define inner closer ∷ [])
ended_sound define_words.Class define closer word adjectives inner rest form is bracket parts h e =
    let (suits, e1) = if_suits_sound (suit_class adjectives) (class_items define adjectives rest) form e in class_sound define closer word adjectives inner rest form bracket parts is suits h e1
ended_sound define_words.Method define closer word adjectives inner rest form is bracket parts h e =
    let (suits, e1) = if_suits_sound (suit_method adjectives) (option_map (method_of_form define adjectives word) (named_items rest)) form e in
    let (found, read, same) = map_some (method_of_form define adjectives word) (named_items rest) form e1 in
    let (after, after_is, role, s) = named_sound rest found h read in
    subst (λ (f : FormTree). IsForm f (group define inner closer ∷ [])) (sym same)
    (by_method define closer word found.token adjectives found.method.found found.method.results found.method.trees inner after bracket (parts ∙ ap (λ (fs : Fragments). map one adjectives ++ one word ∷ fs) after_is) is suits role s)
ended_sound define_words.Function define closer word adjectives inner rest form is bracket parts h e =
    let (suits, e1) = if_suits_sound (suit_function adjectives) (option_map (function_of_form define adjectives) (named_items rest)) form e in
    let (found, read, same) = map_some (function_of_form define adjectives) (named_items rest) form e1 in
    let (after, after_is, role, s) = named_sound rest found h read in
    subst (λ (f : FormTree). IsForm f (group define inner closer ∷ [])) (sym same)
    (by_function define closer word found.token adjectives found.method.found found.method.results found.method.trees inner after bracket (parts ∙ ap (λ (fs : Fragments). map one adjectives ++ one word ∷ fs) after_is) is suits role s)
ended_sound by define closer word adjectives inner rest form is bracket parts h e = absurd cc

suits_nothing : (adjectives : List Token) → suit_binding adjectives ≡ true → adjectives ≡ []
suits_nothing [] e = refl
suits_nothing (first ∷ rest) e = absurd cc

-- what is bound, and its value
abbrev BoundIs : (TargetTree → Tree → FormTree) → FormTree → Fragments → Type 0
BoundIs form found fragments =
    (target : TargetTree) × (assigned : Tree) × (equals : Token) × (before : Fragments) × (after : Fragments) × (found ≡ form target assigned) × (fragments ≡ before ++ one equals ∷ after) × (is_equals equals ≡ true) × IsTarget target before × Derives splittings.Nothing (expression assigned) after

bound_sound : (form : TargetTree → Tree → FormTree) (rest : List Item) (found : FormTree) → ItemsSound rest → bound_items_of form rest ≡ Some found → BoundIs form found (fragments_in rest)
bound_sound form rest found h e =
    let (sides, read, e1) = then_some (bound_sides form) (first_cut is_equals_at rest) found e in
    let (target, target_is, e2) = then_some (bound_with form sides.after) (target_items sides.before) found e1 in
    let (assigned, assigned_is, same) = map_some (form target) (expression_items splittings.Nothing sides.after) found e2 in
    let s = first_cut_sound is_equals_at rest sides h read in
    let (equals, one_is, is) = equals_token s.separator s.is in (
      target,
      assigned,
      equals,
      fragments_in sides.before,
      fragments_in sides.after,
      same,
      s.parts ∙ ap (λ (f : SeenFragment). fragments_in sides.before ++ f ∷ fragments_in sides.after) one_is,
      is,
      target_sound sides.before target s.before_sound target_is,
      expression_sound splittings.Nothing sides.after assigned s.after_sound assigned_is,
    )

constant_found : (define word : Token) (adjectives : List Token) (form : FormTree) (all rest : Fragments) → adjectives ≡ [] → all ≡ one define ∷ (map one adjectives ++ one word ∷ rest) → role_of define ≡ roles.Defines → define_word_of word ≡ define_words.Constant → BoundIs (constant_of_form define) form rest → IsForm form all
constant_found define word adjectives form all rest none parts role is (target, assigned, equals, before, after, same, rest_is, equal, t, d) =
    subst (λ (f : FormTree). IsForm f all) (sym same)
    (by_constant define word equals target assigned before after all (parts ∙ ap (λ (ads : List Token). one define ∷ (map one ads ++ one word ∷ rest)) none ∙ ap (λ (fs : Fragments). one define ∷ one word ∷ fs) rest_is) role is equal t d)

variable_found : (define word : Token) (adjectives : List Token) (form : FormTree) (all rest : Fragments) → adjectives ≡ [] → all ≡ one define ∷ (map one adjectives ++ one word ∷ rest) → role_of define ≡ roles.Defines → define_word_of word ≡ define_words.Variable → BoundIs (variable_of_form define) form rest → IsForm form all
variable_found define word adjectives form all rest none parts role is (target, assigned, equals, before, after, same, rest_is, equal, t, d) =
    subst (λ (f : FormTree). IsForm f all) (sym same)
    (by_variable define word equals target assigned before after all (parts ∙ ap (λ (ads : List Token). one define ∷ (map one ads ++ one word ∷ rest)) none ∙ ap (λ (fs : Fragments). one define ∷ one word ∷ fs) rest_is) role is equal t d)

generic_named_sound : (role : Role) (define : Token) (adjectives : List Token) (token : Token) (rest : List Item) (form : FormTree) → generic_named role define adjectives token rest ≡ Some form → (role ≡ roles.Named) × (option_and_then (generic_headed define adjectives token) (headed rest) ≡ Some form)
generic_named_sound roles.Named define adjectives token rest form e = (refl, e)
generic_named_sound role define adjectives token rest form e = absurd cc

generic_if_sound : (is : Bool) (define : Token) (adjectives : List Token) (token : Token) (rest : List Item) (found : Listed) (form : FormTree) → generic_if is define adjectives token rest found ≡ Some form → (is ≡ true) × (option_and_then (generic_results define adjectives token found) (results_front rest) ≡ Some form)
generic_if_sound true define adjectives token rest found form e = (refl, e)
generic_if_sound false define adjectives token rest found form e = absurd cc

generic_end_sound : (define : Token) (adjectives : List Token) (token : Token) (found : Listed) (front : ResultsFront) (rest : List Item) (form : FormTree) → generic_end define adjectives token found front rest ≡ Some form → (rest ≡ []) × (form ≡ generic_of define adjectives token found front)
generic_end_sound define adjectives token found front [] form e = (refl, sym (some_one _ _ e))
generic_end_sound define adjectives token found front (item ∷ rest) form e = absurd cc

generic_at_sound : (define word : Token) (adjectives : List Token) (same : SeenFragment) (first : Item) (rest : List Item) (form : FormTree) (all : Fragments) → all ≡ one define ∷ (map one adjectives ++ one word ∷ fragments_in (first ∷ rest)) → role_of define ≡ roles.Defines → define_word_of word ≡ define_words.Generic
    → suit_generic adjectives ≡ true → first.fragment ≡ same → ItemsSound rest → generic_at define adjectives same rest ≡ Some form → IsForm form all
generic_at_sound define word adjectives (group opener inner closer) first rest form all parts role is suits one_is h e = absurd cc
generic_at_sound define word adjectives (one token) first rest form all parts role is suits one_is h e =
    let (named_role, e1) = generic_named_sound (role_of token) define adjectives token rest form e in
    let (front, front_is, e2) = then_some (generic_headed define adjectives token) (headed rest) form e1 in
    let t = headed_sound rest front h front_is in
    let (found, found_is, e3) = then_some (generic_listed define adjectives token front.rest) front.first.found.listed form e2 in
    let (plain_keys, e4) = generic_if_sound (no_defaults found.keys) define adjectives token front.rest found form e3 in
    let (results, results_are, e5) = then_some (generic_results define adjectives token found) (results_front front.rest) form e4 in
    let (none, same) = generic_end_sound define adjectives token found results results.rest form e5 in
    let r = results_front_sound front.rest results t.rest_sound results_are in
    let given_is : fragments_in front.rest ≡ r.given = r.parts ∙ ap (λ (items : List Item). r.given ++ fragments_in items) none ∙ append-nil r.given in
    subst (λ (f : FormTree). IsForm f all) (sym same)
    (by_generic define word token adjectives found results.results t.opener t.inner t.closer r.given all
    (parts ∙ ap (λ (f : SeenFragment). one define ∷ (map one adjectives ++ one word ∷ f ∷ fragments_in rest)) one_is ∙ ap (λ (fs : Fragments). one define ∷ (map one adjectives ++ one word ∷ one token ∷ fs)) (t.parts ∙ ap (λ (fs : Fragments). group t.opener t.inner t.closer ∷ fs) given_is)) role is suits named_role t.is_round
    plain_keys (t.inside.listed_is found found_is) r.is)

generic_sound : (define word : Token) (adjectives : List Token) (rest : List Item) (form : FormTree) (all : Fragments) → all ≡ one define ∷ (map one adjectives ++ one word ∷ fragments_in rest) → role_of define ≡ roles.Defines → define_word_of word ≡ define_words.Generic → suit_generic adjectives ≡ true → ItemsSound rest
    → generic_items define adjectives rest ≡ Some form → IsForm form all
generic_sound define word adjectives [] form all parts role is suits h e = absurd cc
generic_sound define word adjectives (first ∷ rest) form all parts role is suits (h, k) e = generic_at_sound define word adjectives first.fragment first rest form all parts role is suits refl k e

domain_named_sound : (role : Role) (define token : Token) (rest : List Item) (form : FormTree) → domain_named role define token rest ≡ Some form → (role ≡ roles.Named) × (option_and_then (domain_headed define token) (headed rest) ≡ Some form)
domain_named_sound roles.Named define token rest form e = (refl, e)
domain_named_sound role define token rest form e = absurd cc

domain_end_sound : (define token : Token) (first : Item) (rest : List Item) (form : FormTree) → domain_end define token first rest ≡ Some form → (rest ≡ []) × (types : List TypeTree) × (first.found.types ≡ Some types) × (form ≡ domain_of define token types)
domain_end_sound define token first [] form e = let (types, read, same) = map_some (domain_of define token) first.found.types form e in (refl, types, read, same)
domain_end_sound define token first (item ∷ rest) form e = absurd cc

sealed_is : (word : DefineWord) → is_sealed word ≡ true → word ≡ define_words.Sealed
sealed_is define_words.Sealed e = refl
sealed_is word e = absurd cc

suits_sealed : (adjectives : List Token) → suit_domain adjectives ≡ true → (adjective : Token) × (adjectives ≡ adjective ∷ []) × (define_word_of adjective ≡ define_words.Sealed)
suits_sealed [] e = absurd cc
suits_sealed (first ∷ []) e = (first, refl, sealed_is (define_word_of first) e)
suits_sealed (first ∷ second ∷ rest) e = absurd cc

domain_at_sound : (define word : Token) (adjectives : List Token) (same : SeenFragment) (first : Item) (rest : List Item) (form : FormTree) (all : Fragments) → all ≡ one define ∷ (map one adjectives ++ one word ∷ fragments_in (first ∷ rest)) → role_of define ≡ roles.Defines → define_word_of word ≡ define_words.Domain
    → suit_domain adjectives ≡ true → first.fragment ≡ same → ItemsSound rest → domain_at define same rest ≡ Some form → IsForm form all
domain_at_sound define word adjectives (group opener inner closer) first rest form all parts role is suits one_is h e = absurd cc
domain_at_sound define word adjectives (one token) first rest form all parts role is suits one_is h e =
    let (named_role, e1) = domain_named_sound (role_of token) define token rest form e in
    let (front, front_is, e2) = then_some (domain_headed define token) (headed rest) form e1 in
    let t = headed_sound rest front h front_is in
    let (none, types, types_are, same) = domain_end_sound define token front.first front.rest form e2 in
    let (adjective, alone, sealed) = suits_sealed adjectives suits in
    let all_is : all ≡ one define ∷ one adjective ∷ one word ∷ one token ∷ group t.opener t.inner t.closer ∷ [] =
    parts ∙ ap (λ (ads : List Token). one define ∷ (map one ads ++ one word ∷ fragments_in (first ∷ rest))) alone ∙ ap (λ (f : SeenFragment). one define ∷ one adjective ∷ one word ∷ f ∷ fragments_in rest) one_is
    ∙ ap (λ (fs : Fragments). one define ∷ one adjective ∷ one word ∷ one token ∷ fs) (t.parts ∙ ap (λ (items : List Item). group t.opener t.inner t.closer ∷ fragments_in items) none) in
    subst (λ (f : FormTree). IsForm f all) (sym same)
    (subst (IsForm (domain_of define token types)) (sym all_is) (by_domain define adjective word token t.opener t.inner t.closer types role sealed is named_role t.is_round (t.inside.types_are types types_are)))

domain_sound : (define word : Token) (adjectives : List Token) (rest : List Item) (form : FormTree) (all : Fragments) → all ≡ one define ∷ (map one adjectives ++ one word ∷ fragments_in rest) → role_of define ≡ roles.Defines → define_word_of word ≡ define_words.Domain → suit_domain adjectives ≡ true → ItemsSound rest
    → domain_items define rest ≡ Some form → IsForm form all
domain_sound define word adjectives [] form all parts role is suits h e = absurd cc
domain_sound define word adjectives (first ∷ rest) form all parts role is suits (h, k) e = domain_at_sound define word adjectives first.fragment first rest form all parts role is suits refl k e

flat_sound : (by : DefineWord) (define word : Token) (adjectives : List Token) (rest : List Item) (form : FormTree) (all : Fragments) → define_word_of word ≡ by → all ≡ one define ∷ (map one adjectives ++ one word ∷ fragments_in rest) → role_of define ≡ roles.Defines → ItemsSound rest → flat_by by define adjectives rest ≡ Some form
    → IsForm form all
flat_sound define_words.Constant define word adjectives rest form all is parts role h e =
    let (suits, e1) = if_suits_sound (suit_binding adjectives) (bound_items_of (constant_of_form define) rest) form e in constant_found define word adjectives form all (fragments_in rest) (suits_nothing adjectives suits) parts role is (bound_sound (constant_of_form define) rest form h e1)
flat_sound define_words.Variable define word adjectives rest form all is parts role h e =
    let (suits, e1) = if_suits_sound (suit_binding adjectives) (bound_items_of (variable_of_form define) rest) form e in variable_found define word adjectives form all (fragments_in rest) (suits_nothing adjectives suits) parts role is (bound_sound (variable_of_form define) rest form h e1)
flat_sound define_words.Generic define word adjectives rest form all is parts role h e =
    let (suits, e1) = if_suits_sound (suit_generic adjectives) (generic_items define adjectives rest) form e in generic_sound define word adjectives rest form all parts role is suits h e1
flat_sound define_words.Domain define word adjectives rest form all is parts role h e =
    let (suits, e1) = if_suits_sound (suit_domain adjectives) (domain_items define rest) form e in domain_sound define word adjectives rest form all parts role is suits h e1
flat_sound by define word adjectives rest form all is parts role h e = absurd cc

group_form_sound : (define closer : Token) (inner : SeenFragments) (form : FormTree) → bracket_of define closer ≡ brackets.Statement keywords.Define → option_and_then (ended_definition define) (words_front is_definition_word (items_in inner)) ≡ Some form → IsForm form (group define inner closer ∷ [])
group_form_sound define closer inner form is e =
    let (front, read, e1) = then_some (ended_definition define) (words_front is_definition_word (items_in inner)) form e in
    let w = words_sound is_definition_word (items_in inner) front (inner_sound inner) read in
    ended_sound (define_word_of front.token) define closer front.token front.adjectives inner front.rest form refl is (sym (fragments_row inner) ∙ w.parts) w.rest_sound e1

flat_form_sound : (define : Token) (rest : Fragments) (form : FormTree) → role_of define ≡ roles.Defines → option_and_then (flat_definition define) (words_front is_definition_word (items_of rest)) ≡ Some form → IsForm form (one define ∷ rest)
flat_form_sound define rest form role e =
    let (front, read, e1) = then_some (flat_definition define) (words_front is_definition_word (items_of rest)) form e in
    let w = words_sound is_definition_word (items_of rest) front (items_sound rest) read in
    flat_sound (define_word_of front.token) define front.token front.adjectives front.rest form (one define ∷ rest) refl (ap (λ (fs : Fragments). one define ∷ fs) (sym (fragments_back rest) ∙ w.parts)) role w.rest_sound e1

expression_form_sound : (fragments : Fragments) (form : FormTree) → option_map expression_of_form (expression_of splittings.Nothing fragments) ≡ Some form → IsForm form fragments
expression_form_sound fragments form e =
    let (tree, read, same) = map_some expression_of_form (expression_of splittings.Nothing fragments) form e in
    subst (λ (f : FormTree). IsForm f fragments) (sym same) (by_expression tree fragments (subst (Derives splittings.Nothing (expression tree)) (fragments_back fragments) (expression_sound splittings.Nothing (items_of fragments) tree (items_sound fragments) read)))

group_at_sound : (bracket : Bracket) (opener : Token) (inner : SeenFragments) (closer : Token) (form : FormTree) → bracket_of opener closer ≡ bracket → form_by (front_of_group bracket opener inner) (group opener inner closer ∷ []) ≡ Some form → IsForm form (group opener inner closer ∷ [])
group_at_sound (brackets.Statement keywords.Define) opener inner closer form is e = group_form_sound opener closer inner form is e
group_at_sound bracket opener inner closer form is e = expression_form_sound (group opener inner closer ∷ []) form e

token_at_sound : (role : Role) (token : Token) (rest : Fragments) (form : FormTree) → role_of token ≡ role → form_by (front_of_token role token rest) (one token ∷ rest) ≡ Some form → IsForm form (one token ∷ rest)
token_at_sound roles.Defines token rest form is e = flat_form_sound token rest form is e
token_at_sound role token rest form is e = expression_form_sound (one token ∷ rest) form e

pub form_sound : (fragments : Fragments) (form : FormTree) → form_of fragments ≡ Some form → IsForm form fragments
form_sound [] form e = expression_form_sound [] form e
form_sound (group opener inner closer ∷ []) form e = group_at_sound (bracket_of opener closer) opener inner closer form refl e
form_sound (group opener inner closer ∷ second ∷ rest) form e = expression_form_sound (group opener inner closer ∷ second ∷ rest) form e
form_sound (one token ∷ rest) form e = token_at_sound (role_of token) token rest form refl e

-- What is a form is read as one.
use Rattle.std.proofs.Common.{◌≡◌, ◌⊎◌, inl, inr, Bool, true, false, not, ◌&&◌, ◌||◌, codes, List, [], ◌∷◌, ◌++◌, map, Option, Some, None, option_map, option_and_then, refl, sym, ap, subst, ◌∙◌}
use Rattle.std.proofs.lemmas.List.{append-nil}
use Rattle.dy_tree.specs.declared.token.Token.{Token}
use Rattle.dy_tree.specs.Fragments.{SeenFragment, one, group, SeenFragments, row}
use Rattle.dy_tree.specs.declared.roles.Role.{Role}
use Rattle.dy_tree.specs.declared.roles.Role.TheVariants as roles
use Rattle.dy_tree.specs.declared.brackets.Keyword.TheVariants as keywords
use Rattle.dy_tree.specs.declared.brackets.Bracket.{Bracket}
use Rattle.dy_tree.specs.declared.brackets.Bracket.TheVariants as enclosures
use Rattle.dy_tree.specs.declared.splitters.Splitting.TheVariants as splittings
use Rattle.dy_tree.specs.declared.definition_words.DefineWord.{DefineWord}
use Rattle.dy_tree.specs.declared.definition_words.DefineWord.TheVariants as define_words
use Rattle.dy_tree.specs.declared.definition_words.SlotWord.{SlotWord}
use Rattle.dy_tree.specs.declared.definition_words.SlotWord.TheVariants as slot_fronts
use Rattle.dy_tree.specs.declared.definition_words.OptionWord.{OptionWord}
use Rattle.dy_tree.specs.declared.definition_words.OptionWord.TheVariants as option_words
use Rattle.dy_tree.specs.Spelling.{is_spelled}
use Rattle.dy_rules.specs.Trees.{Tree, MaybeTree, Listed, parameters_of, ItemTree}
use Rattle.dy_rules.specs.Roles.{role_of, bracket_of}
use Rattle.dy_rules.specs.Tests.{only_if, if_passes}
use Rattle.dy_rules.specs.Types.{is_equals, TypeTree, some_types, IsType, VariableTree, IsVariable, TargetTree, IsTarget, ResultTree, ResultsPart, apart, variable_apart, takes_brackets, several_results, one_result}
use Rattle.dy_rules.specs.Arguments.{is_comma, is_comma_fragment}
use Rattle.dy_rules.specs.Productions.{Derives, expression, initial, brackets, signature, no_initial, by_initial}
use Rattle.dy_rules.specs.Cutting.{Item, Piece, Pieces, is_semicolon_role, is_semicolon, is_let, cut, each_other, with_others, Sides, fragments_in, Front, headed}
use Rattle.dy_rules.specs.TypeReading.{VariableFront, variable_front, types_items}
use Rattle.dy_rules.specs.Reading.{State, whole, wants, tree_of, expression_items, at_operand, group_at_operand}
use Rattle.dy_rules.specs.Bodies.{is_equals_at}
use Rattle.dy_rules.specs.Signatures.{ResultsFront, results_front, named_items, listed_items, named_of, method_of, method_items, named_with}
use Rattle.dy_rules.specs.Fragments.{items_in, items_of, expression_of, tree_inside}
use Rattle.dy_rules.specs.Definitions.{define_word_of, is_definition, is_definition_word, all_are, is_class_adjective, is_open, is_sealed, is_inlining, suit_class, suit_function, suit_method, suit_generic, slot_word_of, is_slot, is_slot_word, is_constant_slot, is_allocation, suit_slot, option_word, setter_by, is_setter}
use Rattle.dy_rules.specs.Forms.{AreNames, one_name, more_names, SlotOption, IsOption, by_keyword, by_required_keyword, by_value, by_init_function, by_setter, AreOptions, no_option, option_and, SlotTree, is_consistent, IsSlot, a_slot, AreSlots, no_slot, slot_and, no_defaults, FormTree, class_form, generic_form, domain_form, IsForm, by_expression, by_class, by_method, by_function, by_constant, by_variable, by_generic, by_domain}
use Rattle.dy_rules.specs.FormReading.{WordsFront, with_adjective, word_if, words_front, with_name, names_behind, names_in, symbol_in, setter_if, keyword_of, required_of, value_of, function_of, option_by, option_items, slot_of, slot_variable, slot_if, slot_words, slot_front, slot_pieces, slot_items, slots_from, slots_pieces, slots_items, class_of, class_with, class_headed, class_named, class_items, method_of_form, function_of_form, if_suits, ended_by, ended_definition, constant_of_form, variable_of_form, bound_with, bound_sides, bound_items_of, generic_results, generic_if, generic_listed, generic_headed, generic_named, generic_items, domain_of, domain_headed, domain_named, domain_items, flat_by, flat_definition, FormFront, expression_front, group_front, flat_front, front_of_group, front_of_token, form_front, expression_of_form, form_by, form_of}
use Rattle.dy_rules.proofs.Lists.{reads, items_row}
use Rattle.dy_rules.proofs.Cuts.{Closed, first_cut_on}
use Rattle.dy_rules.proofs.Rows.{items_append, joined_on, Behind, behind_nothing, behind_piece}
use Rattle.dy_rules.proofs.Inner.{inner_closed_by, inner_no_comma, semicolons, reads_inner}
use Rattle.dy_rules.proofs.TypeComplete.{is_quiet, quiet_role, quiet_closed, variable_quiet, no_commas_in, variable_complete, type_complete, target_complete}
use Rattle.dy_rules.proofs.BodyComplete.{expression_read, comparison_is, no_equals_in, target_quiet, semicolon_separates}
use Rattle.dy_rules.proofs.BlockComplete.{headed_read}
use Rattle.dy_rules.proofs.SignatureComplete.{InitialRead, results_complete}
use Rattle.dy_rules.proofs.Complete.{complete}
use Rattle.dy_rules.proofs.Whole.{reads_all}

abbrev Fragments : Type 0
Fragments = List SeenFragment

-- none of the words is looked for
abbrev AllNot : (Token → Bool) → List Token → Type 0
AllNot is [] = Unit {0}
AllNot is (first ∷ rest) = (is first ≡ false) × AllNot is rest

words_complete : (is : Token → Bool) (adjectives : List Token) (token : Token) (rest : Fragments) → AllNot is adjectives → is token ≡ true → words_front is (items_of (map one adjectives ++ one token ∷ rest)) ≡ Some (record { adjectives = adjectives; token = token; rest = items_of rest })
words_complete is [] token rest h e = ap (λ (b : Bool). word_if b token (items_of rest) (words_front is (items_of rest))) e
words_complete is (first ∷ adjectives) token rest (plainly, h) e =
    let more : Fragments = map one adjectives ++ one token ∷ rest in
    ap (λ (b : Bool). word_if b first (items_of more) (words_front is (items_of more))) plainly ∙ ap (option_map (with_adjective first)) (words_complete is adjectives token rest h e)

and_true : (a b : Bool) → (a && b) ≡ true → (a ≡ true) × (b ≡ true)
and_true true b e = (refl, e)
and_true false b e = absurd cc

all_not : (is : DefineWord → Bool) (adjectives : List Token) → ((word : DefineWord) → is word ≡ true → is_definition word ≡ false) → all_are is adjectives ≡ true → AllNot is_definition_word adjectives
all_not is [] never e = tt
all_not is (first ∷ rest) never e = let (f, more) = and_true (is (define_word_of first)) (all_are is rest) e in (never (define_word_of first) f, all_not is rest never more)

class_never : (word : DefineWord) → is_class_adjective word ≡ true → is_definition word ≡ false
class_never define_words.Open e = refl
class_never define_words.Sealed e = refl
class_never define_words.Abstract e = refl
class_never define_words.Concrete e = refl
class_never define_words.Primary e = refl
class_never define_words.Free e = refl
class_never word e = absurd cc

inlining_never : (word : DefineWord) → is_inlining word ≡ true → is_definition word ≡ false
inlining_never define_words.Inlining e = refl
inlining_never word e = absurd cc

sealed_never : (word : DefineWord) → is_sealed word ≡ true → is_definition word ≡ false
sealed_never define_words.Sealed e = refl
sealed_never word e = absurd cc

open_never : (word : DefineWord) → is_open word ≡ true → is_definition word ≡ false
open_never define_words.Open e = refl
open_never word e = absurd cc

or_true : (a b : Bool) → (a || b) ≡ true → (a ≡ true) ⊎ (b ≡ true)
or_true true b e = inl refl
or_true false b e = inr e

class_suits : (adjectives : List Token) → suit_class adjectives ≡ true → AllNot is_definition_word adjectives
class_suits adjectives e = all_not is_class_adjective adjectives class_never (and_true (all_are is_class_adjective adjectives) _ e).0

function_suits : (adjectives : List Token) → suit_function adjectives ≡ true → AllNot is_definition_word adjectives
function_suits adjectives e = all_not is_inlining adjectives inlining_never e

method_suits : (adjectives : List Token) → suit_method adjectives ≡ true → AllNot is_definition_word adjectives
method_suits [] e = tt
method_suits (first ∷ rest) e = go (or_true (is_sealed (define_word_of first) && suit_function rest) (is_inlining (define_word_of first) && suit_method rest) e) (λ f. method_suits rest f)
  where
    go : ((is_sealed (define_word_of first) && suit_function rest) ≡ true) ⊎ ((is_inlining (define_word_of first) && suit_method rest) ≡ true) → (suit_method rest ≡ true → AllNot is_definition_word rest) → AllNot is_definition_word (first ∷ rest)
    go (inl f) more = let (sealed, others) = and_true (is_sealed (define_word_of first)) (suit_function rest) f in (sealed_never (define_word_of first) sealed, function_suits rest others)
    go (inr f) more = let (inlines, others) = and_true (is_inlining (define_word_of first)) (suit_method rest) f in (inlining_never (define_word_of first) inlines, more others)

generic_suits : (adjectives : List Token) → suit_generic adjectives ≡ true → AllNot is_definition_word adjectives
generic_suits [] e = tt
generic_suits (first ∷ []) e = go (or_true (is_open (define_word_of first)) (is_sealed (define_word_of first)) e)
  where
    go : (is_open (define_word_of first) ≡ true) ⊎ (is_sealed (define_word_of first) ≡ true) → AllNot is_definition_word (first ∷ [])
    go (inl f) = (open_never (define_word_of first) f, tt)
    go (inr f) = (sealed_never (define_word_of first) f, tt)
generic_suits (first ∷ second ∷ rest) e = absurd cc

slot_constant : (word : SlotWord) → is_constant_slot word ≡ true → is_slot word ≡ false
slot_constant slot_fronts.Constant e = refl
slot_constant word e = absurd cc

slot_allocation : (word : SlotWord) → is_allocation word ≡ true → is_slot word ≡ false
slot_allocation slot_fronts.Allocation e = refl
slot_allocation word e = absurd cc

slot_suits : (adjectives : List Token) → suit_slot adjectives ≡ true → AllNot is_slot_word adjectives
slot_suits [] e = tt
slot_suits (first ∷ []) e = go (or_true (is_constant_slot (slot_word_of first)) (is_allocation (slot_word_of first)) e)
  where
    go : (is_constant_slot (slot_word_of first) ≡ true) ⊎ (is_allocation (slot_word_of first) ≡ true) → AllNot is_slot_word (first ∷ [])
    go (inl f) = (slot_constant (slot_word_of first) f, tt)
    go (inr f) = (slot_allocation (slot_word_of first) f, tt)
slot_suits (first ∷ second ∷ []) e =
    let (f, g) = and_true (is_constant_slot (slot_word_of first)) (is_allocation (slot_word_of second)) e in (slot_constant (slot_word_of first) f, (slot_allocation (slot_word_of second) g, tt))
slot_suits (first ∷ second ∷ third ∷ rest) e = absurd cc

-- the words of a slot are names
slot_named : (token : Token) (word : SlotWord) → slot_word_of token ≡ word → (word ≡ slot_fronts.Absent → ⊥) → role_of token ≡ roles.Named
slot_named token word e some = go (role_of token) refl
  where
    go : (role : Role) → role_of token ≡ role → role ≡ roles.Named
    go roles.Named is = refl
    go role is = absurd (some (sym e ∙ rw is refl))

slot_is_named : (token : Token) → is_slot_word token ≡ true → role_of token ≡ roles.Named
slot_is_named token e = slot_named token (slot_word_of token) refl (λ f. let g = sym e ∙ ap is_slot f in cc)

abbrev AllNamed : List Token → Type 0
AllNamed [] = Unit {0}
AllNamed (first ∷ rest) = (role_of first ≡ roles.Named) × AllNamed rest

constant_named : (token : Token) → is_constant_slot (slot_word_of token) ≡ true → role_of token ≡ roles.Named
constant_named token e = slot_named token (slot_word_of token) refl (λ f. let g = sym e ∙ ap is_constant_slot f in cc)

allocation_named : (token : Token) → is_allocation (slot_word_of token) ≡ true → role_of token ≡ roles.Named
allocation_named token e = slot_named token (slot_word_of token) refl (λ f. let g = sym e ∙ ap is_allocation f in cc)

adjectives_named : (adjectives : List Token) → suit_slot adjectives ≡ true → AllNamed adjectives
adjectives_named [] e = tt
adjectives_named (first ∷ []) e = go (or_true (is_constant_slot (slot_word_of first)) (is_allocation (slot_word_of first)) e)
  where
    go : (is_constant_slot (slot_word_of first) ≡ true) ⊎ (is_allocation (slot_word_of first) ≡ true) → AllNamed (first ∷ [])
    go (inl f) = (constant_named first f, tt)
    go (inr f) = (allocation_named first f, tt)
adjectives_named (first ∷ second ∷ []) e = let (f, g) = and_true (is_constant_slot (slot_word_of first)) (is_allocation (slot_word_of second)) e in (constant_named first f, (allocation_named second g, tt))
adjectives_named (first ∷ second ∷ third ∷ rest) e = absurd cc

quiet_no_semicolon : (fragment : SeenFragment) → is_quiet fragment ≡ true → is_semicolon fragment ≡ false
quiet_no_semicolon (group opener inner closer) e = refl
quiet_no_semicolon (one token) e = go (role_of token) e
  where
    go : (role : Role) → quiet_role role ≡ true → is_semicolon_role role ≡ false
    go roles.Semicolon f = absurd cc
    go role f = refl

option_roles : (token : Token) → (role_of token ≡ roles.Symbol) ⊎ (role_of token ≡ roles.Boolean) → (is_comma_fragment (one token) ≡ false) × (is_semicolon (one token) ≡ false) × (is_let (one token) ≡ false)
option_roles token (inl is) = (rw is refl, rw is refl, rw is refl)
option_roles token (inr is) = (rw is refl, rw is refl, rw is refl)

equals_roles : (token : Token) → is_equals token ≡ true → (is_comma_fragment (one token) ≡ false) × (is_semicolon (one token) ≡ false) × (is_let (one token) ≡ false)
equals_roles token e = let is = comparison_is (role_of token) (is_spelled (codes "=") token) e in (rw is refl, rw is refl, rw is refl)

closed_join : (separates : SeenFragment → Bool) (bound : Bool) (before after : Fragments) → Closed separates bound before → Closed separates false after → Closed separates bound (before ++ after)
closed_join separates bound [] after h k = subst (λ (b : Bool). Closed separates b after) (sym h) k
closed_join separates bound (first ∷ before) after (plainly, h) k = (plainly, closed_join separates (is_let first) before after h k)

named_facts : (token : Token) → role_of token ≡ roles.Named → (is_comma_fragment (one token) ≡ false) × (is_semicolon (one token) ≡ false) × (is_let (one token) ≡ false)
named_facts token is = (rw is refl, rw is refl, rw is refl)

words_closed : (separates : SeenFragment → Bool) → ((token : Token) → role_of token ≡ roles.Named → separates (one token) ≡ false) → (adjectives : List Token) (rest : Fragments) → AllNamed adjectives → Closed separates false rest → Closed separates false (map one adjectives ++ rest)
words_closed separates never [] rest h k = k
words_closed separates never (first ∷ adjectives) rest (is, h) k =
    let (no_comma, no_semicolon, no_let) = named_facts first is in
    (never first is, subst (λ (b : Bool). Closed separates b (map one adjectives ++ rest)) (sym no_let) (words_closed separates never adjectives rest h k))

named_closed : (separates : SeenFragment → Bool) → ((token : Token) → role_of token ≡ roles.Named → separates (one token) ≡ false) → (token : Token) (rest : Fragments) → role_of token ≡ roles.Named → Closed separates false rest → Closed separates false (one token ∷ rest)
named_closed separates never token rest is h = let (no_comma, no_semicolon, no_let) = named_facts token is in (never token is, subst (λ (b : Bool). Closed separates b rest) (sym no_let) h)

named_no_comma : (token : Token) → role_of token ≡ roles.Named → is_comma_fragment (one token) ≡ false
named_no_comma token is = rw is refl

named_no_semicolon : (token : Token) → role_of token ≡ roles.Named → is_semicolon (one token) ≡ false
named_no_semicolon token is = rw is refl

-- names

name_first : (role : Role) (token : Token) (others : Option (List Token)) (names : List Token) → role ≡ roles.Named → others ≡ Some names → with_name role token others ≡ Some (token ∷ names)
name_first role token others names is e = rw (is, e) refl

names_complete : (names : List Token) (fragments : Fragments) → AreNames names fragments → names_in fragments ≡ Some names
names_complete names fragments (one_name token is) = name_first (role_of token) token (Some []) [] is refl
names_complete names fragments (more_names token separator others after is comma_role h) =
    name_first (role_of token) token (names_behind (is_comma (role_of separator)) (names_in after)) others is (ap (λ (r : Role). names_behind (is_comma r) (names_in after)) comma_role ∙ names_complete others after h)

-- an expression behind a word
record ValueRead (tree : Tree) (fragments : List SeenFragment) : Type 0 where
  pub read : expression_items splittings.Nothing (items_of fragments) ≡ Some tree
  pub commas : Closed is_comma_fragment false fragments
  pub semicolons_free : Closed is_semicolon false fragments

value_read : (tree : Tree) (fragments : Fragments) → Derives splittings.Nothing (expression tree) fragments → ValueRead tree fragments
value_read tree fragments h =
    let r = complete splittings.Nothing (expression tree) fragments h whole tt in
    let inner = reads_inner splittings.Nothing fragments (wants whole) r.state r.read in
    record { read = expression_read splittings.Nothing tree fragments r.state r.read r.after; commas = inner_closed_by splittings.Nothing is_comma_fragment (inner_no_comma splittings.Nothing) fragments inner; semicolons_free = inner_closed_by splittings.Nothing is_semicolon (semicolons splittings.Nothing).inner fragments inner }

record OptionRead (option : SlotOption) (fragments : List SeenFragment) : Type 0 where
  pub read : option_items (items_of fragments) ≡ Some option
  pub commas : Closed is_comma_fragment false fragments
  pub semicolons_free : Closed is_semicolon false fragments

option_symbol : (token : Token) (word : OptionWord) → option_word token ≡ word → (word ≡ option_words.Absent → ⊥) → role_of token ≡ roles.Symbol
option_symbol token word e some = go (role_of token) refl
  where
    go : (role : Role) → role_of token ≡ role → role ≡ roles.Symbol
    go roles.Symbol is = refl
    go role is = absurd (some (sym e ∙ rw is refl))

symbol_alone : (token : Token) → role_of token ≡ roles.Symbol → symbol_in (fragments_in (items_of (one token ∷ []))) ≡ Some token
symbol_alone token is = rw is refl

symbol_closed : (separates : SeenFragment → Bool) → ((token : Token) → role_of token ≡ roles.Symbol → separates (one token) ≡ false) → (token : Token) (rest : Fragments) → role_of token ≡ roles.Symbol → Closed separates false rest → Closed separates false (one token ∷ rest)
symbol_closed separates never token rest is h = let (no_comma, no_semicolon, no_let) = option_roles token (inl is) in (never token is, subst (λ (b : Bool). Closed separates b rest) (sym no_let) h)

symbol_no_comma : (token : Token) → role_of token ≡ roles.Symbol → is_comma_fragment (one token) ≡ false
symbol_no_comma token is = rw is refl

symbol_no_semicolon : (token : Token) → role_of token ≡ roles.Symbol → is_semicolon (one token) ≡ false
symbol_no_semicolon token is = rw is refl

setter_role : (token : Token) → is_setter token ≡ true → (role_of token ≡ roles.Named) ⊎ (role_of token ≡ roles.Boolean)
setter_role token e = go (role_of token) e
  where
    go : (role : Role) → setter_by role token ≡ true → (role ≡ roles.Named) ⊎ (role ≡ roles.Boolean)
    go roles.Named f = inl refl
    go roles.Boolean f = inr refl
    go role f = absurd cc

setter_closed : (token : Token) → is_setter token ≡ true → Closed is_comma_fragment false (one token ∷ []) × Closed is_semicolon false (one token ∷ [])
setter_closed token e = go (setter_role token e)
  where
    go : (role_of token ≡ roles.Named) ⊎ (role_of token ≡ roles.Boolean) → Closed is_comma_fragment false (one token ∷ []) × Closed is_semicolon false (one token ∷ [])
    go (inl is) = ((rw is refl, rw is refl), (rw is refl, rw is refl))
    go (inr is) = ((rw is refl, rw is refl), (rw is refl, rw is refl))

-- an option of one word and what stands behind it
option_of_word : (word : Token) (by : OptionWord) (rest : Fragments) (option : SlotOption) → option_word word ≡ by → (by ≡ option_words.Absent → ⊥) → option_by by (items_of rest) ≡ Some option → Closed is_comma_fragment false rest → Closed is_semicolon false rest → OptionRead option (one word ∷ rest)
option_of_word word by rest option is some e commas free =
    let role = option_symbol word by is some in
    record {
      read = ap (λ (w : OptionWord). option_by w (items_of rest)) is ∙ e;
      commas = symbol_closed is_comma_fragment symbol_no_comma word rest role commas;
      semicolons_free = symbol_closed is_semicolon symbol_no_semicolon word rest role free;
    }

option_complete : (option : SlotOption) (fragments : Fragments) → IsOption option fragments → OptionRead option fragments
option_complete option fragments (by_keyword word token is role) =
    option_of_word word option_words.Keyword (one token ∷ []) option is (λ e. cc) (ap (option_map keyword_of) (symbol_alone token role)) (symbol_closed is_comma_fragment symbol_no_comma token [] role refl) (symbol_closed is_semicolon symbol_no_semicolon token [] role refl)
option_complete option fragments (by_required_keyword word token is role) =
    option_of_word word option_words.Required (one token ∷ []) option is (λ e. cc) (ap (option_map required_of) (symbol_alone token role)) (symbol_closed is_comma_fragment symbol_no_comma token [] role refl) (symbol_closed is_semicolon symbol_no_semicolon token [] role refl)
option_complete option fragments (by_value word tree after is h) = let v = value_read tree after h in option_of_word word option_words.Value after option is (λ e. cc) (ap (option_map value_of) v.read) v.commas v.semicolons_free
option_complete option fragments (by_init_function word tree after is h) = let v = value_read tree after h in option_of_word word option_words.Function after option is (λ e. cc) (ap (option_map function_of) v.read) v.commas v.semicolons_free
option_complete option fragments (by_setter word token is sets) =
    let (commas, free) = setter_closed token sets in option_of_word word option_words.Setter (one token ∷ []) option is (λ e. cc) (ap (λ (b : Bool). setter_if b token) sets) commas free

record OptionsRead (options : List SlotOption) (fragments : List SeenFragment) : Type 0 where
  pub others : List Piece
  pub behind : Behind is_comma_fragment others fragments
  pub found : each_other option_items others ≡ Some options
  pub semicolons_free : Closed is_semicolon false fragments

comma_facts : (token : Token) → role_of token ≡ roles.Comma → (is_comma_fragment (one token) ≡ true) × (is_semicolon (one token) ≡ false) × (is_let (one token) ≡ false)
comma_facts token is = (rw is refl, rw is refl, rw is refl)

options_complete : (options : List SlotOption) (fragments : Fragments) → AreOptions options fragments → OptionsRead options fragments
options_complete options fragments no_option = record { others = []; behind = behind_nothing is_comma_fragment; found = refl; semicolons_free = refl }
options_complete options fragments (option_and separator first others before after all parts is h k) =
    let o = option_complete first before h in
    let m = options_complete others after k in
    let (commas, no_semicolon, no_let) = comma_facts separator is in
    subst (OptionsRead (first ∷ others)) (sym parts)
    (record {
      others = record { separator = one separator; items = items_of before } ∷ m.others;
      behind = behind_piece is_comma_fragment m.others (one separator) before after commas o.commas m.behind;
      found = ap (λ (x : Option SlotOption). with_others x (each_other option_items m.others)) o.read ∙ ap (with_others (Some first)) m.found;
      semicolons_free = (no_semicolon, subst (λ (b : Bool). Closed is_semicolon b (before ++ after)) (sym no_let) (closed_join is_semicolon false before after o.semicolons_free m.semicolons_free));
    })

record SlotRead (slot : SlotTree) (fragments : List SeenFragment) : Type 0 where
  pub read : slot_items (items_of fragments) ≡ Some slot
  pub semicolons_free : Closed is_semicolon false fragments

initial_semicolons : (default : MaybeTree) (fragments : Fragments) → Derives splittings.Nothing (initial default) fragments → Closed is_semicolon false fragments
initial_semicolons default fragments no_initial = refl
initial_semicolons default fragments (by_initial tree equals after is h) =
    let (no_comma, no_semicolon, no_let) = equals_roles equals is in (no_semicolon, subst (λ (b : Bool). Closed is_semicolon b after) (sym no_let) (value_read tree after h).semicolons_free)

slot_variable_read : (adjectives : List Token) (options : List SlotOption) (variable : VariableTree) (default : MaybeTree) (before middle : Fragments) → IsVariable variable before → InitialRead default middle
    → option_and_then (slot_variable adjectives options) (variable_front (items_of (before ++ middle))) ≡ Some (slot_of adjectives options variable default)
slot_variable_read adjectives options variable default before middle v d =
    ap (λ (items : List Item). option_and_then (slot_variable adjectives options) (variable_front items)) (items_append before middle)
    ∙ ap (λ (o : Option VariableFront). option_and_then (slot_variable adjectives options) o) (variable_complete variable before v (items_of middle) d.colons_free (λ e. d.round_free)) ∙ ap (option_map (slot_of adjectives options variable)) d.read

slot_complete : (slot : SlotTree) (fragments : Fragments) → IsSlot slot fragments → SlotRead slot fragments
slot_complete slot fragments (a_slot made word before middle after all parts suits is v d o consistent) =
    let r = complete splittings.Nothing (initial made.default) middle d in
    let m = options_complete made.options after o in
    let front : Fragments = map one made.adjectives ++ one word ∷ (before ++ middle) in
    let words : WordsFront = record { adjectives = made.adjectives; token = word; rest = items_of (before ++ middle) } in
    let names = adjectives_named made.adjectives suits in
    let role = slot_is_named word is in
    let commas : Closed is_comma_fragment false front =
    words_closed is_comma_fragment named_no_comma made.adjectives (one word ∷ (before ++ middle)) names (named_closed is_comma_fragment named_no_comma word (before ++ middle) role (closed_join is_comma_fragment false before middle (no_commas_in before (variable_quiet made.variable before v)) r.commas)) in
    let free : Closed is_semicolon false front =
    words_closed is_semicolon named_no_semicolon made.adjectives (one word ∷ (before ++ middle)) names
    (named_closed is_semicolon named_no_semicolon word (before ++ middle) role (closed_join is_semicolon false before middle (quiet_closed is_semicolon quiet_no_semicolon before (variable_quiet made.variable before v)) (initial_semicolons made.default middle d))) in
    let read : slot_pieces (cut is_comma_fragment false (items_of (front ++ after))) ≡ Some made =
    ap slot_pieces (m.behind.pieces false front commas) ∙ ap (λ (x : Option WordsFront). option_and_then (slot_front (each_other option_items m.others)) x) (words_complete is_slot_word made.adjectives word (before ++ middle) (slot_suits made.adjectives suits) is)
    ∙ ap (λ (x : Option (List SlotOption)). option_and_then (slot_words words) x) m.found ∙ ap (λ (b : Bool). slot_if b words made.options) suits ∙ slot_variable_read made.adjectives made.options made.variable made.default before middle v r in
    subst (SlotRead made) (sym parts)
    (record {
      read = ap (option_and_then (if_passes is_consistent)) read ∙ ap (λ (b : Bool). only_if b made) consistent;
      semicolons_free = closed_join is_semicolon false front after free m.semicolons_free;
    })

slots_first : (first : List Item) (piece : Piece) (others : List Piece) → slots_from first (piece ∷ others) ≡ with_others (slot_items first) (slots_from piece.items others)
slots_first [] piece others = refl
slots_first (x ∷ first) piece others = refl

slots_complete : (slots : List SlotTree) (fragments : Fragments) → AreSlots slots fragments → slots_items (items_of fragments) ≡ Some slots
slots_complete slots fragments no_slot = refl
slots_complete slots fragments (slot_and first others separator before after all parts is h k) =
    let s = slot_complete first before h in
    let pieces : Pieces = cut is_semicolon false (items_of after) in
    ap (λ (fs : Fragments). slots_items (items_of fs)) parts ∙ ap slots_pieces (joined_on is_semicolon false before (one separator) after s.semicolons_free (semicolon_separates separator is))
    ∙ slots_first (items_of before) (record { separator = one separator; items = pieces.first }) pieces.others
    ∙ ap (λ (o : Option SlotTree). with_others o (slots_from pieces.first pieces.others)) s.read ∙ ap (with_others (Some first)) (slots_complete others after k)

-- forms

class_first : (role : Role) (define : Token) (adjectives : List Token) (token : Token) (rest : List Item) (form : FormTree) → role ≡ roles.Named → option_and_then (class_headed define adjectives token) (headed rest) ≡ Some form → class_named role define adjectives token rest ≡ Some form
class_first role define adjectives token rest form is e = rw is e

class_complete : (define word token : Token) (adjectives superclasses : List Token) (slots : List SlotTree) (left : Token) (within : SeenFragments) (right : Token) (after : Fragments) → role_of token ≡ roles.Named → bracket_of left right ≡ enclosures.Round → AreNames superclasses (row within) → AreSlots slots after
    → class_items define adjectives (items_of (one token ∷ group left within right ∷ after)) ≡ Some (class_form define adjectives token superclasses slots)
class_complete define word token adjectives superclasses slots left within right after role is names s =
    class_first (role_of token) define adjectives token (items_of (group left within right ∷ after)) (class_form define adjectives token superclasses slots) role
    (ap (λ (o : Option Front). option_and_then (class_headed define adjectives token) o) (headed_read left within right after is)
    ∙ ap (λ (o : Option (List Token)). option_and_then (class_with define adjectives token (items_of after)) o) (names_complete superclasses (row within) names) ∙ ap (option_map (class_of define adjectives token superclasses)) (slots_complete slots after s))

define_group : (bracket : Bracket) (define : Token) (inner : SeenFragments) → bracket ≡ enclosures.Statement keywords.Define → front_of_group bracket define inner ≡ group_front define inner
define_group bracket define inner is = rw is refl

ended_reads : (define closer word : Token) (adjectives : List Token) (inner : SeenFragments) (rest : Fragments) (by : DefineWord) (form : FormTree) → bracket_of define closer ≡ enclosures.Statement keywords.Define → row inner ≡ map one adjectives ++ one word ∷ rest → define_word_of word ≡ by → is_definition by ≡ true → AllNot is_definition_word adjectives
    → ended_by by define adjectives word (items_of rest) ≡ Some form → form_of (group define inner closer ∷ []) ≡ Some form
ended_reads define closer word adjectives inner rest by form is parts by_is defining never e =
    ap (λ (front : FormFront). form_by front (group define inner closer ∷ [])) (define_group (bracket_of define closer) define inner is)
    ∙ ap (λ (items : List Item). option_and_then (ended_definition define) (words_front is_definition_word items)) (items_row inner ∙ ap items_of parts)
    ∙ ap (λ (o : Option WordsFront). option_and_then (ended_definition define) o) (words_complete is_definition_word adjectives word rest never (ap is_definition by_is ∙ defining))
    ∙ ap (λ (w : DefineWord). ended_by w define adjectives word (items_of rest)) by_is ∙ e

named_method_read : (found : Listed) (results : Option ResultTree) (trees : List ItemTree) (token : Token) (after : Fragments) → role_of token ≡ roles.Named → Derives splittings.Nothing (signature found results trees) after → named_items (items_of (one token ∷ after)) ≡ Some (named_of token (method_of found results trees))
named_method_read found results trees token after role h = first_named (role_of token) role (complete splittings.Nothing (signature found results trees) after h)
  where
    first_named : (r : Role) → r ≡ roles.Named → method_items (items_of after) ≡ Some (method_of found results trees) → named_with r token (items_of after) ≡ Some (named_of token (method_of found results trees))
    first_named r is e = rw is (ap (option_map (named_of token)) e)

define_token : (role : Role) (define : Token) (rest : Fragments) → role ≡ roles.Defines → front_of_token role define rest ≡ flat_front define rest
define_token role define rest is = rw is refl

flat_reads : (define word : Token) (adjectives : List Token) (rest : Fragments) (by : DefineWord) (form : FormTree) → role_of define ≡ roles.Defines → define_word_of word ≡ by → is_definition by ≡ true → AllNot is_definition_word adjectives → flat_by by define adjectives (items_of rest) ≡ Some form
    → form_of (one define ∷ (map one adjectives ++ one word ∷ rest)) ≡ Some form
flat_reads define word adjectives rest by form role by_is defining never e =
    ap (λ (front : FormFront). form_by front (one define ∷ (map one adjectives ++ one word ∷ rest))) (define_token (role_of define) define (map one adjectives ++ one word ∷ rest) role)
    ∙ ap (λ (o : Option WordsFront). option_and_then (flat_definition define) o) (words_complete is_definition_word adjectives word rest never (ap is_definition by_is ∙ defining))
    ∙ ap (λ (w : DefineWord). flat_by w define adjectives (items_of rest)) by_is ∙ e

bound_complete : (form : TargetTree → Tree → FormTree) (target : TargetTree) (assigned : Tree) (equals : Token) (before after : Fragments) → is_equals equals ≡ true → IsTarget target before → Derives splittings.Nothing (expression assigned) after → bound_items_of form (items_of (before ++ one equals ∷ after)) ≡ Some (form target assigned)
bound_complete form target assigned equals before after is t h =
    ap (λ (o : Option Sides). option_and_then (bound_sides form) o) (first_cut_on is_equals_at before (one equals) after (no_equals_in before (target_quiet target before t)) is)
    ∙ ap (λ (o : Option TargetTree). option_and_then (bound_with form (items_of after)) o) (target_complete target before t) ∙ ap (option_map (form target)) (value_read assigned after h).read

generic_first : (role : Role) (define : Token) (adjectives : List Token) (token : Token) (rest : List Item) (form : FormTree) → role ≡ roles.Named → option_and_then (generic_headed define adjectives token) (headed rest) ≡ Some form → generic_named role define adjectives token rest ≡ Some form
generic_first role define adjectives token rest form is e = rw is e

given_alone : (results : Option ResultTree) (given : Fragments) → ResultsPart results given → results_front (items_of given) ≡ Some (record { results = results; rest = [] })
given_alone results given r = ap (λ (fs : Fragments). results_front (items_of fs)) (sym (append-nil given)) ∙ results_complete results given [] r (nothing_apart results)
  where
    nothing_apart : (found : Option ResultTree) → apart found [] ≡ true
    nothing_apart None = refl
    nothing_apart (Some (several_results variables rest)) = refl
    nothing_apart (Some (one_result variable)) = declared_apart variable.declared
      where
        declared_apart : (declared : Option TypeTree) → variable_apart declared [] ≡ true
        declared_apart None = refl
        declared_apart (Some type) = both (takes_brackets type)
          where
            both : (b : Bool) → not (b && false) ≡ true
            both true = refl
            both false = refl

generic_complete : (define word token : Token) (adjectives : List Token) (found : Listed) (results : Option ResultTree) (left : Token) (within : SeenFragments) (right : Token) (given : Fragments) → role_of token ≡ roles.Named → bracket_of left right ≡ enclosures.Round → no_defaults found.keys ≡ true → Derives splittings.Nothing (brackets found) (row within) → ResultsPart results given
    → generic_items define adjectives (items_of (one token ∷ group left within right ∷ given)) ≡ Some (generic_form define adjectives token (parameters_of found results))
generic_complete define word token adjectives found results left within right given role is plain_keys h r =
    generic_first (role_of token) define adjectives token (items_of (group left within right ∷ given)) (generic_form define adjectives token (parameters_of found results)) role
    (ap (λ (o : Option Front). option_and_then (generic_headed define adjectives token) o) (headed_read left within right given is)
    ∙ ap (λ (o : Option Listed). option_and_then (generic_listed define adjectives token (items_of given)) o) (ap listed_items (items_row within) ∙ complete splittings.Nothing (brackets found) (row within) h)
    ∙ ap (λ (b : Bool). generic_if b define adjectives token (items_of given) found) plain_keys ∙ ap (λ (o : Option ResultsFront). option_and_then (generic_results define adjectives token found) o) (given_alone results given r))

domain_first : (role : Role) (define token : Token) (rest : List Item) (form : FormTree) → role ≡ roles.Named → option_and_then (domain_headed define token) (headed rest) ≡ Some form → domain_named role define token rest ≡ Some form
domain_first role define token rest form is e = rw is e

domain_complete : (define token left : Token) (within : SeenFragments) (right : Token) (types : List TypeTree) → role_of token ≡ roles.Named → bracket_of left right ≡ enclosures.Round → IsType (some_types types) (row within) → domain_items define (items_of (one token ∷ group left within right ∷ [])) ≡ Some (domain_form define token types)
domain_complete define token left within right types role is h =
    domain_first (role_of token) define token (items_of (group left within right ∷ [])) (domain_form define token types) role
    (ap (λ (o : Option Front). option_and_then (domain_headed define token) o) (headed_read left within right [] is) ∙ ap (option_map (domain_of define token)) (ap types_items (items_row within) ∙ type_complete (some_types types) (row within) h))

-- no expression is a definition

no_group : (bracket : Bracket) (opener : Token) (inner : SeenFragments) (closer : Token) (tree : Tree) → bracket_of opener closer ≡ bracket → expression_of splittings.Nothing (group opener inner closer ∷ []) ≡ Some tree → front_of_group bracket opener inner ≡ expression_front
no_group (enclosures.Statement keywords.Define) opener inner closer tree is e = absurd (nothing_read (bracket_of opener closer) is (step_of e))
  where
    nothing_read : (b : Bracket) → b ≡ enclosures.Statement keywords.Define → option_and_then tree_of (option_and_then (λ (s : State). Some s) (group_at_operand whole b (tree_inside b opener inner (items_in inner)))) ≡ Some tree → ⊥
    nothing_read b same f = let g = ap (λ (c : Bracket). option_and_then tree_of (option_and_then (λ (s : State). Some s) (group_at_operand whole c (tree_inside c opener inner (items_in inner))))) (sym same) ∙ f in cc

    step_of : expression_of splittings.Nothing (group opener inner closer ∷ []) ≡ Some tree → option_and_then tree_of (option_and_then (λ (s : State). Some s) (group_at_operand whole (bracket_of opener closer) (tree_inside (bracket_of opener closer) opener inner (items_in inner)))) ≡ Some tree
    step_of f = f
no_group bracket opener inner closer tree is e = refl

no_define : (role : Role) (token : Token) (rest : Fragments) (tree : Tree) → role_of token ≡ role → expression_of splittings.Nothing (one token ∷ rest) ≡ Some tree → front_of_token role token rest ≡ expression_front
no_define roles.Defines token rest tree is e = absurd (nothing_read (role_of token) is e)
  where
    nothing_read : (r : Role) → r ≡ roles.Defines → option_and_then tree_of (option_and_then (λ (s : State). reads splittings.Nothing s rest) (at_operand splittings.Nothing whole token r)) ≡ Some tree → ⊥
    nothing_read r same f = let g = ap (λ (c : Role). option_and_then tree_of (option_and_then (λ (s : State). reads splittings.Nothing s rest) (at_operand splittings.Nothing whole token c))) (sym same) ∙ f in cc
no_define role token rest tree is e = refl

expression_front_is : (fragments : Fragments) (tree : Tree) → expression_of splittings.Nothing fragments ≡ Some tree → form_front fragments ≡ expression_front
expression_front_is [] tree e = refl
expression_front_is (group opener inner closer ∷ []) tree e = no_group (bracket_of opener closer) opener inner closer tree refl e
expression_front_is (group opener inner closer ∷ second ∷ rest) tree e = refl
expression_front_is (one token ∷ rest) tree e = no_define (role_of token) token rest tree refl e

pub form_complete : (form : FormTree) (fragments : Fragments) → IsForm form fragments → form_of fragments ≡ Some form
form_complete form fragments (by_expression tree all h) =
    let e = reads_all splittings.Nothing fragments tree h in ap (λ (front : FormFront). form_by front fragments) (expression_front_is fragments tree e) ∙ ap (option_map expression_of_form) e
form_complete form fragments (by_class define closer word token adjectives superclasses slots inner left within right after is parts class suits role is_round names s) =
    ended_reads define closer word adjectives inner (one token ∷ group left within right ∷ after) define_words.Class form is parts class refl (class_suits adjectives suits)
    (ap (λ (b : Bool). if_suits b (class_items define adjectives (items_of (one token ∷ group left within right ∷ after)))) suits ∙ class_complete define word token adjectives superclasses slots left within right after role is_round names s)
form_complete form fragments (by_method define closer word token adjectives found results trees inner after is parts method suits role h) =
    ended_reads define closer word adjectives inner (one token ∷ after) define_words.Method form is parts method refl (method_suits adjectives suits)
    (ap (λ (b : Bool). if_suits b (option_map (method_of_form define adjectives word) (named_items (items_of (one token ∷ after))))) suits ∙ ap (option_map (method_of_form define adjectives word)) (named_method_read found results trees token after role h))
form_complete form fragments (by_function define closer word token adjectives found results trees inner after is parts function suits role h) =
    ended_reads define closer word adjectives inner (one token ∷ after) define_words.Function form is parts function refl (function_suits adjectives suits)
    (ap (λ (b : Bool). if_suits b (option_map (function_of_form define adjectives) (named_items (items_of (one token ∷ after))))) suits ∙ ap (option_map (function_of_form define adjectives)) (named_method_read found results trees token after role h))
form_complete form fragments (by_constant define word equals target assigned before after all parts role constant is t h) =
    ap form_of parts ∙ flat_reads define word [] (before ++ one equals ∷ after) define_words.Constant form role constant refl tt (bound_complete (constant_of_form define) target assigned equals before after is t h)
form_complete form fragments (by_variable define word equals target assigned before after all parts role variable is t h) =
    ap form_of parts ∙ flat_reads define word [] (before ++ one equals ∷ after) define_words.Variable form role variable refl tt (bound_complete (variable_of_form define) target assigned equals before after is t h)
form_complete form fragments (by_generic define word token adjectives found results left within right given all parts role generic suits named_role is_round plain_keys h r) =
    ap form_of parts ∙ flat_reads define word adjectives (one token ∷ group left within right ∷ given) define_words.Generic form role generic refl (generic_suits adjectives suits)
    (ap (λ (b : Bool). if_suits b (generic_items define adjectives (items_of (one token ∷ group left within right ∷ given)))) suits ∙ generic_complete define word token adjectives found results left within right given named_role is_round plain_keys h r)
form_complete form fragments (by_domain define adjective word token left within right types role sealed domain named_role is_round h) =
    flat_reads define word (adjective ∷ []) (one token ∷ group left within right ∷ []) define_words.Domain form role domain refl (ap is_definition sealed, tt)
    (ap (λ (b : Bool). if_suits b (domain_items define (items_of (one token ∷ group left within right ∷ [])))) (ap is_sealed sealed) ∙ domain_complete define token left within right types named_role is_round h)

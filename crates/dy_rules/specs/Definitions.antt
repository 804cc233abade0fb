-- The words of definitions and of slots, and the adjectives that suit (DRM, appendix A).
use Rattle.std.specs.Prelude.{ℕ, Bool, true, false, not, ◌&&◌, ◌||◌, if◌then◌else◌, List, [], ◌∷◌}
use Rattle.std.specs.Prelude.{codes}
use Rattle.std.specs.List.{list_any}
use Rattle.dy_tree.specs.declared.token.TokenKind.{TokenKind}
use Rattle.dy_tree.specs.declared.token.TokenKind.TheVariants as kinds
use Rattle.dy_tree.specs.declared.token.Token.{Token}
use Rattle.dy_tree.specs.declared.roles.Role.{Role}
use Rattle.dy_tree.specs.declared.roles.Role.TheVariants as roles
use Rattle.dy_tree.specs.declared.definition_words.DefineWord.{DefineWord}
use Rattle.dy_tree.specs.declared.definition_words.DefineWord.TheVariants as define_words
use Rattle.dy_tree.specs.declared.definition_words.SlotWord.{SlotWord}
use Rattle.dy_tree.specs.declared.definition_words.SlotWord.TheVariants as slot_words
use Rattle.dy_tree.specs.declared.definition_words.OptionWord.{OptionWord}
use Rattle.dy_tree.specs.declared.definition_words.OptionWord.TheVariants as option_words
use Rattle.dy_tree.specs.Spelling.{is_spelled}
use Rattle.dy_rules.specs.Roles.{role_of, is_among}

abbrev pub inlinings : List (List ℕ)
inlinings = codes "inline" ∷ codes "not-inline" ∷ codes "may-inline" ∷ codes "default-inline"
    ∷ codes "inline-only" ∷ []

abbrev pub spelled_define_word : Token → DefineWord
spelled_define_word token =
    if is_spelled (codes "open") token then define_words.Open
    else if is_spelled (codes "sealed") token then define_words.Sealed
    else if is_spelled (codes "abstract") token then define_words.Abstract
    else if is_spelled (codes "concrete") token then define_words.Concrete
    else if is_spelled (codes "primary") token then define_words.Primary
    else if is_spelled (codes "free") token then define_words.Free
    else if is_among inlinings token then define_words.Inlining
    else if is_spelled (codes "class") token then define_words.Class
    else if is_spelled (codes "method") token then define_words.Method
    else if is_spelled (codes "function") token then define_words.Function
    else if is_spelled (codes "generic") token then define_words.Generic
    else if is_spelled (codes "constant") token then define_words.Constant
    else if is_spelled (codes "variable") token then define_words.Variable
    else if is_spelled (codes "domain") token then define_words.Domain
    else define_words.Absent

-- An escaped name is never a word.
abbrev pub define_word_by : Role → TokenKind → Token → DefineWord
define_word_by roles.Named kinds.Name token = spelled_define_word token
define_word_by _ _ token = define_words.Absent

abbrev pub define_word_of : Token → DefineWord
define_word_of token = define_word_by (role_of token) token.kind token

-- a word that says what is defined
abbrev pub is_definition : DefineWord → Bool
is_definition define_words.Class = true
is_definition define_words.Method = true
is_definition define_words.Function = true
is_definition define_words.Generic = true
is_definition define_words.Constant = true
is_definition define_words.Variable = true
is_definition define_words.Domain = true
is_definition _ = false

abbrev pub is_definition_word : Token → Bool
is_definition_word token = is_definition (define_word_of token)

abbrev pub is_class_adjective : DefineWord → Bool
is_class_adjective define_words.Open = true
is_class_adjective define_words.Sealed = true
is_class_adjective define_words.Abstract = true
is_class_adjective define_words.Concrete = true
is_class_adjective define_words.Primary = true
is_class_adjective define_words.Free = true
is_class_adjective _ = false

abbrev pub is_open : DefineWord → Bool
is_open define_words.Open = true
is_open _ = false

abbrev pub is_sealed : DefineWord → Bool
is_sealed define_words.Sealed = true
is_sealed _ = false

abbrev pub is_abstract : DefineWord → Bool
is_abstract define_words.Abstract = true
is_abstract _ = false

abbrev pub is_concrete : DefineWord → Bool
is_concrete define_words.Concrete = true
is_concrete _ = false

abbrev pub is_primary : DefineWord → Bool
is_primary define_words.Primary = true
is_primary _ = false

abbrev pub is_free : DefineWord → Bool
is_free define_words.Free = true
is_free _ = false

abbrev pub is_inlining : DefineWord → Bool
is_inlining define_words.Inlining = true
is_inlining _ = false

abbrev pub has : (DefineWord → Bool) → List Token → Bool
has is tokens = list_any (λ token. is (define_word_of token)) tokens

abbrev pub all_are : (DefineWord → Bool) → List Token → Bool
all_are is [] = true
all_are is (first ∷ rest) = is (define_word_of first) && all_are is rest

-- They stand in any order, and may be repeated. Of two that say the opposite one stands at most.
abbrev pub suit_class : List Token → Bool
suit_class adjectives =
    all_are is_class_adjective adjectives
    && (not (has is_open adjectives && has is_sealed adjectives)
    && (not (has is_abstract adjectives && has is_concrete adjectives)
    && not (has is_primary adjectives && has is_free adjectives)))

abbrev pub suit_function : List Token → Bool
suit_function adjectives = all_are is_inlining adjectives

-- `sealed` once at most
abbrev pub suit_method : List Token → Bool
suit_method [] = true
suit_method (first ∷ rest) =
    (is_sealed (define_word_of first) && suit_function rest)
    || (is_inlining (define_word_of first) && suit_method rest)

-- `open` or `sealed`, once at most
abbrev pub suit_generic : List Token → Bool
suit_generic [] = true
suit_generic (first ∷ []) = is_open (define_word_of first) || is_sealed (define_word_of first)
suit_generic (first ∷ second ∷ rest) = false

-- `sealed` alone
abbrev pub suit_domain : List Token → Bool
suit_domain (first ∷ []) = is_sealed (define_word_of first)
suit_domain _ = false

abbrev pub suit_binding : List Token → Bool
suit_binding [] = true
suit_binding (first ∷ rest) = false

abbrev pub spelled_slot_word : Token → SlotWord
spelled_slot_word token =
    if is_spelled (codes "constant") token then slot_words.Constant
    else if is_among (codes "instance" ∷ codes "class" ∷ codes "each-subclass" ∷ codes "virtual"
    ∷ []) token then slot_words.Allocation
    else if is_spelled (codes "slot") token then slot_words.Slot
    else slot_words.Absent

abbrev pub slot_word_by : Role → TokenKind → Token → SlotWord
slot_word_by roles.Named kinds.Name token = spelled_slot_word token
slot_word_by _ _ token = slot_words.Absent

abbrev pub slot_word_of : Token → SlotWord
slot_word_of token = slot_word_by (role_of token) token.kind token

abbrev pub is_slot : SlotWord → Bool
is_slot slot_words.Slot = true
is_slot _ = false

abbrev pub is_slot_word : Token → Bool
is_slot_word token = is_slot (slot_word_of token)

abbrev pub is_constant_slot : SlotWord → Bool
is_constant_slot slot_words.Constant = true
is_constant_slot _ = false

abbrev pub is_allocation : SlotWord → Bool
is_allocation slot_words.Allocation = true
is_allocation _ = false

-- one allocation at most, and `constant` before it
abbrev pub suit_slot : List Token → Bool
suit_slot [] = true
suit_slot (first ∷ []) = is_constant_slot (slot_word_of first) || is_allocation (slot_word_of first)
suit_slot (first ∷ second ∷ []) =
    is_constant_slot (slot_word_of first) && is_allocation (slot_word_of second)
suit_slot (first ∷ second ∷ third ∷ rest) = false

abbrev pub spelled_option_word : Token → OptionWord
spelled_option_word token =
    if is_spelled (codes "init-keyword") token then option_words.Keyword
    else if is_spelled (codes "required-init-keyword") token then option_words.Required
    else if is_spelled (codes "init-value") token then option_words.Value
    else if is_spelled (codes "init-function") token then option_words.Function
    else if is_spelled (codes "setter") token then option_words.Setter
    else option_words.Absent

abbrev pub option_word_by : Role → Token → OptionWord
option_word_by roles.Symbol token = spelled_option_word token
option_word_by _ token = option_words.Absent

abbrev pub option_word : Token → OptionWord
option_word token = option_word_by (role_of token) token

abbrev pub setter_by : Role → Token → Bool
setter_by roles.Named token = true
setter_by roles.Boolean token = is_spelled (codes "#f") token
setter_by _ token = false

-- the name of a setter, or `#f`
abbrev pub is_setter : Token → Bool
is_setter token = setter_by (role_of token) token

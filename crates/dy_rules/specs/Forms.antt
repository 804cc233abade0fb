-- Whole forms (DRM, appendix A). A definition with an `end` is a group.
--     form   = "define" { adjective } "class" NAME "(" NAME { "," NAME } ")" { slot ";" } "end"
--            | "define" ("constant" | "variable") target "=" expression
--            | "define" { adjective } "generic" NAME "(" [ listed ] ")" [ "=>" results ]
--            | "define" { adjective } ("method" | "function") NAME signature "end"
--            | "define" "sealed" "domain" NAME "(" type { "," type } ")"
--            | expression
--     slot   = { adjective } "slot" var [ "=" expression ] { "," option }
--     option = init-keyword: SYMBOL | required-init-keyword: SYMBOL | init-value: expression
--            | init-function: expression | setter: (NAME | "#f")
use Rattle.std.specs.Prelude.{◌≡◌, Bool, true, false, not, ◌&&◌, if◌then◌else◌, List, [], ◌∷◌, ◌++◌}
use Rattle.std.specs.Prelude.{map, codes, Option, Some, None}
use Rattle.std.specs.List.{list_any, list_all}
use Rattle.dy_tree.specs.declared.token.Token.{Token}
use Rattle.dy_tree.specs.declared.types.LiteralForm.{LiteralForm}
use Rattle.dy_tree.specs.declared.types.LiteralForm.TheVariants as literals
use Rattle.dy_tree.specs.Fragments.{SeenFragment, one, group, SeenFragments, row}
use Rattle.dy_tree.specs.declared.roles.Role.TheVariants as roles
use Rattle.dy_tree.specs.declared.brackets.Keyword.TheVariants as keywords
use Rattle.dy_tree.specs.declared.brackets.Bracket.TheVariants as enclosures
use Rattle.dy_tree.specs.declared.splitters.Splitting.TheVariants as splittings
use Rattle.dy_tree.specs.declared.definition_words.DefineWord.TheVariants as define_words
use Rattle.dy_tree.specs.declared.definition_words.OptionWord.TheVariants as option_words
use Rattle.dy_rules.specs.ConstantTrees.{is_nil}
use Rattle.dy_rules.specs.Tests.{at_most_one}
use Rattle.dy_rules.specs.Trees.{Tree, literal, list, MaybeTree, no_tree, some_tree, Key, a_key}
use Rattle.dy_rules.specs.Trees.{KeysTree, Listed, Parameters, parameters_of, Body, body_of}
use Rattle.dy_rules.specs.Trees.{ItemTree}
use Rattle.dy_tree.specs.Spelling.{is_spelled}
use Rattle.dy_rules.specs.Roles.{role_of, bracket_of, is_among}
use Rattle.dy_rules.specs.Types.{is_equals, TypeTree, some_types, IsType, VariableTree, IsVariable}
use Rattle.dy_rules.specs.Types.{TargetTree, IsTarget, ResultTree, ResultsPart}
use Rattle.dy_rules.specs.Productions.{Derives, expression, initial, brackets, signature}
use Rattle.dy_rules.specs.Definitions.{define_word_of, suit_class, suit_function, suit_method}
use Rattle.dy_rules.specs.Definitions.{suit_generic, suit_slot, is_slot_word, option_word}
use Rattle.dy_rules.specs.Definitions.{is_setter}

-- names with commas between them
pub data AreNames : List Token → List SeenFragment → Type 0 where
  one_name : (token : Token) → role_of token ≡ roles.Named → AreNames (token ∷ []) (one token ∷ [])
  more_names : (token separator : Token) (others : List Token) (after : List SeenFragment)
      → role_of token ≡ roles.Named → role_of separator ≡ roles.Comma
      → AreNames others after → AreNames (token ∷ others) (one token ∷ one separator ∷ after)

pub data SlotOption : Type 0 where
  init_keyword : (token : Token) → SlotOption
  required_init_keyword : (token : Token) → SlotOption
  init_value : (tree : Tree) → SlotOption
  init_function : (tree : Tree) → SlotOption
  setter : (token : Token) → SlotOption

pub data IsOption : SlotOption → List SeenFragment → Type 0 where
  by_keyword : (word token : Token) → option_word word ≡ option_words.Keyword
      → role_of token ≡ roles.Symbol → IsOption (init_keyword token) (one word ∷ one token ∷ [])
  by_required_keyword : (word token : Token) → option_word word ≡ option_words.Required
      → role_of token ≡ roles.Symbol
      → IsOption (required_init_keyword token) (one word ∷ one token ∷ [])
  by_value : (word : Token) (tree : Tree) (after : List SeenFragment)
      → option_word word ≡ option_words.Value → Derives splittings.Nothing (expression tree) after
      → IsOption (init_value tree) (one word ∷ after)
  by_init_function : (word : Token) (tree : Tree) (after : List SeenFragment)
      → option_word word ≡ option_words.Function
      → Derives splittings.Nothing (expression tree) after
      → IsOption (init_function tree) (one word ∷ after)
  by_setter : (word token : Token) → option_word word ≡ option_words.Setter → is_setter token ≡ true
      → IsOption (setter token) (one word ∷ one token ∷ [])

-- each behind a comma
pub data AreOptions : List SlotOption → List SeenFragment → Type 0 where
  no_option : AreOptions [] []
  option_and : (separator : Token) (first : SlotOption) (others : List SlotOption)
      (before after all : List SeenFragment) → all ≡ one separator ∷ (before ++ after)
      → role_of separator ≡ roles.Comma
      → IsOption first before → AreOptions others after → AreOptions (first ∷ others) all

pub record SlotTree : Type 0 where
  pub adjectives : List Token
  pub variable : VariableTree
  pub default : MaybeTree
  pub options : List SlotOption

-- the init keyword, required or not
abbrev pub names_keyword : SlotOption → Bool
names_keyword (init_keyword token) = true
names_keyword (required_init_keyword token) = true
names_keyword _ = false

abbrev pub gives_value : SlotOption → Bool
gives_value (init_value tree) = true
gives_value (init_function tree) = true
gives_value _ = false

abbrev pub names_setter : SlotOption → Bool
names_setter (setter token) = true
names_setter _ = false

-- one initial value at most, behind `=` or in an option
abbrev pub one_value : MaybeTree → List SlotOption → Bool
one_value no_tree options = at_most_one gives_value options
one_value (some_tree tree) options = not (list_any gives_value options)

-- A slot has one init keyword, one initial value and one setter at most.
abbrev pub is_written_once : SlotTree → Bool
is_written_once slot = at_most_one names_keyword slot.options
    && (one_value slot.default slot.options && at_most_one names_setter slot.options)

-- a number, a character, a symbol or a boolean
abbrev pub is_plain_literal : LiteralForm → Bool
is_plain_literal (literals.Str token) = false
is_plain_literal _ = true

-- or `#()`
abbrev pub is_plain : Tree → Bool
is_plain (literal form) = is_plain_literal form
is_plain (list opener items last) = is_nil items last
is_plain _ = false

abbrev pub is_plain_default : MaybeTree → Bool
is_plain_default no_tree = true
is_plain_default (some_tree tree) = is_plain tree

-- The value of a shared slot is plain, and neither a keyword nor a function gives it.
abbrev pub suits_shared : SlotOption → Bool
suits_shared (init_value tree) = is_plain tree
suits_shared (setter token) = true
suits_shared _ = false

abbrev pub is_written : MaybeTree → Bool
is_written no_tree = false
is_written (some_tree tree) = true

abbrev pub says_shared : Token → Bool
says_shared adjective = is_among (codes "class" ∷ codes "each-subclass" ∷ []) adjective

abbrev pub is_shared : List Token → Bool
is_shared adjectives = list_any says_shared adjectives

abbrev pub says_virtual : Token → Bool
says_virtual adjective = is_spelled (codes "virtual") adjective

abbrev pub is_virtual : List Token → Bool
is_virtual adjectives = list_any says_virtual adjectives

-- A virtual slot has no value and no option but the setter.
abbrev pub suits_allocation : SlotTree → Bool
suits_allocation slot =
    if is_shared slot.adjectives then is_plain_default slot.default
    && list_all suits_shared slot.options
    else if is_virtual slot.adjectives then not (is_written slot.default)
    && list_all names_setter slot.options
    else true

-- what is written of a slot fits together
abbrev pub is_consistent : SlotTree → Bool
is_consistent slot = is_written_once slot && suits_allocation slot

pub data IsSlot : SlotTree → List SeenFragment → Type 0 where
  a_slot : (slot : SlotTree) (word : Token) (before middle after all : List SeenFragment)
      → all ≡ (map one slot.adjectives ++ one word ∷ (before ++ middle)) ++ after
      → suit_slot slot.adjectives ≡ true → is_slot_word word ≡ true
      → IsVariable slot.variable before
      → Derives splittings.Nothing (initial slot.default) middle → AreOptions slot.options after
      → is_consistent slot ≡ true → IsSlot slot all

-- each with a semicolon behind it
pub data AreSlots : List SlotTree → List SeenFragment → Type 0 where
  no_slot : AreSlots [] []
  slot_and : (first : SlotTree) (others : List SlotTree) (separator : Token)
      (before after all : List SeenFragment) → all ≡ before ++ one separator ∷ after
      → role_of separator ≡ roles.Semicolon
      → IsSlot first before → AreSlots others after → AreSlots (first ∷ others) all

abbrev pub has_no_default : Key → Bool
has_no_default (a_key label variable no_tree) = true
has_no_default (a_key label variable (some_tree tree)) = false

abbrev pub all_without : List Key → Bool
all_without [] = true
all_without (first ∷ rest) = if has_no_default first then all_without rest else false

-- The keywords of a generic have no defaults.
abbrev pub no_defaults : Option KeysTree → Bool
no_defaults None = true
no_defaults (Some found) = all_without found.keys

pub data FormTree : Type 0 where
  expression_form : (tree : Tree) → FormTree
  class_form : (define : Token) (adjectives : List Token) (token : Token)
      (superclasses : List Token) (slots : List SlotTree) → FormTree
  constant_form : (define : Token) (target : TargetTree) (assigned : Tree) → FormTree
  variable_form : (define : Token) (target : TargetTree) (assigned : Tree) → FormTree
  generic_form : (define : Token) (adjectives : List Token) (token : Token)
      (parameters : Parameters) → FormTree
  method_form : (define : Token) (adjectives : List Token) (word : Token) (token : Token)
      (parameters : Parameters) (body : Body) → FormTree
  function_form : (define : Token) (adjectives : List Token) (token : Token)
      (parameters : Parameters) (body : Body) → FormTree
  domain_form : (define : Token) (token : Token) (types : List TypeTree) → FormTree

pub data IsForm : FormTree → List SeenFragment → Type 0 where
  by_expression : (tree : Tree) (fragments : List SeenFragment)
      → Derives splittings.Nothing (expression tree) fragments
      → IsForm (expression_form tree) fragments
  by_class : (define closer word token : Token) (adjectives superclasses : List Token)
      (slots : List SlotTree) (inner : SeenFragments) (left : Token) (within : SeenFragments)
      (right : Token) (after : List SeenFragment)
      → bracket_of define closer ≡ enclosures.Statement keywords.Define
      → row inner ≡ map one adjectives ++ one word ∷ one token ∷ group left within right ∷ after
      → define_word_of word ≡ define_words.Class → suit_class adjectives ≡ true
      → role_of token ≡ roles.Named → bracket_of left right ≡ enclosures.Round
      → AreNames superclasses (row within) → AreSlots slots after
      → IsForm (class_form define adjectives token superclasses slots)
      (group define inner closer ∷ [])
  by_method : (define closer word token : Token) (adjectives : List Token) (found : Listed)
      (results : Option ResultTree) (trees : List ItemTree) (inner : SeenFragments)
      (after : List SeenFragment)
      → bracket_of define closer ≡ enclosures.Statement keywords.Define
      → row inner ≡ map one adjectives ++ one word ∷ one token ∷ after
      → define_word_of word ≡ define_words.Method → suit_method adjectives ≡ true
      → role_of token ≡ roles.Named
      → Derives splittings.Nothing (signature found results trees) after
      → IsForm (method_form define adjectives word token (parameters_of found results)
      (body_of trees)) (group define inner closer ∷ [])
  by_function : (define closer word token : Token) (adjectives : List Token) (found : Listed)
      (results : Option ResultTree) (trees : List ItemTree) (inner : SeenFragments)
      (after : List SeenFragment)
      → bracket_of define closer ≡ enclosures.Statement keywords.Define
      → row inner ≡ map one adjectives ++ one word ∷ one token ∷ after
      → define_word_of word ≡ define_words.Function → suit_function adjectives ≡ true
      → role_of token ≡ roles.Named
      → Derives splittings.Nothing (signature found results trees) after
      → IsForm (function_form define adjectives token (parameters_of found results)
      (body_of trees)) (group define inner closer ∷ [])
  by_constant : (define word equals : Token) (target : TargetTree) (assigned : Tree)
      (before after all : List SeenFragment)
      → all ≡ one define ∷ one word ∷ (before ++ one equals ∷ after)
      → role_of define ≡ roles.Defines → define_word_of word ≡ define_words.Constant
      → is_equals equals ≡ true
      → IsTarget target before → Derives splittings.Nothing (expression assigned) after
      → IsForm (constant_form define target assigned) all
  by_variable : (define word equals : Token) (target : TargetTree) (assigned : Tree)
      (before after all : List SeenFragment)
      → all ≡ one define ∷ one word ∷ (before ++ one equals ∷ after)
      → role_of define ≡ roles.Defines → define_word_of word ≡ define_words.Variable
      → is_equals equals ≡ true
      → IsTarget target before → Derives splittings.Nothing (expression assigned) after
      → IsForm (variable_form define target assigned) all
  by_generic : (define word token : Token) (adjectives : List Token) (found : Listed)
      (results : Option ResultTree) (left : Token) (within : SeenFragments) (right : Token)
      (given all : List SeenFragment)
      → all ≡ one define ∷ (map one adjectives ++ one word ∷ one token ∷ group left within right
      ∷ given) → role_of define ≡ roles.Defines → define_word_of word ≡ define_words.Generic
      → suit_generic adjectives ≡ true → role_of token ≡ roles.Named
      → bracket_of left right ≡ enclosures.Round
      → no_defaults found.keys ≡ true → Derives splittings.Nothing (brackets found) (row within)
      → ResultsPart results given
      → IsForm (generic_form define adjectives token (parameters_of found results)) all
  by_domain : (define adjective word token left : Token) (within : SeenFragments) (right : Token)
      (types : List TypeTree) → role_of define ≡ roles.Defines
      → define_word_of adjective ≡ define_words.Sealed → define_word_of word ≡ define_words.Domain
      → role_of token ≡ roles.Named → bracket_of left right ≡ enclosures.Round
      → IsType (some_types types) (row within)
      → IsForm (domain_form define token types)
      (one define ∷ one adjective ∷ one word ∷ one token ∷ group left within right ∷ [])

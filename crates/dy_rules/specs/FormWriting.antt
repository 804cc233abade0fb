-- The fragments that a form is written as.
use Rattle.std.specs.Prelude.{ℕ, List, [], ◌∷◌, ◌++◌, map, codes}
use Rattle.dy_tree.specs.declared.token.TokenKind.TheVariants as kinds
use Rattle.dy_tree.specs.declared.token.Token.{Token}
use Rattle.dy_tree.specs.Fragments.{SeenFragment, one}
use Rattle.dy_rules.specs.Types.{types_of}
use Rattle.dy_rules.specs.Marks.{made, in_round, statement_group, word_mark, comma_mark}
use Rattle.dy_rules.specs.Marks.{semicolon_mark, equals_mark}
use Rattle.dy_rules.specs.TypeWriting.{written_variable, written_target, written_types}
use Rattle.dy_rules.specs.Writing.{written, written_initial, written_body, written_signature}
use Rattle.dy_rules.specs.Forms.{SlotOption, init_keyword, required_init_keyword, init_value}
use Rattle.dy_rules.specs.Forms.{init_function, setter, SlotTree, FormTree, expression_form}
use Rattle.dy_rules.specs.Forms.{class_form, constant_form, variable_form, generic_form}
use Rattle.dy_rules.specs.Forms.{method_form, function_form, domain_form}

abbrev pub written_names : List Token → List SeenFragment
written_names [] = []
written_names (token ∷ []) = one token ∷ []
written_names (token ∷ second ∷ others) = one token ∷ comma_mark ∷ written_names (second ∷ others)

abbrev pub key_mark_of : List ℕ → SeenFragment
key_mark_of text = one (made kinds.Symbol text)

abbrev pub written_option : SlotOption → List SeenFragment
written_option (init_keyword token) = key_mark_of (codes "init-keyword") ∷ one token ∷ []
written_option (required_init_keyword token) =
    key_mark_of (codes "required-init-keyword") ∷ one token ∷ []
written_option (init_value tree) = key_mark_of (codes "init-value") ∷ written tree
written_option (init_function tree) = key_mark_of (codes "init-function") ∷ written tree
written_option (setter token) = key_mark_of (codes "setter") ∷ one token ∷ []

abbrev pub written_options : List SlotOption → List SeenFragment
written_options [] = []
written_options (first ∷ rest) = comma_mark ∷ (written_option first ++ written_options rest)

abbrev pub written_slot : SlotTree → List SeenFragment
written_slot slot = (map one slot.adjectives ++ word_mark (codes "slot")
    ∷ (written_variable slot.variable ++ written_initial slot.default))
    ++ written_options slot.options

abbrev pub written_slots : List SlotTree → List SeenFragment
written_slots [] = []
written_slots (first ∷ rest) = written_slot first ++ semicolon_mark ∷ written_slots rest

abbrev pub definition_group : Token → List Token → SeenFragment → List SeenFragment → SeenFragment
definition_group define adjectives word rest =
    statement_group define (map one adjectives ++ word ∷ rest)

-- a whole form
abbrev pub written_form : FormTree → List SeenFragment
written_form (expression_form tree) = written tree
written_form (class_form define adjectives token superclasses slots) =
    definition_group define adjectives (word_mark (codes "class"))
    (one token ∷ in_round (written_names superclasses) ∷ written_slots slots) ∷ []
written_form (constant_form define target assigned) =
    one define ∷ word_mark (codes "constant")
    ∷ (written_target target ++ equals_mark ∷ written assigned)
written_form (variable_form define target assigned) =
    one define ∷ word_mark (codes "variable")
    ∷ (written_target target ++ equals_mark ∷ written assigned)
written_form (generic_form define adjectives token signature) =
    one define ∷ (map one adjectives ++ word_mark (codes "generic") ∷ one token
    ∷ written_signature signature)
written_form (method_form define adjectives word token signature body) =
    definition_group define adjectives (one word)
    (one token ∷ (written_signature signature ++ semicolon_mark ∷ written_body body)) ∷ []
written_form (function_form define adjectives token signature body) =
    definition_group define adjectives (word_mark (codes "function"))
    (one token ∷ (written_signature signature ++ semicolon_mark ∷ written_body body)) ∷ []
written_form (domain_form define token types) =
    one define ∷ word_mark (codes "sealed") ∷ word_mark (codes "domain") ∷ one token
    ∷ in_round (written_types (types_of types)) ∷ []

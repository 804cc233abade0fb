-- The constructs that a form holds: what it is, and what its parts hold, in the order of the text
-- (DRM 5; DRM 6; DRM, appendix A).
use Rattle.std.specs.Prelude.{ℕ, ◌+◌, ◌++◌, Bool, false, not, List, [], ◌∷◌, map, flat_map, codes}
use Rattle.std.specs.Prelude.{Option, Some, None, option_map, if◌then◌else◌}
use Rattle.dy_tree.specs.declared.token.Token.{Token}
use Rattle.dy_tree.specs.declared.types.LiteralForm.{LiteralForm}
use Rattle.dy_tree.specs.declared.types.LiteralForm.TheVariants as literals
use Rattle.dy_tree.specs.Spelling.{is_spelled}
use Rattle.dy_rules.specs.Trees as source
use Rattle.dy_rules.specs.Trees.{Tree, Arguments, Argument}
use Rattle.dy_rules.specs.Forms as forms
use Rattle.dy_rules.specs.Forms.{FormTree, SlotTree, SlotOption}
use Rattle.dy_construct_parts.specs.declared.construct.Construct.{Construct}
use Rattle.dy_construct_parts.specs.declared.construct.Construct.TheVariants as constructs
use Rattle.dy_construct_parts.specs.Table.{where_true}
use Rattle.dy_construct_parts.specs.Words.{adjective, slot_adjective}
use Rattle.dy_construct_parts.specs.Directives.{has_directives}
use Rattle.dy_construct_parts.specs.Parts.{in_type, in_variable, in_target}
use Rattle.dy_constructs.specs.Bodies.{in_value, in_each_argument, in_body, in_parameters, in_maybe}

abbrev pub count_arguments : Arguments → ℕ
count_arguments source.no_argument = 0
count_arguments (source.argument_and first rest) = count_arguments rest + 1

abbrev pub names_format_out : Tree → Bool
names_format_out (source.name token) = is_spelled (codes "format-out") token
names_format_out _ = false

abbrev pub literal_text : LiteralForm → Option Token
literal_text (literals.Str token) = Some token
literal_text _ = None

abbrev pub text_in : Tree → Option Token
text_in (source.literal value) = literal_text value
text_in _ = None

abbrev pub argument_text : Argument → Option Token
argument_text (source.value tree) = text_in tree
argument_text (source.keyword symbol value) = None

-- a string literal, and the arguments behind it
abbrev pub text_first : Arguments → Option (Token × Arguments)
text_first source.no_argument = None
text_first (source.argument_and first rest) =
    option_map (λ text. (text, rest)) (argument_text first)

-- the text of a printing call, and the arguments behind it
abbrev pub printing : Tree → Option (Token × Arguments)
printing (source.call function arguments) =
    if names_format_out function then text_first arguments else None
printing _ = None

abbrev pub in_printing : Token → Arguments → List Construct
in_printing text rest =
    constructs.PrintingCall
    ∷ (where_true constructs.OtherDirectives (not (has_directives text.text (count_arguments rest)))
    ++ in_each_argument rest)

-- an expression as a form, which may be a printing call
abbrev pub in_expression_form : Tree → Option (Token × Arguments) → List Construct
in_expression_form tree None = constructs.ExpressionForm ∷ in_value tree
in_expression_form tree (Some found) = in_printing found.0 found.1

abbrev pub in_option : SlotOption → List Construct
in_option (forms.init_keyword token) = constructs.InitKeyword ∷ []
in_option (forms.required_init_keyword token) = constructs.RequiredInitKeyword ∷ []
in_option (forms.init_value tree) = constructs.InitialValue ∷ in_value tree
in_option (forms.init_function tree) = constructs.InitFunction ∷ in_value tree
in_option (forms.setter token) = constructs.NamedSetter ∷ []

abbrev pub in_slot : SlotTree → List Construct
in_slot slot =
    constructs.Slot
    ∷ (map slot_adjective slot.adjectives ++ in_variable constructs.TypedSlot slot.variable
    ++ in_maybe constructs.InitialValue slot.default ++ flat_map in_option slot.options)

abbrev pub in_form : FormTree → List Construct
in_form (forms.expression_form tree) = in_expression_form tree (printing tree)
in_form (forms.class_form define adjectives token superclasses slots) =
    constructs.ClassDefinition ∷ (map adjective adjectives ++ flat_map in_slot slots)
in_form (forms.constant_form define target value) =
    constructs.ConstantDefinition ∷ (in_target target ++ in_value value)
in_form (forms.variable_form define target value) =
    constructs.VariableDefinition ∷ (in_target target ++ in_value value)
in_form (forms.generic_form define adjectives token row) =
    constructs.GenericDefinition ∷ (map adjective adjectives ++ in_parameters row)
in_form (forms.method_form define adjectives word token row body) =
    constructs.MethodDefinition ∷ (map adjective adjectives ++ in_parameters row ++ in_body body)
in_form (forms.function_form define adjectives token row body) =
    constructs.FunctionDefinition ∷ (map adjective adjectives ++ in_parameters row ++ in_body body)
in_form (forms.domain_form define token types) =
    constructs.DomainDefinition ∷ flat_map in_type types

pub data IsAmong (construct : Construct) : List Construct → Type 0 where
  here : (others : List Construct) → IsAmong construct (construct ∷ others)
  behind : (other : Construct) (others : List Construct) → IsAmong construct others
      → IsAmong construct (other ∷ others)

-- A form holds a construct where it is one, or a part of it holds it.
abbrev pub Holds : Construct → FormTree → Type 0
Holds construct form = IsAmong construct (in_form form)

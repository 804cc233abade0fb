-- How deep a form is (own). A definition is one deeper than its deepest part.
use Rattle.std.specs.Prelude.{ℕ, ◌+◌, max, List, [], ◌∷◌}
use Rattle.dy_rules.specs.Types.{TypeTree}
use Rattle.dy_rules.specs.Forms.{SlotOption, init_keyword, required_init_keyword, init_value}
use Rattle.dy_rules.specs.Forms.{init_function, setter, SlotTree, FormTree, expression_form}
use Rattle.dy_rules.specs.Forms.{class_form, constant_form, variable_form, generic_form}
use Rattle.dy_rules.specs.Forms.{method_form, function_form, domain_form}
use Rattle.dy_rules.specs.Depth.{type_depth, variable_depth, target_depth, depth, body_depth}
use Rattle.dy_rules.specs.Depth.{parameters_depth, maybe_depth}

abbrev pub option_depth : SlotOption → ℕ
option_depth (init_keyword token) = 0
option_depth (required_init_keyword token) = 0
option_depth (init_value tree) = depth tree
option_depth (init_function tree) = depth tree
option_depth (setter token) = 0

abbrev pub options_depth : List SlotOption → ℕ
options_depth [] = 0
options_depth (first ∷ rest) = max (option_depth first) (options_depth rest)

abbrev pub slots_depth : List SlotTree → ℕ
slots_depth [] = 0
slots_depth (first ∷ rest) =
    max (max (variable_depth first.variable)
    (max (maybe_depth first.default) (options_depth first.options))) (slots_depth rest)

abbrev pub domain_depth : List TypeTree → ℕ
domain_depth [] = 0
domain_depth (first ∷ rest) = max (type_depth first) (domain_depth rest)

abbrev pub form_depth : FormTree → ℕ
form_depth (expression_form tree) = depth tree
form_depth (class_form define adjectives token superclasses slots) = 1 + slots_depth slots
form_depth (constant_form define target assigned) = 1 + max (target_depth target) (depth assigned)
form_depth (variable_form define target assigned) = 1 + max (target_depth target) (depth assigned)
form_depth (generic_form define adjectives token signature) = 1 + parameters_depth signature
form_depth (method_form define adjectives word token signature body) =
    1 + max (parameters_depth signature) (body_depth body)
form_depth (function_form define adjectives token signature body) =
    1 + max (parameters_depth signature) (body_depth body)
form_depth (domain_form define token types) = 1 + domain_depth types

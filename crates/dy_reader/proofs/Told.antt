-- What is told of a form that was read is what is told of the fragments.
use Rattle.std.proofs.Common.{◌≡◌, Bool, Option, Some, None, option_map, refl, ap, ◌∙◌}
use Rattle.dy_rules.specs.SeenForms.{seen_form}
use Rattle.dy_rules.specs.Forms.{SlotOption, init_keyword, required_init_keyword, init_value, init_function, setter, SlotTree, FormTree, expression_form, class_form, constant_form, variable_form, generic_form, method_form, function_form, domain_form}
use Rattle.dy_rules.specs.Parsing.{limited, parsed_if}
use Rattle.dy_rules_depth.specs.Capping.{capped_type}
use Rattle.dy_rules_depth.proofs.Options.{map_twice}
use Rattle.dy_rules_depth.proofs.Twice.{tree_twice, type_twice, variable_twice, target_twice, maybe_twice, parameters_twice, body_twice}
use Rattle.dy_rules_depth.proofs.Told.{filled_told}
use Rattle.dy_read_forms.specs.declared.form_read.FormRead.{FormRead}
use Rattle.dy_read_forms.specs.ReadDefinitions.{read_found}
use Rattle.dy_read_forms.specs.ReadForms.{capped_option, capped_slot, capped_form}
use Rattle.dy_reader.specs.Told.{told_of}

-- Trees that were put in the place of those that are too deep stay there.

option_twice : (option : SlotOption) → capped_option (capped_option option) ≡ capped_option option
option_twice (init_keyword token) = refl
option_twice (required_init_keyword token) = refl
option_twice (init_value tree) = ap init_value (tree_twice tree)
option_twice (init_function tree) = ap init_function (tree_twice tree)
option_twice (setter token) = refl

slot_twice : (slot : SlotTree) → capped_slot (capped_slot slot) ≡ capped_slot slot
slot_twice slot = cc (variable_twice slot.variable, maybe_twice slot.default, map_twice capped_option option_twice slot.options)

form_twice : (form : FormTree) → capped_form (capped_form form) ≡ capped_form form
form_twice (expression_form tree) = ap expression_form (tree_twice tree)
form_twice (class_form define adjectives token superclasses slots) = ap (class_form define adjectives token superclasses) (map_twice capped_slot slot_twice slots)
form_twice (constant_form define target assigned) = cc (target_twice target, tree_twice assigned)
form_twice (variable_form define target assigned) = cc (target_twice target, tree_twice assigned)
form_twice (generic_form define adjectives token signature) = ap (generic_form define adjectives token) (parameters_twice signature)
form_twice (method_form define adjectives word token signature body) = cc (parameters_twice signature, body_twice body)
form_twice (function_form define adjectives token signature body) = cc (parameters_twice signature, body_twice body)
form_twice (domain_form define token types) = ap (domain_form define token) (map_twice capped_type type_twice types)

pub told_same : (found : Option FormRead) (form : Option FormTree) → option_map read_found found ≡ option_map capped_form form → told_of found ≡ parsed_if form
told_same None None e = refl
told_same (Some found) (Some form) e =
    let same : read_found found ≡ capped_form form = cc in
    ap (λ (deep : Bool). limited deep (seen_form found.form)) found.deep_is ∙ filled_told (seen_form found.form) form (ap capped_form same ∙ form_twice form)
told_same found form e = absurd cc

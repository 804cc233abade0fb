use Rattle.std.proofs.Common.{◌≡◌, ◌∷◌, ◌++◌, map, flat_map, refl, sym, ap, ◌∙◌}
use Rattle.dy_construct_parts.specs.declared.construct.Construct.TheVariants as constructs
use Rattle.dy_construct_parts.specs.Table.{first_absent}
use Rattle.dy_rules.specs.SeenTypes.{seen_target}
use Rattle.dy_rules.specs.SeenForms.{seen_form, seen_parameters, seen_slot, seen_tree}
use Rattle.dy_rules.specs.Held.{held_body}
use Rattle.dy_construct_parts.specs.Words.{adjective}
use Rattle.dy_construct_parts.specs.Parts.{in_target}
use Rattle.dy_constructs.specs.Bodies.{in_value, in_parameters, in_body}
use Rattle.dy_constructs.specs.Forms.{in_form, in_slot}
use Rattle.dy_construct_parts.proofs.Firsts.{parts_2, parts_3}
use Rattle.dy_constructs.proofs.forms.absent_construct.Goals as goal

pub returns-in-Class : goal.returns-in-Class
returns-in-Class c =
    let words = map adjective c.in-Class.adjectives.items in
    let slots = flat_map in_slot (map seen_slot c.in-Class.slots.items) in
    let from : in_form (seen_form c.args.form.now) ≡ constructs.ClassDefinition ∷ (words ++ slots) = rw c.in-Class.is refl in
    parts_2 _ _ _ _ _ constructs.ClassDefinition words slots c.absent.ensures c.in_adjectives.ensures c.or.ensures c.in_slots.ensures c.or-in-Class.ensures ∙ sym (ap first_absent from)

pub returns-in-Constant : goal.returns-in-Constant
returns-in-Constant c =
    let target = in_target (seen_target c.in-Constant.target) in
    let value = in_value (seen_tree c.in-Constant.value) in
    let from : in_form (seen_form c.args.form.now) ≡ constructs.ConstantDefinition ∷ (target ++ value) = rw c.in-Constant.is refl in
    parts_2 _ _ _ _ _ constructs.ConstantDefinition target value c.absent-in-Constant.ensures c.in_target.ensures c.or-in-Constant.ensures c.in_value.ensures c.or-in-Constant-2.ensures ∙ sym (ap first_absent from)

pub returns-in-Variable : goal.returns-in-Variable
returns-in-Variable c =
    let target = in_target (seen_target c.in-Variable.target) in
    let value = in_value (seen_tree c.in-Variable.value) in
    let from : in_form (seen_form c.args.form.now) ≡ constructs.VariableDefinition ∷ (target ++ value) = rw c.in-Variable.is refl in
    parts_2 _ _ _ _ _ constructs.VariableDefinition target value c.absent-in-Variable.ensures c.in_target-in-Variable.ensures c.or-in-Variable.ensures c.in_value-in-Variable.ensures c.or-in-Variable-2.ensures ∙ sym (ap first_absent from)

pub returns-in-Generic : goal.returns-in-Generic
returns-in-Generic c =
    let words = map adjective c.in-Generic.adjectives.items in
    let row = in_parameters (seen_parameters c.in-Generic.parameters) in
    let from : in_form (seen_form c.args.form.now) ≡ constructs.GenericDefinition ∷ (words ++ row) = rw c.in-Generic.is refl in
    parts_2 _ _ _ _ _ constructs.GenericDefinition words row c.absent-in-Generic.ensures c.in_adjectives-in-Generic.ensures c.or-in-Generic.ensures c.in_parameters.ensures c.or-in-Generic-2.ensures ∙ sym (ap first_absent from)

pub returns-in-Method : goal.returns-in-Method
returns-in-Method c =
    let words = map adjective c.in-Method.adjectives.items in
    let row = in_parameters (seen_parameters c.in-Method.parameters) in
    let body = in_body (held_body c.in-Method.body) in
    let from : in_form (seen_form c.args.form.now) ≡ constructs.MethodDefinition ∷ (words ++ row ++ body) = rw c.in-Method.is refl in
    parts_3 _ _ _ _ _ _ _ constructs.MethodDefinition words row body c.absent-in-Method.ensures c.in_adjectives-in-Method.ensures c.or-in-Method.ensures c.in_parameters-in-Method.ensures c.or-in-Method-2.ensures c.in_body.ensures c.or-in-Method-3.ensures ∙ sym (ap first_absent from)

pub returns-in-Function : goal.returns-in-Function
returns-in-Function c =
    let words = map adjective c.in-Function.adjectives.items in
    let row = in_parameters (seen_parameters c.in-Function.parameters) in
    let body = in_body (held_body c.in-Function.body) in
    let from : in_form (seen_form c.args.form.now) ≡ constructs.FunctionDefinition ∷ (words ++ row ++ body) = rw c.in-Function.is refl in
    parts_3 _ _ _ _ _ _ _ constructs.FunctionDefinition words row body c.absent-in-Function.ensures c.in_adjectives-in-Function.ensures c.or-in-Function.ensures c.in_parameters-in-Function.ensures c.or-in-Function-2.ensures c.in_body-in-Function.ensures c.or-in-Function-3.ensures ∙ sym (ap first_absent from)

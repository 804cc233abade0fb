use Rattle.std.proofs.Common.{◌≡◌, Option, option_map, sym, ap, ◌∙◌}
use Rattle.std.proofs.lemmas.Result.{IfOk-weaker}
use Rattle.dy_tree.specs.Fragments.{seen_fragments}
use Rattle.dy_rules.specs.TypeReading as reading
use Rattle.dy_rules.specs.Fragments.{items_of}
use Rattle.dy_read_types.specs.declared.variables.VariableFront.{VariableFront}
use Rattle.dy_read_types.specs.VariableFronts.{seen_front, capped_front}
use Rattle.dy_read_types.proofs.VariableParts.{typed_changed}
use Rattle.dy_read_types.proofs.variables.variable_front.Goals as goal

pub returns-in_ok-type_front-in-Typed-clause-front : goal.returns-in_ok-type_front-in-Typed-clause-front
returns-in_ok-type_front-in-Typed-clause-front c =
    let token = c.in-Typed.name.now in
    let from =
    ap (option_map (reading.typed_front token)) c.in_ok-type_front-in-Typed.ensures.front ∙ typed_changed token (reading.type_front (items_of (seen_fragments c.in-Typed.rest.now)))
    ∙ ap (option_map capped_front) (sym c.in-Typed.ensures)
    in
    IfOk-weaker c.typed.result _ (λ (found : Option VariableFront). option_map seen_front found ≡ option_map capped_front (reading.variable_front (items_of (seen_fragments c.args.fragments.now)))) (λ found e. e ∙ from) c.typed.ensures

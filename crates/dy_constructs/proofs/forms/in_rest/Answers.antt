use Rattle.std.proofs.Common.{◌<◌, ◌≤◌, length, List, map, flat_map, sym, ap, ◌∙◌, arith}
use Rattle.std.proofs.lemmas.List.{take_all}
use Rattle.dy_tree.specs.declared.expression.Argument.{Argument}
use Rattle.dy_rules.specs.SeenForms.{seen_argument}
use Rattle.dy_construct_parts.specs.Table.{first_absent}
use Rattle.dy_constructs.specs.Bodies.{in_argument}
use Rattle.dy_construct_parts.proofs.Firsts.{seen_step}
use Rattle.dy_constructs.proofs.Rows.{each_argument_flat}
use Rattle.dy_constructs.proofs.forms.in_rest.Goals as goal

pub loop-argument-preserved : goal.loop-argument-preserved
loop-argument-preserved c =
    let items = c.args.arguments.now in
    let lt : c.loop-argument.argument-index < length items = omega arith in
    seen_step in_argument seen_argument items c.loop-argument.argument-index c.argument-item.result lt c.argument-item.is _ _ _ c.loop-argument.invariant c.in_argument.ensures c.or-found.ensures

pub returns : goal.returns
returns c =
    let items = c.args.arguments.now in
    let le : length items ≤ c.loop-argument.argument-index = omega arith in
    c.loop-argument.invariant
    ∙ ap (λ (list : List Argument). first_absent (flat_map in_argument (map seen_argument list))) (take_all c.loop-argument.argument-index items le)
    ∙ sym (ap first_absent (each_argument_flat (map seen_argument items)))

use Rattle.std.proofs.Common.{◌≡◌, Option, option_map, sym, ap, ◌∙◌}
use Rattle.std.proofs.lemmas.Result.{IfOk-weaker}
use Rattle.dy_tree.specs.declared.variables.Target.{Target}
use Rattle.dy_tree.specs.Fragments.{seen_fragments}
use Rattle.dy_rules.specs.Fragments.{items_of}
use Rattle.dy_rules.specs.Types.{one_target}
use Rattle.dy_rules.specs.TypeReading.{variable_items, target_items}
use Rattle.dy_read_types.specs.Targets.{read_target, capped_target}
use Rattle.dy_read_types.proofs.TargetParts.{one_changed}
use Rattle.dy_read_types.proofs.targets.target_items.Goals as goal

pub returns-in-Some-clause-found : goal.returns-in-Some-clause-found
returns-in-Some-clause-found c =
    let from = ap (option_map capped_target) (sym c.in-Some.ensures) in
    IfOk-weaker c.bracketed.result _ (λ (found : Option Target). option_map read_target found ≡ option_map capped_target (target_items (items_of (seen_fragments c.args.fragments.now)))) (λ found e. e ∙ from) c.bracketed.ensures.found

pub returns-in_ok-variable_items-in-None-clause-found : goal.returns-in_ok-variable_items-in-None-clause-found
returns-in_ok-variable_items-in-None-clause-found c =
    c.one.ensures ∙ ap (option_map one_target) c.in_ok-variable_items-in-None.ensures.found ∙ one_changed (variable_items (items_of (seen_fragments c.args.fragments.now))) ∙ ap (option_map capped_target) (sym c.in-None.ensures)

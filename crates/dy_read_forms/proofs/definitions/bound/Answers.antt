use Rattle.std.proofs.Common.{Option, option_map, option_and_then, sym, ap, ◌∙◌}
use Rattle.dy_tree.specs.Fragments.{seen_fragments}
use Rattle.dy_rules.specs.Cutting.{Sides}
use Rattle.dy_rules.specs.Fragments.{items_of}
use Rattle.dy_rules.specs.TypeReading.{target_items}
use Rattle.dy_read_forms.specs.ReadDefinitions.{bound_of, bound_sides, capped_bound}
use Rattle.dy_read_parts.specs.Sides.{seen_sides}
use Rattle.dy_read_types.specs.Targets.{read_target}
use Rattle.dy_read_forms.proofs.DefinitionParts.{bound_through}
use Rattle.dy_read_forms.proofs.definitions.bound.Goals as goal

pub returns-in_ok-value-in-Some-2 : goal.returns-in_ok-value-in-Some-2
returns-in_ok-value-in-Some-2 c =
    let before = items_of (seen_fragments c.in-Some.sides.before.now) in
    let after = items_of (seen_fragments c.in-Some.sides.after.now) in
    let target = read_target c.in-Some-2.target in
    c.bound_to.ensures
    ∙ ap (option_map (bound_of target)) c.in_ok-value-in-Some-2.ensures
    ∙ bound_through after target (target_items before) (ap (option_map read_target) (sym c.in-Some-2.is) ∙ c.in_ok-target-in-Some.ensures.found)
    ∙ ap (λ (sides : Option Sides). option_map capped_bound (option_and_then bound_sides sides)) (ap (option_map seen_sides) (sym c.in-Some.is) ∙ c.sides_of_equals.ensures.sides)

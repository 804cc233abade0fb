use Rattle.std.proofs.Common.{option_map, sym, ap, ◌∙◌}
use Rattle.dy_read_forms.specs.ReadForms.{options_in}
use Rattle.dy_read_types.specs.VariableFronts.{seen_front}
use Rattle.dy_read_forms.proofs.SlotParts.{with_parts}
use Rattle.dy_read_forms.proofs.slots.slot_front.Goals as goal

pub returns-in_ok-value-in-Some-2-clause-found : goal.returns-in_ok-value-in-Some-2-clause-found
returns-in_ok-value-in-Some-2-clause-found c =
    c.slot_of.ensures
    ∙ with_parts _ _ c.requires (options_in c.in-Some.options) (seen_front c.in-Some-2.front) _ (ap (option_map options_in) (sym c.in-Some.is) ∙ c.in_ok-options.ensures.found) (ap (option_map seen_front) (sym c.in-Some-2.is) ∙ c.in_ok-front-in-Some.ensures.front) c.in_ok-value-in-Some-2.ensures.found

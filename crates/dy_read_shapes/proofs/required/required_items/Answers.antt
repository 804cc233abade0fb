use Rattle.std.proofs.Common.{option_map, sym, ap, ◌∙◌}
use Rattle.dy_tree.specs.Fragments.{seen_fragments}
use Rattle.dy_rules.specs.Fragments.{items_of}
use Rattle.dy_rules.specs.Types.{required_variable}
use Rattle.dy_rules.specs.TypeReading.{variable_items}
use Rattle.dy_read_shapes.specs.ReadRequired.{capped_required}
use Rattle.dy_read_shapes.proofs.RequiredParts.{any_changed}
use Rattle.dy_read_shapes.proofs.required.required_items.Goals as goal

pub returns-in_ok-variable_items-in-None-clause-found : goal.returns-in_ok-variable_items-in-None-clause-found
returns-in_ok-variable_items-in-None-clause-found c =
    c.any_value.ensures ∙ ap (option_map required_variable) c.in_ok-variable_items-in-None.ensures.found ∙ any_changed (variable_items (items_of (seen_fragments c.args.fragments.now))) ∙ ap (option_map capped_required) (sym c.in-None.ensures)

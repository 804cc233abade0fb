use Rattle.std.proofs.Common.{option_and_then, ap, ◌∙◌}
use Rattle.dy_tree.specs.Fragments.{seen_fragments}
use Rattle.dy_rules.specs.TypeReading.{variable_front, whole_variable}
use Rattle.dy_rules.specs.Fragments.{items_of}
use Rattle.dy_read_types.proofs.VariableParts.{whole_changed}
use Rattle.dy_read_types.proofs.variables.variable_items.Goals as goal

pub returns-clause-found : goal.returns-clause-found
returns-clause-found c =
    c.whole.ensures ∙ ap (option_and_then whole_variable) c.in_ok-variable_front.ensures.front ∙ whole_changed (variable_front (items_of (seen_fragments c.args.fragments.now)))

use Rattle.std.proofs.Common.{option_map, ap, ◌∙◌}
use Rattle.dy_tree.specs.Fragments.{seen_fragments}
use Rattle.dy_rules.specs.TypeReading.{bind_items, several_of}
use Rattle.dy_rules.specs.Fragments.{items_of}
use Rattle.dy_read_types.proofs.TargetParts.{several_inside}
use Rattle.dy_read_types.proofs.targets.bracketed.Goals as goal

pub returns-in_ok-bind_items-clause-found : goal.returns-in_ok-bind_items-clause-found
returns-in_ok-bind_items-clause-found c =
    c.several.ensures ∙ ap (option_map several_of) c.in_ok-bind_items.ensures.found ∙ several_inside c.args.inner.now (bind_items (items_of (seen_fragments c.args.inner.now))) c.if-is_empty.ensures

use Rattle.std.proofs.Common.{option_map, ap, ◌∙◌}
use Rattle.dy_rules.specs.Signatures.{several_given}
use Rattle.dy_read_types.proofs.ResultParts.{given_inside}
use Rattle.dy_read_types.proofs.results.several_in.Goals as goal

pub returns-in_ok-give_items-clause-found : goal.returns-in_ok-give_items-clause-found
returns-in_ok-give_items-clause-found c = c.several.ensures ∙ ap (option_map several_given) c.in_ok-give_items.ensures.found ∙ given_inside c.args.inner.now c.if-is_empty.ensures

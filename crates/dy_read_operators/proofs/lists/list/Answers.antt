use Rattle.std.proofs.Common.{Some, option_map, sym, ap, ◌∙◌}
use Rattle.dy_tree.specs.Fragments.{pack, seen_fragments}
use Rattle.dy_rules.specs.ConstantReading.{list_in}
use Rattle.dy_read_constants.specs.ConstantFronts.{read_inside}
use Rattle.dy_read_operators.specs.ListTrees.{capped_list}
use Rattle.dy_read_operators.proofs.ListTrees.{list_through}
use Rattle.dy_read_operators.proofs.lists.list.Goals as goal

pub returns-in_ok-list_within-in-Some : goal.returns-in_ok-list_within-in-Some
returns-in_ok-list_within-in-Some c =
    ap Some c.in_ok-list_within-in-Some.ensures ∙ ap (option_map (capped_list c.args.opener.now)) (ap (option_map read_inside) (sym c.in-Some.is) ∙ c.in_ok-found.ensures.found)
    ∙ list_through c.args.opener.now (list_in (pack (seen_fragments c.args.fragments.now)))

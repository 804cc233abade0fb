-- A statement with what was filled in of its parts.
use Rattle.dy_rules.specs.Trees.{Tree, begin_tree, if_tree, guarded, case_tree, select_tree}
use Rattle.dy_rules.specs.Trees.{block_tree, for_tree, method_tree}
use Rattle.dy_rules_depth.specs.Changes.{changed_maybe, changed_parameters, changed_body}
use Rattle.dy_rules_depth.specs.Changes.{changed_alternatives, changed_otherwise, changed_arms}
use Rattle.dy_rules_depth.specs.Changes.{changed_clauses, changed_for_clauses, changed_stop}
use Rattle.dy_rules_depth.specs.Capping.{filled, filling}

abbrev pub filled_inside : Tree → Tree
filled_inside (begin_tree word body) = begin_tree word (changed_body filling body)
filled_inside (if_tree word test body others last) =
    if_tree word (filled test) (changed_body filling body) (changed_alternatives filling others)
    (changed_otherwise filling last)
filled_inside (guarded guard word test body) =
    guarded guard word (filled test) (changed_body filling body)
filled_inside (case_tree word arms last) =
    case_tree word (changed_arms filling arms) (changed_otherwise filling last)
filled_inside (select_tree word selected test arms last) =
    select_tree word (filled selected) (changed_maybe filling test) (changed_arms filling arms)
    (changed_otherwise filling last)
filled_inside (block_tree word exit body clauses) =
    block_tree word exit (changed_body filling body) (changed_clauses filling clauses)
filled_inside (for_tree word clauses stop body last) =
    for_tree word (changed_for_clauses filling clauses) (changed_stop filling stop)
    (changed_body filling body) (changed_otherwise filling last)
filled_inside (method_tree word signature body) =
    method_tree word (changed_parameters filling signature) (changed_body filling body)
filled_inside tree = tree

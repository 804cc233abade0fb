use Rattle.std.proofs.Common.{option_map, sym, ap, ◌∙◌}
use Rattle.dy_tree.specs.Fragments.{seen_fragments}
use Rattle.dy_rules.specs.Fragments.{items_of}
use Rattle.dy_rules.specs.Signatures.{results_in_front, variable_result}
use Rattle.dy_rules.specs.TypeReading.{variable_front}
use Rattle.dy_read_parts.specs.Front as brackets
use Rattle.dy_read_types.specs.Results.{capped_front, several_in}
use Rattle.dy_read_parts.proofs.Fronts.{front_first}
use Rattle.dy_read_types.proofs.ResultParts.{in_front_changed, one_changed, results_bracketed, results_other}
use Rattle.dy_read_types.proofs.results.results_behind.Goals as goal

pub returns-in_ok-several_in-in-Some-clause-front : goal.returns-in_ok-several_in-in-Some-clause-front
returns-in_ok-several_in-in-Some-clause-front c =
    let front = c.in-Some.front in
    let fragments = seen_fragments c.args.fragments.now in
    let inner = seen_fragments front.inner.now in
    let rest = items_of (seen_fragments front.rest.now) in
    c.in_front.ensures ∙ ap (option_map (results_in_front rest)) c.in_ok-several_in-in-Some.ensures.found ∙ in_front_changed rest (several_in inner)
    ∙ ap (option_map capped_front) (sym (results_bracketed front.opener.now inner front.closer.now (items_of fragments) rest (front_first fragments (brackets.seen_front front) c.in-Some.ensures.front) c.in-Some.ensures.is_round))

pub returns-in_ok-variable_front-in-None-clause-front : goal.returns-in_ok-variable_front-in-None-clause-front
returns-in_ok-variable_front-in-None-clause-front c =
    let fragments = seen_fragments c.args.fragments.now in
    c.one.ensures ∙ ap (option_map variable_result) c.in_ok-variable_front-in-None.ensures.front ∙ one_changed (variable_front (items_of fragments)) ∙ ap (option_map capped_front) (sym (results_other fragments c.in-None.ensures.front))

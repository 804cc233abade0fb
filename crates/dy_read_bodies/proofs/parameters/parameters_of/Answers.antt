use Rattle.std.proofs.Common.{map, option_map, ap, ◌∙◌}
use Rattle.dy_rules.specs.SeenTypes.{seen_required, seen_results}
use Rattle.dy_rules.specs.Trees.{MaybeKeys, parameters}
use Rattle.dy_rules_depth.specs.Changes.{changed_parameters}
use Rattle.dy_rules_depth.specs.Capping.{filling}
use Rattle.dy_read_bodies.proofs.ParameterParts.{filled_parameters}
use Rattle.dy_read_bodies.proofs.parameters.parameters_of.Goals as goal

pub returns : goal.returns
returns c =
    let listed = c.args.listed in
    let required = map seen_required listed.required.items in
    let results = option_map seen_results c.args.results in
    ap (changed_parameters filling) (c.parameters_form.ensures ∙ ap (λ (keys : MaybeKeys). parameters required listed.next listed.rest keys results) c.maybe_keys.ensures)
    ∙ filled_parameters listed.required.items listed.next listed.rest listed.keys c.args.results

use Rattle.std.proofs.Common.{◌≡◌, ◌∷◌, ◌++◌, map, flat_map, option_map, refl, sym, ap, ◌∙◌}
use Rattle.dy_construct_parts.specs.declared.construct.Construct.TheVariants as constructs
use Rattle.dy_construct_parts.specs.Table.{first_absent}
use Rattle.dy_rules.specs.SeenTypes.{seen_results, seen_variable}
use Rattle.dy_construct_parts.specs.Parts.{in_given, in_rest_result, in_variable}
use Rattle.dy_construct_parts.proofs.Firsts.{parts_2}
use Rattle.dy_construct_parts.proofs.bindings.in_given.Goals as goal

pub returns-in-Several : goal.returns-in-Several
returns-in-Several c =
    let variables = flat_map (in_variable constructs.TypedResult) (map seen_variable c.in-Several.variables.items) in
    let rest = in_rest_result (option_map seen_variable c.in-Several.rest) in
    let from : in_given (seen_results c.args.results.now) ≡ constructs.Results ∷ (variables ++ rest) = rw c.in-Several.is refl in
    parts_2 _ _ _ _ _ constructs.Results variables rest c.absent.ensures c.in_variables.ensures c.or.ensures c.in_rest_result.ensures c.or-in-Several.ensures ∙ sym (ap first_absent from)

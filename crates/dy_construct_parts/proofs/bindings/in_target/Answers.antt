use Rattle.std.proofs.Common.{◌≡◌, ◌∷◌, ◌++◌, map, flat_map, refl, sym, ap, ◌∙◌}
use Rattle.dy_construct_parts.specs.declared.construct.Construct.TheVariants as constructs
use Rattle.dy_construct_parts.specs.Table.{first_absent, where_given}
use Rattle.dy_rules.specs.SeenTypes.{seen_target, seen_variable}
use Rattle.dy_construct_parts.specs.Parts.{in_target, in_variable}
use Rattle.dy_construct_parts.proofs.Firsts.{parts_2}
use Rattle.dy_construct_parts.proofs.bindings.in_target.Goals as goal

pub returns-in-Several : goal.returns-in-Several
returns-in-Several c =
    let variables = flat_map (in_variable constructs.TypedVariable) (map seen_variable c.in-Several.bound.variables.items) in
    let rest = where_given constructs.RestVariable c.in-Several.bound.rest in
    let from : in_target (seen_target c.args.target.now) ≡ constructs.SeveralVariables ∷ (variables ++ rest) = rw c.in-Several.is refl in
    parts_2 _ _ _ _ _ constructs.SeveralVariables variables rest c.absent.ensures c.in_variables.ensures c.or.ensures c.where_given.ensures c.or-in-Several.ensures ∙ sym (ap first_absent from)

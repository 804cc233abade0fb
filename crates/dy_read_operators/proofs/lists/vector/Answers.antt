use Rattle.std.proofs.Common.{Some, option_map, sym, ap, ◌∙◌}
use Rattle.dy_tree.specs.Fragments.{pack, seen_fragments}
use Rattle.dy_rules.specs.ConstantReading.{vector_in}
use Rattle.dy_read_constants.specs.ConstantFronts.{read_vector}
use Rattle.dy_read_operators.specs.ListTrees.{capped_vector}
use Rattle.dy_read_operators.proofs.ListTrees.{vector_through}
use Rattle.dy_read_operators.proofs.lists.vector.Goals as goal

pub returns-in_ok-vector_within-in-Some : goal.returns-in_ok-vector_within-in-Some
returns-in_ok-vector_within-in-Some c =
    ap Some c.in_ok-vector_within-in-Some.ensures ∙ ap (option_map (capped_vector c.args.opener.now)) (ap (option_map read_vector) (sym c.in-Some.is) ∙ c.in_ok-items.ensures.found)
    ∙ vector_through c.args.opener.now (vector_in (pack (seen_fragments c.args.fragments.now)))

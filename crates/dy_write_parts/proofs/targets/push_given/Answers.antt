use Rattle.std.proofs.Common.{option_map}
use Rattle.std.proofs.lemmas.Result.{on_ok_weaker}
use Rattle.dy_tree.specs.Fragments.{seen_fragments}
use Rattle.dy_rules.specs.SeenTypes.{seen_variable}
use Rattle.dy_write_parts.proofs.Endings.{given_step}
use Rattle.dy_write_parts.proofs.targets.push_given.Goals as goal

pub returns : goal.returns
returns c =
    on_ok_weaker c.push_rest_variable.result
    (given_step seen_variable (seen_fragments c.args.out.now.items) (seen_fragments c.push_variables.new.out.items) (seen_fragments c.push_rest_variable.new.out.items) c.is_empty.result c.args.variables.now c.is_empty.ensures c.in_ok-push_variables.ensures (option_map seen_variable c.args.rest.now))
    c.push_rest_variable.ensures

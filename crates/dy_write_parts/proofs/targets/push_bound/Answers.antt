use Rattle.std.proofs.lemmas.Result.{on_ok_weaker}
use Rattle.dy_tree.specs.Fragments.{seen_fragments}
use Rattle.dy_rules.specs.SeenTypes.{seen_variable}
use Rattle.dy_write_parts.proofs.Endings.{bound_step}
use Rattle.dy_write_parts.proofs.targets.push_bound.Goals as goal

pub returns : goal.returns
returns c =
    on_ok_weaker c.push_marked_name.result
    (bound_step seen_variable (seen_fragments c.args.out.now.items) (seen_fragments c.push_variables.new.out.items) (seen_fragments c.push_marked_name.new.out.items) c.is_empty.result c.args.bound.now.variables c.is_empty.ensures c.in_ok-push_variables.ensures c.args.bound.now.rest)
    c.push_marked_name.ensures

use Rattle.std.proofs.Common.{map, ap, ◌∙◌}
use Rattle.dy_lowered.specs.Sameness.{is_same_params}
use Rattle.dy_keys.specs.Keys.{params_of}
use Rattle.dy_lower_lists.proofs.Keyed.{inserted}
use Rattle.dy_lower_lists.proofs.lists.add_params.Goals as goal

pub returns : goal.returns
returns c = ap (map params_of) c.in_ok-insert.ensures.keys ∙ inserted is_same_params params_of c.args.lists.now.keys (record { 0 = c.args.params })

use Rattle.std.proofs.Common.{map, ap, ◌∙◌}
use Rattle.dy_lowered.specs.Sameness.{is_same_results}
use Rattle.dy_keys.specs.Keys.{results_of}
use Rattle.dy_lower_lists.proofs.Keyed.{inserted}
use Rattle.dy_lower_lists.proofs.lists.add_results.Goals as goal

pub returns : goal.returns
returns c = ap (map results_of) c.in_ok-insert.ensures.keys ∙ inserted is_same_results results_of c.args.all.now.keys (record { 0 = c.args.results })

use Rattle.dy_lowered.specs.Sameness.{is_same_results}
use Rattle.dy_keys.specs.Keys.{results_of}
use Rattle.dy_lower_lists.proofs.Keyed.{indexed}
use Rattle.dy_lower_lists.proofs.writing.results_index.Goals as goal

pub returns : goal.returns
returns c = indexed is_same_results results_of c.args.results.now c.args.lists.now.results.keys _ _ c.get_index_of.ensures.index c.in_ok-index.ensures

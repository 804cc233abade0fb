use Rattle.dy_lowered.specs.Sameness.{is_same_params}
use Rattle.dy_keys.specs.Keys.{params_of}
use Rattle.dy_lower_lists.proofs.Keyed.{indexed}
use Rattle.dy_lower_lists.proofs.writing.params_index.Goals as goal

pub returns : goal.returns
returns c = indexed is_same_params params_of c.args.params.now c.args.lists.now.lists.keys _ _ c.get_index_of.ensures.index c.in_ok-index.ensures

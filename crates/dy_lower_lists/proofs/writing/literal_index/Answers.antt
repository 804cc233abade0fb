use Rattle.dy_lowered.specs.Sameness.{is_same_literal}
use Rattle.dy_keys.specs.Keys.{literal_of}
use Rattle.dy_lower_lists.proofs.Keyed.{indexed}
use Rattle.dy_lower_lists.proofs.writing.literal_index.Goals as goal

pub returns : goal.returns
returns c = indexed is_same_literal literal_of _ _ _ _ c.get_index_of.ensures.index c.in_ok-index.ensures

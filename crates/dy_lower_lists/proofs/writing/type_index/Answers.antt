use Rattle.dy_lowered.specs.Sameness.{is_same_type}
use Rattle.dy_keys.specs.Keys.{type_of}
use Rattle.dy_lower_lists.proofs.Keyed.{indexed}
use Rattle.dy_lower_lists.proofs.writing.type_index.Goals as goal

pub returns : goal.returns
returns c = indexed is_same_type type_of c.args.declared.now c.args.lists.now.types.keys _ _ c.get_index_of.ensures.index c.in_ok-index.ensures

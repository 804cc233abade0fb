use Rattle.dy_values.specs.Identity.{is_same_binding}
use Rattle.dy_keys.specs.Keys.{name_of}
use Rattle.dy_lower_lists.proofs.Keyed.{indexed}
use Rattle.dy_lower_lists.proofs.writing.name_index.Goals as goal

pub returns : goal.returns
returns c = indexed is_same_binding name_of c.args.name c.args.lists.now.names.keys _ _ c.get_index_of.ensures.index c.in_ok-index.ensures

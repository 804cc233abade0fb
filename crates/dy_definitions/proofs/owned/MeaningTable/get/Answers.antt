use Rattle.std.proofs.Common.{rules}
use Rattle.dy_definitions.specs.Seen.{meanings_in}
use Rattle.dy_definitions.proofs.owned.MeaningTable.get.Goals as goal

pub returns : goal.returns
unfolding meanings_in
returns c = search rules

use Rattle.std.proofs.Common.{ap}
use Rattle.dy_names.specs.Tables.{entry_at}
use Rattle.dy_definitions.specs.Seen.{meanings_in}
use Rattle.dy_definitions.proofs.owned.MeaningTable.new.Goals as goal

pub returns : goal.returns
unfolding meanings_in
returns c = λ number name. ap (λ es. entry_at es number name) c.new.ensures.empty

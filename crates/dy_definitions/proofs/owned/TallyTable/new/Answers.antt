use Rattle.std.proofs.Common.{ap}
use Rattle.dy_names.specs.Tables.{entry_at}
use Rattle.dy_definitions.specs.Seen.{tally_in}
use Rattle.dy_definitions.proofs.owned.TallyTable.new.Goals as goal

pub returns : goal.returns
unfolding tally_in
returns c = λ number name. ap (λ es. entry_at es number name) c.new.ensures.empty

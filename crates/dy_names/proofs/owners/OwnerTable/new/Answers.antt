use Rattle.std.proofs.Common.{ap}
use Rattle.dy_names.specs.Tables.{owner_in, entry_at}
use Rattle.dy_names.proofs.owners.OwnerTable.new.Goals as goal

pub returns : goal.returns
unfolding owner_in
returns c = λ name. ap (λ es. entry_at es name.module name.text) c.new.ensures.empty

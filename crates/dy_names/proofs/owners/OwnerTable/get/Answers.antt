use Rattle.std.proofs.Common.{rules}
use Rattle.dy_names.specs.Tables.{owner_in}
use Rattle.dy_names.proofs.owners.OwnerTable.get.Goals as goal

pub returns : goal.returns
unfolding owner_in
returns c = search rules

use Rattle.dy_modules.proofs.Least.{names, least_tested_names, owners, least_tested_owners}
use Rattle.dy_modules.proofs.laws.least_set.Goals as goal

pub returns : goal.returns
returns c = record { names = names; least_names = least_tested_names; owners = owners; least_owners = least_tested_owners }

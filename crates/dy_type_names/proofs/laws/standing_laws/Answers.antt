use Rattle.dy_type_names.proofs.Agree.{are_one}
use Rattle.dy_type_names.proofs.laws.standing_laws.Goals as goal

pub returns : goal.returns
returns c = are_one

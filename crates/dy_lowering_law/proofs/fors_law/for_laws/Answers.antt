use Rattle.dy_lowering_law.proofs.fors.Fors.{fors_follow}
use Rattle.dy_lowering_law.proofs.fors_law.for_laws.Goals as goal

pub returns : goal.returns
returns c = record { loops = fors_follow }

use Rattle.dy_build.proofs.Synopsis.{synopsis}
use Rattle.dy_build.proofs.Uniqueness.{outcome_one}
use Rattle.dy_build.proofs.laws.outcome_laws.Goals as goal

pub returns : goal.returns
returns c = record { synopsis = synopsis; one = outcome_one c.library_laws.ensures.one }

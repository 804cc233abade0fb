use Rattle.dy_generics.proofs.Shown.{implicit_holds, split, duplicates_back}
use Rattle.dy_generics.proofs.laws.generic_laws.Goals as goal

pub returns : goal.returns
returns c = record { implicit = implicit_holds; earlier = split; symmetric = duplicates_back }

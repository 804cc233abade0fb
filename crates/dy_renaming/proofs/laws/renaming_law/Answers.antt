use Rattle.dy_renaming.proofs.Alike.{terms_are_alike, lambdas_are_alike}
use Rattle.dy_renaming.proofs.laws.renaming_law.Goals as goal

pub returns : goal.returns
returns c = record {
  terms = terms_are_alike;
  lambdas = lambdas_are_alike;
}

use Rattle.dy_resolution.proofs.Numbering.{numbered_term, numbered_lambda}
use Rattle.dy_resolution.proofs.laws.numbering_law.Goals as goal

pub returns : goal.returns
returns c = record {
  terms = numbered_term;
  lambdas = numbered_lambda;
}

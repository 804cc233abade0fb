use Rattle.dy_scoped_rows.proofs.terms.Scoping.{terms_in_scope, lambdas_in_scope}
use Rattle.dy_scoped_rows.proofs.terms_law.scoped_laws.Goals as goal

pub returns : goal.returns
returns c = record {
  terms = terms_in_scope;
  lambdas = lambdas_in_scope;
}

use Rattle.dy_sameness.proofs.laws.sameness_laws.Goals as goal
use Rattle.dy_sameness.proofs.Sameness.{tells_literal, tells_binding, tells_params, tells_results}

pub returns : goal.returns
returns c = record {
  literal = tells_literal.equal;
  literal_itself = tells_literal.itself;
  name = tells_binding.equal;
  name_itself = tells_binding.itself;
  list = tells_params.equal;
  list_itself = tells_params.itself;
  results = tells_results.equal;
  results_itself = tells_results.itself;
}

use Rattle.dy_lowering_law.proofs.calls.Belonging.{lambdas_belong}
use Rattle.dy_lowering_law.proofs.calls.Entries.{entries_follow}
use Rattle.dy_lowering_law.proofs.calls.Methods.{functions_have, methods_have}
use Rattle.dy_lowering_law.proofs.calls.Standing.{bodies_stand, calls_always_stand}
use Rattle.dy_lowering_law.proofs.calls.Taking as taking
use Rattle.dy_lowering_law.proofs.calls_law.calls_laws.Goals as goal

pub returns : goal.returns
returns c = record {
  entries = entries_follow;
  functions = functions_have;
  methods = methods_have;
  lambdas = lambdas_belong;
  known = λ program n before locals count named stand. taking.known_taken program n before locals count named stand;
  values = λ program n before locals count stand. taking.value_taken program n before locals count stand;
  searches = λ program n before locals count generic stand. taking.search_taken program n before locals count generic stand;
  known_code = taking.known_follows;
  value_code = taking.value_follows;
  search_code = taking.search_follows;
  bodies = bodies_stand;
  units = calls_always_stand;
}

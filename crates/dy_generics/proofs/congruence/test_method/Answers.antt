use Rattle.std.proofs.lemmas.Result.{err_from_is_err_and}
use Rattle.dy_generics.specs.Congruence.{params_tests, results_tests}
use Rattle.dy_generics.proofs.Composed.{go_on, stop}
use Rattle.dy_generics.proofs.congruence.test_method.Goals as goal

pub returns-in_err-test_params : goal.returns-in_err-test_params
returns-in_err-test_params c =
    let p = err_from_is_err_and c.from_residual.result c.from_residual.ensures.1 in
    rw (p.1, p.2)
    (stop c.args.program.now (params_tests c.args.method.now.params c.args.generic.now.params) (results_tests c.args.method.now.results c.args.generic.now.results) _ c.in_err-test_params.ensures)

pub returns : goal.returns
returns c =
    go_on c.args.program.now (params_tests c.args.method.now.params c.args.generic.now.params) (results_tests c.args.method.now.results c.args.generic.now.results) c.test_results.result
    c.in_ok-test_params.ensures c.test_results.ensures

use Rattle.std.proofs.Common.{◌≡◌, ◌≤◌, Some, None, length, arith, rules, tests, sym, subst, Option}
use Rattle.dy_term.specs.declared.types.DyType.{DyType}
use Rattle.std.proofs.lemmas.Result.{err_from_is_err_and}
use Rattle.std.specs.declared.result.Result.TheVariants.{Ok}
use Rattle.dy_generics.specs.Congruence.{enough_results, HasEnough}
use Rattle.dy_generics.proofs.Parts.{enough_fails, results_fail, rest_tells}
use Rattle.dy_generics.proofs.tested.test_results.Goals as goal

pub returns-in_err-test_all : goal.returns-in_err-test_all
returns-in_err-test_all c =
    let p = err_from_is_err_and c.from_residual.result c.from_residual.ensures.1 in
    rw (p.1, p.2) (enough_fails c.args.program.now c.args.own.now c.args.wanted.now _ (c.in_err-test_all.ensures c.args.program.now (enough_results c.args.own.now c.args.wanted.now) c.has_enough.ensures))

pub returns-in_err-test_types : goal.returns-in_err-test_types
returns-in_err-test_types c =
    let p = err_from_is_err_and c.from_residual-in_err-test_types.result c.from_residual-in_err-test_types.ensures.1 in
    rw (p.1, p.2)
    (results_fail c.args.program.now c.args.own.now c.args.wanted.now c.as_slice-types.result.now c.as_slice.result.now _ c.as_slice-types.ensures c.as_slice.ensures
    (c.in_ok-test_all.ensures c.args.program.now (enough_results c.args.own.now c.args.wanted.now) c.has_enough.ensures) c.in_err-test_types.ensures)

pub returns-in-Some : goal.returns-in-Some
returns-in-Some c =
    rest_tells c.args.program.now c.args.own.now c.args.wanted.now c.as_slice-types.result.now c.as_slice.result.now (Some c.in-Some.upper) c.test_further.result c.as_slice-types.ensures c.as_slice.ensures c.in-Some.is
    (c.in_ok-test_all.ensures c.args.program.now (enough_results c.args.own.now c.args.wanted.now) c.has_enough.ensures) c.in_ok-test_types.ensures (rw c.len.ensures at c.test_further.ensures)

pub returns-in-None : goal.returns-in-None
returns-in-None c =
    rest_tells c.args.program.now c.args.own.now c.args.wanted.now c.as_slice-types.result.now c.as_slice.result.now None (Ok tt) c.as_slice-types.ensures c.as_slice.ensures c.in-None.is
    (c.in_ok-test_all.ensures c.args.program.now (enough_results c.args.own.now c.args.wanted.now) c.has_enough.ensures) c.in_ok-test_types.ensures tt

pub test_further-requires : goal.test_further-requires
test_further-requires c =
    let own = c.args.own.now in
    let wanted = c.args.wanted.now in
    let holds = c.in_ok-test_all.ensures c.args.program.now (enough_results own wanted) c.has_enough.ensures in
    let enough : length wanted.required ≤ length own.required = subst (λ (v : Option DyType). HasEnough own wanted v) c.in-Some.is holds.0 in
    omega (arith, enough, c.len.ensures)

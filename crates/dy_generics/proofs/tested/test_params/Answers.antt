use Rattle.std.proofs.Common.{length, rules, tests}
use Rattle.std.proofs.lemmas.Result.{err_from_is_err_and}
use Rattle.dy_generics.specs.Congruence.{same_number, same_kinds}
use Rattle.dy_generics.proofs.Parts.{count_fails, types_fail, kind_fails, keys_tell}
use Rattle.dy_generics.proofs.tested.test_params.Goals as goal

pub returns-in_err-test_all : goal.returns-in_err-test_all
returns-in_err-test_all c =
    let own = c.args.own.now in
    let wanted = c.args.wanted.now in
    let p = err_from_is_err_and c.from_residual.result c.from_residual.ensures.1 in
    rw (p.1, p.2)
    (count_fails c.args.program.now own wanted _ (c.in_err-test_all.ensures c.args.program.now (same_number (length own.required) (length wanted.required)) (search (rules, tests))))

pub returns-in_err-test_types : goal.returns-in_err-test_types
returns-in_err-test_types c =
    let own = c.args.own.now in
    let wanted = c.args.wanted.now in
    let p = err_from_is_err_and c.from_residual-in_err-test_types.result c.from_residual-in_err-test_types.ensures.1 in
    rw (p.1, p.2)
    (types_fail c.args.program.now own wanted c.as_slice-types.result.now c.as_slice.result.now _ c.as_slice-types.ensures c.as_slice.ensures
    (c.in_ok-test_all.ensures c.args.program.now (same_number (length own.required) (length wanted.required)) (search (rules, tests))) c.in_err-test_types.ensures)

pub returns-in_err-test_all-2 : goal.returns-in_err-test_all-2
returns-in_err-test_all-2 c =
    let own = c.args.own.now in
    let wanted = c.args.wanted.now in
    let p = err_from_is_err_and c.from_residual-in_err-test_all-2.result c.from_residual-in_err-test_all-2.ensures.1 in
    rw (p.1, p.2)
    (kind_fails c.args.program.now own wanted c.as_slice-types.result.now c.as_slice.result.now _ c.as_slice-types.ensures c.as_slice.ensures
    (c.in_ok-test_all.ensures c.args.program.now (same_number (length own.required) (length wanted.required)) (search (rules, tests))) c.in_ok-test_types.ensures
    (c.in_err-test_all-2.ensures c.args.program.now (same_kinds own wanted) (search (rules, tests))))

pub returns : goal.returns
returns c =
    let own = c.args.own.now in
    let wanted = c.args.wanted.now in
    keys_tell c.args.program.now own wanted c.as_slice-types.result.now c.as_slice.result.now c.keywords_of.result.now _ c.as_slice-types.ensures c.as_slice.ensures c.keywords_of.ensures
    (c.in_ok-test_all.ensures c.args.program.now (same_number (length own.required) (length wanted.required)) (search (rules, tests))) c.in_ok-test_types.ensures
    (c.in_ok-test_all-2.ensures c.args.program.now (same_kinds own wanted) (search (rules, tests))) (c.test_keywords.ensures c.args.program.now)

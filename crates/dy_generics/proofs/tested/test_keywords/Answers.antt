use Rattle.std.proofs.Common.{rules, tests}
use Rattle.std.specs.declared.result.Result.TheVariants.{Ok, Err}
use Rattle.dy_generics.specs.Congruence.{takes_keyword}
use Rattle.dy_generics.proofs.Turns.{key_passes, key_stops}
use Rattle.dy_generics.proofs.tested.test_keywords.Goals as goal

pub returns-then-not-takes_keyword : goal.returns-then-not-takes_keyword
returns-then-not-takes_keyword c = λ program.
    let a = c.index-keywords-place in
    c.loop-place.invariant program (Err c.misfit_at.result)
    (key_stops program c.args.own.now c.loop-place.place c.args.keywords.now a.result c.loop-place-test.true a.is c.misfit_at.result (search (rules, tests)) (c.misfit_at.ensures (takes_keyword c.args.own.now a.result)))

pub loop-place-preserved : goal.loop-place-preserved
loop-place-preserved c = λ program r t.
    let a = c.index-keywords-place in
    c.loop-place.invariant program r
    (key_passes program c.args.own.now c.loop-place.place c.args.keywords.now a.result c.loop-place-test.true a.is r (search (rules, tests)) t)

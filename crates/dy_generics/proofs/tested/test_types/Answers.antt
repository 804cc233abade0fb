use Rattle.std.proofs.Common.{inl, inr, length, arith, rules, tests, add-one}
use Rattle.std.specs.declared.result.Result.TheVariants.{Ok, Err}
use Rattle.dy_generics.specs.Congruence.{is_subtype}
use Rattle.dy_generics.proofs.Turns.{either_ends, typed_passes, typed_stops, typed_ends}
use Rattle.dy_generics.proofs.tested.test_types.Goals as goal

pub returns-then-not-subtype : goal.returns-then-not-subtype
returns-then-not-subtype c =
    let a = c.index-types-place in
    let b = c.index-wanted-place in
    c.loop-place.invariant (Err c.misfit_at.result)
    (typed_stops c.args.program.now c.args.reason c.loop-place.place c.args.types.now c.args.wanted.now a.result b.result (omega arith) (omega arith) a.is b.is c.misfit_at.result (search (rules, tests))
    (c.misfit_at.ensures (is_subtype a.result b.result)))

pub loop-place-preserved : goal.loop-place-preserved
loop-place-preserved c = λ r t.
    let a = c.index-types-place in
    let b = c.index-wanted-place in
    c.loop-place.invariant r
    (typed_passes c.args.program.now c.args.reason c.loop-place.place c.args.types.now c.args.wanted.now a.result b.result (omega arith) (omega arith) a.is b.is r (search (rules, tests)) t)

pub returns : goal.returns
returns c =
    let types = c.args.types.now in
    let wanted = c.args.wanted.now in
    c.loop-place.invariant (Ok tt)
    (typed_ends c.args.program.now c.args.reason c.loop-place.place types wanted (either_ends (length types) (length wanted) c.loop-place.place (omega arith)))

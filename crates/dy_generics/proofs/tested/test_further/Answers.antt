use Rattle.std.proofs.Common.{List, ◌≡◌, ◌≤◌, ◌++◌, drop, length, arith, rules, tests, subst, sym}
use Rattle.std.specs.declared.result.Result.TheVariants.{Ok, Err}
use Rattle.dy_term.specs.declared.types.DyType.{DyType}
use Rattle.dy_generics.specs.Congruence.{is_subtype, option_list, Tested, typed_by}
use Rattle.dy_generics.proofs.Turns.{by_passes, by_stops, by_ends}
use Rattle.dy_generics.proofs.tested.test_further.Goals as goal

pub loop-place-init : goal.loop-place-init
loop-place-init c = λ r t.
    subst (λ (v : List DyType). Tested c.args.program.now (typed_by c.args.upper.now c.args.from (drop c.args.from v ++ option_list c.args.own.now.rest)) r) c.as_slice-types.ensures t

pub returns-then-not-subtype : goal.returns-then-not-subtype
returns-then-not-subtype c =
    let a = c.index-types-place in
    c.loop-place.invariant (Err c.misfit_at.result)
    (by_stops c.args.program.now c.args.upper.now c.loop-place.place c.as_slice-types.result.now (option_list c.args.own.now.rest) a.result (omega arith) a.is c.misfit_at.result (search (rules, tests))
    (c.misfit_at.ensures (is_subtype a.result c.args.upper.now)))

pub loop-place-preserved : goal.loop-place-preserved
loop-place-preserved c = λ r t.
    let a = c.index-types-place in
    c.loop-place.invariant r
    (by_passes c.args.program.now c.args.upper.now c.loop-place.place c.as_slice-types.result.now (option_list c.args.own.now.rest) a.result (omega arith) a.is r (search (rules, tests)) t)

pub returns : goal.returns
returns c =
    let types = c.as_slice-types.result.now in
    let long : c.args.from ≤ length types = subst (λ (v : List DyType). c.args.from ≤ length v) (sym c.as_slice-types.ensures) c.requires in
    c.loop-place.invariant _
    (by_ends c.args.program.now c.args.upper.now c.loop-place.place _ types (option_list c.args.own.now.rest) _ (omega (arith, long)) (omega (arith, long)) c.test_rest.ensures)

use Rattle.std.proofs.Common.{◌≡◌, ◌+◌, ◌<◌, ◌↔◌, sym, subst, arith}
use Rattle.dy_modules.specs.Clauses.{IsIn}
use Rattle.dy_modules.proofs.Turns.{counted}
use Rattle.dy_modules.proofs.rounds.numbers.Goals as goal

pub loop-i-preserved : goal.loop-i-preserved
loop-i-preserved c = λ m. subst (λ xs. IsIn m xs ↔ (m < c.loop-i.i + 1)) (sym c.in_ok-push.ensures.items) (counted c.loop-i.v.items c.loop-i.i c.loop-i.invariant m)

pub returns : goal.returns
returns c = λ m.
    let all : c.loop-i.i ≡ c.args.count = omega (arith, c.loop-i.auto.i-end, c.loop-i-test.false) in
    subst (λ n. IsIn m c.loop-i.v.items ↔ (m < n)) all (c.loop-i.invariant m)

use Rattle.std.proofs.Common.{ℕ, subst, add-one, arith}
use Rattle.dy_order.specs.Precedence.{Precedes}
use Rattle.dy_order.specs.Places.{IsBest}
use Rattle.dy_order.proofs.Order.{asymmetric}
use Rattle.dy_order.proofs.Steps.{best_starts, best_step}
use Rattle.dy_order.proofs.sorting.best_place.Goals as goal

pub loop-place-init : goal.loop-place-init
loop-place-init c =
    best_starts (Precedes c.args.program.now c.args.args.now) (asymmetric c.args.program.now c.args.args.now) c.args.methods.now c.requires.once

pub loop-place-preserved : goal.loop-place-preserved
loop-place-preserved c =
    rw add-one
    (best_step (Precedes c.args.program.now c.args.args.now) (asymmetric c.args.program.now c.args.args.now) c.args.methods.now c.requires.once c.loop-place.best c.loop-place.place c.better_place-best.result
    c.loop-place-test.true c.loop-place.invariant c.better_place-best.ensures)

pub returns : goal.returns
returns c =
    subst (λ (n : ℕ). IsBest (Precedes c.args.program.now c.args.args.now) c.args.methods.now n c.loop-place.best) (omega (arith, c.requires.some, c.loop-place-test.false, c.loop-place.auto.place-end)) c.loop-place.invariant

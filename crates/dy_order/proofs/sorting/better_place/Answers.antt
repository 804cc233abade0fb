use Rattle.std.proofs.Common.{inl, inr, refl}
use Rattle.dy_order.specs.Precedence.{Precedes}
use Rattle.dy_order.proofs.Steps.{better_same, better_other}
use Rattle.dy_order.proofs.sorting.better_place.Goals as goal

pub returns-then-precedes : goal.returns-then-precedes
returns-then-precedes c = λ d. inl
    (refl, better_same (Precedes c.args.program.now c.args.args.now) c.args.methods.now c.args.best c.args.place c.requires.best c.requires.place _ _ c.precedes.result c.precedes.ensures c.if-precedes.true d)

pub returns-else-precedes : goal.returns-else-precedes
returns-else-precedes c = λ d. inr
    (refl, better_other (Precedes c.args.program.now c.args.args.now) c.args.methods.now c.args.best c.args.place c.requires.best c.requires.place _ _ c.precedes.result c.precedes.ensures c.if-precedes.false d)

use Rattle.std.proofs.Common.{refl}
use Rattle.dy_order.specs.Precedence.{Precedes}
use Rattle.dy_order.proofs.Order.{asymmetric}
use Rattle.dy_order.proofs.Steps.{first_found, none_found}
use Rattle.dy_order.proofs.sorting.first_place.Goals as goal

pub returns-then-precedes_all : goal.returns-then-precedes_all
returns-then-precedes_all c =
    first_found (Precedes c.args.program.now c.args.args.now) (asymmetric c.args.program.now c.args.args.now) c.args.methods.now c.requires c.best_place-best.result _ _ c.precedes_all.result c.best_place-best.ensures refl
    c.precedes_all.ensures c.if-precedes_all.true

pub returns-else-precedes_all : goal.returns-else-precedes_all
returns-else-precedes_all c =
    none_found (Precedes c.args.program.now c.args.args.now) (asymmetric c.args.program.now c.args.args.now) c.args.methods.now c.requires c.best_place-best.result _ _ c.precedes_all.result c.best_place-best.ensures refl
    c.precedes_all.ensures c.if-precedes_all.false

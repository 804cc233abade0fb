use Rattle.dy_classes.proofs.Laws.{one_order, monotone}
use Rattle.dy_classes.proofs.order.order_laws.Goals as goal

pub returns : goal.returns
returns c = record { one = one_order; kept = monotone }

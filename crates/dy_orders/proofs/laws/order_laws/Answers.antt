use Rattle.dy_orders.proofs.Ordering.{words_are_admissible, orders_are_alike, none_is_refused}
use Rattle.dy_orders.proofs.laws.order_laws.Goals as goal

pub returns : goal.returns
returns c = record {
  words = words_are_admissible;
  alike = orders_are_alike;
  none_refused = none_is_refused;
}

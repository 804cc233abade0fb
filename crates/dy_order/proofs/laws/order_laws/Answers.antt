use Rattle.dy_order.specs.Precedence.{IsApplicable, Precedes}
use Rattle.dy_order.proofs.Answered.{one, whole, once, in_order, none, others}
use Rattle.dy_order.proofs.Order.{asymmetric, earlier}
use Rattle.dy_order.proofs.Sorts.{one_taken}
use Rattle.dy_order.proofs.laws.order_laws.Goals as goal

pub returns : goal.returns
returns c =
    record {
      asymmetric = asymmetric;
      earlier = earlier;
      one = one;
      any_order = λ program args ms ns first rest others left same s t. one_taken (Precedes program args) (asymmetric program args) same s t;
      whole = whole;
      once = once;
      in_order = in_order;
      none = none;
      others = λ program generic args. others (IsApplicable program generic args) (Precedes program args);
    }

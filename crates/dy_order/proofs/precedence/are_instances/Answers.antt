use Rattle.std.proofs.Common.{arith}
use Rattle.dy_order.proofs.precedence.are_instances.Goals as goal

pub returns-then-args-types : goal.returns-then-args-types
returns-then-args-types c = (λ t. (omega (arith, c.if-args-types.true), c.all_instances.ensures.0 t), λ h. c.all_instances.ensures.1 h.1)

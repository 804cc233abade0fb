use Rattle.std.proofs.Common.{sym, ◌∙◌}
use Rattle.dy_base.proofs.Orders.{held}
use Rattle.dy_base.proofs.class_order.ClassOrder.holds.Goals as goal

pub returns : goal.returns
returns c =
    let by = held c.args.self.now c.args.class c.place_of.result (sym c.place_of.ensures) in
    (λ is. by.0 (sym c.is_some.ensures ∙ is), λ there. c.is_some.ensures ∙ by.1 there)

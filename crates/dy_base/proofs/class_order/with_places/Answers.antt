use Rattle.std.proofs.Common.{◌+◌, ◌++◌, drop, sym, ap, ◌∙◌}
use Rattle.dy_base.specs.Orders.{placed}
use Rattle.dy_base.proofs.Orders.{placed_more, placed_all}
use Rattle.dy_base.proofs.class_order.with_places.Goals as goal

pub loop-place-preserved : goal.loop-place-preserved
loop-place-preserved c =
    let classes = c.args.classes.now in
    let place = c.loop-place.place in
    ap (λ l. l ++ placed (place + 1) (drop (place + 1) classes)) c.in_ok-push.ensures.items
    ∙ placed_more c.loop-place.pairs.items classes place _ c.loop-place-test.true
    ∙ c.loop-place.invariant

pub returns : goal.returns
returns c = sym (placed_all c.loop-place.pairs.items c.args.classes.now c.loop-place.place c.loop-place-test.false) ∙ c.loop-place.invariant

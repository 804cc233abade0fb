use Rattle.std.proofs.Common.{◌<◌, length, arith}
use Rattle.dy_rules.specs.SeenTypes.{seen_required}
use Rattle.dy_construct_parts.specs.Parts.{in_required}
use Rattle.dy_construct_parts.proofs.Firsts.{seen_step}
use Rattle.dy_construct_parts.proofs.bindings.in_each_required.Goals as goal

pub loop-one-preserved : goal.loop-one-preserved
loop-one-preserved c =
    let items = c.deref-one-items.result.now in
    let lt : c.loop-one.one-index < length items = omega arith in
    seen_step in_required seen_required items c.loop-one.one-index c.one-item.result lt c.one-item.is _ _ _ c.loop-one.invariant c.in_required.ensures c.or-found.ensures

use Rattle.std.proofs.Common.{◌<◌, length, arith}
use Rattle.dy_rules.specs.SeenTypes.{seen_variable}
use Rattle.dy_construct_parts.specs.Parts.{in_variable}
use Rattle.dy_construct_parts.proofs.Firsts.{seen_step}
use Rattle.dy_construct_parts.proofs.bindings.in_variables.Goals as goal

pub loop-variable-preserved : goal.loop-variable-preserved
loop-variable-preserved c =
    let items = c.deref-variable-items.result.now in
    let lt : c.loop-variable.variable-index < length items = omega arith in
    seen_step (in_variable c.args.typed) seen_variable items c.loop-variable.variable-index c.variable-item.result lt c.variable-item.is _ _ _ c.loop-variable.invariant c.in_variable.ensures c.or-found.ensures

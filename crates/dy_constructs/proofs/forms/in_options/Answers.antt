use Rattle.std.proofs.Common.{◌<◌, length, arith}
use Rattle.dy_rules.specs.SeenForms.{seen_option}
use Rattle.dy_constructs.specs.Forms.{in_option}
use Rattle.dy_construct_parts.proofs.Firsts.{seen_step}
use Rattle.dy_constructs.proofs.forms.in_options.Goals as goal

pub loop-option-preserved : goal.loop-option-preserved
loop-option-preserved c =
    let items = c.deref-option-items.result.now in
    let lt : c.loop-option.option-index < length items = omega arith in
    seen_step in_option seen_option items c.loop-option.option-index c.option-item.result lt c.option-item.is _ _ _ c.loop-option.invariant c.in_option.ensures c.or-found.ensures

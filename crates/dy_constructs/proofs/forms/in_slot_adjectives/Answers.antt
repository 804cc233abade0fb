use Rattle.std.proofs.Common.{◌<◌, length, arith}
use Rattle.dy_construct_parts.specs.Words.{slot_adjective}
use Rattle.dy_construct_parts.proofs.Firsts.{single_step}
use Rattle.dy_constructs.proofs.forms.in_slot_adjectives.Goals as goal

pub loop-word-preserved : goal.loop-word-preserved
loop-word-preserved c =
    let items = c.deref-word-items.result.now in
    let lt : c.loop-word.word-index < length items = omega arith in
    single_step slot_adjective items c.loop-word.word-index c.word-item.result lt c.word-item.is _ _ _ c.loop-word.invariant c.slot_adjective.ensures c.or-found.ensures

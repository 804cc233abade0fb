use Rattle.std.proofs.Common.{◌<◌, ◌∷◌, [], length, arith}
use Rattle.dy_tree.specs.Fragments.{seen_fragments}
use Rattle.dy_rules.specs.Marks.{comma_mark}
use Rattle.dy_rules.specs.FormWriting.{written_option, written_options}
use Rattle.dy_rules.specs.SeenForms.{seen_option}
use Rattle.dy_write_parts.proofs.Separated.{two_parts, flat_step}
use Rattle.dy_write_parts.proofs.Lists.{options_flat}
use Rattle.dy_writer.proofs.write.slots.push_options.Goals as goal

pub loop-option-preserved : goal.loop-option-preserved
loop-option-preserved c =
    let lt : c.loop-option.option-index < length c.deref-option-items.result.now = omega arith in
    flat_step (λ option. comma_mark ∷ written_option option) written_options options_flat seen_option (seen_fragments c.args.out.now.items) (seen_fragments c.loop-option.out.items) (seen_fragments c.push_option.new.out.items) c.deref-option-items.result.now
    c.loop-option.option-index c.option-item.result lt c.option-item.is c.loop-option.invariant
    (two_parts (seen_fragments c.loop-option.out.items) _ _ (comma_mark ∷ []) (written_option (seen_option c.option-item.result)) c.in_ok-push_mark.ensures c.in_ok-push_option.ensures)

use Rattle.std.proofs.Common.{◌+◌, negsuc, ◌++◌, ap, ◌∙◌}
use Rattle.dy_lowered.specs.Flat.{Code}
use Rattle.dy_lowered.specs.Turns.{number, addition, multiplication, comparison, its_step, its_number, greatest_number}
use Rattle.dy_lower_parts.specs.Seen.{seen_code}
use Rattle.dy_lower_turns.specs.Pieces.{with_second}
use Rattle.dy_lower_turns.proofs.Turned.{opposed_made}
use Rattle.dy_lower_turns.proofs.overflows.put_too_high.Goals as goal

pub returns : goal.returns
returns c =
    let above = c.args.above in
    opposed_made _ _ _ _ (its_step above) (with_second multiplication (number (negsuc 0))) (with_second addition (number greatest_number)) (with_second comparison (its_number (above + 1)))
    (c.in_ok-put_second.ensures ∙ ap (λ (k : Code). with_second comparison k ++ seen_code c.args.code.now) (c.in_ok-number.ensures ∙ ap its_number c.in_ok-plus.ensures))
    c.in_ok-put_from_opposite.ensures
    (c.in_ok-put_source.ensures ∙ ap (λ (k : Code). k ++ seen_code c.put_from_opposite.new.code) c.in_ok-step.ensures)

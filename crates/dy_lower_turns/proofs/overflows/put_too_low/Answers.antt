use Rattle.std.proofs.Common.{◌+◌, pos, negsuc, ◌++◌, ap, ◌∙◌}
use Rattle.dy_lowered.specs.Flat.{Code}
use Rattle.dy_lowered.specs.Turns.{number, on_both, addition, multiplication, comparison, its_step, its_number, least_number}
use Rattle.dy_lower_parts.specs.Seen.{seen_code}
use Rattle.dy_lower_turns.specs.Pieces.{with_second, denied}
use Rattle.dy_lower_turns.proofs.Turned.{denied_made}
use Rattle.dy_lower_turns.proofs.overflows.put_too_low.Goals as goal

pub returns : goal.returns
returns c =
    let above = c.args.above in
    denied_made _ _ _ _ _ (on_both addition (its_step above) (number (pos 1))) (with_second multiplication (number (negsuc 0))) (with_second addition (number least_number))
    (with_second comparison (its_number (above + 1))) denied
    c.in_ok-put_denied.ensures
    (c.in_ok-put_second.ensures ∙ ap (λ (k : Code). with_second comparison k ++ seen_code c.put_denied.new.code) (c.in_ok-number.ensures ∙ ap its_number c.in_ok-plus.ensures))
    c.in_ok-put_from_opposite.ensures
    (c.in_ok-put_on_both.ensures ∙ ap (λ (k : Code). on_both addition k (number (pos 1)) ++ seen_code c.put_from_opposite.new.code) c.in_ok-step.ensures)

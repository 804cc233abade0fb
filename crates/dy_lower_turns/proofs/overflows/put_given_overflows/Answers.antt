use Rattle.std.proofs.Common.{◌+◌, pos, sym}
use Rattle.dy_lowered.specs.Turns.{number, less, on_both, addition, against, negated, its_step, its_number, least_number, greatest_number}
use Rattle.dy_lower_parts.proofs.Made.{choice_made}
use Rattle.dy_lower_turns.proofs.overflows.put_given_overflows.Goals as goal

pub returns : goal.returns
returns c = λ given.
    let above = c.args.above in
    choice_made _ _ _ _ _ _ (less (its_step above) (number (pos 0)))
    (negated (less (against (on_both addition (its_step above) (number (pos 1))) least_number) (its_number (above + 1))))
    (less (against (its_step above) greatest_number) (its_number (above + 1)))
    _ 0 _ (sym c.len-base.ensures) c.in_ok-put_too_high.ensures c.len-other.ensures c.in_ok-put_jump.ensures
    c.in_ok-put_too_low.ensures c.in_ok-put_test.ensures c.in_ok-put_downward.ensures

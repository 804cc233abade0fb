use Rattle.std.proofs.Common.{pos, sym}
use Rattle.dy_lowered.specs.Turns.{number, less, its_step, lower_bound, upper_bound}
use Rattle.dy_lower_parts.proofs.Made.{choice_made}
use Rattle.dy_lower_turns.proofs.bounds.put_past_bound.Goals as goal

pub returns : goal.returns
returns c =
    let above = c.args.above in
    choice_made _ _ _ _ _ _ (less (its_step above) (number (pos 0))) (upper_bound above) (lower_bound above) _ 0 _ (sym c.len-base.ensures) c.in_ok-put_lower_bound.ensures c.len-other.ensures c.in_ok-put_jump.ensures
    c.in_ok-put_upper_bound.ensures c.in_ok-put_test.ensures c.in_ok-put_downward.ensures

use Rattle.dy_lowered.specs.Terms.{known_or}
use Rattle.dy_lowered.specs.Turns.{overflows, counted_on}
use Rattle.dy_lower_turns.proofs.Turned.{counting_on_made}
use Rattle.dy_lower_turns.proofs.overflows.put_counting_on.Goals as goal

pub returns : goal.returns
returns c = λ place start given limit far long.
    counting_on_made _ _ _ _ _ _ (counted_on c.args.above) (overflows (known_or c.args.step given) c.args.above) c.args.before c.args.exit far long
    c.in_ok-put_counted_on.ensures c.in_ok-put_jump.ensures c.in_ok-put.ensures c.in_ok-put-2.ensures (c.in_ok-put_overflows.ensures given)

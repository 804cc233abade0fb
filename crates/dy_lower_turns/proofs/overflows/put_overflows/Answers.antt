use Rattle.std.proofs.Common.{Option, ℤ, ◌++◌, sym, ap, ◌∙◌}
use Rattle.dy_lowered.specs.Terms.{known_or}
use Rattle.dy_lowered.specs.Turns.{overflows}
use Rattle.dy_lower_parts.specs.Seen.{seen_code}
use Rattle.dy_lower_turns.proofs.overflows.put_overflows.Goals as goal

pub returns-in_ok-put_given_overflows-in-None : goal.returns-in_ok-put_given_overflows-in-None
returns-in_ok-put_given_overflows-in-None c = λ given.
    c.in_ok-put_given_overflows-in-None.ensures given
    ∙ ap (λ (step : Option ℤ). overflows (known_or step given) c.args.above ++ seen_code c.args.code.now) (sym c.in-None.is)

use Rattle.std.proofs.Common.{ℤ, ◌++◌, sym, ap, ◌∙◌}
use Rattle.std.specs.declared.option.Option.{Option}
use Rattle.dy_lowered.specs.Terms.{known_or}
use Rattle.dy_lowered.specs.Turns.{bound_above}
use Rattle.dy_lower_parts.specs.Seen.{seen_code}
use Rattle.dy_lower_turns.proofs.counters.put_bound_above.Goals as goal

pub returns-in_ok-put_given_above-in-None : goal.returns-in_ok-put_given_above-in-None
returns-in_ok-put_given_above-in-None c = λ given.
    c.in_ok-put_given_above-in-None.ensures given
    ∙ ap (λ (b : Option ℤ). bound_above (known_or b given) c.args.place ++ seen_code c.args.code.now) (sym c.in-None.is)

use Rattle.std.proofs.Common.{◌≡◌, ℤ, ◌++◌, ◌-◌, length, sym, ap, ◌∙◌, arith, rules, w64}
use Rattle.std.proofs.lemmas.Int.{to_z-of_z}
use mir.Val.{SFits, to_z, of_z}
use Rattle.dy_lowered.specs.Turns.{up_to}
use Rattle.dy_lower_parts.specs.Seen.{seen_code}
use Rattle.dy_lower_turns.specs.Ways.{seen_counting}
use Rattle.dy_lower_turns.specs.declared.counting.Counting.{Counting}
use Rattle.dy_lower_turns.proofs.counters.put_testing.Goals as goal

pub returns-in_ok-put_up_to_test-in-UpTo : goal.returns-in_ok-put_up_to_test-in-UpTo
returns-in_ok-put_up_to_test-in-UpTo c = λ start given.
    let fits : SFits w64 c.in-UpTo.bound = search rules in
    let same : to_z w64 (of_z w64 c.in-UpTo.bound) ≡ c.in-UpTo.bound = grind (arith, to_z-of_z) in
    c.in_ok-put_up_to_test-in-UpTo.ensures start
    ∙ ap (λ (bound : ℤ). (up_to start bound).testing c.args.place (length (seen_code c.args.code.now) - c.args.exit) ++ seen_code c.args.code.now) same
    ∙ ap (λ (way : Counting). (seen_counting way start given).testing c.args.place (length (seen_code c.args.code.now) - c.args.exit) ++ seen_code c.args.code.now) (sym c.in-UpTo.is)

pub returns-in_ok-put_meeting_test-in-Meeting : goal.returns-in_ok-put_meeting_test-in-Meeting
returns-in_ok-put_meeting_test-in-Meeting c = λ start given.
    c.in_ok-put_meeting_test-in-Meeting.ensures start given
    ∙ ap (λ (way : Counting). (seen_counting way start given).testing c.args.place (length (seen_code c.args.code.now) - c.args.exit) ++ seen_code c.args.code.now) (sym c.in-Meeting.is)

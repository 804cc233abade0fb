use Rattle.std.proofs.Common.{◌∷◌, ◌++◌, sym, ap, ◌∙◌}
use Rattle.dy_code.specs.Fetching as instr
use Rattle.dy_lowered.specs.Flat.{Code, Plain, one}
use Rattle.dy_lowered.specs.Turns.{again, comparison}
use Rattle.dy_lower_parts.proofs.Made.{choice_made}
use Rattle.dy_lower_turns.proofs.counters.put_raised.Goals as goal

-- what follows where the bound is not lower, and what comes where it is
abbrev stays : Code
stays = Plain (instr.Values 1) ∷ one instr.Restore

abbrev rises : Code
rises = Plain (instr.Values 2) ∷ Plain instr.Restore ∷ one instr.Push

pub returns : goal.returns
returns c =
    let other = c.in_ok-put-2.ensures ∙ ap (λ (k : Code). Plain (instr.Values 1) ∷ k) c.in_ok-put.ensures in
    let guarded = c.in_ok-put-5.ensures ∙ ap (λ (k : Code). Plain (instr.Values 2) ∷ k) (c.in_ok-put-4.ensures ∙ ap (λ (k : Code). Plain instr.Restore ∷ k) c.in_ok-put-3.ensures) in
    c.in_ok-put-7.ensures ∙ ap (λ (k : Code). Plain instr.Save ∷ k) (c.in_ok-put-6.ensures ∙ ap (λ (k : Code). Plain instr.Push ∷ k)
    (choice_made _ _ _ _ _ _ (again 2 ++ one (instr.Op comparison 2)) rises stays _ 0 _ (sym c.len-base.ensures) other c.len-other.ensures c.in_ok-put_jump.ensures guarded c.in_ok-put_test.ensures c.in_ok-put_is_lower.ensures))

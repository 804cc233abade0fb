use Rattle.std.proofs.Common.{◌≡◌, ◌++◌, ◌∷◌, [], sym, ap, ◌∙◌}
use Rattle.dy_lower_library.proofs.Bodied.{numbers_more}
use Rattle.dy_lower_library.proofs.starts.starts_of.Goals as goal

pub loop-number-preserved : goal.loop-number-preserved
loop-number-preserved c =
    c.in_ok-push.ensures.items ∙ (λ i. c.loop-number.invariant i ++ c.in_ok-written.ensures i ∷ [])
    ∙ sym (numbers_more c.loop-number.number)

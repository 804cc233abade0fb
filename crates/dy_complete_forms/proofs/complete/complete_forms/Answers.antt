use Rattle.std.proofs.Common.{take, subst, arith}
use Rattle.dy_complete_forms.specs.Forms.{IsFront}
use Rattle.dy_complete_forms.proofs.Verdicts.{fewer}
use Rattle.dy_complete_forms.proofs.complete.complete_forms.Goals as goal

pub loop-forms-preserved : goal.loop-forms-preserved
loop-forms-preserved c =
    let s = c.loop-forms in
    let (less, ended, most) = fewer c.args.words.now c.as_slice-tokens.result.now s.end c.in-Faulty.earlier s.invariant.within s.invariant.most (subst (IsFront c.args.words.now (take s.end c.as_slice-tokens.result.now)) c.in-Faulty.is c.in_ok-forms.ensures) in
    record { within = omega (arith, less, s.invariant.within); ended = ended; most = most }

use Rattle.std.proofs.Common.{inl, refl}
use Rattle.dy_build.proofs.Halts.{put_any_front}
use Rattle.dy_build.proofs.command.report_fault.Goals as goal

pub returns-in-Ok-clause-line : goal.returns-in-Ok-clause-line
returns-in-Ok-clause-line g c =
    let sent = rw (c.deref.ensures.value, c.in-Ok.ensures) at c.put.ensures.sent in
    let front = rw (c.deref.ensures.value, c.in-Ok.ensures) at c.put.ensures.front in
    inl (refl, put_any_front c.put.result _ _ _ sent front)

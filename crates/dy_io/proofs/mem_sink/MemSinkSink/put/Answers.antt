use Rattle.std.proofs.Common.{refl}
use Rattle.dy_io.proofs.mem_sink.MemSinkSink.put.Goals as goal

-- the call that was counted is the one that the clause speaks of
pub returns-then-next_fails-clause-fails : goal.returns-then-next_fails-clause-fails
returns-then-next_fails-clause-fails c =
    (λ _. rw (← c.self.view_is) (c.next_fails.ensures.fails.0 c.if-next_fails.true), λ _. refl)

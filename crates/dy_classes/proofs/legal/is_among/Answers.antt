use Rattle.std.proofs.Common.{sym, ◌∙◌}
use Rattle.dy_classes.proofs.Getters.{has_here, has_later}
use Rattle.dy_classes.proofs.legal.is_among.Goals as goal

pub returns-then-eq : goal.returns-then-eq
returns-then-eq c =
    sym (c.loop-other.invariant ∙ has_here c.args.getter c.args.getters.now c.loop-other.other-index _ c.loop-other-test.true (sym c.eq.ensures ∙ c.if-eq.true))

pub loop-other-preserved : goal.loop-other-preserved
loop-other-preserved c =
    c.loop-other.invariant ∙ has_later c.args.getter c.args.getters.now c.loop-other.other-index _ c.loop-other-test.true (sym c.eq.ensures ∙ c.if-eq.false)
